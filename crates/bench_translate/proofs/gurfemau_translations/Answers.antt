-- `bench_translate::gurfemau_translations` meets its contract: the sum to come, over the messages that are left, is the whole sum.
use Rattle.std.proofs.Common.{ap, ◌∙◌, sym, arith, drop_of_length-le}
use Rattle.bench_translate.specs.Runs.{added_answer, answer_code, translations_sum}
use Rattle.bench_translate.proofs.Left.{translations-left}
use Rattle.bench_translate.proofs.gurfemau_translations.Goals as goal

pub loop-word-preserved : goal.loop-word-preserved
loop-word-preserved c =
    let at = c.loop-word in
    let called = c.translate_words-translated.ensures in
    let added = ap (added_answer at.sum) (c.translation_code-sum.ensures ∙ ap answer_code called.reply) in
    translations-left at.translator _ at.sum _ c.args.words.now at.word-index (omega arith) called.state added ∙ at.invariant

pub returns : goal.returns
unfolding translations_sum
returns c =
    let at = c.loop-word in
    let l = c.args.words.now in
    sym (ap (translations_sum at.translator at.sum) (drop_of_length-le l {i = at.word-index} (omega arith))) ∙ at.invariant
