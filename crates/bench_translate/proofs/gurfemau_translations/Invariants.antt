-- `bench_translate::gurfemau_translations` meets its contract: the sum to come, over the messages that are left, is the whole sum.
use Rattle.std.proofs.Common.{◌≡◌, drop}
use Rattle.translate_state.specs.State.{new_record}
use Rattle.bench_translate.specs.Runs.{translations_sum}
use Rattle.bench_translate.proofs.gurfemau_translations.Given as goal

abbrev pub invariant-loop-word : goal.invariant-loop-word
invariant-loop-word l = translations_sum l.translator l.sum (drop l.word-index l.words) ≡ translations_sum new_record 0 l.words
