-- `restatement::restatement_words` meets its contract: refused, too small, or all the messages; and the counts hold.
use mathlib.Core.Path.{◌≡◌, sym, ap, ◌∙◌}
use mathlib.Core.List.{◌++◌}
use lib.ListN.{drop}
use Rattle.ump.specs.Outcome.{given}
use Rattle.zone_sender.specs.Zone.{filled}
use Rattle.settings.specs.Messages.{messages, message_count}
use Rattle.settings.proofs.Counts.{message-count, counts-hold}
use Rattle.restatement.proofs.Sets.{sets-front}
use Rattle.restatement.proofs.Reply.{counted}
use Rattle.restatement.proofs.restatement_words.Goals as goal

pub returns-in_err-count-clause-counts : goal.returns-in_err-count-clause-counts
returns-in_err-count-clause-counts c = counts-hold

pub write_messages-requires : goal.write_messages-requires
write_messages-requires c = let s = c.args.settings in
    let q = counted s _ _ _ c.in_ok-count.ensures.reply in
    q.fits

pub invariant_of-write_messages : goal.invariant_of-write_messages
invariant_of-write_messages c = record { is_allowed = (counted c.args.settings _ _ _ c.in_ok-count.ensures.reply).is-allowed }

pub returns : goal.returns
returns c = let s = c.args.settings in
    let o = c.args.out.now in
    let p = c.in_ok-count.ensures.reply in
    let q = counted s _ _ _ p in
    let m = message-count s q.is-allowed in
    let h : c.write_messages.new.out ≡ messages s ++ drop (message_count s.layout) o =
    c.write_messages.ensures ∙ sets-front o (messages s) (rw m q.fits) ∙ rw m in
    record {
      reply = p;
      buffer = h ∙ ap (λ i. filled (given i) (messages s) o) (sym q.is-needed) ∙ ap (λ r. filled r (messages s) o) p;
      counts = counts-hold;
    }
