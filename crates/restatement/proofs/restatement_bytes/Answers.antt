-- `restatement::restatement_bytes` meets its contract: refused, too small, or the bytes of all the messages, of which demand 3 holds, with its hypotheses met.
use mathlib.Core.Path.{◌≡◌, sym, ap, subst, ◌∙◌}
use Prim.Native.Nat.{ℕ}
use mathlib.Core.List.{◌++◌}
use lib.ListN.{take, drop}
use lib.Seq.{sets}
use Rattle.std.proofs.lemmas.List.{length-take-le}
use Rattle.ump.specs.Outcome.{Outcome, given}
use Rattle.zone_sender.specs.Zone.{filled}
use Rattle.settings.specs.Messages.{bytes, restatement, byte_count}
use Rattle.settings.specs.Demand.{Demand}
use Rattle.settings.specs.Witnesses.{Met}
use Rattle.settings.proofs.Allowed.{allowed-legal}
use Rattle.settings.proofs.Counts.{most-messages, byte-count}
use Rattle.settings.proofs.Demand.{demand-holds}
use Rattle.settings.proofs.Witnesses.{demand-met}
use Rattle.restatement.proofs.Sets.{sets-front, take-front}
use Rattle.restatement.proofs.Reply.{same_count, counted, words-of}
use native.Mathlib.Omega.{arith}
use Rattle.restatement.proofs.restatement_bytes.Goals as goal

pub write_messages-requires : goal.write_messages-requires
write_messages-requires c = let s = c.args.settings in
    let q = counted s _ _ _ c.in_ok-n.ensures.reply in
    most-messages s.layout (allowed-legal s q.is-allowed)

pub invariant_of-write_messages : goal.invariant_of-write_messages
invariant_of-write_messages c = record { is_allowed = (counted c.args.settings _ _ _ c.in_ok-n.ensures.reply).is-allowed }

pub slice_bounds-words-end : goal.slice_bounds-words-end
slice_bounds-words-end c =
    (words-of c.args.settings _ _ _ _ c.in_ok-n.ensures.reply c.messages_in.ensures c.write_messages.ensures).within

pub slice_bounds-write_bytes-end : goal.slice_bounds-write_bytes-end
slice_bounds-write_bytes-end c =
    let w = words-of c.args.settings _ _ _ _ c.in_ok-n.ensures.reply c.messages_in.ensures c.write_messages.ensures in
    sym (length-take-le _ _ w.within)

pub write_bytes-requires : goal.write_bytes-requires
write_bytes-requires c =
    let s = c.args.settings in
    let w = words-of s _ _ _ _ c.in_ok-n.ensures.reply c.messages_in.ensures c.write_messages.ensures in
    rw w.words (omega (arith, byte-count s w.is-allowed, w.fits))

pub returns : goal.returns
returns c = let s = c.args.settings in
    let o = c.args.out.now in
    let p = c.in_ok-n.ensures.reply in
    let w = words-of s _ _ _ _ p c.messages_in.ensures c.write_messages.ensures in
    let t = w.is-allowed in
    let x = c.write_bytes.new.out in
    let y : x ≡ sets o 0 (restatement s) = c.write_bytes.ensures ∙ ap (λ l. sets o 0 (bytes l)) w.words in
    let n = byte-count s t in
    let e : x ≡ restatement s ++ drop (byte_count s.layout) o = y ∙ sets-front o (restatement s) (rw n w.fits) ∙ rw n in
    let first : take (byte_count s.layout) x ≡ restatement s =
    ap (λ l. take (byte_count s.layout) l) y ∙ take-front o (restatement s) (byte_count s.layout) n w.fits in
    let written : (i : ℕ) → ◌≡◌ {A = Outcome ℕ} (given _) (given i) → take i x ≡ restatement s =
    λ i g. ap (λ r. take r x) (sym (same_count g) ∙ w.is-needed) ∙ first in record {
      reply = p;
      buffer = e ∙ ap (λ i. filled (given i) (restatement s) o) (sym w.is-needed) ∙ ap (λ r. filled r (restatement s) o) p;
      demand = λ i g. subst (λ l. Demand s l) (sym (written i g)) (demand-holds s t);
      met = λ i g. subst (λ l. Met s l) (sym (written i g)) (demand-met s t);
    }
