-- What the reply of a writer says of the settings and of its buffer.
-- Assumes nothing.
use Prim.Native.Nat.{ℕ, ◌+◌, ◌/◌, ◌≤◌}
use mathlib.Core.Path.{◌≡◌, refl, ap, ◌∙◌}
use lib.ListN.{length, take, replicate}
use lib.Seq.{sets, length-sets}
use mathlib.Core.Bool.{Bool, true, false}
use mathlib.Core.List.{List}
use native.Mathlib.Omega.{arith}
use lib.Dec.{ltb}
use borrow.Author.Tests.{ltb-false}
use Rattle.ump.specs.Choice.{when◌then◌else◌}
use Rattle.ump.specs.Outcome.{Outcome, given, out_of_range, too_small}
use Rattle.settings.specs.declared.Settings.{Settings}
use Rattle.settings.specs.Settings.{allowed}
use Rattle.mpe_layout.specs.declared.MpeLayout.{MpeLayout}
use Rattle.settings.specs.Messages.{messages, message_count, byte_count, restated_reply}
use Rattle.settings.proofs.Allowed.{allowed-legal}
use Rattle.settings.proofs.Counts.{message-count, most-messages}
use Rattle.restatement.proofs.Sets.{take-front}

-- the count that is answered
pub same_count : {n m : ℕ} → ◌≡◌ {A = Outcome ℕ} (given n) (given m) → n ≡ m
same_count e = cc

-- a count: the settings are allowed, it is what was needed, and the buffer holds it
pub record Counted (s : Settings) (needed got n : ℕ) : Type 0 where
  pub is-allowed : allowed s ≡ true
  pub is-needed : n ≡ needed
  pub fits : needed ≤ got

pub counted : (s : Settings) (needed got n : ℕ) → given n ≡ restated_reply s needed got → Counted s needed got n
unfolding restated_reply
counted s needed got n e =
    let t = tests (allowed s) (ltb got needed) e in
    record { is-allowed = t.0; is-needed = t.2; fits = ltb-false got needed t.1 }
  where
    tests : (a b : Bool) → given n ≡ (when a then (when b then too_small needed got else given needed) else out_of_range) → (a ≡ true) × (b ≡ false) × (n ≡ needed)
    tests true true e = absurd (let z : ◌≡◌ {A = ℕ} 0 1 = cc in omega arith)
    tests true false e = (refl, refl, cc)
    tests false b e = absurd (let z : ◌≡◌ {A = ℕ} 0 1 = cc in omega arith)

-- the messages of a restatement, by its bytes
pub messages-of : (l : MpeLayout) → (byte_count l + 16) / 3 ≡ message_count l
unfolding byte_count message_count
messages-of l = omega arith

-- so many bytes were counted, m are their messages, and ws holds the messages: what is read of ws
pub record Words (s : Settings) (got n m : ℕ) (ws : List ℕ) : Type 0 where
  pub is-allowed : allowed s ≡ true
  pub is-needed : n ≡ byte_count s.layout
  pub fits : byte_count s.layout ≤ got
  pub within : m ≤ length ws
  pub words : take m ws ≡ messages s

pub words-of : (s : Settings) (got n m : ℕ) (ws : List ℕ) → given n ≡ restated_reply s (byte_count s.layout) got → m ≡ (n + 16) / 3
    → ws ≡ sets (replicate 174 0) 0 (messages s) → Words s got n m ws
words-of s got n m ws p e f =
    let q = counted s (byte_count s.layout) got n p in
    let most = most-messages s.layout (allowed-legal s q.is-allowed) in
    let k : m ≡ message_count s.layout = e ∙ ap (λ i. (i + 16) / 3) q.is-needed ∙ messages-of s.layout in
    let l : length ws ≡ 174 = ap length f ∙ simp length-sets in
    record {
      is-allowed = q.is-allowed;
      is-needed = q.is-needed;
      fits = q.fits;
      within = omega (arith, k, l, most);
      words = ap (λ i. take i ws) k ∙ ap (λ x. take (message_count s.layout) x) f
          ∙ take-front (replicate 174 0) (messages s) (message_count s.layout) (message-count s q.is-allowed) most;
    }
