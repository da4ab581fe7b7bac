-- Messages as bytes: their bytes one after another, and an end that receives them stays well formed.
-- Assumes nothing.
use Prim.Native.Nat.{ℕ, zero, suc, ◌<◌, ◌≤◌}
use mathlib.Core.Path.{◌≡◌, ap, sym, ◌∙◌, subst}
use mathlib.Core.List.{List, [], ◌∷◌, ◌++◌}
use native.Mathlib.Omega.{arith}
use Rattle.mpe_sender.specs.Writers.{control_word}
use Rattle.receiving_end.specs.declared.end.End.{End}
use Rattle.byte_reader.specs.Reader.{reader_at}
use Rattle.receiving_end.specs.End.{with_reader, step_end}
use Rattle.receiving_end.specs.Lists.{byte_by_value, after, after_bytes}
use Rattle.receiving_end.specs.WellFormed.{EndFormed}
use Rattle.receiving_end.proofs.Bytes.{bytes-after-bytes}
use Rattle.receiving_end.proofs.Parts.{end_after, status_of}
use Rattle.receiving_end.proofs.Numbers.{control-read}
use Rattle.receiving_end.proofs.Always.{after-formed}
use Rattle.settings.specs.Messages.{each_channel, bytes}
use Rattle.settings.proofs.Bytes.{bytes-append, one-bytes}

-- an end that receives messages
abbrev pub received-all : End → List ℕ → End
received-all e ws = after_bytes e (bytes ws)

pub received-append : (e : End) (a b : List ℕ) → received-all e (a ++ b) ≡ received-all (received-all e a) b
received-append e a b = ap (after_bytes e) (bytes-append a b) ∙ bytes-after-bytes e (bytes a) (bytes b)

pub control-all : (e : End) (k a b : ℕ) → k < 16 → a < 0x80 → b < 0x80
    → received-all e (control_word k a b ∷ []) ≡ end_after (with_reader e (reader_at (status_of 0xB k) 0x80)) 0xB k a b
control-all e k a b hk ha hb = ap (after_bytes e) (one-bytes k a b hk ha hb) ∙ control-read e k a b hk ha hb

step-formed : (e : End) (b : ℕ) → EndFormed e → EndFormed (step_end e b)
unfolding after
step-formed e b f = after-formed e (byte_by_value b ∷ []) f

pub bytes-formed : (e : End) (l : List ℕ) → EndFormed e → EndFormed (after_bytes e l)
unfolding after_bytes
bytes-formed e [] f = f
bytes-formed e (b ∷ l) f = bytes-formed (step_end e b) l (step-formed e b f)

-- one channel after another
pub each-received : (P : ℕ → End → Type 0) (f : ℕ → List ℕ) → ((n : ℕ) (e : End) → n < 16 → P n e → P (suc n) (received-all e (f n)))
    → (n : ℕ) (e : End) → n ≤ 16 → P 0 e → P n (received-all e (each_channel f n))
unfolding each_channel bytes after_bytes
each-received P f more zero e h p = p
each-received P f more (suc n) e h p =
    subst (P (suc n)) (sym (received-append e (each_channel f n) (f n)))
    (more n (received-all e (each_channel f n)) (omega arith) (each-received P f more n e (omega arith) p))
