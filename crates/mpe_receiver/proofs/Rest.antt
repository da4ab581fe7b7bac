-- One channel more is put to rest.
-- Assumes nothing.
use Prim.Native.Nat.{ℕ, suc, ◌+◌}
use mathlib.Core.Path.{◌≡◌, ap, ◌∙◌}
use native.Mathlib.Numerals.{add-one}
use lib.ListN.{set}
use Rattle.ump.specs.Choice.{when◌then◌else◌}
use Rattle.ump.proofs.Cases.{by-test}
use Rattle.mpe_reset.specs.Reset.{named}
use Rattle.mpe_receiver.specs.declared.MpeReceiver.{MpeReceiver}
use Rattle.mpe_receiver.specs.State.{with_bends, with_pressures, with_brightnesses}
use Rattle.mpe_receiver.specs.Receive.{put_where, rest_upto}

-- one channel put to rest where a mask names it
abbrev pub rest_at : MpeReceiver → ℕ → ℕ → MpeReceiver
rest_at r mask n =
    when named mask n then
    with_bends
    (with_pressures (with_brightnesses r (set r.brightness n 64)) (set r.pressure n 0))
    (set r.pitch_bend n 0x2000)
    else r

pub rest_more : (r : MpeReceiver) (mask n : ℕ) → rest_at (rest_upto r mask n) mask n ≡ rest_upto r mask (suc n)
unfolding put_where
rest_more r mask n = by-test (named mask n) (λ e. rw e) (λ e. rw e)

-- x becomes y where the mask names channel n, and stays where it does not
pub rest-next : (r : MpeReceiver) {x y : MpeReceiver} (mask n : ℕ) → x ≡ rest_upto r mask n → y ≡ rest_at x mask n → y ≡ rest_upto r mask (n + 1)
rest-next r mask n p e = rw add-one (e ∙ ap (λ z. rest_at z mask n) p ∙ rest_more r mask n)
