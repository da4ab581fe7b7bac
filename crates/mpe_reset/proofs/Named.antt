-- Which channels a reset mask names: those for which its condition holds.
-- Assumes nothing.
use mathlib.Core.Path.{◌≡◌, refl}
use mathlib.Core.Bool.{Bool, true, false}
use Prim.Native.Nat.{ℕ}
use native.Mathlib.Nat.{mod-lt}
use lib.Dec.{eqb, lit<}
use Rattle.ump.specs.Packet.{packet_value}
use Rattle.ump.specs.Field.{bit_for, mask_to}
use Rattle.ump.proofs.Mask.{mask-bit}
use Rattle.mpe_reset.specs.Reset.{named}

bit-one : (b : Bool) → eqb (bit_for b) 1 ≡ b
bit-one true = refl
bit-one false = refl

-- a mask of sixteen conditions names the channels for which they hold
pub mask-named : (f : ℕ → Bool) (channel : ℕ) → named (mask_to f 16) channel ≡ f (packet_value channel)
mask-named f channel = rw (mask-bit f 16 (packet_value channel) (mod-lt channel (lit< tt))) (bit-one (f (packet_value channel)))
