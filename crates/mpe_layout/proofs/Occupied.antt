-- A zone in which a channel is a member has members.
-- Assumes nothing.
use Prim.Native.Nat.{ℕ, ◌-◌}
use mathlib.Core.Path.{◌≡◌, ap, sym, ◌∙◌}
use Rattle.mpe_layout.specs.declared.MpeZone.{MpeZone}
use Rattle.mpe_layout.specs.declared.MpeZone.TheVariants.{Lower, Upper}
use Rattle.mpe_layout.specs.declared.MpeRole.TheVariants.{Member}
use Rattle.mpe_layout.specs.declared.ZonePlace.{ZonePlace}
use Rattle.mpe_layout.specs.declared.ZonePlace.TheVariants.{Outside, AsManager, AsMember}
use Rattle.mpe_layout.specs.declared.MpeLayout.{MpeLayout}
use Rattle.mpe_layout.specs.Layout.{members_of, place_of, role_at, role_of}
use Rattle.mpe_layout.proofs.Roles.{place-empty}

no_lower : (p : ZonePlace) → role_at Outside p ≡ Member Lower → ⊥
no_lower Outside q = cc
no_lower AsManager q = cc
no_lower AsMember q = cc

no-upper : (p : ZonePlace) → role_at p Outside ≡ Member Upper → ⊥
no-upper Outside q = cc
no-upper AsManager q = cc
no-upper AsMember q = cc

pub has-members : (l : MpeLayout) (zone : MpeZone) (k : ℕ) → role_of l k ≡ Member zone → members_of l zone ≡ 0 → ⊥
unfolding role_of
has-members l Lower k is none =
    no_lower (place_of l.upper (15 - k))
    (ap (λ p. role_at p (place_of l.upper (15 - k))) (sym (place-empty l.lower k none)) ∙ is)
has-members l Upper k is none =
    no-upper (place_of l.lower k) (ap (λ p. role_at (place_of l.lower k) p) (sym (place-empty l.upper (15 - k) none)) ∙ is)
