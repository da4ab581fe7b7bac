-- Roles in a legal layout: no channel is in two zones, and which channels are the manager and the members of a zone.
-- Assumes nothing.
use mathlib.Core.Path.{◌≡◌, refl, ◌∙◌, ap}
use mathlib.Core.Bool.{Bool, true, false}
use mathlib.Core.Logic.{◌⊎◌, inl, inr, ⊎_elim}
use Prim.Native.Nat.{ℕ, ◌+◌, ◌-◌, ◌<◌, ◌≤◌}
use native.Mathlib.Nat.{add-zero}
use native.Mathlib.Omega.{arith}
use lib.Dec.{leb, eqb}
use borrow.Author.Tests.{le-leb, lt-leb, eq-eqb, ne_eqb, eqb-true}
use Rattle.ump.specs.Choice.{when◌then◌else◌}
use Rattle.mpe_layout.specs.Layout.{legal, members_of, manager_of, lowest_of, place_of, inside, role_at, role_of}
use Rattle.mpe_layout.specs.declared.MpeZone.{MpeZone}
use Rattle.mpe_layout.specs.declared.MpeZone.TheVariants.{Lower, Upper}
use Rattle.mpe_layout.specs.declared.MpeRole.TheVariants.{NoZone, Manager, Member}
use Rattle.mpe_layout.specs.declared.ZonePlace.{ZonePlace}
use Rattle.mpe_layout.specs.declared.ZonePlace.TheVariants.{Outside, AsManager, AsMember}
use Rattle.mpe_layout.specs.declared.MpeLayout.{MpeLayout}
use Rattle.mpe_layout.proofs.Legal.{sides, members-le, both-le}

-- the three places
pub place-manager : (members : ℕ) → 0 < members → place_of members 0 ≡ AsManager
unfolding place_of
place-manager members h = rw (ne_eqb members 0 (λ e. omega arith))

pub place-member : (members distance : ℕ) → 0 < distance → distance ≤ members → place_of members distance ≡ AsMember
unfolding place_of
place-member members distance p h =
    rw (ne_eqb members 0 (λ e. omega arith), ne_eqb distance 0 (λ e. omega arith), le-leb distance members h)

pub place-outside : (members distance : ℕ) → members < distance → place_of members distance ≡ Outside
unfolding place_of
place-outside members distance h =
    rw (ne_eqb distance 0 (λ e. omega arith), lt-leb distance members h) (either (eqb members 0))
  where
    either : (b : Bool) → (when b then Outside else Outside) ≡ Outside
    either true = refl
    either false = refl

-- an inactive zone has no place
pub place-empty : (members distance : ℕ) → members ≡ 0 → place_of members distance ≡ Outside
unfolding place_of
place-empty members distance e = rw (eq-eqb members 0 e)

-- the place by whether the channel is in the zone and whether it is the zone's manager channel
abbrev pub placed : Bool → Bool → ZonePlace
placed false own = Outside
placed true true = AsManager
placed true false = AsMember

pub place_is : (members distance : ℕ) → place_of members distance ≡ placed (inside (place_of members distance)) (eqb distance 0)
unfolding place_of
place_is members distance = by (eqb members 0) (eqb distance 0) (leb distance members)
  where
    by : (a b c : Bool)
        → (when a then Outside else when b then AsManager else when c then AsMember else Outside)
        ≡ placed (inside (when a then Outside else when b then AsManager else when c then AsMember else Outside)) b
    by true b c = refl
    by false true c = refl
    by false false true = refl
    by false false false = refl

-- no channel is in two zones (M1-100 2.2.1)
pub one-zone : (l : MpeLayout) (channel : ℕ) → legal l ≡ true → channel < 16
    → (place_of l.lower channel ≡ Outside) ⊎ (place_of l.upper (15 - channel) ≡ Outside)
one-zone l channel h b =
    ⊎_elim
    (λ past. inl (place-outside l.lower channel past))
    (λ within.
    ⊎_elim
    (λ (some : 0 < l.lower).
    ⊎_elim
    (λ (both : 0 < l.upper). inr (place-outside l.upper (15 - channel) (omega (arith, both-le l h some both))))
    (λ empty. inr (place-empty l.upper (15 - channel) (omega arith)))
    (sides 0 l.upper))
    (λ empty. inl (place-empty l.lower channel (omega arith)))
    (sides 0 l.lower))
    (sides l.lower channel)

-- Upper begins above Lower
lower-outside : (l : MpeLayout) (channel : ℕ) → legal l ≡ true → 0 < l.upper → 15 ≤ channel + l.upper → place_of l.lower channel ≡ Outside
lower-outside l channel h some b =
    ⊎_elim
    (λ (both : 0 < l.lower). place-outside l.lower channel (omega (arith, both-le l h both some)))
    (λ empty. place-empty l.lower channel (omega arith))
    (sides 0 l.lower)

-- the manager of an active zone
pub manager-role : (l : MpeLayout) (zone : MpeZone) → legal l ≡ true → 0 < members_of l zone → role_of l (manager_of zone) ≡ Manager zone
unfolding role_of
manager-role l Lower h some = rw (place-manager l.lower some)
manager-role l Upper h some = rw (lower-outside l 15 h some (omega arith), place-manager l.upper some)

-- the members of a zone, rising from the lowest
pub member-role : (l : MpeLayout) (zone : MpeZone) (k : ℕ) → legal l ≡ true → k < members_of l zone → role_of l (lowest_of l zone + k) ≡ Member zone
unfolding role_of
member-role l Lower k h b = rw (place-member l.lower (1 + k) (omega arith) (omega arith))
member-role l Upper k h b =
    let le : l.upper ≤ 15 = members-le l Upper h in
    rw (
      lower-outside l (15 - l.upper + k) h (omega arith) (omega arith),
      place-member l.upper (15 - (15 - l.upper + k)) (omega arith) (omega arith),
    )

pub lowest-role : (l : MpeLayout) (zone : MpeZone) → legal l ≡ true → 0 < members_of l zone → role_of l (lowest_of l zone) ≡ Member zone
lowest-role l zone h some = rw add-zero at (member-role l zone 0 h some)

-- every channel of an empty layout is in no zone
pub empty-role : (l : MpeLayout) (channel : ℕ) → l.lower ≡ 0 → l.upper ≡ 0 → role_of l channel ≡ NoZone
unfolding role_of
empty-role l channel p q = rw (place-empty l.lower channel p, place-empty l.upper (15 - channel) q)

-- only the manager's channel has the manager's role
at-manager : (members distance : ℕ) → place_of members distance ≡ AsManager → distance ≡ 0
unfolding place_of
at-manager members distance e = by (eqb members 0) (eqb distance 0) (leb distance members) (eqb-true distance 0) e
  where
    by : (a b c : Bool) → (b ≡ true → distance ≡ 0) → (when a then Outside else when b then AsManager else when c then AsMember else Outside) ≡ AsManager → distance ≡ 0
    by true b c f e = cc
    by false true c f e = f refl
    by false false true f e = cc
    by false false false f e = cc

pub managers-channel : (l : MpeLayout) (channel : ℕ) (zone : MpeZone) → channel < 16 → role_of l channel ≡ Manager zone → channel ≡ manager_of zone
unfolding role_of
managers-channel l channel zone b e = by (place_of l.lower channel) (place_of l.upper (15 - channel)) refl refl e
  where
    by : (x y : ZonePlace) → place_of l.lower channel ≡ x → place_of l.upper (15 - channel) ≡ y → role_at x y ≡ Manager zone → channel ≡ manager_of zone
    by AsManager y p q e =
        let z : Lower ≡ zone = cc in
        at-manager l.lower channel p ∙ ap manager_of z
    by AsMember y p q e = cc
    by Outside AsManager p q e =
        let d = at-manager l.upper (15 - channel) q in
        let k : channel ≡ 15 = omega arith in
        let z : Upper ≡ zone = cc in
        k ∙ ap manager_of z
    by Outside AsMember p q e = cc
    by Outside Outside p q e = cc
