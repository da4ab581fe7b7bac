-- The rule of the sheet of places: one test that antt computes over all 256 entries, carried to each of them by a law.
-- Assumes nothing.
use mathlib.Core.Path.{◌≡◌, refl}
use mathlib.Core.Bool.{Bool, true, false}
use mathlib.Core.List.{List}
use Prim.Native.Nat.{ℕ}
use Rattle.ump.proofs.Below.{every_below, at}
use Rattle.mpe_layout.specs.Layout.{place_of}
use Rattle.mpe_layout.specs.Sheet.{entry_in, HoldsPlaces}
use Rattle.mpe_layout.specs.declared.ZonePlace.{ZonePlace}
use Rattle.mpe_layout.specs.declared.ZonePlace.TheVariants.{Outside, AsManager, AsMember}

-- the same place
abbrev pub same_place : ZonePlace → ZonePlace → Bool
same_place Outside Outside = true
same_place Outside AsManager = false
same_place Outside AsMember = false
same_place AsManager Outside = false
same_place AsManager AsManager = true
same_place AsManager AsMember = false
same_place AsMember Outside = false
same_place AsMember AsManager = false
same_place AsMember AsMember = true

same : (p q : ZonePlace) → same_place p q ≡ true → p ≡ q
same Outside Outside t = refl
same Outside AsManager t = cc
same Outside AsMember t = cc
same AsManager Outside t = cc
same AsManager AsManager t = refl
same AsManager AsMember t = cc
same AsMember Outside t = cc
same AsMember AsManager t = cc
same AsMember AsMember t = refl

-- the test of an entry, and of the whole sheet
abbrev pub entry_test : List (List ZonePlace) → ℕ → ℕ → Bool
entry_test sheet members distance = same_place (entry_in sheet members distance) (place_of members distance)

abbrev pub sheet_test : List (List ZonePlace) → Bool
sheet_test sheet = every_below (λ members. every_below (entry_test sheet members) 16) 16

pub holds-places : (sheet : List (List ZonePlace)) → sheet_test sheet ≡ true → HoldsPlaces sheet
holds-places sheet t =
    record {
      entry_holds = λ members distance m d.
          same _ _ (at (entry_test sheet members) 16 (at (λ n. every_below (entry_test sheet n) 16) 16 t members m) distance d);
    }
