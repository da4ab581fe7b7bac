-- The sheet of places (document 02, 2026-05): a row for each member count, a column for each distance from the manager. Private functions alone cite it.
use Rattle.std.specs.Prelude.{ℕ, ◌<◌, ◌≡◌, List, [], get_or}
use Rattle.mpe_layout.specs.Layout.{place_of}
use Rattle.mpe_layout.specs.declared.ZonePlace.{ZonePlace}
use Rattle.mpe_layout.specs.declared.ZonePlace.TheVariants.{Outside}

-- the entry in the row of a member count and the column of a distance
abbrev pub entry_in : List (List ZonePlace) → ℕ → ℕ → ZonePlace
entry_in sheet members distance = get_or (get_or sheet members []) distance Outside

-- each of the 256 entries is the place of its member count and distance
pub record HoldsPlaces (sheet : List (List ZonePlace)) : Type 0 where
  pub entry_holds : (members distance : ℕ) → members < 16 → distance < 16 → entry_in sheet members distance ≡ place_of members distance
