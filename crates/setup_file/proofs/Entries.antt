-- Of each section's entries: the bytes of one, what placing one changes, and that settings are known by all of theirs.
-- Assumes nothing.
use Prim.Native.Nat.{ℕ, zero, suc, ◌*◌, ◌+◌, ◌/◌, ◌%◌, ◌^◌, ◌<◌, ◌≤◌}
use mathlib.Core.Path.{◌≡◌, refl, ap, ap₂, sym, ◌∙◌}
use mathlib.Core.Bool.{true, false}
use mathlib.Core.Logic.{⊎_elim}
use mathlib.Core.List.{List, [], ◌∷◌, ◌++◌}
use native.Mathlib.Nat.{eq-or-lt_of_le, le_of_suc-le-suc, not-suc-le-zero}
use native.Mathlib.Omega.{arith}
use lib.Dec.{ltb, eqb}
use lib.ListN.{length, get_or, drop, length-set, get_or-replicate, get_or-append}
use lib.Seq.{drop-cons, get_or-set_same, get_or-set_other, get_or_at, ext_get_or}
use borrow.Author.Tests.{ltb-false, eqb-true, eqb-false, eq-eqb, ne_eqb}
use Rattle.ump.proofs.Cases.{by-test}
use Rattle.mpe_layout.specs.Layout.{layout_of}
use Rattle.settings.specs.declared.Settings.{Settings}
use Rattle.settings.specs.Settings.{new_settings, bend_on, pressure_on, brightness_on}
use Rattle.settings.specs.Messages.{each_channel}
use Rattle.settings.proofs.Allowed.{both, passed}
use Rattle.settings.proofs.Counts.{each-length}
use Rattle.setup_file.specs.declared.Section.{Section}
use Rattle.setup_file.specs.declared.Section.TheVariants.{Zones, Channels}
use Rattle.setup_file.specs.Format.{most, entry_size, number_in, members_from, zone_from, bend_from, zone_entry_within, channel_entry_within, entry_within, at_rest, unlisted, entry_of, seen, settings_with}

-- the bytes at the front of a list that an entry would be read from
abbrev pub front : Section → List ℕ → List ℕ
front Zones l = get_or l 0 0 ∷ get_or l 1 0 ∷ get_or l 2 0 ∷ get_or l 3 0 ∷ get_or l 4 0 ∷ get_or l 5 0 ∷ get_or l 6 0 ∷ []
front Channels l = get_or l 0 0 ∷ get_or l 1 0 ∷ get_or l 2 0 ∷ get_or l 3 0 ∷ get_or l 4 0 ∷ []

-- a list that is long enough is these and the rest
pub front_rest : (section : Section) (l : List ℕ) → entry_size section ≤ length l → l ≡ front section l ++ drop (entry_size section) l
front_rest Zones l h =
    rw (
      ← drop-cons l 6 0 (omega arith),
      ← drop-cons l 5 0 (omega arith),
      ← drop-cons l 4 0 (omega arith),
      ← drop-cons l 3 0 (omega arith),
      ← drop-cons l 2 0 (omega arith),
      ← drop-cons l 1 0 (omega arith),
      ← drop-cons l 0 0 (omega arith),
    )
front_rest Channels l h =
    rw (
      ← drop-cons l 4 0 (omega arith),
      ← drop-cons l 3 0 (omega arith),
      ← drop-cons l 2 0 (omega arith),
      ← drop-cons l 1 0 (omega arith),
      ← drop-cons l 0 0 (omega arith),
    )

-- nothing that comes behind them matters
pub front-append : (section : Section) (l more : List ℕ) → entry_size section ≤ length l → front section (l ++ more) ≡ front section l
front-append Zones l more h =
    rw (
      get_or-append l more 0 0 (omega arith),
      get_or-append l more 0 1 (omega arith),
      get_or-append l more 0 2 (omega arith),
      get_or-append l more 0 3 (omega arith),
      get_or-append l more 0 4 (omega arith),
      get_or-append l more 0 5 (omega arith),
      get_or-append l more 0 6 (omega arith),
    )
front-append Channels l more h =
    rw (
      get_or-append l more 0 0 (omega arith),
      get_or-append l more 0 1 (omega arith),
      get_or-append l more 0 2 (omega arith),
      get_or-append l more 0 3 (omega arith),
      get_or-append l more 0 4 (omega arith),
    )

-- an entry of settings, with anything behind it
pub own-front : (section : Section) (s : Settings) (k : ℕ) (rest : List ℕ) → front section (entry_of section s k ++ rest) ≡ entry_of section s k
own-front Zones s k rest = refl
own-front Channels s k rest = refl

pub own-rest : (section : Section) (s : Settings) (k : ℕ) (rest : List ℕ) → drop (entry_size section) (entry_of section s k ++ rest) ≡ rest
own-rest Zones s k rest = refl
own-rest Channels s k rest = refl

pub own-long : (section : Section) (s : Settings) (k : ℕ) (rest : List ℕ) → entry_size section ≤ length (entry_of section s k ++ rest)
own-long Zones s k rest = omega arith
own-long Channels s k rest = omega arith

pub own-number : (section : Section) (s : Settings) (k : ℕ) (rest : List ℕ) → number_in (entry_of section s k ++ rest) ≡ k
own-number Zones s k rest = refl
own-number Channels s k rest = refl

-- what an entry says is said by the bytes at the front
pub number-front : (section : Section) (l : List ℕ) → number_in (front section l) ≡ number_in l
number-front Zones l = refl
number-front Channels l = refl

pub within-front : (section : Section) (l : List ℕ) → entry_within section (front section l) ≡ entry_within section l
within-front Zones l = refl
within-front Channels l = refl

pub unlisted-front : (section : Section) (l : List ℕ) → unlisted section (front section l) ≡ unlisted section l
unlisted-front Zones l = refl
unlisted-front Channels l = refl

pub placed-front : (section : Section) (l : List ℕ) (t : Settings) → settings_with section (front section l) t ≡ settings_with section l t
placed-front Zones l t = refl
placed-front Channels l t = refl

-- an entry's number that is inside its limits is below the largest count
pub within-number : (section : Section) (l : List ℕ) → entry_within section l ≡ true → number_in l < most section
unfolding zone_entry_within channel_entry_within
within-number Zones l h = omega (arith, ltb-false 1 (number_in l) (passed (ltb 1 (number_in l)) _ h).0)
within-number Channels l h = omega (arith, ltb-false 15 (number_in l) (passed (ltb 15 (number_in l)) _ h).0)

-- a channel's other bytes are at most 127
pub channel-within : (n m l p b : ℕ) → channel_entry_within n m l p b ≡ true → (m ≤ 127) × (l ≤ 127) × (p ≤ 127) × (b ≤ 127)
unfolding channel_entry_within
channel-within n m l p b h =
    let u = passed (ltb 127 m) _ (passed (ltb 15 n) _ h).1 in
    let v = passed (ltb 127 l) _ u.1 in
    let w = passed (ltb 127 p) _ v.1 in
    let x = passed (ltb 127 b) _ w.1 in
    (ltb-false 127 m u.0, ltb-false 127 l v.0, ltb-false 127 p w.0, ltb-false 127 b x.0)

-- the two bytes of a bend come back from it
bend-bytes : (l : List ℕ) → entry_within Channels l ≡ true → (bend_from l / 2 ^ 7 ≡ get_or l 1 0) × (bend_from l % 2 ^ 7 ≡ get_or l 2 0)
bend-bytes l h =
    let b : get_or l 2 0 ≤ 127 = (channel-within _ _ _ _ _ h).1 in
    (omega arith, omega arith)

-- sixteen elements in each array
pub record Sized (t : Settings) : Type 0 where
  pub bends : length t.pitch_bend ≡ 16
  pub pressures : length t.pressure ≡ 16
  pub brightnesses : length t.brightness ≡ 16

pub new-sized : Sized new_settings
new-sized = record { bends = refl; pressures = refl; brightnesses = refl }

pub placed-sized : (section : Section) (l : List ℕ) (t : Settings) → Sized t → Sized (settings_with section l t)
placed-sized Zones l t z =
    by-test (eqb (number_in l) 0)
    (λ e. rw e (record { bends = z.bends; pressures = z.pressures; brightnesses = z.brightnesses }))
    (λ e. rw e (record { bends = z.bends; pressures = z.pressures; brightnesses = z.brightnesses }))
placed-sized Channels l t z =
    record {
      bends = length-set t.pitch_bend (number_in l) (bend_from l) ∙ z.bends;
      pressures = length-set t.pressure (number_in l) (get_or l 3 0) ∙ z.pressures;
      brightnesses = length-set t.brightness (number_in l) (get_or l 4 0) ∙ z.brightnesses;
    }

-- an entry that is placed stands at its number
pub placed-there : (section : Section) (l : List ℕ) (t : Settings) → Sized t → entry_within section l ≡ true
    → entry_of section (settings_with section l t) (number_in l) ≡ front section l
placed-there Zones l t z h = by-test (eqb (number_in l) 0) (λ e. rw e) (λ e. rw e)
placed-there Channels l t z h =
    let n : number_in l < 16 = within-number Channels l h in
    let b = bend-bytes l h in
    rw (
      get_or-set_same t.pitch_bend (number_in l) (bend_from l) 0 (omega (arith, z.bends)),
      get_or-set_same t.pressure (number_in l) (get_or l 3 0) 0 (omega (arith, z.pressures)),
      get_or-set_same t.brightness (number_in l) (get_or l 4 0) 0 (omega (arith, z.brightnesses)),
      b.0,
      b.1,
    )

-- and every other number has what it had
pub placed-elsewhere : (section : Section) (l : List ℕ) (t : Settings) (j : ℕ) → entry_within section l ≡ true → j < most section → (j ≡ number_in l → ⊥)
    → entry_of section (settings_with section l t) j ≡ entry_of section t j
placed-elsewhere Zones l t j h b d =
    let n : number_in l < 2 = within-number Zones l h in
    by-test (eqb (number_in l) 0)
    (λ e. let p = eqb-true (number_in l) 0 e in let q : eqb j 0 ≡ false = ne_eqb j 0 (λ f. d (f ∙ sym p)) in rw (e, q))
    (λ e. let p = eqb-false (number_in l) 0 e in let q : eqb j 0 ≡ true = eq-eqb j 0 (one j (number_in l) b n p d) in rw (e, q))
  where
    one : (j n : ℕ) → j < 2 → n < 2 → (n ≡ 0 → ⊥) → (j ≡ n → ⊥) → j ≡ 0
    one j n b c p d = omega arith
placed-elsewhere Channels l t j h b d =
    rw (
      get_or-set_other t.pitch_bend (number_in l) j (bend_from l) 0 d,
      get_or-set_other t.pressure (number_in l) j (get_or l 3 0) 0 d,
      get_or-set_other t.brightness (number_in l) j (get_or l 4 0) 0 d,
    )

-- and so has the other section
abbrev pub other_section : Section → Section
other_section Zones = Channels
other_section Channels = Zones

pub placed-beside : (section : Section) (l : List ℕ) (t : Settings) (j : ℕ)
    → entry_of (other_section section) (settings_with section l t) j ≡ entry_of (other_section section) t j
placed-beside Zones l t j = by-test (eqb (number_in l) 0) (λ e. rw e) (λ e. rw e)
placed-beside Channels l t j = by-test (eqb j 0) (λ e. rw e) (λ e. rw e)

-- what holds of a section and of the other one holds of each
pub of-each : (P : Section → Type 0) (section : Section) → P section → P (other_section section) → (other : Section) → P other
of-each P Zones p q Zones = p
of-each P Zones p q Channels = q
of-each P Channels p q Zones = q
of-each P Channels p q Channels = p

-- settings are known by their entries, and their layout by those of the zones
pub same_layout : (s t : Settings) → ((j : ℕ) → j < 2 → entry_of Zones s j ≡ entry_of Zones t j) → s.layout ≡ t.layout
same_layout s t h = ap₂ layout_of (ap members_from (h 0 (omega arith))) (ap members_from (h 1 (omega arith)))

pub same_entries : (s t : Settings) → Sized s → Sized t
    → ((section : Section) (j : ℕ) → j < most section → entry_of section s j ≡ entry_of section t j) → s ≡ t
same_entries s t y z h =
    λ i. record {
      layout = same_layout s t (h Zones) i;
      lower = ap zone_from (h Zones 0 (omega arith)) i;
      upper = ap zone_from (h Zones 1 (omega arith)) i;
      pitch_bend = ext_get_or 0 s.pitch_bend t.pitch_bend (y.bends ∙ sym z.bends) (λ k b. bend k (omega (arith, y.bends))) i;
      pressure = ext_get_or 0 s.pressure t.pressure (y.pressures ∙ sym z.pressures)
          (λ k b. ap (λ e. get_or e 3 0) (h Channels k (omega (arith, y.pressures)))) i;
      brightness = ext_get_or 0 s.brightness t.brightness (y.brightnesses ∙ sym z.brightnesses)
          (λ k b. ap (λ e. get_or e 4 0) (h Channels k (omega (arith, y.brightnesses)))) i;
    }
  where
    whole : (n : ℕ) → n / 2 ^ 7 * 2 ^ 7 + n % 2 ^ 7 ≡ n
    whole n = omega arith

    bend : (k : ℕ) → k < 16 → bend_on s k ≡ bend_on t k
    bend k b = sym (whole (bend_on s k)) ∙ ap bend_from (h Channels k b) ∙ whole (bend_on t k)

-- a channel at rest has bend 0x2000 as 64 and 0, pressure 0 and brightness 64
pub rest-values : (m l p b : ℕ) → at_rest m l p b ≡ true → (m ≡ 64) × (l ≡ 0) × (p ≡ 0) × (b ≡ 64)
unfolding at_rest
rest-values m l p b h =
    let u = both (eqb m 64) _ h in
    let v = both (eqb l 0) _ u.1 in
    let w = both (eqb p 0) _ v.1 in
    (eqb-true m 64 u.0, eqb-true l 0 v.0, eqb-true p 0 w.0, eqb-true b 64 w.1)

-- new settings list no entry
new-channel : (j : ℕ) → j < 16 → entry_of Channels new_settings j ≡ j ∷ 64 ∷ 0 ∷ 0 ∷ 64 ∷ []
new-channel j b =
    rw (get_or-replicate {A = ℕ} 16 j 0x2000 0 b, get_or-replicate {A = ℕ} 16 j 0 0 b, get_or-replicate {A = ℕ} 16 j 64 0 b)

pub new-unlisted : (section : Section) (j : ℕ) → j < most section → unlisted section (entry_of section new_settings j) ≡ true
unfolding at_rest
new-unlisted Zones j b = by-test (eqb j 0) (λ e. rw e) (λ e. rw e)
new-unlisted Channels j b = ap (unlisted Channels) (new-channel j b)

-- one value for each of n channels
pub each_at : (f : ℕ → ℕ) (n j : ℕ) → j < n → get_or (each_channel (λ k. f k ∷ []) n) j 0 ≡ f j
unfolding each_channel
each_at f zero j b = absurd (not-suc-le-zero b)
each_at f (suc n) j b =
    let long : length (each_channel (λ k. f k ∷ []) n) ≡ n = each-length (λ k. f k ∷ []) 1 (λ k. refl) n ∙ omega arith in
    ⊎_elim
    (λ (e : j ≡ n). rw e (get_or_at (each_channel (λ k. f k ∷ []) n) (f n) [] 0 n long))
    (λ (l : j < n). get_or-append (each_channel (λ k. f k ∷ []) n) (f n ∷ []) 0 j (omega arith) ∙ each_at f n j l)
    (eq-or-lt_of_le (le_of_suc-le-suc b))

-- the settings in the fields that are read
pub seen-sized : (s : Settings) → Sized (seen s)
unfolding each_channel
seen-sized s = record { bends = refl; pressures = refl; brightnesses = refl }

seen-channel : (s : Settings) (j : ℕ) → j < 16 → entry_of Channels (seen s) j ≡ entry_of Channels s j
seen-channel s j b = rw (each_at (bend_on s) 16 j b, each_at (pressure_on s) 16 j b, each_at (brightness_on s) 16 j b)

pub seen-listed : (section : Section) (s : Settings) (j : ℕ) → j < most section → unlisted section (entry_of section s j) ≡ false
    → entry_of section (seen s) j ≡ entry_of section s j
seen-listed Zones s j b h = by-test (eqb j 0) (λ e. rw (e, (rw e at h))) (λ e. rw (e, (rw e at h)))
seen-listed Channels s j b h = seen-channel s j b

pub seen-unlisted : (section : Section) (s : Settings) (j : ℕ) → j < most section → unlisted section (entry_of section s j) ≡ true
    → entry_of section (seen s) j ≡ entry_of section new_settings j
seen-unlisted Zones s j b h =
    by-test (eqb j 0)
    (λ e. let f : eqb s.layout.lower 0 ≡ true = rw e at h in let n = eqb-true s.layout.lower 0 f in rw (e, n))
    (λ e. let f : eqb s.layout.upper 0 ≡ true = rw e at h in let n = eqb-true s.layout.upper 0 f in rw (e, n))
seen-unlisted Channels s j b h =
    let v = rest-values _ _ _ _ h in
    seen-channel s j b ∙ rw (v.0, v.1, v.2, v.3) (sym (new-channel j b))
