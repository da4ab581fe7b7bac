-- What a text says its file says: each line that is taken leaves settings and a label that may be written, with no field that is not read.
-- Assumes nothing.
use Prim.Native.Nat.{ℕ, suc, ◌-◌, ◌<◌}
use mathlib.Core.Path.{◌≡◌, refl, sym, ap, subst, ◌∙◌}
use mathlib.Core.Bool.{Bool, true, false}
use mathlib.Core.List.{List, [], ◌∷◌}
use native.Mathlib.Omega.{arith}
use lib.Dec.{ltb, eqb}
use borrow.Author.Tests.{eqb-true, eqb-false}
use Rattle.ump.specs.Choice.{when◌then◌else◌}
use Rattle.ump.specs.Outcome.{Outcome, given, declined, out_of_range}
use Rattle.ump.proofs.Cases.{by-test}
use Rattle.mpe_layout.specs.Layout.{legal_counts, legal}
use Rattle.settings.specs.declared.Settings.{Settings}
use Rattle.settings.specs.Settings.{new_settings}
use Rattle.setup_file.specs.declared.Section.{Section}
use Rattle.setup_file.specs.Format.{most, number_in, unlisted, entry_of, printable, label_allowed, setup_file, seen, settings_with}
use Rattle.setup_file.specs.Read.{out_of_order, entry_read, file_read}
use Rattle.setup_file.specs.Claims.{Writable}
use Rattle.setup_file.proofs.Outcomes.{same-given, not-given, both-given}
use Rattle.setup_file.proofs.Entries.{Sized, placed-there, placed-elsewhere, other_section, placed-beside, of-each, unlisted-front, same_entries, seen-sized, seen-listed, seen-unlisted}
use Rattle.setup_file.proofs.Taken.{Taken, read_taken}
use Rattle.setup_file.proofs.ReadBack.{read_back}
use Rattle.setup_file.proofs.Rewritten.{Proper, new-proper, placed-proper, proper-allowed}
use Rattle.setup_text.specs.Parse.{first_place, Item, says_nothing, says_entry, says_label, item_read, SoFar, nothing_said, label_place, entry_taken, label_taken, item_taken, line_taken, on_line, lines_read, text_lines, text_read}

-- what is not listed is as in new settings
abbrev Plain : Settings → Type 0
Plain t = (section : Section) (j : ℕ) → j < most section → unlisted section (entry_of section t j) ≡ true → entry_of section t j ≡ entry_of section new_settings j

apart : {P : Type 0} {b : Bool} → b ≡ true → b ≡ false → P
apart t f = absurd (let z : ◌≡◌ {A = ℕ} 0 1 = cc in omega arith)

placed-plain : (section : Section) (least : ℕ) (l : List ℕ) (t : Settings) → Taken section least l → Sized t → Plain t → Plain (settings_with section l t)
placed-plain section least l t a z p =
    of-each
    (λ other. (j : ℕ) → j < most other → unlisted other (entry_of other (settings_with section l t) j) ≡ true
    → entry_of other (settings_with section l t) j ≡ entry_of other new_settings j)
    section
    (λ j b.
    by-test (eqb j (number_in l))
    (λ e. rw (eqb-true j (number_in l) e, placed-there section l t z a.within) (λ u. apart u (unlisted-front section l ∙ a.listed)))
    (λ e. rw (placed-elsewhere section l t j a.within b (eqb-false j (number_in l) e)) (p section j b)))
    (λ j b. rw (placed-beside section l t j) (p (other_section section) j b))

plain-seen : (t : Settings) → Sized t → Plain t → seen t ≡ t
plain-seen t z p =
    same_entries (seen t) t (seen-sized t) z
    (λ section j b.
    by-test (unlisted section (entry_of section t j))
    (λ u. seen-unlisted section t j b u ∙ sym (p section j b u))
    (λ u. seen-listed section t j b u))

record Sound (r : SoFar) : Type 0 where
  pub proper : Proper r.settings
  pub plain : Plain r.settings
  pub is-legal : legal r.settings.layout ≡ true
  pub is-label : label_allowed r.label ≡ true

nothing-sound : Sound nothing_said
unfolding legal legal_counts label_allowed printable
nothing-sound = record { proper = new-proper; plain = λ section j b u. refl; is-legal = refl; is-label = refl }

-- what a test lets pass
pair-passed : {A : Type 0} (b : Bool) (x y : A) → (when b then given x else out_of_range) ≡ given y → (b ≡ true) × (x ≡ y)
pair-passed true x y e = (refl, same-given x y e)
pair-passed false x y e = not-given e

label-passed : {A : Type 0} (a b : Bool) (x y : A) → (when a then (when b then out_of_order else given x) else out_of_range) ≡ given y → (a ≡ true) × (x ≡ y)
label-passed true false x y e = (refl, same-given x y e)
label-passed true true x y e = not-given e
label-passed false b x y e = not-given e

item-sound : (r next : SoFar) (item : Item) → Sound r → item_taken r item ≡ given next → Sound next
unfolding entry_taken label_taken
item-sound r next says_nothing f e = subst Sound (same-given r next e) f
item-sound r next (says_entry section entry) f e =
    let g = both-given (entry_read section (r.least - first_place section) entry) _ next e in
    let t = (read_taken section (r.least - first_place section) entry g.1).0 in
    let p = pair-passed (legal (settings_with section entry r.settings).layout) _ next g.2 in
    subst Sound p.1
    (record {
      proper = placed-proper section entry r.settings t.within f.proper;
      plain = placed-plain section (r.least - first_place section) entry r.settings t f.proper.sized f.plain;
      is-legal = p.0;
      is-label = f.is-label;
    })
item-sound r next (says_label label) f e =
    let p = label-passed (label_allowed label) (ltb label_place r.least) _ next e in
    subst Sound p.1 (record { proper = f.proper; plain = f.plain; is-legal = f.is-legal; is-label = p.0 })

on-line-given : {A : Type 0} (n : ℕ) (o : Outcome A) (a : A) → on_line n o ≡ given a → o ≡ given a
on-line-given n (given b) a e = e
on-line-given n (declined m v) a e = not-given e

line-sound : (n : ℕ) (r next : SoFar) (line : List ℕ) → Sound r → on_line n (line_taken r line) ≡ given next → Sound next
line-sound n r next line f e =
    let g = both-given (item_read line) (item_taken r) next (on-line-given n (line_taken r line) next e) in
    item-sound r next g.0 f g.2

lines-sound : (lines : List (List ℕ)) (n : ℕ) (r : SoFar) (s : Settings) (label : List ℕ) → Sound r → lines_read n r lines ≡ given (s, label)
    → Writable s label × (seen s ≡ s)
unfolding lines_read
lines-sound [] n r s label f e =
    subst (λ (q : Settings × List ℕ). Writable q.0 q.1 × (seen q.0 ≡ q.0)) (same-given (r.settings, r.label) (s, label) e) (
      record { settings_allowed = proper-allowed r.settings f.proper f.is-legal; allowed_label = f.is-label },
      plain-seen r.settings f.proper.sized f.plain,
    )
lines-sound (line ∷ lines) n r s label f e =
    let g = both-given (on_line n (line_taken r line)) (λ next. lines_read (suc n) next lines) (s, label) e in
    lines-sound lines (suc n) g.0 s label (line-sound n r g.0 line f g.1) g.2

pub file_back : (text : List ℕ) (s : Settings) (label : List ℕ) → text_read text ≡ given (s, label) → file_read (setup_file s label) ≡ given (s, label)
file_back text s label e =
    let w = lines-sound (text_lines text) 1 nothing_said s label nothing-sound e in
    read_back s label w.0 ∙ ap (λ (t : Settings). given (t, label)) w.1
