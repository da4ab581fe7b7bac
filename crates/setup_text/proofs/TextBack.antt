-- The text of settings and a label says them: its lines are taken one after the other, as the entries of the file are.
-- Assumes nothing.
use Prim.Native.Nat.{ℕ, zero, suc, ◌+◌, ◌-◌, ◌<◌, ◌≤◌}
use mathlib.Core.Path.{◌≡◌, refl, sym, ap, ap₂, subst, ◌∙◌}
use mathlib.Core.Bool.{Bool, true, false}
use mathlib.Core.List.{List, [], ◌∷◌, ◌++◌, flatten, append_assoc}
use native.Mathlib.Nat.{le_refl}
use native.Mathlib.Omega.{arith}
use lib.Dec.{leb, ltb, eqb}
use lib.ListN.{length, drop}
use borrow.Author.Tests.{leb-true, le-ltb}
use Rattle.ump.specs.Choice.{when◌then◌else◌}
use Rattle.ump.specs.Outcome.{given, out_of_range}
use Rattle.ump.proofs.Cases.{by-test, both}
use Rattle.mpe_layout.specs.Layout.{legal}
use Rattle.mpe_layout.proofs.Legal.{legal-bounds, bounds-legal}
use Rattle.settings.specs.declared.Settings.{Settings}
use Rattle.settings.specs.Settings.{new_settings, allowed}
use Rattle.settings.proofs.Allowed.{passed, allowed-legal}
use Rattle.setup_file.specs.declared.Section.{Section}
use Rattle.setup_file.specs.declared.Section.TheVariants.{Zones, Channels}
use Rattle.setup_file.specs.Format.{most, entry_size, number_in, unlisted, entry_of, entries_from, entries_of, section_of, most_label, printable, label_allowed, seen, settings_with}
use Rattle.setup_file.specs.Read.{and_then, entry_read, entries_read, section_read, zones_read, file_read}
use Rattle.setup_file.specs.Claims.{Writable}
use Rattle.setup_file.proofs.Outcomes.{same-given, not-given, both-given}
use Rattle.setup_file.proofs.Entries.{own-front, own-rest, own-number, placed-front}
use Rattle.setup_file.proofs.Taken.{taken-read, read_taken, own-within}
use Rattle.setup_file.proofs.ReadBack.{read_back}
use Rattle.setup_file.proofs.Rewritten.{unless, label-back}
use Rattle.sweep_text.specs.Line.{line_end}
use Rattle.setup_text.specs.Text.{numbers_of, line_of, lines_of, label_start, label_line, setup_text}
use Rattle.setup_text.specs.Parse.{parts_at, same_bytes, says_label, item_read, SoFar, so_far, first_place, label_place, entry_taken, label_taken, item_taken, on_line, lines_read, text_read}
use Rattle.setup_text.proofs.Parts.{Without, without-append, parts_more}
use Rattle.setup_text.proofs.Spoken.{body, body-without, own-item}

-- no zone has more members than in s
record Under (t s : Settings) : Type 0 where
  pub lower-le : t.layout.lower ≤ s.layout.lower
  pub upper-le : t.layout.upper ≤ s.layout.upper

under-legal : (t s : Settings) → Under t s → legal s.layout ≡ true → legal t.layout ≡ true
under-legal t s u h =
    let b = legal-bounds s.layout h in
    bounds-legal t.layout
    (record {
      in-lower = omega (arith, b.in-lower, u.lower-le);
      in-upper = omega (arith, b.in-upper, u.upper-le);
      in_both = λ l m. let n = b.in_both (omega (arith, u.lower-le)) (omega (arith, u.upper-le)) in omega (arith, u.lower-le, u.upper-le);
    })

under-placed : (section : Section) (s t : Settings) (k : ℕ) → Under t s → Under (settings_with section (entry_of section s k) t) s
under-placed Zones s t k u =
    by-test (eqb k 0)
    (λ e. rw e (record { lower-le = le_refl s.layout.lower; upper-le = u.upper-le }))
    (λ e. rw e (record { lower-le = u.lower-le; upper-le = le_refl s.layout.upper }))
under-placed Channels s t k u = record { lower-le = u.lower-le; upper-le = u.upper-le }

-- a line that is taken leaves those behind it
line_on : (i : ℕ) (r next : SoFar) (line rest : List ℕ) → Without 0x0A line → and_then (item_read line) (item_taken r) ≡ given next
    → lines_read i r (parts_at 0x0A (line ++ (0x0A ∷ rest))) ≡ lines_read (suc i) next (parts_at 0x0A rest)
unfolding lines_read
line_on i r next line rest w e =
    ap (lines_read i r) (parts_more 0x0A line rest w) ∙ ap (λ o. and_then (on_line i o) (λ n. lines_read (suc i) n (parts_at 0x0A rest))) e

-- a listed entry is taken at its place
own_read : (section : Section) (s : Settings) (k least : ℕ) → allowed s ≡ true → k < most section → unlisted section (entry_of section s k) ≡ false → least ≤ k
    → entry_read section least (entry_of section s k) ≡ given k
own_read section s k least h b u l =
    taken-read section least (entry_of section s k)
    (record { long = own-size section; within = own-within section s k h b u; rising = rw (number_is section) l; listed = u })
    ∙ ap given (number_is section)
  where
    own-size : (n : Section) → entry_size n ≤ length (entry_of n s k)
    own-size Zones = omega arith
    own-size Channels = omega arith

    number_is : (n : Section) → number_in (entry_of n s k) ≡ k
    number_is Zones = refl
    number_is Channels = refl

own-entry-taken : (section : Section) (s t : Settings) (k least : ℕ) (label : List ℕ) → allowed s ≡ true → k < most section
    → unlisted section (entry_of section s k) ≡ false → Under t s → least ≤ first_place section + k
    → entry_taken section (entry_of section s k) (so_far t label least)
    ≡ given (so_far (settings_with section (entry_of section s k) t) label (suc (first_place section + k)))
unfolding entry_taken
own-entry-taken section s t k least label h b u under l =
    let e = entry_of section s k in
    let g = under-legal (settings_with section e t) s (under-placed section s t k under) (allowed-legal s h) in
    rw (own_read section s k (least - first_place section) h b u (omega arith), g)

-- the line of a listed entry, at its place
entry-on : (section : Section) (s t : Settings) (k i least : ℕ) (label rest : List ℕ) → allowed s ≡ true → k < most section
    → unlisted section (entry_of section s k) ≡ false → Under t s → least ≤ first_place section + k
    → lines_read i (so_far t label least) (parts_at 0x0A (line_of section (entry_of section s k) ++ rest))
    ≡ lines_read (suc i) (so_far (settings_with section (entry_of section s k) t) label (suc (first_place section + k))) (parts_at 0x0A rest)
entry-on section s t k i least label rest h b u under l =
    let e = entry_of section s k in
    ap (λ x. lines_read i (so_far t label least) (parts_at 0x0A x)) (append_assoc (body section (numbers_of section e)) line_end rest)
    ∙ line_on i (so_far t label least) (so_far (settings_with section e t) label (suc (first_place section + k))) (body section (numbers_of section e)) rest
    (body-without section (numbers_of section e))
    (ap (λ o. and_then o (item_taken (so_far t label least))) (own-item section s k (own-within section s k h b u))
    ∙ own-entry-taken section s t k least label h b u under l)

-- lines that lead from t to t', from any least place up to `first` on, and leave one up to `last`
record Leads (s t t' : Settings) (first last : ℕ) (lines : List ℕ) : Type 0 where
  pub under : Under t' s
  pub on : (i least : ℕ) (label rest : List ℕ) → least ≤ first
      → (j : ℕ) × (next : ℕ) × (next ≤ last) × (lines_read i (so_far t label least) (parts_at 0x0A (lines ++ rest)) ≡ lines_read j (so_far t' label next) (parts_at 0x0A rest))

none-lead : (s t : Settings) (first last : ℕ) → first ≤ last → Under t s → Leads s t t first last []
none-lead s t first last h u = record { under = u; on = λ i least label rest l. (i, least, omega arith, refl) }

later-lead : (s t t' : Settings) (first later last : ℕ) (lines : List ℕ) → first ≤ later → Leads s t t' later last lines → Leads s t t' first last lines
later-lead s t t' first later last lines h d = record { under = d.under; on = λ i least label rest l. d.on i least label rest (omega arith) }

-- one listed entry, and those after it, read from the file's bytes and from the text
one-lead : (section : Section) (s : Settings) → allowed s ≡ true → (k low : ℕ) → k < most section → unlisted section (entry_of section s k) ≡ false
    → (entries : List (List ℕ)) (t t' : Settings) (bytes bytes' : List ℕ) → Under t s
    → (let more = flatten entries ++ bytes in
    and_then (entry_read section low (entry_of section s k ++ more))
    (λ n. entries_read section (length entries) (suc n) (settings_with section (entry_of section s k ++ more) t) (drop (entry_size section) (entry_of section s k ++ more)))
    ≡ given (t', bytes'))
    → (entries_read section (length entries) (suc k) (settings_with section (entry_of section s k) t) (flatten entries ++ bytes) ≡ given (t', bytes')
    → (bytes' ≡ bytes) × Leads s (settings_with section (entry_of section s k) t) t' (first_place section + suc k) (first_place section + most section) (lines_of section entries))
    → (bytes' ≡ bytes) × Leads s t t' (first_place section + k) (first_place section + most section) (line_of section (entry_of section s k) ++ lines_of section entries)
one-lead section s h k low b u entries t t' bytes bytes' under e next =
    let entry = entry_of section s k in
    let more = flatten entries ++ bytes in
    let g = both-given (entry_read section low (entry ++ more)) _ (t', bytes') e in
    let number : g.0 ≡ k = (read_taken section low (entry ++ more) g.1).1 ∙ own-number section s k more in
    let placed : settings_with section (entry ++ more) t ≡ settings_with section entry t =
    sym (placed-front section (entry ++ more) t) ∙ ap (λ l. settings_with section l t) (own-front section s k more) in
    let same : entries_read section (length entries) (suc g.0) (settings_with section (entry ++ more) t) (drop (entry_size section) (entry ++ more))
    ≡ entries_read section (length entries) (suc k) (settings_with section entry t) more =
    ap₂ (λ n w. entries_read section (length entries) (suc n) w (drop (entry_size section) (entry ++ more))) number placed
    ∙ ap (entries_read section (length entries) (suc k) (settings_with section entry t)) (own-rest section s k more) in
    let d = next (sym same ∙ g.2) in (
      d.0,
      record {
        under = d.1.under;
        on = λ i least label rest l.
            let z : suc (first_place section + k) ≤ first_place section + suc k = omega arith in
            let r = d.1.on (suc i) (suc (first_place section + k)) label rest z in (
              r.0,
              r.1,
              r.2,
              ap (λ x. lines_read i (so_far t label least) (parts_at 0x0A x)) (append_assoc (line_of section entry) (lines_of section entries) rest)
                  ∙ entry-on section s t k i least label (lines_of section entries ++ rest) h b u under l
                  ∙ r.3,
            );
      },
    )

entries-lead : (section : Section) (s : Settings) → allowed s ≡ true → (n k low : ℕ) → k + n ≡ most section → (t t' : Settings) (bytes bytes' : List ℕ) → Under t s
    → entries_read section (length (entries_from section s k n)) low t (flatten (entries_from section s k n) ++ bytes) ≡ given (t', bytes')
    → (bytes' ≡ bytes) × Leads s t t' (first_place section + k) (first_place section + most section) (lines_of section (entries_from section s k n))
unfolding entries_from entries_read flatten
entries-lead section s h zero k low c t t' bytes bytes' u e =
    let p = same-given (t, bytes) (t', bytes') e in
    subst (λ (q : Settings × List ℕ). (q.1 ≡ bytes) × Leads s t q.0 (first_place section + k) (first_place section + most section) []) p (
      refl,
      none-lead s t (first_place section + k) (first_place section + most section) (omega arith) u,
    )
entries-lead section s h (suc n) k low c t t' bytes bytes' u e =
    by-test (unlisted section (entry_of section s k))
    (λ v.
    let d = entries-lead section s h n (suc k) low (omega arith) t t' bytes bytes' u (rw v at e) in
    rw v (d.0, later-lead s t t' (first_place section + k) (first_place section + suc k) (first_place section + most section) _ (omega arith) d.1))
    (λ v.
    rw v
    (one-lead section s h k low (omega arith) v (entries_from section s (suc k) n) t t' bytes bytes' u (rw (v, append_assoc) at e)
    (entries-lead section s h n (suc k) (suc k) (omega arith) (settings_with section (entry_of section s k) t) t' bytes bytes' (under-placed section s t k u))))

section-lead : (section : Section) (s : Settings) → allowed s ≡ true → (t t' : Settings) (bytes bytes' : List ℕ) → Under t s
    → section_read section t (section_of section s ++ bytes) ≡ given (t', bytes')
    → (bytes' ≡ bytes) × Leads s t t' (first_place section + 0) (first_place section + most section) (lines_of section (entries_of section s))
section-lead section s h t t' bytes bytes' u e =
    entries-lead section s h (most section) 0 0 (omega arith) t t' bytes bytes' u (unless (ltb (most section) (length (entries_of section s))) _ (t', bytes') e)

-- behind the last line's end there is nothing
over : (i : ℕ) (r : SoFar) → lines_read i r (parts_at 0x0A []) ≡ given (r.settings, r.label)
unfolding lines_read parts_at item_read
over i r = refl

printable-without : (l : List ℕ) → printable l ≡ true → Without 0x0A l
unfolding printable
printable-without [] h = tt
printable-without (b ∷ l) h =
    let p = both _ _ h in
    let q = both (leb 0x20 b) (leb b 0x7E) p.0 in
    (λ e. omega (arith, leb-true 0x20 b q.0), printable-without l p.1)

label-item : (label : List ℕ) → item_read (label_start ++ label) ≡ given (says_label label)
unfolding item_read same_bytes
label-item label = refl

label-taken : (label : List ℕ) (t : Settings) (least : ℕ) → label_allowed label ≡ true → least ≤ label_place
    → label_taken label (so_far t [] least) ≡ given (so_far t label (suc label_place))
unfolding label_taken
label-taken label t least h l = rw (h, le-ltb label_place least l)

label-on : (label : List ℕ) → label_allowed label ≡ true → (t : Settings) (i least : ℕ) → least ≤ label_place
    → lines_read i (so_far t [] least) (parts_at 0x0A (label_line label)) ≡ given (t, label)
unfolding label_allowed
label-on [] h t i least l = over i (so_far t [] least)
label-on (b ∷ label) h t i least l =
    let p = passed (ltb most_label (length (b ∷ label))) _ h in
    line_on i (so_far t [] least) (so_far t (b ∷ label) (suc label_place)) (label_start ++ (b ∷ label)) []
    (without-append 0x0A label_start (b ∷ label) (starts-without) (printable-without (b ∷ label) p.1))
    (ap (λ o. and_then o (item_taken (so_far t [] least))) (label-item (b ∷ label)) ∙ label-taken (b ∷ label) t least h l)
    ∙ over (suc i) (so_far t (b ∷ label) (suc label_place))
  where
    starts-without : Without 0x0A label_start
    starts-without = (λ e. omega arith, (λ e. omega arith, (λ e. omega arith, (λ e. omega arith, (λ e. omega arith, (λ e. omega arith, tt))))))

-- a legal pair changes nothing
pair-kept : (b : Bool) (r q : Settings × List ℕ) → (when b then given r else out_of_range) ≡ given q → r ≡ q
pair-kept true r q e = same-given r q e
pair-kept false r q e = not-given e

pub text-of-settings : (s : Settings) (label : List ℕ) → Writable s label → text_read (setup_text s label) ≡ given (seen s, label)
text-of-settings s label w =
    let h = w.settings_allowed in
    let tail = length label ∷ label in
    let file : file_read (section_of Zones s ++ (section_of Channels s ++ tail)) ≡ given (seen s, label) =
    ap file_read (sym (append_assoc (section_of Zones s) (section_of Channels s) tail)) ∙ read_back s label w in
    let a = both-given (zones_read (section_of Zones s ++ (section_of Channels s ++ tail))) _ (seen s, label) file in
    let z = both-given (section_read Zones new_settings (section_of Zones s ++ (section_of Channels s ++ tail))) _ a.0 a.1 in
    let c = both-given (section_read Channels a.0.0 a.0.1) _ (seen s, label) a.2 in
    let none : Under new_settings s = record { lower-le = omega arith; upper-le = omega arith } in
    let zones = section-lead Zones s h new_settings a.0.0 (section_of Channels s ++ tail) a.0.1 none
    (z.1 ∙ ap given (pair-kept (legal z.0.0.layout) z.0 a.0 z.2)) in
    let channels = section-lead Channels s h a.0.0 c.0.0 tail c.0.1 zones.1.under
    (ap (section_read Channels a.0.0) (sym zones.0) ∙ c.1) in
    let named = label-back c.0.0 (seen s) c.0.1 label c.2 in
    let first = zones.1.on 1 0 [] (lines_of Channels (entries_of Channels s) ++ label_line label) (omega arith) in
    let second = channels.1.on first.0 first.1 [] (label_line label) (omega (arith, first.2)) in
    ap text_read (append_assoc (lines_of Zones (entries_of Zones s)) (lines_of Channels (entries_of Channels s)) (label_line label))
    ∙ first.3
    ∙ second.3
    ∙ label-on label w.allowed_label c.0.0 second.0 second.1 (omega (arith, second.2))
    ∙ ap (λ (t : Settings). given (t, label)) named.1
