-- How long a setup file is.
-- Assumes nothing.
use Prim.Native.Nat.{ℕ, zero, suc, ◌+◌, ◌*◌, ◌≤◌}
use mathlib.Core.Path.{◌≡◌, sym, ap, ◌∙◌}
use mathlib.Core.Bool.{true}
use mathlib.Core.List.{List, ◌∷◌, ◌++◌, flatten}
use native.Mathlib.Omega.{arith}
use native.Mathlib.Nat.{mul-zero, mul-suc}
use lib.Dec.{ltb}
use lib.ListN.{length, length-append}
use borrow.Author.Tests.{ltb-false}
use Rattle.ump.proofs.Cases.{by-test}
use Rattle.settings.specs.declared.Settings.{Settings}
use Rattle.settings.proofs.Allowed.{passed}
use Rattle.setup_file.specs.declared.Section.{Section}
use Rattle.setup_file.specs.declared.Section.TheVariants.{Zones, Channels}
use Rattle.setup_file.specs.Format.{entry_size, entry_of, unlisted, entries_from, entries_of, section_of, most_label, printable, label_allowed, setup_file}
use Rattle.setup_writer.specs.Reply.{FileSizes}
use Rattle.setup_writer.proofs.Entries.{entry_long, count_at_most}

-- each entry has its size
entries-long : (section : Section) (s : Settings) (n k : ℕ) → length (flatten (entries_from section s k n)) ≡ entry_size section * length (entries_from section s k n)
unfolding flatten entries_from
entries-long section s zero k = sym (mul-zero (entry_size section))
entries-long section s (suc n) k =
    let i = entries-long section s n (suc k) in
    by-test (unlisted section (entry_of section s k))
    (λ t. rw t i)
    (λ f. rw f
    (length-append (entry_of section s k) (flatten (entries_from section s (suc k) n))
    ∙ rw (entry_long section s k, i, mul-suc (entry_size section) (length (entries_from section s (suc k) n))) (more section (length (entries_from section s (suc k) n)))))
  where
    more : (section : Section) (m : ℕ) → entry_size section + entry_size section * m ≡ entry_size section * m + entry_size section
    more Zones m = omega arith
    more Channels m = omega arith

-- a label that is allowed has at most 32 bytes
pub label_at_most : (label : List ℕ) → label_allowed label ≡ true → length label ≤ 32
unfolding label_allowed
label_at_most label h = ltb-false most_label (length label) (passed (ltb most_label (length label)) (printable label) h).0

-- its three parts
pub parts-long : (s : Settings) (label : List ℕ) → length (setup_file s label) ≡ length (section_of Zones s) + length (section_of Channels s) + suc (length label)
parts-long s label =
    length-append (section_of Zones s ++ section_of Channels s) (length label ∷ label)
    ∙ ap (λ n. n + suc (length label)) (length-append (section_of Zones s) (section_of Channels s))

pub file_size : (s : Settings) (label : List ℕ)
    → length (setup_file s label) ≡ 3 + 7 * length (entries_of Zones s) + 5 * length (entries_of Channels s) + length label
file_size s label =
    let z = entries-long Zones s 2 0 in
    let c = entries-long Channels s 16 0 in
    parts-long s label ∙ rw (z, c) (omega arith)

pub file-sizes : FileSizes
file-sizes =
    record {
      size = file_size;
      at_most = λ s label w.
          let z = count_at_most Zones s 2 0 in
          let c = count_at_most Channels s 16 0 in
          let l = label_at_most label w.allowed_label in
          rw (file_size s label) (omega arith);
    }
