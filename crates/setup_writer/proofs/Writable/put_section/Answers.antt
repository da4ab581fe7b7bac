-- `setup_writer::Writable::put_section` meets its contract: after k turns the entries of the numbers below k stand behind the count.
use Prim.Native.Nat.{◌+◌, ◌<◌}
use mathlib.Core.Path.{◌≡◌, refl, sym, ap, ◌∙◌}
use mathlib.Core.List.{flatten}
use native.Mathlib.Omega.{arith}
use native.Mathlib.Numerals.{add-one}
use lib.ListN.{length, length-append}
use Rattle.restatement.proofs.Sets.{chain}
use Rattle.setup_file.specs.Format.{most, entries_from}
use Rattle.setup_writer.proofs.Entries.{next-bytes, next_fits}
use Rattle.setup_writer.proofs.Writable.put_section.Goals as goal

pub loop-k-init : goal.loop-k-init
unfolding entries_from flatten
loop-k-init c = (omega (arith, c.put-place.ensures.place), refl)

pub put_listed-place-requires : goal.put_listed-place-requires
put_listed-place-requires c = let i = c.loop-k in
    let a = c.args in
    let k : i.k < most a.section = rw c.most_entries-k-end.ensures at (let z : i.k < c.most_entries-k-end.result = omega arith in z) in
    let g = next_fits a.section a.self.settings i.k (most a.section) k in
    let h = c.requires in
    let l = i.auto.out ∙ c.put-place.auto.out in
    let p = i.invariant.0 in
    (k, omega arith)

pub loop-k-preserved : goal.loop-k-preserved
loop-k-preserved c = let i = c.loop-k in
    let a = c.args in
    let s = a.section in
    let t = a.self.settings in
    let u = flatten (entries_from s t 0 i.k) in
    let v = flatten (entries_from s t i.k 1) in
    let w : length (flatten (entries_from s t 0 (i.k + 1))) ≡ length u + length v = ap length (next-bytes s t i.k) ∙ length-append u v in
    let p = i.invariant.0 in
    let q = c.put_listed-place.ensures.place in
    (omega arith, rw (next-bytes s t i.k) (chain c.put-place.new.out (a.at + 1) u v i.place i.invariant.1 (sym p) c.put_listed-place.ensures.buffer))

pub returns : goal.returns
returns c = let i = c.loop-k in
    let k : i.k ≡ most c.args.section = omega (arith, c.most_entries-k-end.ensures) in
    let p = rw k at i.invariant.0 in
    record {
      place = omega (arith, p);
      buffer = rw (k, c.put-place.ensures.buffer, c.entry_count.ensures, add-one) at i.invariant.1;
    }
