-- `setup_writer::setup_bytes` meets its contract: refused, too small, or the file; and the reader takes the bytes that were written.
use Prim.Native.Nat.{ℕ}
use mathlib.Core.Path.{◌≡◌, refl, sym, ap, ◌∙◌}
use mathlib.Core.List.{◌∷◌, ◌++◌}
use native.Mathlib.Omega.{arith}
use lib.ListN.{length, take, drop, length-append}
use lib.Seq.{sets, length-sets}
use Rattle.ump.specs.Outcome.{Outcome, given}
use Rattle.zone_sender.specs.Zone.{filled}
use Rattle.restatement.proofs.Sets.{chain, sets-front, take-front}
use Rattle.restatement.proofs.Reply.{same_count}
use Rattle.setup_file.specs.declared.Section.TheVariants.{Zones, Channels}
use Rattle.setup_file.specs.Format.{section_of, setup_file}
use Rattle.setup_file.specs.Read.{file_read}
use Rattle.setup_file.proofs.ReadBack.{read_back}
use Rattle.setup_writer.proofs.Sizes.{label_at_most, parts-long, file-sizes}
use Rattle.setup_writer.proofs.Replies.{counted}
use Rattle.setup_writer.proofs.setup_bytes.Goals as goal

pub returns-in_err-count-clause-sizes : goal.returns-in_err-count-clause-sizes
returns-in_err-count-clause-sizes c = file-sizes

pub invariant_of-writable : goal.invariant_of-writable
invariant_of-writable c = record { is_allowed = (counted c.args.settings c.args.label.now _ _ c.in_ok-count.ensures).writable.settings_allowed }

pub put_section-channels-requires : goal.put_section-channels-requires
put_section-channels-requires c = let a = c.args in
    let s = a.settings in
    let l = a.label.now in
    let p = c.in_ok-count.ensures in
    let q = counted s l _ _ p in
    let f = q.fits in
    let z = parts-long s l in
    omega arith

pub put_section-end-requires : goal.put_section-end-requires
put_section-end-requires c = let a = c.args in
    let s = a.settings in
    let l = a.label.now in
    let p = c.in_ok-count.ensures in
    let q = counted s l _ _ p in
    let f = q.fits in
    let z = parts-long s l in
    let o = a.out.now in
    let e : length c.put_section-channels.new.out ≡ length o = ap length c.put_section-channels.ensures.buffer ∙ length-sets o 0 (section_of Zones s) in
    let n = c.put_section-channels.ensures.place in
    omega arith

pub put_label-requires : goal.put_label-requires
put_label-requires c = let a = c.args in
    let s = a.settings in
    let l = a.label.now in
    let p = c.in_ok-count.ensures in
    let q = counted s l _ _ p in
    let f = q.fits in
    let z = parts-long s l in
    let o = a.out.now in
    let e : length c.put_section-channels.new.out ≡ length o = ap length c.put_section-channels.ensures.buffer ∙ length-sets o 0 (section_of Zones s) in
    let g : length c.put_section-end.new.out ≡ length c.put_section-channels.new.out =
    ap length c.put_section-end.ensures.buffer ∙ length-sets c.put_section-channels.new.out c.put_section-channels.result (section_of Channels s) in
    let n = c.put_section-channels.ensures.place in
    let m = c.put_section-end.ensures.place in
    (label_at_most l q.writable.allowed_label, omega arith)

pub returns : goal.returns
returns c = let a = c.args in
    let s = a.settings in
    let l = a.label.now in
    let p = c.in_ok-count.ensures in
    let q = counted s l _ _ p in
    let f = q.fits in
    let z = parts-long s l in
    let o = a.out.now in
    let x = setup_file s l in
    let n = c.put_section-channels.ensures.place in
    let m = c.put_section-end.ensures.place in
    let two : c.put_section-end.new.out ≡ sets o 0 (section_of Zones s ++ section_of Channels s) =
    chain o 0 (section_of Zones s) (section_of Channels s) c.put_section-channels.result c.put_section-channels.ensures.buffer (sym n) c.put_section-end.ensures.buffer in
    let h = length-append (section_of Zones s) (section_of Channels s) in
    let all : c.put_label.new.out ≡ sets o 0 x =
    chain o 0 (section_of Zones s ++ section_of Channels s) (length l ∷ l) c.put_section-end.result two (omega arith) c.put_label.ensures in
    let e : c.put_label.new.out ≡ x ++ drop (length x) o = all ∙ sets-front o x q.fits in
    let first : take (length x) c.put_label.new.out ≡ x = ap (take (length x)) all ∙ take-front o x (length x) refl q.fits in
    let written : (i : ℕ) → ◌≡◌ {A = Outcome ℕ} (given _) (given i) → take i c.put_label.new.out ≡ x =
    λ i g. ap (λ r. take r c.put_label.new.out) (sym (same_count g) ∙ sym q.is-needed) ∙ first in record {
      reply = p;
      buffer = e ∙ ap (λ i. filled (given i) x o) q.is-needed ∙ ap (λ r. filled r x o) p;
      read_back = λ i g. ap file_read (written i g) ∙ read_back s l q.writable;
      sizes = file-sizes;
    }
