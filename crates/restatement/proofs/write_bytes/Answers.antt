-- `restatement::write_bytes` meets its contract: after each turn the bytes of the messages passed are written.
use Rattle.std.proofs.Common.{◌≡◌, ◌+◌, length, take, get_or, length-append, refl, ap, ◌∙◌, arith}
use lib.Seq.{take_all}
use Rattle.settings.specs.Messages.{bytes_of, bytes}
use Rattle.restatement.proofs.Sets.{chain}
use Rattle.settings.proofs.Bytes.{bytes-more, bytes-within}
use Rattle.restatement.proofs.write_bytes.Goals as goal

pub loop-word-init : goal.loop-word-init
unfolding bytes
loop-word-init c = record { place = refl; written = refl }

pub put_bytes-at-requires : goal.put_bytes-at-requires
put_bytes-at-requires c =
    let ws = c.args.words.now in
    let k = c.loop-word.word-index in
    let m : length (bytes (take (k + 1) ws)) ≡ length (bytes (take k ws)) + length (bytes_of (get_or ws k 0)) =
    ap length (bytes-more ws k (omega arith)) ∙ length-append (bytes (take k ws)) (bytes_of (get_or ws k 0)) in
    let all : take (length ws) ws ≡ ws = take_all (length ws) ws (omega arith) in
    let w = bytes-within ws (k + 1) (length ws) (omega arith) in
    let x = rw all at w in
    omega (arith, m, x, c.requires, c.loop-word.invariant.place)

pub loop-word-preserved : goal.loop-word-preserved
loop-word-preserved c =
    let i = c.loop-word in
    let ws = c.args.words.now in
    let k = i.word-index in
    let m : length (bytes (take (k + 1) ws)) ≡ length (bytes (take k ws)) + length (bytes_of (get_or ws k 0)) =
    ap length (bytes-more ws k (omega arith)) ∙ length-append (bytes (take k ws)) (bytes_of (get_or ws k 0)) in
    let at : i.at ≡ length (bytes (take k ws)) = i.invariant.place in
    record {
      place = omega (arith, c.put_bytes-at.ensures.place, m, at);
      written = rw (bytes-more ws k (omega arith)) (chain c.args.out.now 0 (bytes (take k ws)) (bytes_of (get_or ws k 0)) i.at i.invariant.written (omega arith) c.put_bytes-at.ensures.buffer);
    }
