-- `restatement::write_bytes` meets its contract: after each turn the bytes of the messages passed are written.
use Rattle.std.proofs.Common.{◌≡◌, length, take}
use Rattle.std.proofs.lemmas.List.Edits.{sets}
use Rattle.settings.specs.Messages.{bytes}
use Rattle.restatement.proofs.write_bytes.Given as goal

abbrev pub invariant-loop-word : goal.invariant-loop-word
invariant-loop-word l = record {
  place : l.at ≡ length (bytes (take l.word-index l.words));
  written : l.out ≡ sets l.initial.out 0 (bytes (take l.word-index l.words));
}
