-- An end whose reader is sound, with sixteen channels' parameters and a well formed receiver: every one that calls on a new end lead to.
use Rattle.std.specs.Prelude.{◌≡◌, List, length}
use Rattle.mpe_receiver.specs.WellFormed.{ReceiverFormed}
use Rattle.receiving_end.specs.declared.end.End.{End}
use Rattle.byte_reader.specs.Reader.{Sound}
use Rattle.receiving_end.specs.End.{new_end}
use Rattle.receiving_end.specs.Lists.{Call, after}

pub record EndFormed (e : End) : Type 0 where
  pub reader_sound : Sound e.reader
  pub channels : length e.parameters ≡ 16
  pub receiver_formed : ReceiverFormed e.receiver

-- whatever was called on a new end, its layout is legal, its reader sound, and its lists have their lengths
abbrev pub AlwaysFormed : Type 0
AlwaysFormed = (calls : List Call) → EndFormed (after new_end calls)
