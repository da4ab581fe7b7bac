-- The classes of messages (M1-100, Appendix E, Table 5).
use Rattle.std.specs.Prelude.{Bool, true, false}
use Rattle.ump.specs.Choice.{when◌then◌else◌}
use Rattle.mpe_class.specs.declared.MpeMessage.{MpeMessage}
use Rattle.mpe_class.specs.declared.MpeMessage.TheVariants.{Mcm, PitchBendSensitivity, PitchBend, ChannelPressure, Brightness, PolyPressure, AllSoundOff, ResetAllControllers, LocalControl, AllNotesOff, OmniOff, OmniOn, MonoModeOn, PolyModeOn, OtherControlChange, OtherRpn, Nrpn, ProgramChange, BankSelect, Note, System}
use Rattle.mpe_class.specs.declared.MpeClass.{MpeClass}
use Rattle.mpe_class.specs.declared.MpeClass.TheVariants.{Mandatory as M, Optional as O, Prohibited as P}
use Rattle.mpe_class.specs.declared.Row.{Row}

-- manager transmits, manager receives, member transmits, member receives
abbrev pub row : MpeClass → MpeClass → MpeClass → MpeClass → Row
row a b c d = (a, b, c, d)

-- Program Change and Bank Select by the zone's mode: mono is Mode 4, else Mode 3
abbrev pub by_mode : Bool → Row
by_mode true = row O O O O
by_mode false = row O O P P

abbrev pub row_of : MpeMessage → Bool → Row
row_of Mcm mono = row M M P P
row_of PitchBendSensitivity mono = row O M O M
row_of PitchBend mono = row O M O M
row_of ChannelPressure mono = row O M O M
row_of Brightness mono = row O M O M
row_of PolyPressure mono = row O O P P
row_of AllSoundOff mono = row P P O O
row_of ResetAllControllers mono = row O O O O
row_of LocalControl mono = row O O O O
row_of AllNotesOff mono = row O O O O
row_of OmniOff mono = row O O O O
row_of OmniOn mono = row P P P P
row_of MonoModeOn mono = row P P O O
row_of PolyModeOn mono = row P P O O
row_of OtherControlChange mono = row O O O O
row_of OtherRpn mono = row O O O O
row_of Nrpn mono = row O O O O
row_of ProgramChange mono = by_mode mono
row_of BankSelect mono = by_mode mono
row_of Note mono = row O M M M
row_of System mono = row O O O O

abbrev pub column_of : Row → Bool → Bool → MpeClass
column_of r manager transmit =
    when manager then (when transmit then r.0 else r.1) else when transmit then r.2 else r.3

abbrev pub class_of : MpeMessage → Bool → Bool → Bool → MpeClass
class_of message manager transmit mono = column_of (row_of message mono) manager transmit
