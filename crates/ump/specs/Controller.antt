-- Registered Parameter Numbers (MIDI 1.0, Table IIIa; RP-018).
use Rattle.std.specs.Prelude.{ℕ, ◌%◌, eqb}
use Rattle.ump.specs.Choice.{when◌then◌else◌}
use Rattle.ump.specs.declared.controller.Rpn.{Rpn}
use Rattle.ump.specs.declared.controller.Rpn.TheVariants.{PitchBendSensitivity, FineTuning, CoarseTuning, TuningProgramSelect, TuningBankSelect, ModulationDepthRange, Null, Other}
use Rattle.ump.specs.declared.controller.Parts.{Parts}

abbrev pub parts_of : ℕ → ℕ → Parts
parts_of m l = record { msb = m; lsb = l }

-- the numbers that controllers 101 and 100 choose it by; those of another pair as they are given
abbrev pub rpn_given : Rpn → Parts
rpn_given PitchBendSensitivity = parts_of 0 0
rpn_given FineTuning = parts_of 0 1
rpn_given CoarseTuning = parts_of 0 2
rpn_given TuningProgramSelect = parts_of 0 3
rpn_given TuningBankSelect = parts_of 0 4
rpn_given ModulationDepthRange = parts_of 0 5
rpn_given Null = parts_of 0x7F 0x7F
rpn_given (Other m l) = parts_of m l

-- as 7-bit values
abbrev pub rpn_parts : Rpn → Parts
rpn_parts r = parts_of ((rpn_given r).msb % 128) ((rpn_given r).lsb % 128)

-- the one with these 7-bit numbers
unfoldable pub rpn_numbered : ℕ → ℕ → Rpn
rpn_numbered m l =
    when eqb m 0x7F then (when eqb l 0x7F then Null else Other m l) else
    when eqb m 0 then
    (when eqb l 0 then PitchBendSensitivity else when eqb l 1 then FineTuning else when eqb l 2 then CoarseTuning else
    when eqb l 3 then TuningProgramSelect else when eqb l 4 then TuningBankSelect else when eqb l 5 then ModulationDepthRange else
    Other m l)
    else Other m l

-- bit 7 is ignored
abbrev pub rpn_of : ℕ → ℕ → Rpn
rpn_of m l = rpn_numbered (m % 128) (l % 128)
