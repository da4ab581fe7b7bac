-- The receiver's state, and one field of it anew.
use Rattle.std.specs.Prelude.{ℕ, false, List, replicate}
use Rattle.mpe_layout.specs.Layout.{layout_of}
use Rattle.mpe_zones.specs.declared.Zones.{Zones}
use Rattle.mpe_receiver.specs.declared.MpeReceiver.{MpeReceiver}

-- no zone, mode 3, every control at rest; sensitivities 0/0 until a zone is announced or set
abbrev pub new_receiver : MpeReceiver
new_receiver =
    record {
      layout = layout_of 0 0;
      lower_mono = false;
      upper_mono = false;
      sensitivity = replicate 8 0;
      pitch_bend = replicate 16 0x2000;
      pressure = replicate 16 0;
      brightness = replicate 16 64;
    }

abbrev pub with_bends : MpeReceiver → List ℕ → MpeReceiver
with_bends r l = record r { pitch_bend = l }

abbrev pub with_pressures : MpeReceiver → List ℕ → MpeReceiver
with_pressures r l = record r { pressure = l }

abbrev pub with_brightnesses : MpeReceiver → List ℕ → MpeReceiver
with_brightnesses r l = record r { brightness = l }

-- the layout, the modes and the sensitivities, apart from the controls of the channels
abbrev pub zones_of : MpeReceiver → Zones
zones_of r =
    record {
      layout = r.layout;
      lower_mono = r.lower_mono;
      upper_mono = r.upper_mono;
      sensitivity = r.sensitivity;
    }

-- other zones, and the channels as they were
abbrev pub with_zones : MpeReceiver → Zones → MpeReceiver
with_zones r z =
    record r {
      layout = z.layout;
      lower_mono = z.lower_mono;
      upper_mono = z.upper_mono;
      sensitivity = z.sensitivity;
    }
