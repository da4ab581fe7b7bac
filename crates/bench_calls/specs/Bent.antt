-- Settings for the benchmarks: two zones of seven, and one bend on every channel.
use Rattle.std.specs.Prelude.{ℕ, replicate}
use Rattle.mpe_layout.specs.Layout.{layout_of}
use Rattle.settings.specs.declared.Settings.{Settings}
use Rattle.settings.specs.Settings.{new_zone}

abbrev pub bent_to : ℕ → Settings
bent_to bend =
    record {
      layout = layout_of 7 7;
      lower = new_zone;
      upper = new_zone;
      pitch_bend = replicate 16 bend;
      pressure = replicate 16 0;
      brightness = replicate 16 64;
    }
