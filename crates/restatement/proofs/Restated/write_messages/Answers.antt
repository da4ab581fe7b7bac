-- `restatement::Restated::write_messages` meets its contract: each group where the last ended.
use mathlib.Core.Path.{refl}
use Prim.Native.Nat.{◌+◌}
use Rattle.mpe_layout.specs.declared.MpeZone.TheVariants.{Lower, Upper}
use Rattle.settings.specs.Messages.{resets, announcements, sensitivities, modes, deselections, controls, messages}
use Rattle.settings.proofs.Allowed.{allowed-legal}
use Rattle.restatement.proofs.Sets.{Front, more}
use Rattle.settings.proofs.Counts.{resets-length, deselections-length, controls-length, parts-count}
use native.Mathlib.Omega.{arith}
use Rattle.restatement.proofs.Restated.write_messages.Goals as goal

pub write_resets-requires : goal.write_resets-requires
write_resets-requires c = let s = c.args.self.settings in
    omega (arith, parts-count s, c.requires)

pub write_announcements-requires : goal.write_announcements-requires
write_announcements-requires c = let s = c.args.self.settings in
    (omega (arith, parts-count s, c.requires), allowed-legal s c.args.self.is_allowed)

pub write_sensitivities-a-requires : goal.write_sensitivities-a-requires
write_sensitivities-a-requires c = let s = c.args.self.settings in
    omega (arith, parts-count s, c.requires)

pub write_sensitivities-b-requires : goal.write_sensitivities-b-requires
write_sensitivities-b-requires c = let s = c.args.self.settings in
    omega (arith, parts-count s, c.requires, c.write_sensitivities-a.ensures.place)

pub write_mode-c-requires : goal.write_mode-c-requires
write_mode-c-requires c = let s = c.args.self.settings in
    omega (arith, parts-count s, c.requires, c.write_sensitivities-a.ensures.place, c.write_sensitivities-b.ensures.place)

pub write_mode-d-requires : goal.write_mode-d-requires
write_mode-d-requires c = let s = c.args.self.settings in
    omega (arith, parts-count s, c.requires, c.write_sensitivities-a.ensures.place, c.write_sensitivities-b.ensures.place, c.write_mode-c.ensures.place)

pub write_deselections-requires : goal.write_deselections-requires
write_deselections-requires c = let s = c.args.self.settings in
    omega (arith, parts-count s, c.requires, c.write_sensitivities-a.ensures.place, c.write_sensitivities-b.ensures.place, c.write_mode-c.ensures.place, c.write_mode-d.ensures.place)

pub overflow_add-d : goal.overflow_add-d
overflow_add-d c = let s = c.args.self.settings in
    omega (arith, parts-count s, c.requires, c.write_sensitivities-a.ensures.place, c.write_sensitivities-b.ensures.place, c.write_mode-c.ensures.place, c.write_mode-d.ensures.place)

pub write_controls-requires : goal.write_controls-requires
write_controls-requires c = let s = c.args.self.settings in
    omega (arith, parts-count s, c.requires, c.write_sensitivities-a.ensures.place, c.write_sensitivities-b.ensures.place, c.write_mode-c.ensures.place, c.write_mode-d.ensures.place)

pub returns : goal.returns
unfolding messages
returns c = let s = c.args.self.settings in
    let f1 : Front c.args.out.now c.write_resets.new.out resets 16 = record { put = c.write_resets.ensures; long = resets-length } in
    let f2 = more (announcements s.layout) 28 f1 c.write_announcements.ensures refl in
    let f3 = more (sensitivities s Lower) c.write_sensitivities-a.result f2 c.write_sensitivities-a.ensures.buffer c.write_sensitivities-a.ensures.place in
    let f4 = more (sensitivities s Upper) c.write_sensitivities-b.result f3 c.write_sensitivities-b.ensures.buffer c.write_sensitivities-b.ensures.place in
    let f5 = more (modes s Lower) c.write_mode-c.result f4 c.write_mode-c.ensures.buffer c.write_mode-c.ensures.place in
    let f6 = more (modes s Upper) c.write_mode-d.result f5 c.write_mode-d.ensures.buffer c.write_mode-d.ensures.place in
    let f7 = more deselections (c.write_mode-d.result + 32) f6 c.write_deselections.ensures (omega (arith, deselections-length)) in
    (more (controls s) (c.write_mode-d.result + 80) f7 c.write_controls.ensures (omega (arith, controls-length s))).put
