-- `restatement::Restated::write_sensitivities` meets its contract: the part of the buffer comes back with the words of the zone at its front.
use Rattle.std.proofs.Common.{◌≡◌, ◌+◌, ◌-◌, length, ap, ◌∙◌, arith}
use borrow.Rule.Slice.PartMut.{mid_of}
use Rattle.settings.specs.Messages.{sensitivities}
use Rattle.restatement.proofs.Sets.{sets-part}
use Rattle.restatement.proofs.Made.{count-or-0, part-made}
use Rattle.restatement.proofs.Restated.write_sensitivities.Goals as goal

pub overflow_add-result : goal.overflow_add-result
overflow_add-result c =
    let a = c.args in
    let w = part-made a.self.settings a.zone a.at a.out.now c.args.self.is_allowed c.requires in
    let v : c.unwrap_or.result ≡ length (sensitivities a.self.settings a.zone) =
    c.unwrap_or.ensures ∙ count-or-0 c.zone_sensitivity_messages-written.result ∙ rw (c.zone_sensitivity_messages-written.ensures.reply, c.shown_sensitivity-manager.ensures, c.shown_sensitivity-member.ensures) w.count in
    omega (arith, c.requires)

pub returns : goal.returns
returns c =
    let a = c.args in
    let xs = a.out.now in
    let w = part-made a.self.settings a.zone a.at xs c.args.self.is_allowed c.requires in
    let m = c.zone_sensitivity_messages-written in
    let v : c.unwrap_or.result ≡ length (sensitivities a.self.settings a.zone) = c.unwrap_or.ensures ∙ count-or-0 m.result ∙ rw (m.ensures.reply, c.shown_sensitivity-manager.ensures, c.shown_sensitivity-member.ensures) w.count in
    record {
      place = ap (λ k. a.at + k) v;
      buffer = sets-part xs m.new.out (sensitivities a.self.settings a.zone) a.at c.requires (rw (m.ensures.buffer, c.shown_sensitivity-manager.ensures, c.shown_sensitivity-member.ensures) (w.buffer (mid_of a.at (length xs - a.at) xs)));
    }
