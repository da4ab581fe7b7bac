-- `restatement::Restated::write_mode` meets its contract: the mode message that is made for the zone, if any.
use Rattle.std.proofs.Common.{◌≡◌, ℕ, eqb, [], ◌∷◌, ◌+◌, length, ap, ◌∙◌, arith}
use Rattle.std.proofs.lemmas.List.Edits.{sets}
use Rattle.ump.specs.Outcome.{Outcome, given, out_of_range, all_of}
use Rattle.mpe_sender.specs.Writers.{mode_message}
use Rattle.settings.specs.Settings.{shown_mode}
use Rattle.settings.specs.Messages.{modes, words_in}
use Rattle.restatement.proofs.Made.{mode-made}
use Rattle.restatement.proofs.Restated.write_mode.Goals as goal

pub returns-in-Ok : goal.returns-in-Ok
returns-in-Ok c =
    let a = c.args in
    let s = a.self.settings in
    let z = a.zone in
    let p : given c.in-Ok.message ≡ mode_message s.layout z (eqb (shown_mode s z) 4) = c.in-Ok.ensures ∙ ap (λ t. mode_message s.layout z (eqb t 4)) c.shown_mode-mono.ensures in
    let e : c.in-Ok.message ∷ [] ≡ modes s z = ap (λ o. words_in (all_of (o ∷ []))) p ∙ mode-made s z c.args.self.is_allowed in
    record {
      place = c.put.ensures.place ∙ ap (λ l. a.at + length l) e;
      buffer = c.put.ensures.buffer ∙ ap (λ l. sets a.out.now a.at l) e;
    }

pub returns-in-Err : goal.returns-in-Err
returns-in-Err c =
    let a = c.args in
    let s = a.self.settings in
    let z = a.zone in
    let p : ◌≡◌ {A = Outcome ℕ} out_of_range (mode_message s.layout z (eqb (shown_mode s z) 4)) = c.in-Err.ensures ∙ ap (λ t. mode_message s.layout z (eqb t 4)) c.shown_mode-mono.ensures in
    let e : [] ≡ modes s z = ap (λ o. words_in (all_of (o ∷ []))) p ∙ mode-made s z c.args.self.is_allowed in
    record {
      place = omega (arith, ap length e);
      buffer = ap (λ l. sets a.out.now a.at l) e;
    }
