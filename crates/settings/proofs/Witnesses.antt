-- Each hypothesis of demand 3 is met, for all allowed settings.
-- Assumes nothing.
use Prim.Native.Nat.{ℕ}
use mathlib.Core.Path.{◌≡◌, refl, subst}
use mathlib.Core.Bool.{true}
use mathlib.Core.List.{List, [], ◌∷◌, map}
use native.Mathlib.Omega.{arith}
use Rattle.mpe_layout.specs.Layout.{legal_counts, legal}
use Rattle.byte_reader.specs.Reader.{class_of_byte, data_step}
use Rattle.receiving_end.specs.End.{new_end, step_of}
use Rattle.receiving_end.specs.Lists.{byte_by_value, after, answers}
use Rattle.settings.specs.declared.Settings.{Settings}
use Rattle.settings.specs.Settings.{allowed}
use Rattle.settings.specs.Messages.{restatement}
use Rattle.settings.specs.Demand.{SwitchesAsNew, Arrives, whole, by_value, lent, between_by_value, Shown}
use Rattle.settings.specs.Witnesses.{example_history, example_answers, clocked, Met}
use Rattle.settings.proofs.Demand.{arrives-received, demand-holds}

none_as_new : SwitchesAsNew new_end
none_as_new = record { rpn_as_new = λ channel. refl; nrpn_as_new = λ channel. refl }

example_answered : answers new_end example_history ≡ example_answers
unfolding legal_counts legal class_of_byte data_step step_of answers
example_answered = refl

example_as_new : SwitchesAsNew (after new_end example_history)
unfolding legal_counts legal class_of_byte data_step step_of after
example_as_new = record { rpn_as_new = λ channel. refl; nrpn_as_new = λ channel. refl }

arrive_by_value : (bytes : List ℕ) → Arrives bytes (map byte_by_value bytes)
arrive_by_value [] = whole
arrive_by_value (b ∷ bytes) = by_value (arrive_by_value bytes)

arrive_clocked : (bytes : List ℕ) → Arrives bytes (clocked bytes)
unfolding clocked
arrive_clocked [] = whole
arrive_clocked (b ∷ bytes) = between_by_value {b = 0xF8} (omega arith) (lent (arrive_clocked bytes))

pub demand-met : (s : Settings) → allowed s ≡ true → Met s (restatement s)
unfolding after
demand-met s h =
    let a = arrive_by_value (restatement s) in
    record {
      none_as_new = none_as_new;
      example_answered = example_answered;
      example_as_new = example_as_new;
      arrive_by_value = a;
      arrive_clocked = arrive_clocked (restatement s);
      shown_alone = subst (Shown s) (arrives-received new_end a) ((demand-holds s h).shown [] (map byte_by_value (restatement s)) none_as_new a);
    }
