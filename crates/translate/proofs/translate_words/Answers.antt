-- `translate::translate_words` meets its contract: the words of a list go on from what it answers and leaves.
use native.Mathlib.Omega.{arith}
use Rattle.std.proofs.lemmas.Grind.{common_steps}
use Rattle.translate.proofs.Exact.{continues}
use Rattle.translate.proofs.translate_words.Goals as goal

pub returns-then-not-is_allowed-clause-words : goal.returns-then-not-is_allowed-clause-words
returns-then-not-is_allowed-clause-words c = continues _ _ _ _ (grind (arith, common_steps)) (grind (arith, common_steps))

pub returns-clause-words : goal.returns-clause-words
returns-clause-words c = continues _ _ _ _ (grind (arith, common_steps)) (grind (arith, common_steps))
