-- `cnfwords::word_end` meets its contract: the bytes passed are of the word. Assumes nothing.
use mathlib.Core.Path.{◌∙◌, sym}
use Rattle.cnfwords.proofs.Words.{byte_joins}
use native.Mathlib.Omega.{arith}
use Rattle.cnfwords.proofs.word_end.Goals as goal

pub loop-i-preserved : goal.loop-i-preserved
loop-i-preserved c = c.loop-i.invariant ∙ byte_joins _ _ c.loop-i-test.true _ (omega arith) (sym c.is_separator.ensures ∙ c.if-is_separator.false)
