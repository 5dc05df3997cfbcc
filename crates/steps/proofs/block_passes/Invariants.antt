-- `steps::block_passes` meets its contract: the steps looked at pass, if `fine` says so. Assumes nothing.
use mathlib.Core.Path.{◌≡◌}
use mathlib.Core.Bool.{true}
use Prim.Native.Nat.{◌*◌}
use Rattle.steps.proofs.Quick.{Pass}
use Rattle.steps.proofs.block_passes.Given as goal

abbrev pub invariant-loop-i : goal.invariant-loop-i
invariant-loop-i l = l.fine ≡ true → Pass l.d l.version (126 * l.j) l.i
