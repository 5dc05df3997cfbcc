use mathlib.Core.Path.{◌≡◌}
use Prim.Native.Nat.{◌≤◌}
use Rattle.index.specs.Marks.{sunk, Fits, Flagged}
use Rattle.index.proofs.pass_block.Given as goal

abbrev pub invariant-loop-p : goal.invariant-loop-p
invariant-loop-p l = (l.base ≤ l.high) × (l.high ≤ l.initial.high) × (sunk l.t l.x l.d l.high ≡ sunk l.t l.initial.x l.initial.d l.initial.high)
    × Fits l.high l.d l.x × Flagged l.high l.x

abbrev pub decreases-loop-p : goal.decreases-loop-p
decreases-loop-p l = l.high
