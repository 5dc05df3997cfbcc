use Prim.Native.Nat.{◌≤◌, ◌-◌}
use lib.ListN.{length}
use Rattle.cnftext.proofs.Clauses.{Counted}
use Rattle.cnftext.proofs.count_clauses.Given as goal

abbrev pub invariant-loop-next : goal.invariant-loop-next
invariant-loop-next l = (l.i ≤ length l.text) × (l.clauses ≤ l.i) × Counted l.vars l.text l.at l.i l.under l.clauses

abbrev pub decreases-loop-next : goal.decreases-loop-next
decreases-loop-next l = length l.text - l.i
