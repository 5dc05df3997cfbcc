use mathlib.Core.Path.{◌≡◌}
use Prim.Native.Nat.{◌<◌, ◌-◌, ◌*◌}
use Rattle.scope.specs.Outcome.{first}
use Rattle.scope.specs.Table.{block_rows}
use Rattle.repeats.specs.Chains.{Chains}
use Rattle.table.proofs.verdict.Given as goal

abbrev pub invariant-loop-j : goal.invariant-loop-j
invariant-loop-j l = record {
  chained : l.j < l.blocks → Chains l.t l.chains (63 * l.j);
  left : first (block_rows l.t) l.j (l.blocks - l.j) ≡ first (block_rows l.t) 0 l.blocks;
}
