use mathlib.Core.Path.{◌≡◌}
use Prim.Native.Nat.{◌-◌}
use Rattle.scope.specs.Outcome.{first}
use Rattle.scope.specs.Table.{record_test}
use Rattle.repeats.specs.Chains.{Chains}
use Rattle.table.proofs.records.Given as goal

abbrev pub invariant-loop-n : goal.invariant-loop-n
invariant-loop-n l = record {
  chained : Chains l.t l.chains l.n;
  left : first (record_test l.t) l.n (l.end - l.n) ≡ first (record_test l.t) l.base (l.end - l.base);
}
