use mathlib.Core.Path.{◌≡◌}
use Prim.Native.Nat.{◌+◌, ◌≤◌, ◌*◌, ◌%◌}
use lib.ListN.{drop}
use Rattle.scope.specs.Block.{weight, weighted}
use Rattle.checksum.proofs.part_of.Given as goal

abbrev pub invariant-loop-j : goal.invariant-loop-j
invariant-loop-j l = record {
  summed : l.sum % 65521 ≡ (l.first * weighted (drop l.at l.b) l.j) % 65521;
  high : l.sum ≤ 133728361 + l.j * 8355585;
  low : 133728361 ≤ l.sum + l.j * 8355585;
  power : l.power ≡ (l.first * weight l.j) % 65521;
}
