-- `truth::node_levels` meets its contract: before each turn the array has the levels of the blocks passed. Assumes nothing.
use mathlib.Core.Path.{◌≡◌, refl}
use Prim.Native.Nat.{◌+◌, ◌*◌, ◌/◌, ◌%◌}
use native.Mathlib.Omega.{arith}
use Rattle.scope.specs.Table.{list_from}
use Rattle.scope.specs.Truth.{joined}
use Rattle.truth.specs.Evaluated.{level}
use Rattle.truth.proofs.Filling.{filled_none, evaluable_first}
use Rattle.truth.proofs.node_levels.Goals as goal

pub loop-j-init : goal.loop-j-init
loop-j-init c = filled_none _ _ _ c.requires.1

pub block_levels-requires : goal.block_levels-requires
unfolding list_from joined level
block_levels-requires c = record {
  joins_value = refl;
  evaluable = (evaluable_first c.requires.0 (omega (arith, c.loop-j-test.true)) c.loop-j.auto.v, omega arith);
  filled = c.loop-j.invariant;
}

pub loop-j-preserved : goal.loop-j-preserved
loop-j-preserved c = let j = c.loop-j.j in
    let next : 63 * j + 63 ≡ 63 * (j + 1) = omega arith in
    rw next at c.block_levels.ensures

pub block_levels-requires-2 : goal.block_levels-requires-2
unfolding list_from joined level
block_levels-requires-2 c = let nodes = c.args.nodes in
    let q : c.loop-j.j ≡ nodes / 63 = omega (arith, c.loop-j-test.false) in
    record {
      joins_value = refl;
      evaluable = (evaluable_first c.requires.0 (omega arith) c.loop-j.auto.v, omega arith);
      filled = rw q at c.loop-j.invariant;
    }

pub returns : goal.returns
returns c = let nodes = c.args.nodes in
    let all : 63 * (nodes / 63) + nodes % 63 ≡ nodes = omega arith in
    rw all at c.block_levels-2.ensures
