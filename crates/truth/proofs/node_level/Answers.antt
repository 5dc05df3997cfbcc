-- `truth::node_level` meets its contract: its tests of the kind are those of `node_truth`. Assumes nothing.
use mathlib.Core.Path.{◌∙◌}
use Prim.Native.Nat.{◌<◌}
use native.Mathlib.Omega.{arith}
use borrow.Author.Tests.{eq-eqb, ne_eqb}
use Rattle.scope.specs.Truth.{node_truth}
use Rattle.scope.specs.Kleene.{kleene}
use Rattle.truth.specs.Evaluated.{level}
use Rattle.truth.proofs.Levels.{truth_of_level}
use Rattle.truth.proofs.Low.{low_left, low_right, low_third}
use Rattle.truth.proofs.Truths.{node-two, node-three}
use Rattle.truth.proofs.node_level.Goals as goal

pub returns-then-x-eq1 : goal.returns-then-x-eq1
unfolding node_truth level
returns-then-x-eq1 c = record { under = λ w low says. simp (eq-eqb _ _ c.if-x-eq1.true) }

pub bounds-s-point : goal.bounds-s-point
bounds-s-point c = omega (arith, c.requires.in_bounds.0, c.requires.in_bounds.1.point c.if-x-eq2.true)

pub returns-then-x-eq2 : goal.returns-then-x-eq2
unfolding node_truth
returns-then-x-eq2 c = record { under = λ w low says. c.point_level.ensures ∙ simp (ne_eqb _ _ c.if-x-eq1.false, eq-eqb _ _ c.if-x-eq2.true) }

pub bounds-v-x : goal.bounds-v-x
bounds-v-x c =
    let some : 2 < c.args.x.kind = omega (arith, c.requires.in_bounds.1.kinds, c.if-x-eq2.false, c.if-x-eq1.false) in
    omega (arith, low_left c.requires.in_bounds.1 some)

pub bounds-v-x-2 : goal.bounds-v-x-2
bounds-v-x-2 c =
    let some : 2 < c.args.x.kind = omega (arith, c.requires.in_bounds.1.kinds, c.if-x-eq2.false, c.if-x-eq1.false) in
    omega (arith, low_right c.requires.in_bounds.1 some)

pub join-requires : goal.join-requires
join-requires c =
    let some : 2 < c.args.x.kind = omega (arith, c.requires.in_bounds.1.kinds, c.if-x-eq2.false, c.if-x-eq1.false) in
    let levels = c.requires.in_bounds.2 in
    record {
      joins_value = c.requires.joins_value;
      lt_kind = (some, c.if-x-lt7.true, levels _, levels _);
    }

pub returns-then-x-lt7 : goal.returns-then-x-lt7
returns-then-x-lt7 c =
    let some : 2 < c.args.x.kind = omega (arith, c.requires.in_bounds.1.kinds, c.if-x-eq2.false, c.if-x-eq1.false) in
    record {
      under = λ w low says.
          rw (node-two kleene c.args.s.now w c.args.x some c.if-x-lt7.true)
          (c.join.ensures ∙ simp (says c.args.x.a (low_left low some), says c.args.x.b (low_right low some), truth_of_level));
    }

pub bounds-v-x-3 : goal.bounds-v-x-3
bounds-v-x-3 c = omega (arith, low_third c.requires.in_bounds.1 c.if-x-lt7.false)

pub join_three-requires : goal.join_three-requires
join_three-requires c = let levels = c.requires.in_bounds.2 in
    record {
      joins_value = c.requires.joins_value;
      le_kind = (c.if-x-lt7.false, c.requires.in_bounds.1.known, levels _, levels _, levels _);
    }

pub returns : goal.returns
returns c =
    let some : 2 < c.args.x.kind = omega (arith, c.requires.in_bounds.1.kinds, c.if-x-eq2.false, c.if-x-eq1.false) in
    let high = c.if-x-lt7.false in
    record {
      under = λ w low says.
          rw (node-three kleene c.args.s.now w c.args.x high)
          (c.join_three.ensures
          ∙ simp (says c.args.x.a (low_left low some), says c.args.x.b (low_right low some), says c.args.x.c (low_third low high), truth_of_level));
    }
