-- `truth::join_three` meets its contract. Assumes nothing.
use mathlib.Core.List.{[], ◌∷◌}
use mathlib.Core.Path.{◌∙◌}
use Prim.Native.Nat.{◌-◌}
use native.Mathlib.Omega.{arith}
use Rattle.scope.specs.Truth.{joined}
use Rattle.scope.specs.Kleene.{kleene}
use Rattle.truth.specs.Evaluated.{truth_of}
use Rattle.truth.proofs.Levels.{truth_of_level, at_most, join_twice}
use Rattle.truth.proofs.join_three.Goals as goal

pub join-requires-2 : goal.join-requires-2
join-requires-2 c = record {
  joins_value = c.requires.joins_value;
  lt_kind = (
    omega (arith, c.requires.le_kind.0),
    omega (arith, c.requires.le_kind.1),
    c.requires.le_kind.2,
    at_most (joined kleene (c.args.kind - 4) (truth_of c.args.y ∷ truth_of c.args.z ∷ [])) c.join.ensures,
  );
}

pub returns : goal.returns
returns c = c.join-2.ensures
    ∙ simp (
      c.join.ensures,
      truth_of_level,
      join_twice c.args.kind c.requires.le_kind.0 c.requires.le_kind.1 (truth_of c.args.x) (truth_of c.args.y) (truth_of c.args.z),
    )
