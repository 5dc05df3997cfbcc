-- `truth::point_level` meets its contract. Assumes nothing.
use native.Mathlib.Omega.{arith}
use borrow.Author.Tests.{ne_eqb}
use Rattle.truth.specs.Evaluated.{level}
use Rattle.truth.proofs.point_level.Goals as goal

pub returns-in-1 : goal.returns-in-1
unfolding level
returns-in-1 c = simp c.in-1.is

pub returns-in-2 : goal.returns-in-2
unfolding level
returns-in-2 c = simp c.in-2.is

pub returns-in_default : goal.returns-in_default
unfolding level
returns-in_default c = simp (ne_eqb c.args.b 1 (λ q. omega arith), ne_eqb c.args.b 2 (λ q. omega arith))
