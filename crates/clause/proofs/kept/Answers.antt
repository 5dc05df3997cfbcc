-- `clause::kept` meets its contract. Assumes nothing.
use mathlib.Core.Path.{ap}
use Prim.Native.Nat.{◌+◌, ◌*◌, ◌/◌, ◌%◌}
use borrow.Author.Tests.{ne_eqb}
use Rattle.clause.specs.Classed.{kept_by}
use Rattle.clause.proofs.kept.Goals as goal

pub returns-then-class-eq0 : goal.returns-then-class-eq0
unfolding kept_by
returns-then-class-eq0 c = rw c.if-class-eq0.true

pub returns : goal.returns
unfolding kept_by
returns c = rw (ne_eqb (c.args.class % 2) 0 c.if-class-eq0.false) (ap (◌+ c.args.class / 4096 * 4096) c.negated.ensures)
