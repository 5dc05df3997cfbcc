-- `moves::conflict_at` meets its contract. Assumes nothing.
use Rattle.moves.proofs.Moves.{base_low, on_few, conflict-position}
use native.Mathlib.Omega.{arith}
use Rattle.moves.proofs.conflict_at.Goals as goal

pub overflow_add-q : goal.overflow_add-q
overflow_add-q c = omega (arith, on_few c.conflict_clause-j.ensures, c.requires.q_value.1)

pub keep-requires : goal.keep-requires
keep-requires c = (c.requires.holds.ready.size, omega (arith, on_few c.conflict_clause-j.ensures, c.requires.q_value.1))

pub overflow_add-result : goal.overflow_add-result
overflow_add-result c = let o = c.conflict_clause-j.ensures in
    let b = base_low c.requires.indexed.few c.requires.goals c.requires.holds c.args.q (omega (arith, o.held)) in
    omega (arith, on_few o, c.base-base.ensures, b)

pub returns : goal.returns
returns c = let q = c.requires.q_value in
    conflict-position c.requires.indexed.few c.requires.goals c.requires.holds q.0 q.1 c.conflict_clause-j.ensures
    c.keep.ensures c.base-base.ensures
