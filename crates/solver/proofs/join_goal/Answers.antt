-- `solver::join_goal` meets its contract. Assumes nothing.
use mathlib.Core.Path.{sym, ◌∙◌}
use lib.ListN.{get_or}
use Rattle.trail.proofs.Codes.{code_fails, code_else}
use Rattle.solver.proofs.Goals.{enlisted_false, enlisted_shut}
use native.Mathlib.Omega.{arith}
use Rattle.solver.proofs.join_goal.Goals as goal

pub returns-then-v-eq2 : goal.returns-then-v-eq2
returns-then-v-eq2 c = enlisted_false (get_or c.args.goals.now c.args.k 0) c.requires.stands.0 c.requires.indexed.few _ c.put_off.ensures
    (code_fails _ (sym c.value-v.ensures ∙ c.if-v-eq2.true))

pub returns : goal.returns
returns c = let v = code_else _ c.value-v.ensures c.if-v-eq1.false c.if-v-eq2.false in
    enlisted_shut (get_or c.args.goals.now c.args.k 0) v c.enlist.ensures.stands_2 c.enlist.ensures.work_after c.requires.indexed.few _
    c.put_off-2.ensures (omega (arith, c.if-work-ge-NONE.false))
