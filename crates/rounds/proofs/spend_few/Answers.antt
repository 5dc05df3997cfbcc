-- `rounds::spend_few` meets its contract: before each turn the areas hold the round after the turns so far. Assumes nothing.
use mathlib.Core.Path.{◌≡◌, refl}
use native.Mathlib.Omega.{arith}
use Rattle.roomareas.proofs.Sitting.{goal_below}
use Rattle.rounds.proofs.Spending.{spent_starts, spent_all, turns_few, stepped_more}
use Rattle.rounds.proofs.spend_few.Goals as goal

pub loop-spent-init : goal.loop-spent-init
loop-spent-init c = spent_starts c.args.settings.now c.args.verdicts.now c.args.turns.now _ c.args.first c.requires.by_index_2 c.requires.by_index

pub up_next-requires : goal.up_next-requires
up_next-requires c = let f = c.requires.questions_len_bound in
    omega (arith, f.0, f.2, c.loop-spent.auto.verdicts)

pub returns-in_default : goal.returns-in_default
returns-in_default c = spent_all c.loop-spent.invariant refl c.in_default.ensures _ (omega (arith, c.loop-spent-test.true))

pub step_at-requires : goal.step_at-requires
step_at-requires c = let l = c.loop-spent.auto in
    let h = c.in-Some.ensures.1 in
    record {
      indexed = c.requires.indexed;
      pointed = c.requires.pointed;
      goal_bound = goal_below c.requires.goals (omega (arith, h));
      i_lt_most_questions = (
        omega (arith, h, c.requires.questions_len_bound.0),
        omega (arith, h, c.requires.questions_len_bound.1, l.work),
        omega (arith, h, c.requires.questions_in_bounds.0, l.settings),
      );
    }

pub overflow_add-turns : goal.overflow_add-turns
overflow_add-turns c = let few = turns_few c.loop-spent.invariant c.in-Some.w (omega (arith, c.in-Some.ensures.1)) in
    omega (arith, few, c.loop-spent-test.true)

pub loop-spent-preserved : goal.loop-spent-preserved
loop-spent-preserved c = let l = c.loop-spent.auto in
    let h = c.in-Some.ensures.1 in
    stepped_more c.loop-spent.invariant c.in-Some.ensures.0 h c.step_at.ensures
    (omega (arith, h, c.requires.questions_len_bound.0, c.requires.questions_len_bound.2, l.verdicts))
    (omega (arith, h, c.requires.questions_len_bound.0, c.requires.questions_in_bounds.1, l.turns))

pub returns : goal.returns
returns c = let e : c.loop-spent.spent ≡ c.args.allowance = omega (arith, c.loop-spent-test.false, c.loop-spent.auto.spent-end) in
    rw e at c.loop-spent.invariant
