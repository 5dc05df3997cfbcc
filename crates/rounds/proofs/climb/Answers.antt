-- `rounds::climb` meets its contract: before each turn the questions passed have made their laps. Assumes nothing.
use mathlib.Core.Path.{ap}
use Prim.Native.Nat.{◌+◌, ◌-◌, ◌≤◌}
use native.Mathlib.Omega.{arith}
use Rattle.roomareas.proofs.Lends.{lendable}
use Rattle.rounds.proofs.Spending.{long_starts, long_more, sits_served}
use Rattle.rounds.proofs.Climbing.{climbing_none, climbing_past, climbing_fits, climbing_all, climbs_none, climb_stands, climbed-more, ahead_most}
use Rattle.rounds.proofs.climb.Goals as goal

pub laps_in-laps-requires : goal.laps_in-laps-requires
laps_in-laps-requires c = let r = c.requires.roomy in (r.few, r.verdicts)

pub returns-then-laps-eq0 : goal.returns-then-laps-eq0
returns-then-laps-eq0 c = record {
  climbs = climbs_none c.args.settings.now c.args.verdicts.now c.args.turns.now _ c.args.first _ (λ i h. (c.requires.sits i h).number) c.requires.by_index;
  sits_2 = c.requires.sits;
}

pub loop-i-init : goal.loop-i-init
loop-i-init c = (
  climbing_none c.args.settings.now c.args.verdicts.now c.args.turns.now _ c.args.first _
      (λ i h. (c.requires.sits i h).number) c.requires.by_index,
  c.requires.sits,
  long_starts _ _ _ _ _ _,
)

pub overflow_sub-most : goal.overflow_sub-most
overflow_sub-most c = omega (arith, c.if-laps-eq0.false, ahead_most c.loop-i.i c.args.first c.ahead.ensures)

pub loop-i-preserved-then-verdicts-i-ne-UNFINISHED : goal.loop-i-preserved-then-verdicts-i-ne-UNFINISHED
loop-i-preserved-then-verdicts-i-ne-UNFINISHED c = let g = c.loop-i.invariant in
    (climbing_past g.0 (omega (arith, c.if-laps-eq0.false)) c.loop-i-test.true c.if-verdicts-i-ne-UNFINISHED.true, g.1, g.2)

pub serve-ran-requires : goal.serve-ran-requires
serve-ran-requires c = let l = c.loop-i.invariant.2 in
    let h = c.loop-i-test.true in record {
      indexed = c.requires.indexed;
      pointed = c.requires.pointed;
      goals = c.requires.goals;
      i_in_bounds = (h, omega (arith, h, c.requires.questions_in_bounds.0, l.settings));
      lendable = lendable _ _ _ _ c.requires.roomy h l.work l.masks l.stacks;
      stands = climb_stands c.loop-i.work c.loop-i.masks c.loop-i.opens c.loop-i.invariant.0 c.loop-i.invariant.1
          (omega (arith, c.if-laps-eq0.false)) h c.if-verdicts-i-ne-UNFINISHED.false;
    }

pub overflow_add-spent : goal.overflow_add-spent
overflow_add-spent c = let few = c.serve-ran.ensures.turned.few in
    let g : c.loop-i.spent + c.serve-ran.result.made ≤ c.args.allowance = climbing_fits c.loop-i.invariant.0
    (omega (arith, c.if-laps-eq0.false)) c.laps_in-laps.ensures.1 c.loop-i-test.true c.if-verdicts-i-ne-UNFINISHED.false few
    (omega (arith, c.if-laps-eq0.false)) in
    omega (arith, g, c.ranges.allowance.fits)

pub loop-i-preserved : goal.loop-i-preserved
loop-i-preserved c = let l = c.loop-i.invariant.2 in
    let h = c.loop-i-test.true in (
      rw c.number.ensures (climbed-more c.loop-i.work c.loop-i.masks c.loop-i.opens c.loop-i.invariant.0 c.loop-i.invariant.1
          (omega (arith, c.if-laps-eq0.false)) h c.if-verdicts-i-ne-UNFINISHED.false c.serve-ran.ensures
          (ap (c.laps_in-laps.result -◌) c.ahead.ensures)
          (omega (arith, h, c.requires.roomy.few, c.requires.roomy.verdicts, l.verdicts))
          (omega (arith, h, c.requires.roomy.few, c.requires.questions_in_bounds.1, l.turns))),
      rw c.number.ensures (sits_served c.loop-i.verdicts c.loop-i.invariant.1 c.serve-ran.ensures
          (omega (arith, h, c.requires.roomy.few, c.requires.roomy.verdicts, l.verdicts))),
      long_more _ _ _ l c.serve-ran.auto.settings c.serve-ran.auto.work c.serve-ran.auto.masks c.serve-ran.auto.opens,
    )

pub returns : goal.returns
returns c = let g = c.loop-i.invariant in
    let e = c.laps_in-laps.ensures in
    record {
      climbs = climbing_all g.0 (omega (arith, c.if-laps-eq0.false)) e.0 e.1 (omega (arith, c.loop-i.auto.i-end, c.loop-i-test.false));
      sits_2 = g.1;
    }
