-- `rounds::spend` meets its contract: before each turn the call has come to the round after the turns so far. Assumes nothing.
use mathlib.Core.Path.{◌≡◌, refl, ◌∙◌}
use Prim.Native.Nat.{◌<◌}
use native.Mathlib.Omega.{arith}
use lib.ListN.{length}
use Rattle.roomareas.proofs.Lends.{lendable}
use Rattle.rounds.proofs.Climbing.{laps_fit, spent-climbed}
use Rattle.rounds.proofs.Spending.{long_starts, long_more, spent_all, up_stands, turns_few, served-more, sits_served}
use Rattle.rounds.proofs.spend.Goals as goal

pub climb-spent-requires : goal.climb-spent-requires
climb-spent-requires c = record {
  indexed = c.requires.indexed;
  pointed = c.requires.pointed;
  goals = c.requires.goals;
  roomy = c.requires.roomy;
  questions_in_bounds = c.requires.questions_in_bounds;
  by_index = c.requires.by_index;
  sits = c.requires.sits;
}

pub after-next-requires : goal.after-next-requires
after-next-requires c = record {
  q_le_most_questions = (c.requires.roomy.few, omega (arith, c.requires.questions_in_bounds.1, c.climb-spent.auto.verdicts));
  by_index = laps_fit c.climb-spent.ensures.climbs (omega arith) (omega arith);
}

pub loop-k-init : goal.loop-k-init
loop-k-init c = (λ s v before up a. a, c.climb-spent.ensures.sits_2, long_starts _ _ _ _ _ _)

pub up_next-requires : goal.up_next-requires
up_next-requires c = let r = c.requires.roomy in
    omega (arith, r.few, r.verdicts, c.loop-k.invariant.2.verdicts, c.climb-spent.auto.verdicts)

pub returns-in_default : goal.returns-in_default
returns-in_default c = let a = c.loop-k.invariant.0 _ _ _ _ (spent-climbed c.climb-spent.ensures.climbs c.after-next.ensures) in
    record {
      spent = spent_all a refl c.in_default.ensures _ (omega (arith, c.loop-k-test.true));
      sits_2 = c.loop-k.invariant.1;
    }

pub serve-ran-requires : goal.serve-ran-requires
serve-ran-requires c = let l = c.loop-k.invariant.2 in
    let h = c.in-Some.ensures.1 in
    let a = c.loop-k.invariant.0 _ _ _ _ (spent-climbed c.climb-spent.ensures.climbs c.after-next.ensures) in record {
      indexed = c.requires.indexed;
      pointed = c.requires.pointed;
      goals = c.requires.goals;
      i_in_bounds = (omega (arith, h), omega (arith, h, c.requires.questions_in_bounds.0, l.settings, c.climb-spent.auto.settings));
      lendable = lendable _ _ _ _ c.requires.roomy (omega (arith, h)) (l.work ∙ c.climb-spent.auto.work) (l.masks ∙ c.climb-spent.auto.masks) (l.stacks
          ∙ c.climb-spent.auto.opens);
      stands = up_stands c.loop-k.work c.loop-k.masks c.loop-k.opens a c.loop-k.invariant.1 c.in-Some.ensures.0 (omega (arith, h));
    }

pub overflow_add-turns : goal.overflow_add-turns
overflow_add-turns c = let a = c.loop-k.invariant.0 _ _ _ _ (spent-climbed c.climb-spent.ensures.climbs c.after-next.ensures) in
    let few = turns_few a c.in-Some.i (omega (arith, c.in-Some.ensures.1)) in
    omega (arith, few, c.ranges.allowance.fits, c.loop-k-test.true)

pub loop-k-preserved : goal.loop-k-preserved
loop-k-preserved c = let h = c.in-Some.ensures.1 in
    let i : c.in-Some.i < length c.loop-k.verdicts = omega (
      arith,
      h,
      c.requires.roomy.few,
      c.requires.roomy.verdicts,
      c.loop-k.invariant.2.verdicts,
      c.climb-spent.auto.verdicts,
    ) in
    let j : c.in-Some.i < length c.loop-k.turns = omega (
      arith,
      h,
      c.requires.roomy.few,
      c.requires.questions_in_bounds.1,
      c.loop-k.invariant.2.turns,
      c.climb-spent.auto.turns,
    ) in (
      λ s v before up b. rw c.number.ensures (served-more c.loop-k.work c.loop-k.masks c.loop-k.opens
          (c.loop-k.invariant.0 s v before up b) c.loop-k.invariant.1 c.in-Some.ensures.0 (omega (arith, h)) c.serve-ran.ensures i j),
      rw c.number.ensures (sits_served c.loop-k.verdicts c.loop-k.invariant.1 c.serve-ran.ensures i),
      long_more _ _ _ c.loop-k.invariant.2 c.serve-ran.auto.settings c.serve-ran.auto.work c.serve-ran.auto.masks c.serve-ran.auto.opens,
    )

pub returns : goal.returns
returns c = let e : c.loop-k.k ≡ c.args.allowance = omega (arith, c.loop-k-test.false, (c.loop-k.auto.k-end c.climb-spent.ensures.climbs.within)) in
    record {
      spent = rw e at (c.loop-k.invariant.0 _ _ _ _ (spent-climbed c.climb-spent.ensures.climbs c.after-next.ensures));
      sits_2 = c.loop-k.invariant.1;
    }
