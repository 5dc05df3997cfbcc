-- `replaying::resume` meets its contract: the copy replays, or the search starts again. Assumes nothing.
use mathlib.Core.Path.{◌∙◌, sym}
use native.Mathlib.Omega.{arith}
use Rattle.replaying.proofs.Standings.{taken_long, few-copied, taken-up, taken_back}
use Rattle.replaying.proofs.Stacks.{copied}
use Rattle.replaying.proofs.resume.Goals as goal

pub returns-then-n-held : goal.returns-then-n-held
returns-then-n-held c = record {
  stands = c.begin.ensures.stands;
  work_after = c.begin.ensures.work_after ∙ sym (taken_long c.requires.indexed.table c.requires.goals c.requires.indexed.few
      (copied c.requires.area_in_bounds.0 c.copy_from_slice.ensures.after) (omega (arith, c.if-n-held.true, c.count-held.ensures)));
}

pub replay-requires : goal.replay-requires
replay-requires c = let k = copied c.requires.area_in_bounds.0 c.copy_from_slice.ensures.after in
    record {
      indexed = c.requires.indexed;
      goals = c.requires.goals;
      stands = c.begin.ensures.stands;
      work_value = c.begin.ensures.work_after;
      literals_len = (k.size, few-copied c.requires.indexed.table c.requires.goals c.requires.indexed.few k (omega (arith, c.if-n-held.false, c.count-held.ensures)));
    }

pub begin-requires-then-not-replay : goal.begin-requires-then-not-replay
begin-requires-then-not-replay c = record {
  indexed = c.requires.indexed;
  goals = c.requires.goals;
  area_in_bounds = (
    omega (arith, c.requires.area_in_bounds.0, c.replay.auto.work, c.begin.auto.work),
    c.replay.auto.masks ∙ c.begin.auto.masks
        ∙ c.requires.area_in_bounds.1,
    c.replay.auto.opens ∙ c.begin.auto.opens ∙ c.requires.area_in_bounds.2,
  );
}

pub returns-then-not-replay : goal.returns-then-not-replay
returns-then-not-replay c = record {
  stands = c.begin-then-not-replay.ensures.stands;
  work_after = c.begin-then-not-replay.ensures.work_after ∙ sym
      (taken_back c.requires.indexed.table c.requires.goals c.requires.indexed.few (copied c.requires.area_in_bounds.0 c.copy_from_slice.ensures.after)
      (omega (arith, c.if-n-held.false, c.count-held.ensures)) c.replay.ensures c.if-not-replay.true);
}

pub returns-else-not-replay : goal.returns-else-not-replay
returns-else-not-replay c = let a = c.replay.ensures in
    let e = c.if-not-replay.false in
    record {
      stands = a.stands e;
      work_after = taken-up c.requires.indexed.table c.requires.goals c.requires.indexed.few (copied c.requires.area_in_bounds.0 c.copy_from_slice.ensures.after)
          (omega (arith, c.if-n-held.false, c.count-held.ensures)) a e;
    }
