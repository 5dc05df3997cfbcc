-- `replaying::turn_right` meets its contract: none is open, or the newest split turns. Assumes nothing.
use native.Mathlib.Omega.{arith}
use Rattle.replaying.proofs.Rights.{made_closed, stack_low, place_less, place_low, place_splits, literal_low, right-fresh, made-right}
use Rattle.replaying.proofs.turn_right.Goals as goal

pub returns-then-k-eq0 : goal.returns-then-k-eq0
returns-then-k-eq0 c = record {
  made = made_closed c.requires.stands c.if-k-eq0.true;
  ready = c.requires.stands.holds.ready;
}

pub bounds-opens-k : goal.bounds-opens-k
bounds-opens-k c = omega (arith, stack_low c.requires.stands c.requires.indexed.table c.requires.goals.below c.requires.indexed.few c.if-k-eq0.false, c.requires.stands.size)

pub literal-l-requires : goal.literal-l-requires
literal-l-requires c = (c.requires.stands.holds.ready.size, place_low c.requires.stands c.requires.indexed.table c.requires.goals.below c.requires.indexed.few c.if-k-eq0.false)

pub undo_to-requires : goal.undo_to-requires
undo_to-requires c = let z = c.if-k-eq0.false in
    record {
      indexed = c.requires.indexed;
      goals = c.requires.goals;
      holds = c.requires.stands.holds;
      held_in_bounds = place_less c.requires.stands c.requires.indexed.table c.requires.goals.below c.requires.indexed.few z;
      splits = place_splits c.requires.stands c.requires.indexed.table c.requires.goals.below c.requires.indexed.few z;
    }

pub negated-requires : goal.negated-requires
negated-requires c = literal_low c.requires.stands c.requires.indexed.table c.requires.goals.below c.requires.indexed.few c.if-k-eq0.false c.undo_to.ensures.holds_2
    c.undo_to.ensures.work_after c.literal-l.ensures

pub assume-requires : goal.assume-requires
assume-requires c = record {
  indexed = c.requires.indexed;
  goals = c.requires.goals;
  holds = c.undo_to.ensures.holds_2;
  fresh = right-fresh c.requires.stands c.requires.indexed.table c.requires.goals.below c.requires.indexed.few c.if-k-eq0.false c.undo_to.ensures.holds_2 c.undo_to.ensures.work_after
      c.literal-l.ensures c.negated.ensures;
}

pub returns : goal.returns
returns c = record {
  made = made-right c.requires.stands c.requires.indexed.table c.requires.goals.below c.requires.indexed.few c.if-k-eq0.false c.undo_to.ensures.holds_2 c.undo_to.ensures.work_after
      c.literal-l.ensures c.negated.ensures c.assume.ensures.holds_2 c.assume.ensures.work_after;
  ready = c.assume.ensures.holds_2.ready;
}
