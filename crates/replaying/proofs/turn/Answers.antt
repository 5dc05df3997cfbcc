-- `replaying::turn` meets its contract: by the case of the next move. Assumes nothing.
use mathlib.Core.Path.{refl, ◌∙◌, sym, ap}
use Rattle.calculus.specs.Order.{move}
use Rattle.replaying.proofs.Standings.{looked, joins-fresh, unit_follows, made_back, made_unit, made_done, made_split}
use Rattle.replaying.proofs.turn.Goals as goal

pub turn_right-requires : goal.turn_right-requires
turn_right-requires c = let g = c.next_move-m.ensures.work_unchanged in
    let s = looked c.requires.stands c.next_move-m.ensures.holds_2 g in
    record {
      indexed = c.requires.indexed;
      goals = c.requires.goals;
      stands = s;
    }

pub assume-requires : goal.assume-requires
assume-requires c = let g = c.next_move-m.ensures.work_unchanged in
    let s = looked c.requires.stands c.next_move-m.ensures.holds_2 g in
    record {
      indexed = c.requires.indexed;
      goals = c.requires.goals;
      holds = s.holds;
      fresh = joins-fresh s c.requires.indexed.table c.requires.goals.below _
          (unit_follows s (ap (move _ _) g ∙ sym c.next_move-m.ensures.value ∙ c.in-Unit.is) refl);
    }

pub fork-requires : goal.fork-requires
fork-requires c = let g = c.next_move-m.ensures.work_unchanged in
    let s = looked c.requires.stands c.next_move-m.ensures.holds_2 g in
    record {
      indexed = c.requires.indexed;
      goals = c.requires.goals;
      stands = s;
      work_value = (ap (move _ _) g ∙ sym c.next_move-m.ensures.value ∙ c.in-Split.is);
    }

pub returns-in-Conflict : goal.returns-in-Conflict
returns-in-Conflict c = let g = c.next_move-m.ensures.work_unchanged in
    let s = looked c.requires.stands c.next_move-m.ensures.holds_2 g in
    record {
      made = made_back s g (ap (move _ _) g ∙ sym c.next_move-m.ensures.value ∙ c.in-Conflict.is) c.turn_right.ensures.made;
      ready = c.turn_right.ensures.ready;
    }

pub returns-in-Unit : goal.returns-in-Unit
returns-in-Unit c = let g = c.next_move-m.ensures.work_unchanged in
    let s = looked c.requires.stands c.next_move-m.ensures.holds_2 g in
    record {
      made = made_unit s g (ap (move _ _) g ∙ sym c.next_move-m.ensures.value ∙ c.in-Unit.is) c.assume.ensures.holds_2 c.assume.ensures.work_after;
      ready = c.assume.ensures.holds_2.ready;
    }

pub returns-in-Done : goal.returns-in-Done
returns-in-Done c = let g = c.next_move-m.ensures.work_unchanged in
    let s = looked c.requires.stands c.next_move-m.ensures.holds_2 g in
    record {
      made = made_done s g (ap (move _ _) g ∙ sym c.next_move-m.ensures.value ∙ c.in-Done.is);
      ready = s.holds.ready;
    }

pub returns-in-Split : goal.returns-in-Split
returns-in-Split c = let g = c.next_move-m.ensures.work_unchanged in
    let s = looked c.requires.stands c.next_move-m.ensures.holds_2 g in
    record {
      made = made_split s g (ap (move _ _) g ∙ sym c.next_move-m.ensures.value ∙ c.in-Split.is) c.fork.ensures.stands_2 c.fork.ensures.work_after;
      ready = c.fork.ensures.stands_2.holds.ready;
    }
