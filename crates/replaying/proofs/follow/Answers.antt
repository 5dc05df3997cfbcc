-- `replaying::follow` meets its contract: by the case of the next move. Assumes nothing.
use mathlib.Core.Path.{◌∙◌, sym, ap}
use Rattle.calculus.specs.Order.{move}
use Rattle.replaying.proofs.Standings.{looked, followed_looked, joins-fresh, unit_follows, went-unit, strayed-unit, strayed-conflict, strayed-done}
use Rattle.replaying.proofs.follow.Goals as goal

pub returns-then-u-l : goal.returns-then-u-l
returns-then-u-l c = let g = c.next_move-m.ensures.work_unchanged in
    let s = looked c.requires.stands c.next_move-m.ensures.holds_2 g in
    followed_looked g (strayed-unit s (ap (move _ _) g ∙ sym c.next_move-m.ensures.value ∙ c.in-Unit.is) c.if-u-l.true)

pub assume-requires : goal.assume-requires
assume-requires c = let g = c.next_move-m.ensures.work_unchanged in
    let s = looked c.requires.stands c.next_move-m.ensures.holds_2 g in
    record {
      indexed = c.requires.indexed;
      goals = c.requires.goals;
      holds = s.holds;
      fresh = joins-fresh s c.requires.indexed.table c.requires.goals.below _
          (unit_follows s (ap (move _ _) g ∙ sym c.next_move-m.ensures.value ∙ c.in-Unit.is) c.if-u-l.false);
    }

pub follow_split-requires : goal.follow_split-requires
follow_split-requires c = let g = c.next_move-m.ensures.work_unchanged in
    let s = looked c.requires.stands c.next_move-m.ensures.holds_2 g in
    record {
      indexed = c.requires.indexed;
      goals = c.requires.goals;
      stands = s;
      work_value = (ap (move _ _) g ∙ sym c.next_move-m.ensures.value ∙ c.in-Split.is);
    }

pub returns-in-Conflict : goal.returns-in-Conflict
returns-in-Conflict c = let g = c.next_move-m.ensures.work_unchanged in
    let s = looked c.requires.stands c.next_move-m.ensures.holds_2 g in
    followed_looked g (strayed-conflict s (ap (move _ _) g ∙ sym c.next_move-m.ensures.value ∙ c.in-Conflict.is))

pub returns-else-u-l : goal.returns-else-u-l
returns-else-u-l c = let g = c.next_move-m.ensures.work_unchanged in
    let s = looked c.requires.stands c.next_move-m.ensures.holds_2 g in
    followed_looked g (went-unit s c.assume.ensures.holds_2 c.assume.ensures.work_after (ap (move _ _) g ∙ sym c.next_move-m.ensures.value
    ∙ c.in-Unit.is) c.if-u-l.false)

pub returns-in-Done : goal.returns-in-Done
returns-in-Done c = let g = c.next_move-m.ensures.work_unchanged in
    let s = looked c.requires.stands c.next_move-m.ensures.holds_2 g in
    followed_looked g (strayed-done s (ap (move _ _) g ∙ sym c.next_move-m.ensures.value ∙ c.in-Done.is))

pub returns-in-Split : goal.returns-in-Split
returns-in-Split c = let g = c.next_move-m.ensures.work_unchanged in
    let s = looked c.requires.stands c.next_move-m.ensures.holds_2 g in
    followed_looked g c.follow_split.ensures
