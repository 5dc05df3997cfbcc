-- `overview::put` meets its contract. Assumes nothing.
use Rattle.rests.proofs.Held.{sets_blank}
use Rattle.overview.proofs.put.Goals as goal

pub put_each-requires : goal.put_each-requires
put_each-requires c = record {
  indexed = c.requires.indexed;
  below = c.requires.below;
  ready = (c.blank.ensures.ready, sets_blank);
  goals_in_bounds = c.requires.goals_in_bounds;
}
