-- `wishes::questions` meets its contract: 67, or the first answer's setting and what stands after the questions. Assumes nothing.
use Rattle.rests.proofs.Held.{sets_blank}
use Rattle.wishes.proofs.Ends.{granted-by}
use Rattle.wishes.proofs.questions.Goals as goal

pub solve-found-requires : goal.solve-found-requires
solve-found-requires c = record {
  indexed = c.requires.indexed;
  goals = c.requires.posed.goals_fit;
  ready = (c.blank.ensures.ready, sets_blank);
}

pub returns-in-Model : goal.returns-in-Model
returns-in-Model c = granted-by _ _ _ _ _ _ _ (rw c.in-Model.is at c.solve-found.ensures.solved) _ c.set_points.ensures _ c.requires.posed _ _ _ c.spend-r.ensures c.stand.ensures
