-- A step makes of a stage what its definition does. Assumes nothing.
use Rattle.granting.proofs.Laws.{step_spent, step-found, step_refused}
use Rattle.granting.proofs.step.Goals as goal

pub returns-then-on-eq0 : goal.returns-then-on-eq0
returns-then-on-eq0 c = record {
  stepped = step_spent _ _ _ _ _ _ c.requires.ready c.if-on-eq0.true;
  sets_2 = c.requires.sets;
}

pub returns-in-Model : goal.returns-in-Model
returns-in-Model c = record {
  stepped = step-found _ _ _ _ _ _ _ c.if-on-eq0.false c.requires.g_in_bounds (rw c.in-Model.is at c.solve-found.ensures.solved);
  sets_2 = c.solve-found.ensures.sets;
}

pub returns-in-Closed : goal.returns-in-Closed
returns-in-Closed c = record {
  stepped = step_refused _ _ _ _ _ _ _ c.if-on-eq0.false (rw c.in-Closed.is at c.solve-found.ensures.solved);
  sets_2 = c.solve-found.ensures.sets;
}
