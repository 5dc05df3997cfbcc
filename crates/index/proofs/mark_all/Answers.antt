-- `index::mark_all` meets its contract. The loop's invariant: with the marks of the literals that are left all are marked. Assumes nothing.
use mathlib.Core.Path.{sym, ◌∙◌}
use Rattle.index.proofs.Marks.{marks_next, marks_end}
use Rattle.index.proofs.mark_all.Goals as goal

pub loop-l-preserved : goal.loop-l-preserved
loop-l-preserved c = rw c.mark.ensures (sym (marks_next c.loop-l.x c.args.ls.now c.loop-l.l-index c.loop-l-test.true)) ∙ c.loop-l.invariant

pub returns : goal.returns
returns c = sym (marks_end c.loop-l.x _ c.loop-l.l-index c.loop-l-test.false) ∙ c.loop-l.invariant
