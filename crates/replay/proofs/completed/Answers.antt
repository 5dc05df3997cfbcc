-- `replay::completed` meets its contract. A step after the last branch closed is 46. Assumes nothing.
use mathlib.Core.Path.{sym, ◌∙◌}
use borrow.Author.Tests.{lt-ltb, le-ltb}
use Rattle.replay.proofs.completed.Goals as goal

pub returns-then-i-count : goal.returns-then-i-count
returns-then-i-count c = c.refusal.ensures ∙ sym (simp (lt-ltb _ _ c.if-i-count.true))

pub returns : goal.returns
returns c = sym (simp (le-ltb _ _ c.if-i-count.false))
