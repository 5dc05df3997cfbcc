-- `rounds::ahead` meets its contract. Assumes nothing.
use borrow.Author.Tests.{lt-ltb, le-ltb}
use native.Mathlib.Omega.{arith}
use Rattle.rounds.proofs.ahead.Goals as goal

pub returns-then-i-first : goal.returns-then-i-first
returns-then-i-first c = rw (lt-ltb _ _ c.if-i-first.true)

pub returns-else-i-first : goal.returns-else-i-first
returns-else-i-first c = rw (le-ltb c.args.i c.args.first (omega (arith, c.if-i-first.false)))
