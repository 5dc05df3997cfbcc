-- `branch::put_bare` meets its contract. Only not TRUE has a clause. Assumes nothing.
use native.Mathlib.Omega.{arith}
use Rattle.branch.proofs.Appends.{appended_none, appended_as, bare-empty, bare-none}
use Rattle.branch.proofs.put_bare.Goals as goal

pub returns-then-row-eq3 : goal.returns-then-row-eq3
returns-then-row-eq3 c = appended_as (bare-empty c.args.row (omega arith)) c.put_empty.ensures

pub returns-else-row-eq3 : goal.returns-else-row-eq3
returns-else-row-eq3 c = appended_as (bare-none c.args.row (omega arith) (λ e. omega (arith, e))) appended_none
