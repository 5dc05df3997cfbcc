-- `gather::close` meets its contract: the steps that still gather are written. Assumes nothing.
use Rattle.gather.proofs.Pushes.{close_none, close_some}
use native.Mathlib.Omega.{arith}
use Rattle.gather.proofs.close.Goals as goal

pub returns-then-w-gt0 : goal.returns-then-w-gt0
returns-then-w-gt0 c = close_some c.args.out.now c.args.w c.flush.new.out (omega (arith, c.if-w-gt0.true)) c.flush.ensures

pub returns-else-w-gt0 : goal.returns-else-w-gt0
returns-else-w-gt0 c = close_none c.args.out.now c.args.w (λ h. omega (arith, c.if-w-gt0.false))
