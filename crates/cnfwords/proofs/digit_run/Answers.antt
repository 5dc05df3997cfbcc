-- `cnfwords::digit_run` meets its contract: the digits passed so far. Assumes nothing.
use mathlib.Core.Path.{sym}
use Rattle.cnfwords.proofs.Runs.{run_none, run_more}
use native.Mathlib.Omega.{arith}
use Rattle.cnfwords.proofs.digit_run.Goals as goal

pub loop-i-init : goal.loop-i-init
loop-i-init c = run_none c.args.text.now c.args.at c.requires

pub loop-i-preserved : goal.loop-i-preserved
loop-i-preserved c = run_more c.loop-i.invariant (omega arith) (omega arith) (sym c.if-not-is_ascii_digit.ensures.value)
