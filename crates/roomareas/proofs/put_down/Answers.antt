-- `roomareas::put_down` meets its contract: before each turn the searches passed are put down. Assumes nothing.
use native.Mathlib.Omega.{arith}
use Rattle.roomareas.proofs.Resting.{putting_none, putting_more, putting_all}
use Rattle.roomareas.proofs.put_down.Goals as goal

pub loop-i-init : goal.loop-i-init
loop-i-init c = putting_none _ _

pub loop-i-preserved : goal.loop-i-preserved
loop-i-preserved c = putting_more c.loop-i.invariant _ c.requires.2 c.loop-i-test.true

pub returns : goal.returns
returns c = putting_all c.loop-i.invariant _ c.requires.2 (omega (arith, c.loop-i-test.false, c.loop-i.auto.i-end)) c.requires.0 _
