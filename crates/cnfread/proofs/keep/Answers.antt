-- `cnfread::keep` meets its contract: a marked literal is there, another joins. Assumes nothing.
use Rattle.cnfread.proofs.Keeping.{keep-room, keep-new}
use native.Mathlib.Omega.{arith}
use Rattle.cnfread.proofs.keep.Goals as goal

pub bounds-held-n : goal.bounds-held-n
bounds-held-n c = omega (arith, keep-room c.requires.kept _ c.requires.l_bound c.if-marks-l-ne0.false, c.requires.kept.room)

pub returns : goal.returns
returns c = keep-new c.requires.kept _ c.requires.l_bound c.if-marks-l-ne0.false
