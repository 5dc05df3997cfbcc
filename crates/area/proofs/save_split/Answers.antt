-- `area::save_split` meets its contract. Four stores save a split. Assumes nothing.
use native.Mathlib.Omega.{arith}
use lib.ListN.{length-set}
use Rattle.area.proofs.Stores.{is_saved}
use Rattle.area.proofs.save_split.Goals as goal

pub bounds-work-0 : goal.bounds-work-0
bounds-work-0 c = simp length-set (omega arith)

pub bounds-work-d-2 : goal.bounds-work-d-2
bounds-work-d-2 c = simp length-set (omega arith)

pub bounds-work-2 : goal.bounds-work-2
bounds-work-2 c = simp length-set (omega arith)

pub bounds-work-d-3 : goal.bounds-work-d-3
bounds-work-d-3 c = simp length-set (omega arith)

pub bounds-work-1-2 : goal.bounds-work-1-2
bounds-work-1-2 c = simp length-set (omega arith)

pub returns : goal.returns
returns c = is_saved c.args.work.now c.requires.0 c.requires.1
