-- `table_cases::resealed` meets its contract. Assumes nothing.
use mathlib.Core.Path.{sym}
use lib.Seq.{length-take-le}
use Rattle.table_cases.proofs.resealed.Goals as goal

pub slice_bounds-set_check-end-2 : goal.slice_bounds-set_check-end-2
slice_bounds-set_check-end-2 c = sym (length-take-le 512 c.args.t.now c.if-t-lt512.false)

pub set_check-requires : goal.set_check-requires
set_check-requires c = length-take-le 512 c.args.t.now c.if-t-lt512.false
