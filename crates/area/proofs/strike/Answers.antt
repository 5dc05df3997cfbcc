-- `area::strike` meets its contract. The slot is noted behind the others, and flagged. Assumes nothing.
use native.Mathlib.Omega.{arith}
use lib.ListN.{length-set}
use Rattle.area.proofs.Stores.{struck_fits, is_struck}
use Rattle.area.proofs.strike.Goals as goal

pub bounds-work-m : goal.bounds-work-m
bounds-work-m c = simp length-set (omega arith)

pub overflow_add-work-4 : goal.overflow_add-work-4
overflow_add-work-4 c = omega (
  arith,
  struck_fits c.args.work.now c.args.m c.args.kind c.requires.area_size_in_bounds.0 c.requires.area_size_in_bounds.1
      c.requires.area_size_in_bounds.2 c.requires.notes_value.0 c.requires.notes_value.1 c.requires.area_size_in_bounds.3,
)

pub bounds-work-m-2 : goal.bounds-work-m-2
bounds-work-m-2 c = simp length-set (omega arith)

pub bounds-work-2-2 : goal.bounds-work-2-2
bounds-work-2-2 c = simp length-set (omega arith)

pub returns : goal.returns
returns c = is_struck c.args.work.now c.args.m c.args.kind c.requires.area_size_in_bounds.0 c.requires.area_size_in_bounds.1 c.requires.area_size_in_bounds.2
    c.requires.notes_value.0 c.requires.notes_value.1
