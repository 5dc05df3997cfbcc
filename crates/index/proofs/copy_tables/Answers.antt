-- `index::copy_tables` meets its contract. That CODES are the codes, and CLASSES the classes, is computed. Assumes nothing.
use Rattle.scope.specs.Table.{list_from}
use Rattle.calculus.specs.Expansion.{templates}
use Rattle.calculus.specs.Order.{some, first_of}
use Rattle.index.specs.Codes.{choice_value, state_by, code_of, code_at, class_of, class_at}
use Rattle.index.proofs.Copies.{copied, classified}
use native.Mathlib.Omega.{arith}
use Rattle.index.proofs.copy_tables.Goals as goal

pub returns : goal.returns
unfolding list_from templates some first_of choice_value state_by code_of code_at class_of class_at
returns c = let y = copied c.args.x.now _ c.requires c.copy_from_slice.ensures.after in
    (_, y, classified _ _ _ y.size c.copy_from_slice-2.ensures.after (omega (arith, y.size)))
