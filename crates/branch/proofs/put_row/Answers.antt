-- `branch::put_row` meets its contract. The clauses of each row are those of the templates. Assumes nothing.
use native.Mathlib.Omega.{arith}
use mathlib.Core.Path.{◌≡◌}
use Rattle.calculus.specs.Expansion.{templates}
use Rattle.index.specs.Index.{index_node}
use Rattle.branch.proofs.Appends.{by_row, iff_rows}
use Rattle.branch.proofs.put_row.Goals as goal

pub returns-in-6 : goal.returns-in-6
unfolding templates
returns-in-6 c = by_row (index_node c.args.x.now c.args.node) c.args.row 6 (omega arith) c.each_of.ensures

pub returns-in-7 : goal.returns-in-7
unfolding templates
returns-in-7 c = by_row (index_node c.args.x.now c.args.node) c.args.row 7 (omega arith) c.some_of.ensures

pub returns-in-8 : goal.returns-in-8
unfolding templates
returns-in-8 c = by_row (index_node c.args.x.now c.args.node) c.args.row 8 (omega arith) c.some_of-in-8.ensures

pub returns-in-9 : goal.returns-in-9
unfolding templates
returns-in-9 c = by_row (index_node c.args.x.now c.args.node) c.args.row 9 (omega arith) c.each_of-in-9.ensures

pub returns-in-10 : goal.returns-in-10
unfolding templates
returns-in-10 c = by_row (index_node c.args.x.now c.args.node) c.args.row 10 (omega arith) c.some_of-in-10.ensures

pub returns-in-11 : goal.returns-in-11
unfolding templates
returns-in-11 c = by_row (index_node c.args.x.now c.args.node) c.args.row 11 (omega arith) c.each_of-in-11.ensures

pub returns-in-12 : goal.returns-in-12
returns-in-12 c = iff_rows (index_node c.args.x.now c.args.node) c.args.row (omega arith) (omega arith) (omega arith) c.same_or_not.ensures

pub returns-in-14 : goal.returns-in-14
unfolding templates
returns-in-14 c = by_row (index_node c.args.x.now c.args.node) c.args.row 14 (omega arith) c.each_of_three.ensures

pub returns-in-15 : goal.returns-in-15
unfolding templates
returns-in-15 c = by_row (index_node c.args.x.now c.args.node) c.args.row 15 (omega arith) c.some_of_three.ensures

pub returns-in-16 : goal.returns-in-16
unfolding templates
returns-in-16 c = by_row (index_node c.args.x.now c.args.node) c.args.row 16 (omega arith) c.some_of_three-in-16.ensures

pub returns-in_default : goal.returns-in_default
unfolding templates
returns-in_default c =
    let last : c.args.row ≡ 17 = omega arith in
    by_row (index_node c.args.x.now c.args.node) c.args.row 17 last c.each_of_three-in_default.ensures
