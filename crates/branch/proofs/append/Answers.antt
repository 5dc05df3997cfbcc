-- `branch::append` meets its contract. A row is the clauses of its literal. Assumes nothing.
use native.Mathlib.Omega.{arith}
use mathlib.Core.Path.{◌∙◌}
use Prim.Native.Nat.{◌/◌}
use Rattle.calculus.specs.Expansion.{chosen}
use Rattle.index.specs.Index.{index_node}
use Rattle.branch.proofs.Appends.{appended_as, row_expands, bare_same}
use Rattle.branch.proofs.append.Goals as goal

pub returns-then-row-ge6 : goal.returns-then-row-ge6
returns-then-row-ge6 c = appended_as (row_expands (index_node c.args.x.now) c.args.l c.row_of-row.result c.row_of-row.ensures.0) c.put_row.ensures

pub returns : goal.returns
returns c = let t = index_node c.args.x.now in
    let l = c.args.l in
    appended_as (bare_same (chosen (t (l / 2))) c.row_of-row.result (omega arith) ∙ row_expands t l c.row_of-row.result c.row_of-row.ensures.0)
    c.put_bare.ensures
