-- `index::build_below` meets its contract: of the nodes loaded the edges have their places, and putting them keeps the nodes. Assumes nothing.
use Prim.Native.Nat.{◌*◌, ◌/◌, ◌<◌}
use Rattle.calculus.proofs.Lists.{all_imply}
use Rattle.index.specs.Index.{most_nodes}
use Rattle.index.specs.Built.{Placing}
use Rattle.index.specs.Marks.{mark_all}
use Rattle.index.proofs.Marks.{Sinking, flags_marked, pruned}
use Rattle.index.proofs.Falls.{fits_none, marks_zeros, sinks_whole}
use native.Mathlib.Omega.{arith}
use borrow.Author.Rules.{rules}
use Rattle.index.proofs.build_below.Goals.{After-sink-head}
use Rattle.index.proofs.build_below.Goals as goal

-- the way down is whole, and its nodes are chained
whole : (c : After-sink-head) → Sinking c.args.t.now c.args.ls.now c.args.n 0 c.sink-head.new.x × Placing c.args.n c.sink-head.result c.sink-head.new.x
whole c = let q = c.requires.n_le_most_nodes in
    let s = c.sink-head.ensures in
    sinks_whole c.args.t.now c.args.ls.now c.args.n c.args.x.now _ _ _ q.0 q.1 q.2 c.requires.below c.requires.x_len.0 c.requires.x_len.1
    c.mark_all.ensures s.0 s.1

pub sink-head-requires : goal.sink-head-requires
sink-head-requires c = let n = c.args.n in
    let x = c.args.x.now in
    let ls = c.args.ls.now in
    let few = c.requires.n_le_most_nodes.0 in
    let z = c.requires.x_len.0 in
    let zeros = c.requires.x_len.1 in
    let low = all_imply (λ l. l < 2 * n) (λ l. l / 2 < most_nodes) (λ l h. omega (arith, h, few)) ls c.requires.below in
    let flags = flags_marked n x ls z low few (λ m h w. absurd (omega (arith, w, h, few, zeros (4 * m) (omega (arith, h, few))))) in
    let fits = fits_none n (mark_all x ls) few (marks_zeros n x ls few c.requires.below zeros) in
    record {
      n_le_most_nodes = c.requires.n_le_most_nodes;
      x_len = (search rules, rw c.mark_all.ensures fits, rw c.mark_all.ensures flags);
    }

pub fill-requires : goal.fill-requires
fill-requires c = (c.requires.n_le_most_nodes.0, (whole (goal.at.fill-requires c).After-sink-head).1)

pub returns : goal.returns
returns c = let w = whole (goal.at.returns c).After-sink-head in
    pruned c.args.t.now c.args.ls.now c.args.n _ _ _ _ c.requires.n_le_most_nodes.0 w.0 c.fill.ensures c.copy_tables.ensures.1 c.copy_tables.ensures.2
