-- `index::pass` meets its contract: the node gets its places, is stored, marks its operands' and counts its edges. Assumes nothing.
use mathlib.Core.Path.{◌∙◌}
use Prim.Native.Nat.{◌+◌}
use Rattle.index.specs.Edges.{mid_of, end_of}
use Rattle.index.proofs.Sums.{sum_next}
use Rattle.index.proofs.Marks.{passed-node, loaded-node, loaded-low, marking-room}
use native.Mathlib.Omega.{arith}
use borrow.Author.Rules.{rules}
use Rattle.index.proofs.pass.Goals as goal

pub place_node-r-requires : goal.place_node-r-requires
place_node-r-requires c = let x = c.args.x.now in (
  c.requires.p_lt_most_nodes.3,
  c.requires.p_lt_most_nodes.0,
  omega (arith, c.requires.fits.0.0, sum_next (λ i. mid_of x i + end_of x i) c.args.p),
  c.requires.fits.0.1,
)

pub meet-requires : goal.meet-requires
meet-requires c = let t = c.args.t.now in
    let x = c.args.x.now in
    let n = loaded-node t x c.args.d c.args.p c.requires.p_lt_most_nodes.0 c.requires.p_lt_most_nodes.3 c.requires.all c.requires.p_lt_most_nodes.2.1 in
    let l = loaded-low t x c.args.d c.args.p c.requires.p_lt_most_nodes.0 c.requires.p_lt_most_nodes.3 c.requires.all c.requires.p_lt_most_nodes.2.1 in
    let r = marking-room t x c.args.d c.args.p c.requires.p_lt_most_nodes.0 c.requires.p_lt_most_nodes.3 c.requires.all c.requires.fits.0 in
    let e = c.store_node.ensures in
    let f = c.place_node-r.ensures.0 in
    record {
      x_len = (search rules, c.requires.p_lt_most_nodes.0, rw (e, f) l);
      room = rw (e, f, n) r;
    }

pub returns : goal.returns
returns c = let t = c.args.t.now in
    let x = c.args.x.now in
    let n = loaded-node t x c.args.d c.args.p c.requires.p_lt_most_nodes.0 c.requires.p_lt_most_nodes.3 c.requires.all c.requires.p_lt_most_nodes.2.1 in
    let e = passed-node t x c.args.d c.args.p c.requires.fits.1 in
    (c.meet.ensures ∙ rw (c.store_node.ensures, c.place_node-r.ensures.0, n) e.0, c.place_node-r.ensures.1 ∙ e.1)
