-- `adding::add_node` meets its contract: each return is the place of `Results` that its tests led to. Assumes nothing.
use mathlib.Core.Path.{◌≡◌, ◌∙◌, sym}
use Prim.Native.Nat.{◌+◌, ◌*◌, ◌/◌, ◌%◌, ◌<◌, ◌≤◌}
use lib.ListN.{length}
use lib.Seq.{length-take-le}
use Rattle.adding.proofs.Results.{used_is, record_within, finds, over-nodes, over-buffer, writes, opened, last-count, extended}
use native.Mathlib.Omega.{arith}
use Rattle.adding.proofs.add_node.Goals as goal

pub slice_bounds-find-end-2 : goal.slice_bounds-find-end-2
slice_bounds-find-end-2 c = sym (length-take-le _ _ c.requires.0.within)

pub find-requires : goal.find-requires
find-requires c = let g = c.requires.0 in
    record {
      nodes_bound = (g.few, record_within _ _ _ g);
      by_index = (g.low, c.requires.2);
    }

pub returns-in-Some : goal.returns-in-Some
returns-in-Some c = finds _ _ _ c.requires.0 _ _ c.in-Some.ensures

pub returns-then-nodes-eq2016 : goal.returns-then-nodes-eq2016
returns-then-nodes-eq2016 c = over-nodes _ _ _ c.requires.0 _ c.in_default.ensures c.if-nodes-eq2016.true

pub grow_last-requires : goal.grow_last-requires
grow_last-requires c = let g = c.requires.0 in
    let some : 0 < c.args.nodes % 63 = omega (arith, c.if-nodes-ne0.true) in
    (omega (arith, used_is _ _ _ g, some), g.within, omega arith, last-count _ _ _ g c.args.x some)

pub returns-then-nodes-ne0 : goal.returns-then-nodes-ne0
returns-then-nodes-ne0 c = let few : c.args.nodes < 2016 = omega (arith, c.if-nodes-eq2016.false, c.requires.0.few) in
    let some : 0 < c.args.nodes % 63 = omega (arith, c.if-nodes-ne0.true) in
    let end : c.args.used ≡ 512 * ((c.args.nodes + 63) / 63) = omega (arith, used_is _ _ _ c.requires.0, some) in
    writes _ _ _ c.requires.0 c.args.x c.in_default.ensures few (rw (← end) c.requires.0.within) _ c.args.used end
    (c.grow_last.ensures ∙ rw c.requires.1 (extended _ _ _ c.requires.0 c.args.x some))

pub returns-then-buf-used-lt512 : goal.returns-then-buf-used-lt512
returns-then-buf-used-lt512 c = let few : c.args.nodes < 2016 = omega (arith, c.if-nodes-eq2016.false, c.requires.0.few) in
    over-buffer _ _ _ c.requires.0 c.args.x c.in_default.ensures few (omega (arith, c.if-buf-used-lt512.true, used_is _ _ _ c.requires.0, c.if-nodes-ne0.false))

pub open_block-requires : goal.open_block-requires
open_block-requires c = let g = c.requires.0 in
    (omega (arith, c.if-buf-used-lt512.false, g.within), omega (arith, g.few))

pub returns : goal.returns
returns c = let few : c.args.nodes < 2016 = omega (arith, c.if-nodes-eq2016.false, c.requires.0.few) in
    let end : c.args.used + 512 ≡ 512 * ((c.args.nodes + 63) / 63) = omega (arith, used_is _ _ _ c.requires.0, c.if-nodes-ne0.false) in
    let fits : 512 * ((c.args.nodes + 63) / 63) ≤ length c.args.buf.now = omega (arith, c.if-buf-used-lt512.false, c.requires.0.within, end) in
    writes _ _ _ c.requires.0 c.args.x c.in_default.ensures few fits _ (c.args.used + 512) end
    (c.open_block.ensures ∙ rw c.requires.1 (opened _ _ _ c.requires.0 c.args.x (omega (arith, c.if-nodes-ne0.false))))
