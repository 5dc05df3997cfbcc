-- `index::count` meets its contract. The loop's invariant: the edges from the nodes passed are counted. Assumes nothing.
use mathlib.Core.Path.{◌≡◌, refl, ◌∙◌}
use Rattle.index.specs.Index.{index_node}
use Rattle.index.proofs.Counts.{count_room, counted_more, counted_none, count_same}
use native.Mathlib.Omega.{arith}
use Rattle.index.proofs.count.Goals as goal

pub loop-p-init : goal.loop-p-init
loop-p-init c = (counted_none c.args.n c.args.x.now c.requires.x_len.0 c.requires.blank, λ i h. refl)

pub count_node-requires : goal.count_node-requires
count_node-requires c = let q = c.requires.x_len in
    let h = c.loop-p-test.true in
    (h, count_room q.1 q.2 h c.loop-p.invariant.0)

pub loop-p-preserved : goal.loop-p-preserved
loop-p-preserved c = let q = c.requires.x_len in
    let i = c.loop-p.invariant in
    let e = c.count_node.ensures in (
      rw e (counted_more q.1 q.2 c.loop-p-test.true i.0),
      λ k b. rw e (count_same c.loop-p.x (index_node c.loop-p.x c.loop-p.p) k (omega arith) ∙ i.1 k b),
    )

pub returns : goal.returns
returns c = let i = c.loop-p.invariant in
    let e : c.loop-p.p ≡ c.args.n = omega arith in
    ((index_node c.args.x.now, c.requires.x_len.2, rw e at i.0), i.1)
