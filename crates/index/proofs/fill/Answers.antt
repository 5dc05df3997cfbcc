-- `index::fill` meets its contract. The loop's invariant: the edges from the nodes below p stand at their places, and p is next in the chain.
-- Assumes nothing.
use mathlib.Core.Path.{refl, ◌∙◌}
use Rattle.index.proofs.Chains.{fills_none, fills-room, fills-next, fills-more, fills_same, fills_all}
use native.Mathlib.Omega.{arith}
use Rattle.index.proofs.fill.Goals as goal

pub loop-p-init : goal.loop-p-init
loop-p-init c = let q = c.requires.1 in
    ((q.0, q.1, fills_none c.requires.0 q.1 q.2), λ i h. refl)

pub put_node-requires : goal.put_node-requires
put_node-requires c = let i = c.loop-p.invariant.0 in
    (c.loop-p-test.true, fills-room c.requires.0 i.1 c.loop-p-test.true i.2)

pub loop-p-smaller : goal.loop-p-smaller
loop-p-smaller c = let i = c.loop-p.invariant.0 in
    omega (arith, c.loop-p-test.true, fills-next c.requires.0 i.1 c.loop-p-test.true i.2)

pub loop-p-preserved : goal.loop-p-preserved
loop-p-preserved c = let few = c.requires.0 in
    let i = c.loop-p.invariant.0 in
    let h = c.loop-p-test.true in
    let e = c.put_node.ensures in
    ((i.0, i.1, rw e (fills-more few i.1 h i.2)), λ k b. rw e (fills_same few i.1 h i.2 k b ∙ c.loop-p.invariant.1 k b))

pub returns : goal.returns
returns c = let i = c.loop-p.invariant in
    fills_all c.requires.0 i.0.1 c.loop-p-test.false i.0.2 i.1
