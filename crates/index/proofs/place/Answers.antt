-- `index::place` meets its contract. The loop's invariant: the nodes passed have their places, and start is where the next one's edges do.
-- Assumes nothing.
use mathlib.Core.Path.{◌≡◌, refl, ◌∙◌}
use Prim.Native.Nat.{◌+◌}
use lib.ListN.{get_or}
use Rattle.index.specs.Index.{mid_at}
use Rattle.index.specs.Built.{pairs_to, threes_to, start_of}
use Rattle.index.proofs.Sums.{sum_next, total_low}
use Rattle.index.proofs.Wholes.{start_none, place_none, place_more, place_same}
use Rattle.index.proofs.Chains.{places}
use native.Mathlib.Omega.{arith}
use Rattle.index.proofs.place.Goals as goal

pub loop-m-init : goal.loop-m-init
loop-m-init c = let q = c.requires.1 in
    ((q.0, q.1, place_none q.2, start_none q.0 c.args.n), λ i h. refl)

pub overflow_add-mid-in-loop-m : goal.overflow_add-mid-in-loop-m
overflow_add-mid-in-loop-m c = let h = c.loop-m-test.true in
    let i = c.loop-m.invariant.0 in
    omega (arith, i.3, i.2.rest_mid _ (omega arith) h, total_low i.0 _ c.requires.0 _ h)

pub overflow_add-end-in-loop-m : goal.overflow_add-end-in-loop-m
overflow_add-end-in-loop-m c = let h = c.loop-m-test.true in
    let i = c.loop-m.invariant.0 in
    omega (arith, i.3, i.2.rest_mid _ (omega arith) h, i.2.rest_end _ (omega arith) h, total_low i.0 _ c.requires.0 _ h)

pub loop-m-preserved : goal.loop-m-preserved
loop-m-preserved c = let h = c.loop-m-test.true in
    let i = c.loop-m.invariant.0 in
    let few = c.requires.0 in
    let m = c.loop-m.m in
    let s = c.loop-m.start in
    let mid = i.2.rest_mid m (omega arith) h in
    let e = s + get_or c.loop-m.x (mid_at + m) 0 in
    let e-is : e ≡ start_of i.0 c.args.n m + pairs_to i.0 c.args.n m = omega (arith, mid, i.3) in
    let next = sum_next (λ k. pairs_to i.0 c.args.n k + threes_to i.0 c.args.n k) m in (
      (i.0, i.1, place_more few h i.2 s e i.3 e-is, omega (arith, next, mid, i.2.rest_end m (omega arith) h, i.3)),
      λ k b. place_same few h i.2 s e i.3 e-is k b ∙ c.loop-m.invariant.1 k b,
    )

pub returns : goal.returns
returns c = let i = c.loop-m.invariant in
    let e : c.loop-m.m ≡ c.args.n = omega arith in
    ((i.0.0, i.0.1, places c.requires.0 (rw e at i.0.2)), i.1)
