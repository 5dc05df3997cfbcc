-- `truth::all_low` meets its contract. The loop's invariant: the points passed are low, if `low` says so. Assumes nothing.
use native.Mathlib.Omega.{arith}
use borrow.Author.Count.{below_more}
use borrow.Author.Tests.{ltb-true}
use lib.Dec.{ltb}
use lib.ListN.{get_or}
use Rattle.scope.proofs.Tests.{and_left, and_right}
use Rattle.truth.proofs.all_low.Goals as goal

pub loop-p-init : goal.loop-p-init
loop-p-init c = λ e i h. absurd (omega (arith, h))

pub loop-p-preserved : goal.loop-p-preserved
loop-p-preserved c = let here = ltb (get_or c.args.s.now c.loop-p.p 0) 3 in
    λ e. below_more _ c.loop-p.p (c.loop-p.invariant (and_left c.loop-p.low here e)) (ltb-true _ _ (and_right c.loop-p.low here e))

pub returns : goal.returns
returns c = λ e i h. c.loop-p.invariant e i (omega (arith, c.loop-p-test.false, h))
