-- `repeats::seen` meets its contract: the walk along the chain of the key's hash finds what `repeats` does. The invariant says what
-- is left of that search; the links fall, so the measure is the link. Assumes nothing.
use mathlib.Core.Path.{◌∙◌, sym}
use Prim.Native.Nat.{◌+◌, ◌-◌}
use native.Mathlib.Omega.{arith}
use borrow.Author.Tests.{eqb-true, eqb-false}
use Rattle.repeats.proofs.Keys.{place_mono}
use Rattle.repeats.proofs.Chains.{at_head, at-end, falls, finds, goes_on}
use Rattle.repeats.proofs.seen.Goals as goal

pub bounds-chains-h : goal.bounds-chains-h
bounds-chains-h c = omega (arith, c.requires.4.size, c.hash-h.ensures.1)

pub overflow_cast-s : goal.overflow_cast-s
overflow_cast-s c = omega (arith, c.type_inv.chains c.hash-h.result)

pub loop-s-init : goal.loop-s-init
loop-s-init c = let h = c.hash-h.ensures in
    rw h.0 (at_head (λ i. (c.type_inv.t i).fits) c.requires.4 c.requires.3 c.requires.2 (rw h.0 at h.1))

pub same-requires : goal.same-requires
same-requires c = (
  omega arith,
  omega (arith, place_mono (c.loop-s.s - 1) c.args.n (omega arith)),
)

pub returns-then-same : goal.returns-then-same
returns-then-same c = finds c.loop-s.invariant (λ z. omega arith) (eqb-true _ _ (sym c.same.ensures ∙ c.if-same.true))

pub bounds-chains-s : goal.bounds-chains-s
bounds-chains-s c = omega (arith, c.requires.4.size, c.requires.0, c.loop-s.invariant.low, c.loop-s-test.true)

pub overflow_cast-s-in-loop-s : goal.overflow_cast-s-in-loop-s
overflow_cast-s-in-loop-s c = omega (arith, c.type_inv.chains (4096 + (c.loop-s.s - 1)))

pub loop-s-smaller : goal.loop-s-smaller
loop-s-smaller c = omega (arith, falls c.loop-s.invariant (λ z. omega arith))

pub loop-s-preserved : goal.loop-s-preserved
loop-s-preserved c = goes_on
    c.loop-s.invariant
    (λ z. omega arith)
    (eqb-false _ _ (sym c.same.ensures ∙ c.if-same.false))

pub returns : goal.returns
returns c = at-end c.loop-s.invariant (omega arith)
