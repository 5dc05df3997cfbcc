-- `seen::clause_state` meets its contract. The loop's invariant: the sum is that of the slots from s on. Assumes nothing.
use native.Mathlib.Omega.{arith}
use mathlib.Core.Path.{ap, ◌∙◌}
use Prim.Native.Nat.{ℕ, ◌+◌, ◌-◌, ◌≤◌}
use Rattle.calculus.specs.Order.{state_of}
use Rattle.area.specs.Area.{base_at, g_of}
use Rattle.seen.specs.Seen.{literals_from}
use Rattle.seen.proofs.States.{summed_none, summed_more, summed_all}
use Rattle.seen.proofs.clause_state.Goals as goal

pub base-start-requires : goal.base-start-requires
base-start-requires c = (c.requires.ranged.0.size, omega (arith, c.requires.ranged.0.count, c.requires.ranged.1))

pub overflow_add-k : goal.overflow_add-k
overflow_add-k c = omega (arith, c.requires.ranged.0.count, c.requires.ranged.1)

pub base-end-requires : goal.base-end-requires
base-end-requires c = (c.requires.ranged.0.size, omega (arith, c.requires.ranged.0.count, c.requires.ranged.1))

pub loop-s-init : goal.loop-s-init
loop-s-init c = let w = c.args.work.now in
    let k = c.args.k in
    let H = c.requires.ranged.1 in (
      omega (arith, c.base-start.ensures, c.base-end.ensures, c.requires.ranged.0.ends k H),
      omega (arith, c.base-end.ensures),
      (c.requires.ranged.0.ends k H).1,
      summed_none w c.base-end.result (base_at w (k + 1)) 0 (omega (arith, c.base-end.ensures)),
    )

pub literal_in-l-requires : goal.literal_in-l-requires
literal_in-l-requires c = (c.requires.ranged.0.size, omega (arith, c.loop-s.invariant.1, c.loop-s.invariant.2, c.loop-s-test.true))

pub value-requires : goal.value-requires
value-requires c = let low = c.loop-s.s - 1 in
    let in-clause : low + 1 ≤ base_at c.args.work.now (c.args.k + 1) = omega (arith, c.loop-s.invariant.1, c.loop-s-test.true) in
    record {
      area_size_in_bounds = (
        c.requires.ranged.0.size,
        c.requires.ranged.2,
        omega
            (arith, c.literal_in-l.ensures, c.requires.vals.1 low (omega (arith, in-clause))),
      );
      vals = c.requires.vals.0;
    }

pub overflow_add-sum : goal.overflow_add-sum
overflow_add-sum c = omega (arith, c.loop-s.invariant.3.0, c.loop-s.invariant.2, c.weight-w.ensures.1)

pub loop-s-preserved : goal.loop-s-preserved
loop-s-preserved c = let w = c.args.work.now in
    let e = base_at w (c.args.k + 1) in (
      omega (arith, c.loop-s-test.true),
      omega (arith, c.loop-s.invariant.1),
      c.loop-s.invariant.2,
      rw c.nearer-first.ensures
          (summed_more w c.loop-s.s e c.loop-s.sum c.loop-s.first (omega (arith, c.loop-s-test.true)) c.loop-s.invariant.1
          c.literal_in-l.ensures c.value.ensures c.weight-w.ensures.0 c.weight-w.ensures.1 c.loop-s.invariant.3),
    )

pub returns : goal.returns
returns c = let w = c.args.work.now in
    let e = base_at w (c.args.k + 1) in
    c.state_of.ensures ∙ summed_all w c.loop-s.s e c.loop-s.sum c.loop-s.first c.loop-s.invariant.2 c.loop-s.invariant.3
    ∙ ap (λ (q : ℕ). state_of (g_of w) (literals_from w q (e - q))) (omega (arith, c.loop-s-test.false, c.loop-s.invariant.0, c.base-start.ensures))
