-- `area::true_slot` meets its contract. The loop's invariant: what is left from slot s on is the answer. Assumes nothing.
use native.Mathlib.Omega.{arith}
use mathlib.Core.Path.{ap}
use Prim.Native.Nat.{ℕ, ◌-◌}
use Rattle.area.specs.Area.{base_at, true_from}
use Rattle.area.proofs.Remains.{true_found, true-later, true-none}
use mathlib.Core.Path.{sym, ◌∙◌}
use Rattle.area.proofs.true_slot.Goals as goal

pub overflow_add-k : goal.overflow_add-k
overflow_add-k c = omega (arith, c.requires.ranged.0.count, c.requires.ranged.1)

pub base-end-requires : goal.base-end-requires
base-end-requires c = (c.requires.ranged.0.size, omega (arith, c.requires.ranged.0.count, c.requires.ranged.1))

pub base-start-requires : goal.base-start-requires
base-start-requires c = (c.requires.ranged.0.size, omega (arith, c.requires.ranged.0.count, c.requires.ranged.1))

pub loop-s-init : goal.loop-s-init
loop-s-init c = let w = c.args.work.now in
    let k = c.args.k in (
      omega (arith, c.base-end.ensures, c.requires.ranged.0.ends k c.requires.ranged.1),
      sym
          (ap (λ (x : ℕ). true_from w x (c.base-end.result - x)) c.base-start.ensures
          ∙ ap (λ (x : ℕ). true_from w (base_at w k) (x - base_at w k)) c.base-end.ensures),
    )

pub is_true-requires : goal.is_true-requires
is_true-requires c = record {
  area_size_in_bounds = (
    c.requires.ranged.0.size,
    c.requires.ranged.2,
    omega (arith, c.loop-s.invariant.0, c.loop-s-test.true),
    c.requires.vals.1 c.loop-s.s
        (omega (arith, c.loop-s-test.true, c.base-end.ensures)),
  );
  vals = c.requires.vals.0;
}

pub returns-then-is_true : goal.returns-then-is_true
returns-then-is_true c = let w = c.args.work.now in
    true_found w c.loop-s.s c.base-end.result _ c.loop-s.invariant.1 c.loop-s-test.true c.is_true.ensures c.if-is_true.true

pub loop-s-preserved : goal.loop-s-preserved
loop-s-preserved c = let w = c.args.work.now in
    (c.loop-s.invariant.0, true-later w c.loop-s.s c.base-end.result _ c.loop-s.invariant.1 c.loop-s-test.true c.is_true.ensures c.if-is_true.false)

pub returns : goal.returns
returns c = true-none c.args.work.now c.loop-s.s c.base-end.result _ c.loop-s.invariant.1 c.loop-s-test.false
