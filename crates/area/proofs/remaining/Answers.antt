-- `area::remaining` meets its contract. The loop's invariant: the slots from s on are counted. Assumes nothing.
use native.Mathlib.Omega.{arith}
use mathlib.Core.Path.{sym, ap, ◌∙◌}
use Prim.Native.Nat.{ℕ, ◌+◌, ◌-◌}
use Rattle.area.specs.declared.Left.{Left}
use Rattle.area.specs.Area.{base_at, free_from, left_of}
use Rattle.area.proofs.Remains.{free_none, free_most, left_more}
use Rattle.area.proofs.remaining.Goals as goal

pub base-start-requires : goal.base-start-requires
base-start-requires c = (c.requires.0.size, omega (arith, c.requires.0.count, c.requires.1))

pub overflow_add-k : goal.overflow_add-k
overflow_add-k c = omega (arith, c.requires.0.count, c.requires.1)

pub base-end-requires : goal.base-end-requires
base-end-requires c = (c.requires.0.size, omega (arith, c.requires.0.count, c.requires.1))

pub loop-s-init : goal.loop-s-init
loop-s-init c = let w = c.args.work.now in
    let k = c.args.k in
    let H = c.requires.1 in (
      omega (arith, c.base-start.ensures, c.base-end.ensures, c.requires.0.ends k H),
      omega (arith, c.base-end.ensures),
      (c.requires.0.ends k H).1,
      sym
          (ap left_of (free_none w c.base-end.result (base_at w (c.args.k + 1)) (omega (arith, c.base-end.ensures)))),
    )

pub strike_in-requires : goal.strike_in-requires
strike_in-requires c = (c.requires.0.size, omega (arith, c.loop-s.invariant, c.loop-s-test.true))

pub counted-left-requires : goal.counted-left-requires
counted-left-requires c = let w = c.args.work.now in (
  omega (
    arith,
    c.loop-s.invariant,
    c.loop-s-test.true,
    ap (λ (x : Left). x.count) c.loop-s.invariant.3,
    free_most w c.loop-s.s
        ((base_at w (c.args.k + 1)) - c.loop-s.s),
  ),
  omega (arith, c.loop-s.invariant, c.loop-s-test.true),
)

pub loop-s-preserved : goal.loop-s-preserved
loop-s-preserved c = let w = c.args.work.now in (
  omega (arith, c.loop-s-test.true),
  omega (arith, c.loop-s.invariant),
  c.loop-s.invariant.2,
  left_more w c.loop-s.s (base_at w (c.args.k + 1))
      (omega (arith, c.loop-s-test.true)) c.loop-s.invariant.1 c.loop-s.invariant.3 c.strike_in.ensures c.counted-left.ensures,
)

pub returns : goal.returns
returns c = let w = c.args.work.now in
    c.loop-s.invariant.3 ∙ ap (λ (q : ℕ). left_of (free_from w q ((base_at w (c.args.k + 1)) - q)))
    (omega (arith, c.loop-s-test.false, c.loop-s.invariant.0, c.base-start.ensures))
