-- `moves::open_from` meets its contract. The invariant: no position passed has an open clause. Assumes nothing.
use mathlib.Core.Path.{◌≡◌, sym, ◌∙◌}
use Prim.Native.Nat.{◌<◌}
use Rattle.trail.proofs.Trails.{trail-length}
use Rattle.state.specs.Work.{tail}
use Rattle.calculus.proofs.Moves.{bit-true}
use native.Mathlib.Omega.{arith}
use Rattle.moves.proofs.open_from.Goals as goal

pub code_at-code-requires-clause-q_bound : goal.code_at-code-requires-clause-q_bound
code_at-code-requires-clause-q_bound c = omega (arith, c.loop-q-test.true, c.count-held.ensures, trail-length (tail c.args.work.now 0) (tail c.args.work.now))

pub returns-then-code-eq1 : goal.returns-then-code-eq1
returns-then-code-eq1 c = let w = c.args.work.now in
    let b : c.loop-q.q < tail w 0 = omega (arith, c.loop-q-test.true, c.count-held.ensures, trail-length (tail w 0) (tail w)) in (
      record {
        from = c.loop-q.auto.q;
        low = omega (arith, b);
        before = λ p a b. c.loop-q.invariant p b a;
        here = λ i. bit-true _ (sym c.code_at-code.ensures.unmet ∙ c.if-code-eq1.true);
      },
      b,
      c.code_at-code.ensures,
    )

pub returns : goal.returns
returns c = let w = c.args.work.now in
    let e : c.count-held.result ≡ tail w 0 = omega (arith, c.count-held.ensures, trail-length (tail w 0) (tail w)) in
    record {
      from = c.requires.work_bound;
      low = omega arith;
      before = λ p a b. c.loop-q.invariant p (omega (arith, b, c.loop-q-test.false, e)) a;
      here = λ i. absurd (omega (arith, i));
    }
