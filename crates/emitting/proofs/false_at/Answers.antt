-- `emitting::false_at` meets its contract: the value 2 is false. Assumes nothing.
use mathlib.Core.Path.{ap, ◌∙◌}
use mathlib.Core.Bool.{true}
use Prim.Native.Nat.{ℕ, ◌/◌}
use native.Mathlib.Omega.{arith}
use borrow.Author.Tests.{lt-ltb, le-ltb}
use Rattle.calculus.specs.Order.{value_of}
use Rattle.state.specs.Work.{g_of}
use Rattle.emitting.proofs.Steps.{half_false, bit_low}
use Rattle.emitting.proofs.false_at.Goals as goal

pub overflow_cast-result : goal.overflow_cast-result
overflow_cast-result c = let g = g_of c.args.work.now in
    let half = ap (λ (v : ℕ). v / 2) c.value.ensures ∙ half_false (value_of g c.args.l) in
    omega (arith, half, bit_low true g c.args.l)

pub returns-then-i-len : goal.returns-then-i-len
returns-then-i-len c = rw (lt-ltb c.args.i c.args.len c.if-i-len.true)
    (ap (λ (v : ℕ). v / 2) c.value.ensures ∙ half_false (value_of (g_of c.args.work.now) c.args.l))

pub returns : goal.returns
returns c = rw (le-ltb c.args.i c.args.len c.if-i-len.false)
