-- `lookup::same` meets its contract: the two nodes differ in the first two operands, or in the kind, or only in c if at all. Assumes nothing.
use mathlib.Core.Path.{◌≡◌, ◌∙◌, sym}
use mathlib.Core.Logic.{⊎_elim}
use Prim.Native.Nat.{◌+◌, ◌*◌}
use native.Mathlib.Omega.{arith}
use borrow.Author.Tests.{ne_eqb}
use Rattle.lookup.proofs.Finds.{other_pair, other_kind, only_c}
use Rattle.lookup.proofs.same.Goals.{then-pair, else-pair}
use Rattle.lookup.proofs.same.Goals as goal

pub returns-then-x-y : goal.returns-then-x-y
returns-then-x-y c = let x = c.args.x in
    let y = c.args.y in
    let pairs : x.a + 65536 * x.b ≡ y.a + 65536 * y.b = sym c.pair.ensures ∙ c.if-x-y.true.0 ∙ c.pair-2.ensures in
    only_c x y c.if-x-y.true.1 (omega arith) (omega arith)

pub returns-else-x-y : goal.returns-else-x-y
returns-else-x-y c = elim c.if-pair.branch [
  | then-pair w ↦ w.t-4-is ∙ other_kind c.args.x c.args.y (⊎_elim (λ p. p.1) (λ p. absurd (p w.if-pair.true)) c.if-x-y.either)
  | else-pair w ↦ w.t-4-is ∙ ne_eqb _ _ w.if-pair.false ∙ other_pair c.args.x c.args.y (λ q. w.if-pair.false (c.pair.ensures ∙ q ∙ sym c.pair-2.ensures))
]
