-- `block::head_ok` meets its contract: each test that fails decides, and past all of them only the last block may be short.
-- Assumes nothing.
use mathlib.Core.Path.{◌≡◌, ◌∙◌, sym}
use mathlib.Core.Bool.{Bool, ◌||◌}
use native.Mathlib.Omega.{arith}
use lib.Dec.{eqb}
use lib.ListN.{get_or}
use Rattle.scope.specs.Block.{head_ok}
use Rattle.block.proofs.Heading.{bad_letter, bad_index, no_record, too_many, full_or_last}
use Rattle.block.proofs.head_ok.Goals as goal

pub returns-then-b-format : goal.returns-then-b-format
returns-then-b-format c = sym (bad_letter _ _ _ _ c.if-b-format.true)

pub returns-then-stated-index : goal.returns-then-stated-index
returns-then-stated-index c = sym (bad_index _ _ _ _ (λ q. c.if-stated-index.true (c.word-stated.ensures ∙ q)))

pub overflow_cast-count : goal.overflow_cast-count
overflow_cast-count c = omega (arith, c.type_inv.b 1)

pub returns-then-count-eq0 : goal.returns-then-count-eq0
returns-then-count-eq0 c = sym (no_record _ _ _ _ c.if-count-eq0.true)

pub returns-then-format-count : goal.returns-then-format-count
returns-then-format-count c = sym (too_many _ _ _ _ c.if-format-count.true)

pub returns-then-last : goal.returns-then-last
returns-then-last c =
    let rest : (t : Bool) → c.args.last ≡ t
    → head_ok c.args.format c.args.b.now c.args.index c.args.last
    ≡ (t || eqb (get_or c.args.b.now 1 0) c.args.format.capacity) = λ _. full_or_last _ _ _ _
    c.if-b-format.false
    (sym c.word-stated.ensures ∙ c.if-stated-index.false)
    (omega (arith, c.if-count-eq0.false))
    c.if-format-count.false in
    sym (rest _ c.if-last.true)

pub returns : goal.returns
returns c =
    let rest : (t : Bool) → c.args.last ≡ t
    → head_ok c.args.format c.args.b.now c.args.index c.args.last
    ≡ (t || eqb (get_or c.args.b.now 1 0) c.args.format.capacity) = λ _. full_or_last _ _ _ _
    c.if-b-format.false
    (sym c.word-stated.ensures ∙ c.if-stated-index.false)
    (omega (arith, c.if-count-eq0.false))
    c.if-format-count.false in
    sym (rest _ c.if-last.false)
