-- `block::test` meets its contract: check, heading and padding in this order, and the first that fails is the refusal.
-- Assumes nothing.
use mathlib.Core.Path.{◌≡◌, ◌∙◌, sym}
use mathlib.Core.Bool.{true}
use Prim.Native.Nat.{◌*◌, ◌≤◌}
use native.Mathlib.Omega.{arith}
use lib.ListN.{get_or}
use borrow.Author.Rules.{rules}
use Rattle.scope.specs.Block.{check_ok, head_ok}
use Rattle.block.proofs.Heading.{records_fit}
use Rattle.block.proofs.Verdicts.{bad_check, bad_head, bad_padding, all_right}
use Rattle.block.proofs.test.Goals as goal

pub returns-then-not-check_ok : goal.returns-then-not-check_ok
returns-then-not-check_ok c = sym (bad_check _ _ _ _ (sym c.check_ok.ensures ∙ c.if-not-check_ok.true))

pub returns-then-not-head_ok : goal.returns-then-not-head_ok
returns-then-not-head_ok c = sym
    (bad_head _ _ _ _
    (sym c.check_ok.ensures ∙ c.if-not-check_ok.false)
    (sym c.head_ok.ensures ∙ c.if-not-head_ok.true))

pub overflow_cast-count : goal.overflow_cast-count
overflow_cast-count c = omega (arith, c.type_inv.b 1)

pub overflow_mul-format : goal.overflow_mul-format
overflow_mul-format c =
    let head-right : head_ok c.args.format c.args.b.now c.args.index c.args.last ≡ true = sym c.head_ok.ensures ∙ c.if-not-head_ok.false in
    let room : c.args.format.width * get_or c.args.b.now 1 0 ≤ 506 = records_fit _ _ _ _ c.requires.1 head-right in
    omega (arith, room)

pub overflow_add-format : goal.overflow_add-format
overflow_add-format c =
    let head-right : head_ok c.args.format c.args.b.now c.args.index c.args.last ≡ true = sym c.head_ok.ensures ∙ c.if-not-head_ok.false in
    let room : c.args.format.width * get_or c.args.b.now 1 0 ≤ 506 = records_fit _ _ _ _ c.requires.1 head-right in
    omega (arith, room)

pub padding_ok-requires : goal.padding_ok-requires
padding_ok-requires c =
    let head-right : head_ok c.args.format c.args.b.now c.args.index c.args.last ≡ true = sym c.head_ok.ensures ∙ c.if-not-head_ok.false in
    let room : c.args.format.width * get_or c.args.b.now 1 0 ≤ 506 = records_fit _ _ _ _ c.requires.1 head-right in
    (search rules, omega (arith, room))

pub returns-then-not-padding_ok : goal.returns-then-not-padding_ok
returns-then-not-padding_ok c =
    let check-right : check_ok c.args.b.now ≡ true = sym c.check_ok.ensures ∙ c.if-not-check_ok.false in
    let head-right : head_ok c.args.format c.args.b.now c.args.index c.args.last ≡ true = sym c.head_ok.ensures ∙ c.if-not-head_ok.false in
    sym (bad_padding _ _ _ _ check-right head-right (sym c.padding_ok.ensures ∙ c.if-not-padding_ok.true))

pub returns : goal.returns
returns c =
    let check-right : check_ok c.args.b.now ≡ true = sym c.check_ok.ensures ∙ c.if-not-check_ok.false in
    let head-right : head_ok c.args.format c.args.b.now c.args.index c.args.last ≡ true = sym c.head_ok.ensures ∙ c.if-not-head_ok.false in
    sym (all_right _ _ _ _ check-right head-right (sym c.padding_ok.ensures ∙ c.if-not-padding_ok.false))
