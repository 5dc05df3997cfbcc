-- What is looked at to hand out a step: the length, the first byte, which says the version, and one block (`one_block`). Assumes nothing.
use mathlib.Core.Path.{◌≡◌, ◌∙◌, ap, sym, refl}
use mathlib.Core.List.{List}
use mathlib.Core.Bool.{true}
use Prim.Native.Nat.{ℕ, ◌+◌, ◌-◌, ◌*◌, ◌/◌, ◌%◌, ◌<◌, min}
use native.Mathlib.Omega.{arith}
use lib.Dec.{ltb, lit<}
use lib.ListN.{length, get_or, take, drop}
use lib.Seq.{get_or-take, get_or-drop}
use borrow.Author.Tests.{lt-ltb, ltb-true, ltb-false}
use Rattle.scope.specs.Outcome.{Outcome, answer, refused, fine}
use Rattle.scope.specs.Block.{block_at, record_at, records_in}
use Rattle.rules.specs.Steps.{derivations, version_of, step_of, step_at, size_ok}
use Rattle.rules.proofs.Laws.{by_test}
use Rattle.steps.specs.Opened.{block_row}
use Rattle.steps.proofs.Form.{whole-blocks, steps_most}
use Rattle.step_reader.specs.Handed.{counted_step, block_of, step_handed}
use Rattle.step_reader.proofs.Steps.{size_refused, block_refused, block_passes}

-- byte i of the record at place m of block j
byte_in : (d : List ℕ) (j m i : ℕ) → i < 4 → m + i < 512 → get_or (take 4 (drop (512 * j + m) d)) i 0 ≡ get_or (block_at d j) (m + i) 0
byte_in d j m i h g =
    let q : 512 * j + m + i ≡ 512 * j + (m + i) = omega arith in
    get_or-take 4 (drop (512 * j + m) d) i 0 h ∙ get_or-drop (512 * j + m) d i 0 ∙ ap (λ (k : ℕ). get_or d k 0) q
    ∙ sym (get_or-take 512 (drop (512 * j) d) (m + i) 0 g ∙ get_or-drop (512 * j) d (m + i) 0)

module _ (d e : List ℕ) where
  -- a step whose block is the same is the same
  same_step : (at : ℕ) → block_at d (at / 126) ≡ block_at e (at / 126) → step_at d at ≡ step_at e at
  unfolding step_of record_at
  same_step at q = rw (same 0 (lit< tt), same 1 (lit< tt), same 2 (lit< tt), same 3 (lit< tt))
    where
      same : (i : ℕ) → i < 4 → get_or (take 4 (drop (512 * (at / 126) + (4 + 4 * (at % 126))) d)) i 0
          ≡ get_or (take 4 (drop (512 * (at / 126) + (4 + 4 * (at % 126))) e)) i 0
      same i h =
          byte_in d (at / 126) (4 + 4 * (at % 126)) i h (omega arith) ∙ ap (λ (b : List ℕ). get_or b (4 + 4 * (at % 126) + i) 0) q
          ∙ sym (byte_in e (at / 126) (4 + 4 * (at % 126)) i h (omega arith))

-- bytes of the same length and version whose block of the index is the same
module _ (d e : List ℕ) (at : ℕ) (size : length d ≡ length e) (first : get_or d 0 0 ≡ get_or e 0 0)
    (block : block_at d (block_of d at) ≡ block_at e (block_of d at)) where
  same_version : version_of d ≡ version_of e
  unfolding version_of
  same_version = rw first

  same_row : block_row d (block_of d at) ≡ block_row e (block_of e at)
  same_row = rw (same_version, block, size)

  -- where the block passes: the count decides alike, and the step is the same
  module _ (some : 0 < length d / 512) (passes : block_row d (block_of d at) ≡ fine) where
    same_test : ltb at (records_in derivations d) ≡ ltb at (records_in derivations e)
    unfolding records_in
    same_test =
        by_test (ltb (at / 126) (length d / 512 - 1))
        (λ q.
        let l = ltb-true (at / 126) (length d / 512 - 1) q in
        lt-ltb at (records_in derivations d) (omega arith) ∙ sym (lt-ltb at (records_in derivations e) (omega (arith, size))))
        (λ q.
        let last : min (at / 126) (length d / 512 - 1) ≡ length d / 512 - 1 = omega (arith, ltb-false (at / 126) (length d / 512 - 1) q) in
        rw (sym size, rw last at block))

    same-counted : counted_step d at ≡ counted_step e at
    unfolding counted_step
    same-counted =
        by_test (ltb at (records_in derivations d))
        (λ q.
        let own : min (at / 126) (length d / 512 - 1) ≡ at / 126 = below (ltb-true at (records_in derivations d) q) in
        rw (sym same_test, q, same_version, same_step d e at (rw own at block)))
        (λ q. rw (sym same_test, q))
      where
        below : at < records_in derivations d → min (at / 126) (length d / 512 - 1) ≡ at / 126
        below h =
            by_test (ltb (at / 126) (length d / 512 - 1))
            (λ q. omega (arith, ltb-true (at / 126) (length d / 512 - 1) q))
            (λ q.
            let l = ltb-false (at / 126) (length d / 512 - 1) q in
            let last : min (at / 126) (length d / 512 - 1) ≡ length d / 512 - 1 = omega arith in
            omega (arith, steps_most d some (rw last at passes)))

  pub one_block : step_handed d at ≡ step_handed e at
  one_block =
      by_test (size_ok (length d))
      (λ q. go q (block_row d (block_of d at)) refl)
      (λ q. size_refused d at q ∙ sym (size_refused e at (rw size at q)))
    where
      go : size_ok (length d) ≡ true → (o : Outcome (Unit {0})) → block_row d (block_of d at) ≡ o → step_handed d at ≡ step_handed e at
      go q (refused number place) r = block_refused d at q r ∙ sym (block_refused e at (rw size at q) (sym same_row ∙ r))
      go q (answer tt) r =
          block_passes d at q r ∙ same-counted (whole-blocks (length d) q).0 r ∙ sym (block_passes e at (rw size at q) (sym same_row ∙ r))
