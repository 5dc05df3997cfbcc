-- A reader hands out the steps of a derivation that reads, one after another, and then says that none is left (`hands_out`, `none_left`,
-- `reads_all`). Assumes nothing.
use mathlib.Core.Path.{◌≡◌, ◌∙◌, ap, sym}
use mathlib.Core.List.{List}
use mathlib.Core.Bool.{true, false}
use Prim.Native.Nat.{ℕ, zero, suc, ◌+◌, ◌-◌, ◌/◌, ◌<◌, ◌≤◌, min}
use native.Mathlib.Numerals.{add-one}
use native.Mathlib.Omega.{arith}
use lib.Dec.{ltb}
use lib.ListN.{length, get_or, drop, drop_of_length-le}
use lib.Seq.{drop-cons}
use borrow.Author.Tests.{lt-ltb, le-ltb, ltb-true, ltb-false}
use Rattle.scope.specs.Outcome.{Outcome, answer, refused, fine}
use Rattle.scope.specs.Block.{records_in}
use Rattle.scope.proofs.First.{fine_each}
use Rattle.rules.specs.declared.Step.{Step}
use Rattle.rules.specs.Steps.{derivations, step_at, size_ok, form_test, decode_steps}
use Rattle.rules.proofs.Laws.{by_test}
use Rattle.steps.specs.Opened.{place_of, block_row, step_row}
use Rattle.steps.proofs.Form.{whole-blocks, steps_most, block_fine, size_right, size_met, blocks_met, forms_met, few_steps, read-fine, read_length, read_step}
use Rattle.step_reader.specs.Handed.{one, none, counted_step, block_of, step_handed, next_of, after_of, read_from}

-- a step's test and its rows, as the code meets them
module _ (d : List ℕ) (at : ℕ) where
  pub past_count : records_in derivations d ≤ at → counted_step d at ≡ answer none
  unfolding counted_step
  past_count h = simp (le-ltb at (records_in derivations d) h)

  module _ (h : at < records_in derivations d) where
    pub ill-formed : {number : ℕ} → step_row d at ≡ refused number at → counted_step d at ≡ refused number at
    unfolding counted_step
    ill-formed e = rw (lt-ltb at (records_in derivations d) h, e)

    pub well-formed : step_row d at ≡ fine → counted_step d at ≡ answer (one (step_at d at))
    unfolding counted_step
    well-formed e = rw (lt-ltb at (records_in derivations d) h, e)

  pub size_refused : size_ok (length d) ≡ false → step_handed d at ≡ refused 40 0
  unfolding step_handed
  size_refused e = rw e

  module _ (size : size_ok (length d) ≡ true) where
    pub block_refused : {number place : ℕ} → block_row d (block_of d at) ≡ refused number place → step_handed d at ≡ refused number place
    unfolding step_handed
    block_refused e = rw (size, e)

    module _ (block : block_row d (block_of d at) ≡ fine) where
      pub block_passes : step_handed d at ≡ counted_step d at
      unfolding step_handed
      block_passes = rw (size, block)

      -- a step below the count lies within the bytes: in a block before the last, or in the last, which has passed
      pub within : at < records_in derivations d → place_of at + 4 ≤ length d
      within h =
          let some = (whole-blocks (length d) size).0 in
          by_test (ltb (at / 126) (length d / 512 - 1))
          (λ q. omega (arith, ltb-true (at / 126) (length d / 512 - 1) q))
          (λ q.
          let last : min (at / 126) (length d / 512 - 1) ≡ length d / 512 - 1 = omega (arith, ltb-false (at / 126) (length d / 512 - 1) q) in
          omega (arith, steps_most d some (rw last at block), ltb-false (at / 126) (length d / 512 - 1) q))

  -- with what opening met
  next_fine : {form : Outcome (Unit {0})} → form ≡ fine → next_of d at form ≡ step_handed d at
  next_fine e = rw e

-- a derivation that reads: its steps, and then none
module _ (d : List ℕ) (ss : List Step) (e : decode_steps d ≡ answer ss) where
  opens : (k : ℕ) → next_of d k (form_test d) ≡ counted_step d k
  opens k =
      let test = read-fine d ss e in
      let met = size_met d test in
      next_fine d k test ∙ block_passes d k (size_right d test) (block_fine d met.0 (blocks_met d test) (block_of d k) (omega (arith, met.0)))

  pub hands_out : (k : ℕ) (z : Step) → k < length ss → next_of d k (form_test d) ≡ answer (one (get_or ss k z))
  hands_out k z h =
      let below : k < records_in derivations d = omega (arith, read_length d ss e) in
      let row = fine_each (step_row d) (records_in derivations d) 0 (forms_met d (read-fine d ss e)) k (omega arith) (omega arith) in
      opens k ∙ well-formed d k below row ∙ ap (λ s. answer (one s)) (sym (read_step d ss e k z h))

  pub none_left : (k : ℕ) → length ss ≤ k → next_of d k (form_test d) ≡ answer none
  none_left k h = opens k ∙ past_count d k (omega (arith, read_length d ss e))

  goes_on : (k : ℕ) → k < length ss → after_of k ≡ k + 1
  unfolding after_of
  goes_on k h = simp (lt-ltb k 8257536 (omega (arith, read_length d ss e, few_steps d (read-fine d ss e))))

  -- all of them in order: as many calls as there are steps, or more, hand out the derivation's steps from k on
  left : (n k : ℕ) → length ss ≤ k + n → read_from d (form_test d) k n ≡ drop k ss
  unfolding read_from
  left zero k h = sym (drop_of_length-le ss {i = k} (omega arith))
  left (suc n) k h =
      by_test (ltb k (length ss))
      (λ q. let l = ltb-true k (length ss) q in
      let z : Step = step_at d k in
      rw (hands_out k z l, goes_on k l, left n (k + 1) (omega arith), drop-cons ss k z l, add-one))
      (λ q. let l = ltb-false k (length ss) q in rw (none_left k l) (sym (drop_of_length-le ss {i = k} l)))

  pub reads_all : (n : ℕ) → length ss ≤ n → read_from d (form_test d) 0 n ≡ ss
  reads_all n h = left n 0 (omega arith)
