-- Laws of `first`, for a loop that tests one index after another: what is left at i, up to e, is the answer.
-- Assumes nothing.
use mathlib.Core.Path.{◌≡◌, ◌∙◌, ap, refl}
use Prim.Native.Nat.{ℕ, zero, suc, ◌+◌, ◌-◌, ◌<◌, ◌≤◌}
use native.Mathlib.Nat.{add-zero, add-suc, suc-add, le_of_suc-le-suc, not-suc-le-zero}
use native.Mathlib.Numerals.{add-one}
use native.Mathlib.Omega.{arith}
use Rattle.scope.specs.Outcome.{Outcome, refused, fine, first, ◌>>◌}
use Rattle.scope.proofs.Tests.{then_first, then_next}

module _ (f : ℕ → Outcome (Unit {0})) (i e : ℕ) where
  turn : i < e → first f i (e - i) ≡ (f i >> first f (i + 1) (e - (i + 1)))
  unfolding first
  turn h =
      let q : e - i ≡ suc (e - (i + 1)) = omega arith in
      simp (q, add-one)

  -- the test at i refuses: that is the answer
  pub stops : (number place : ℕ) → i < e → f i ≡ refused number place → first f i (e - i) ≡ refused number place
  stops number place h q = simp (turn h, q)

  -- it does not: the answer is that of the tests after it
  pub goes : i < e → f i ≡ fine → first f i (e - i) ≡ first f (i + 1) (e - (i + 1))
  goes h q = turn h ∙ ap (◌>> first f (i + 1) (e - (i + 1))) q

  -- none is left
  pub done : e ≤ i → first f i (e - i) ≡ fine
  unfolding first
  done h =
      let q : e - i ≡ 0 = omega arith in
      simp q

module _ (f : ℕ → Outcome (Unit {0})) where
  -- no test refuses: neither do they all
  pub all_fine : (n i : ℕ) → ((k : ℕ) → i ≤ k → k < i + n → f k ≡ fine) → first f i n ≡ fine
  unfolding first
  all_fine zero i h = refl
  all_fine (suc n) i h =
      rw (h i (omega arith) (omega arith)) (all_fine n (suc i) (λ k a b. h k (omega arith) (omega arith)))

  -- and the other way
  fine-at : (n i d : ℕ) → first f i n ≡ fine → d < n → f (i + d) ≡ fine
  unfolding first
  fine-at zero i d q h = absurd (not-suc-le-zero h)
  fine-at (suc n) i zero q h = rw add-zero (then_first (f i) (first f (suc i) n) q)
  fine-at (suc n) i (suc d) q h =
      rw (add-suc, ← suc-add) (fine-at n (suc i) d (then_next (f i) (first f (suc i) n) q) (le_of_suc-le-suc h))

  pub fine_each : (n i : ℕ) → first f i n ≡ fine → (k : ℕ) → i ≤ k → k < i + n → f k ≡ fine
  fine_each n i q k a b =
      let z : i + (k - i) ≡ k = omega arith in
      rw z at (fine-at n i (k - i) q (omega arith))

  -- those before d pass and that at d refuses: that is the answer
  pub first_refuses : (number place : ℕ) (n i d : ℕ)
      → d < n → ((k : ℕ) → i ≤ k → k < i + d → f k ≡ fine) → f (i + d) ≡ refused number place → first f i n ≡ refused number place
  unfolding first
  first_refuses number place zero i d h ok e = absurd (not-suc-le-zero h)
  first_refuses number place (suc n) i zero h ok e = rw (rw add-zero at e)
  first_refuses number place (suc n) i (suc d) h ok e =
      rw (ok i (omega arith) (omega arith))
      (first_refuses number place n (suc i) d (omega arith) (λ k a b. ok k (omega arith) (omega arith)) (rw (add-suc, ← suc-add) at e))
