-- Laws of `list_from`, and of a list of zeros. Assumes nothing.
use mathlib.Core.Path.{◌≡◌, ◌∙◌, ap, sym, refl}
use mathlib.Core.List.{[], ◌∷◌, ◌++◌}
use Prim.Native.Nat.{ℕ, zero, suc, ◌+◌, ◌-◌, ◌<◌, ◌≤◌}
use native.Mathlib.Nat.{add-zero, zero-add, add-suc, suc-add, le_of_suc-le-suc, not-suc-le-zero}
use native.Mathlib.Numerals.{add-one}
use native.Mathlib.Omega.{arith}
use lib.ListN.{length, get_or, take, drop, replicate}
use Rattle.scope.specs.Table.{list_from}

module _ {A : Type 0} (f : ℕ → A) where
  pub length_list_from : (n i : ℕ) → length (list_from f i n) ≡ n
  unfolding list_from
  length_list_from zero i = refl
  length_list_from (suc n) i = ap suc (length_list_from n (suc i))

  pub get_d_list_from : (n i k : ℕ) (d : A) → k < n → get_or (list_from f i n) k d ≡ f (i + k)
  unfolding list_from
  get_d_list_from zero i k d h = absurd (not-suc-le-zero h)
  get_d_list_from (suc n) i zero d h = ap f (sym (add-zero i))
  get_d_list_from (suc n) i (suc k) d h =
      get_d_list_from n (suc i) k d (le_of_suc-le-suc h) ∙ ap f (suc-add i k ∙ sym (add-suc i k))

  pub drop_list_from : (k n i : ℕ) → drop k (list_from f i (k + n)) ≡ list_from f (i + k) n
  unfolding list_from
  drop_list_from zero n i = ap (list_from f i) (zero-add n) ∙ ap (λ (j : ℕ). list_from f j n) (sym (add-zero i))
  drop_list_from (suc k) n i =
      rw (suc-add k n) (drop_list_from k n (suc i) ∙ ap (λ (j : ℕ). list_from f j n) (suc-add i k ∙ sym (add-suc i k)))

  pub take_list_from : (k n i : ℕ) → take k (list_from f i (k + n)) ≡ list_from f i k
  unfolding list_from
  take_list_from zero n i = refl
  take_list_from (suc k) n i = rw (suc-add k n) (ap (f i ∷◌) (take_list_from k n (suc i)))

  -- one element more
  pub list_from_more : (n i : ℕ) → list_from f i (suc n) ≡ list_from f i n ++ f (i + n) ∷ []
  unfolding list_from
  list_from_more zero i = ap (λ (j : ℕ). f j ∷ []) (sym (add-zero i))
  list_from_more (suc n) i =
      ap (f i ∷◌) (list_from_more n (suc i) ∙ ap (λ (j : ℕ). list_from f (suc i) n ++ f j ∷ []) (suc-add i n ∙ sym (add-suc i n)))

  -- for a loop: what is left at i, up to e
  pub list_from_turn : (i e : ℕ) → i < e → list_from f i (e - i) ≡ f i ∷ list_from f (i + 1) (e - (i + 1))
  unfolding list_from
  list_from_turn i e h =
      let q : e - i ≡ suc (e - (i + 1)) = omega arith in
      simp (q, add-one)

  pub list_from_done : (i e : ℕ) → e ≤ i → list_from f i (e - i) ≡ []
  unfolding list_from
  list_from_done i e h =
      let q : e - i ≡ 0 = omega arith in
      simp q

-- two functions that agree below the end give one list
pub list_from_same : {A : Type 0} (f g : ℕ → A) (n i : ℕ) → ((k : ℕ) → i ≤ k → k < i + n → f k ≡ g k) → list_from f i n ≡ list_from g i n
unfolding list_from
list_from_same f g zero i h = refl
list_from_same {A} f g (suc n) i h =
    ap (◌∷ list_from f (suc i) n) (h i (omega arith) (omega arith))
    ∙ ap (g i ∷◌) (list_from_same f g n (suc i) (λ k a b. h k (omega arith) (omega arith)))

pub zeros-at : (n i : ℕ) → ◌≡◌ {A = ℕ} (get_or (replicate n 0) i 0) 0
zeros-at zero i = refl
zeros-at (suc n) zero = refl
zeros-at (suc n) (suc i) = zeros-at n i
