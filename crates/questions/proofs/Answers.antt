-- What follows from answers, over any truths: what some truths make true is possible, and a part of a possible list is. Assumes nothing.
use mathlib.Core.Path.{◌≡◌, refl}
use mathlib.Core.List.{List}
use mathlib.Core.Bool.{Bool, true, false}
use Prim.Native.Nat.{ℕ}
use native.Mathlib.Omega.{arith}
use lib.ListN.{get_or}
use Rattle.calculus.specs.Order.{Answer, possible, impossible, unfinished}
use Rattle.calculus.specs.Model.{All}
use Rattle.calculus.proofs.Lists.{all_get_d, all_each, all_map}
use Rattle.rules.specs.Derive.{is_impossible}
use Rattle.questions.specs.Indices.{picked}
use Rattle.questions.specs.Asking.{Decides}

module _ (Truths : Type 0) (holds : Truths → ℕ → Bool) (By : List ℕ → Truths → Type 0) (Fit : ℕ → Type 0) (ask : List ℕ → Answer)
    (D : Decides Truths holds By Fit ask) where
  -- the literals at any indices fit
  pub picked_fit : (ls : List ℕ) → All Fit ls → (is : List ℕ) → All Fit (picked ls is)
  picked_fit ls a is = all_map Fit (λ i. get_or ls i 0) is (all_each (λ i. Fit (get_or ls i 0)) (λ i. all_get_d Fit ls i 0 D.base a) is)

  module _ (ls : List ℕ) (fit : All Fit ls) where
    -- what some truths make true is possible
    pub is-possible : (v : Truths) → All (λ l. holds v l ≡ true) ls → (G : List ℕ) × (ask ls ≡ possible G)
    is-possible v t = go (ask ls) refl
      where
        go : (x : Answer) → ask ls ≡ x → (G : List ℕ) × (ask ls ≡ possible G)
        go (possible G) q = (G, q)
        go impossible q = absurd (D.none ls fit q v t)
        go unfinished q = absurd (D.ends ls fit q)

    -- what is not impossible is made true
    pub not-impossible : is_impossible (ask ls) ≡ false → (v : Truths) × All (λ l. holds v l ≡ true) ls
    not-impossible e = go (ask ls) refl e
      where
        go : (x : Answer) → ask ls ≡ x → is_impossible x ≡ false → (v : Truths) × All (λ l. holds v l ≡ true) ls
        go (possible G) q e =
            let s = D.some ls G fit q in
            (s.0, D.makes ls G fit q s.0 s.1)
        go impossible q e = let z : ◌≡◌ {A = ℕ} 0 1 = cc in absurd (omega arith)
        go unfinished q e = absurd (D.ends ls fit q)
