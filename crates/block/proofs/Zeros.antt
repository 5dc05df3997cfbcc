-- Laws of `zeros`, for a loop that tests one byte after another: what is left at i, up to e, is the answer.
-- Assumes nothing.
use mathlib.Core.Path.{◌≡◌, ◌∙◌, ap}
use mathlib.Core.List.{List}
use mathlib.Core.Bool.{true, false, ◌&&◌}
use Prim.Native.Nat.{ℕ, suc, ◌+◌, ◌-◌, ◌<◌, ◌≤◌}
use native.Mathlib.Numerals.{add-one}
use native.Mathlib.Omega.{arith}
use lib.Dec.{eqb}
use lib.ListN.{get_or}
use borrow.Author.Tests.{eq-eqb, ne_eqb}
use Rattle.scope.specs.Block.{zeros}

module _ (b : List ℕ) (i e : ℕ) where
  turn : i < e → zeros b i (e - i) ≡ (eqb (get_or b i 0) 0 && zeros b (i + 1) (e - (i + 1)))
  unfolding zeros
  turn h =
      let q : e - i ≡ suc (e - (i + 1)) = omega arith in
      simp (q, add-one)

  -- the byte at i is not 0: that is the answer
  pub stops : i < e → (get_or b i 0 ≡ 0 → ⊥) → zeros b i (e - i) ≡ false
  stops h q = simp (turn h, ne_eqb (get_or b i 0) 0 q)

  -- it is: the answer is that of the bytes after it
  pub goes : i < e → get_or b i 0 ≡ 0 → zeros b i (e - i) ≡ zeros b (i + 1) (e - (i + 1))
  goes h q = turn h ∙ ap (◌&& zeros b (i + 1) (e - (i + 1))) (eq-eqb (get_or b i 0) 0 q)

  -- none is left
  pub done : e ≤ i → zeros b i (e - i) ≡ true
  unfolding zeros
  done h =
      let q : e - i ≡ 0 = omega arith in
      simp q
