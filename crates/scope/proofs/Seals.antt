-- Laws of the check at a block's end: only the 510 bytes before it count. Assumes nothing.
use mathlib.Core.Path.{◌≡◌, refl, ap}
use mathlib.Core.List.{List, ◌∷◌, ◌++◌}
use Prim.Native.Nat.{ℕ, zero, suc, ◌-◌, ◌%◌, ◌≤◌}
use native.Mathlib.Omega.{arith}
use lib.Dec.{lit≤}
use lib.ListN.{length, take, replicate, length-append, length-replicate}
use lib.Seq.{get_or-take, take_all}
use Rattle.scope.specs.Block.{weighted, check_of, word_bytes, seal, block_of}

weighted-take : (n m : ℕ) (b : List ℕ) → n ≤ m → weighted (take m b) n ≡ weighted b n
unfolding weighted
weighted-take zero m b h = refl
weighted-take (suc n) m b h = rw (weighted-take n m b (omega arith), get_or-take m b n 0 h)

module _ (a b : List ℕ) (e : take 510 a ≡ take 510 b) where
  weighted_same : (n : ℕ) → n ≤ 510 → weighted a n ≡ weighted b n
  weighted_same n h = rw (← weighted-take n 510 a h, e, weighted-take n 510 b h)

  pub check_same : check_of a ≡ check_of b
  unfolding check_of
  check_same = ap (◌% 65521) (weighted_same _ (lit≤ tt))

  pub seal_same : seal a ≡ seal b
  unfolding seal
  seal_same = rw (e, check_same)

-- a block before its check: letter, count, index, records, zeros
abbrev pub page : ℕ → ℕ → ℕ → List ℕ → List ℕ
page letter count index body = letter ∷ count ∷ word_bytes index ++ body ++ replicate (506 - length body) 0

module _ (letter count index : ℕ) (body : List ℕ) (short : length body ≤ 506) where
  pub length_page : length (page letter count index body) ≡ 510
  length_page = simp (length-append, length-replicate) (omega arith)

  -- .. and the check follows it
  pub block_page : block_of letter count index body ≡ page letter count index body ++ word_bytes (check_of (page letter count index body))
  unfolding block_of seal
  block_page =
      ap (◌++ word_bytes (check_of (page letter count index body))) (take_all 510 (page letter count index body) (omega (arith, length_page)))
