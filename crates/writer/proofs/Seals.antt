-- Laws of the check at a block's end: it is stored there, and only the 510 bytes before it count.
-- Assumes nothing.
use mathlib.Core.Path.{◌≡◌, ◌∙◌, refl}
use mathlib.Core.List.{List, [], ◌∷◌, ◌++◌, append-nil}
use Prim.Native.Nat.{ℕ, ◌+◌, ◌-◌, ◌%◌, ◌/◌, ◌≤◌}
use native.Mathlib.Omega.{arith}
use lib.ListN.{length, set, take, drop, replicate, drop_of_length-le, length-append, length-replicate}
use lib.Seq.{paste, sets-eq, take-append-le}
use Rattle.scope.specs.Block.{check_of, word_bytes, seal, block_of}
use Rattle.scope.proofs.Seals.{seal_same}
use Rattle.writer.proofs.Copies.{copy_into_zeros}

-- two stores at the end
last_two : (b : List ℕ) (x y : ℕ) → length b ≡ 512 → set (set b 510 x) 511 y ≡ take 510 b ++ x ∷ y ∷ []
last_two b x y h =
    let e : drop 512 b ≡ [] = drop_of_length-le b {i = 512} (omega arith) in
    sets-eq (x ∷ y ∷ []) b 510 (omega arith) ∙ rw (e, append-nil)

-- .. of the check, low byte first
pub check-stored : {check : ℕ} (b : List ℕ) → check ≡ check_of b → length b ≡ 512
    → set (set b 510 (check % 256)) 511 (check / 256) ≡ seal b
unfolding seal
check-stored b e h = rw (← e) (last_two b _ _ h)

-- what stands after the first 510 bytes does not count
pub seal-front : (a w : List ℕ) → 510 ≤ length a → seal (a ++ w) ≡ seal a
seal-front a w h = seal_same (a ++ w) a (take-append-le 510 a w h)

-- records copied to the start of a block's zeros, then sealed: what stood after the zeros does not count
pub seal_filled : (p s w : List ℕ) (k : ℕ) → length p + k ≡ 510 → length s ≤ k
    → seal (paste (p ++ replicate k 0 ++ w) (length p) s (length s)) ≡ seal (p ++ s ++ replicate (k - length s) 0)
seal_filled p s w k l h =
    rw (copy_into_zeros p s w k h)
    (seal-front (p ++ s ++ replicate (k - length s) 0) w (simp (length-append, length-replicate) (omega arith)))

-- .. those of a new block, which was 512 zeros before its heading was stored
pub seal_new : (letter count index : ℕ) (body : List ℕ) → length body ≤ 506
    → seal (paste (letter ∷ count ∷ word_bytes index ++ replicate 508 0) 4 body (length body)) ≡ block_of letter count index body
unfolding block_of
seal_new letter count index body h = seal_filled (letter ∷ count ∷ word_bytes index) body (0 ∷ 0 ∷ []) 506 refl h
