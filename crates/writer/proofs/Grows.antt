-- A block with one record more is the block of the records with that one. Assumes nothing.
use mathlib.Core.Path.{◌≡◌}
use mathlib.Core.List.{List, ◌∷◌, ◌++◌}
use Prim.Native.Nat.{ℕ, suc, ◌+◌, ◌-◌, ◌≤◌}
use native.Mathlib.Omega.{arith}
use lib.ListN.{length, replicate, length-append}
use Rattle.scope.specs.Block.{check_of, word_bytes, seal, block_of}
use Rattle.scope.proofs.Seals.{page, block_page}
use Rattle.writer.specs.Grown.{grown}
use Rattle.writer.proofs.Seals.{seal_filled}

module _ (letter count index : ℕ) (body : List ℕ) where
  -- a block's records in two parts
  in_parts : (r : List ℕ)
      → block_of letter count index (body ++ r)
      ≡ seal (letter ∷ count ∷ word_bytes index ++ body ++ r ++ replicate (506 - length body - length r) 0)
  unfolding block_of
  in_parts r =
      let n : 506 - (length body + length r) ≡ 506 - length body - length r = omega arith in
      rw (length-append, n)

pub grown_block : (letter count index : ℕ) (body r : List ℕ) → length body + length r ≤ 506
    → grown (block_of letter count index body) (4 + length body) r ≡ block_of letter (count + 1) index (body ++ r)
unfolding grown
grown_block letter count index body r h =
    let n : 4 + length body ≡ suc (suc (suc (suc (length body)))) = omega arith in
    rw (block_page letter count index body (omega arith), in_parts letter (count + 1) index body r, n)
    (seal_filled
    (letter ∷ (count + 1) ∷ word_bytes index ++ body)
    r
    (word_bytes (check_of (page letter count index body)))
    (506 - length body)
    (omega arith)
    (omega arith))
