-- A block with one record more. Assumes nothing.
use Rattle.std.specs.Prelude.{List, ℕ, ◌+◌, length, get_or, set}
use Rattle.std.proofs.Math.Seq.{paste}
use Rattle.scope.specs.Block.{seal}

-- the count is one more, the record stands at its position, and the check is that of the new bytes
unfoldable pub grown : List ℕ → ℕ → List ℕ → List ℕ
grown block at r = seal (paste (set block 1 (get_or block 1 0 + 1)) at r (length r))
