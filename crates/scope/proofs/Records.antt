-- Laws of the blocks and the records of a file of any format, as code reads them in place. Assumes nothing.
use mathlib.Core.Path.{◌≡◌, ◌∙◌}
use mathlib.Core.List.{List}
use Prim.Native.Nat.{ℕ, suc, ◌+◌, ◌-◌, ◌*◌, ◌/◌, ◌%◌}
use native.Mathlib.Nat.{add-sub_cancel_left}
use native.Mathlib.Numerals.{add-one}
use lib.Dec.{eqb, lit<}
use lib.ListN.{length, get_or, take, drop}
use lib.Seq.{get_or-take, get_or-drop}
use Rattle.scope.specs.declared.Format.{Format}
use Rattle.scope.specs.Outcome.{Outcome}
use Rattle.scope.specs.Block.{block_test, block_at, record_at, records_in}

-- the part of a file from a record's place on is its record
pub part_record : (F : Format) (t : List ℕ) (n at : ℕ) → at ≡ 512 * (n / F.capacity) + (4 + F.width * (n % F.capacity))
    → take (at + F.width - at) (drop at t) ≡ record_at F t n
unfolding record_at
part_record F t n at e = simp (add-sub_cancel_left, e)

-- the test of block j
pub block_tested : (F G : Format) (t : List ℕ) (j : ℕ) (o : Outcome (Unit {0})) → F ≡ G
    → o ≡ block_test F (take (512 * j + 512 - 512 * j) (drop (512 * j) t)) j (eqb (j + 1) (length t / 512))
    → o ≡ block_test G (block_at t j) j (eqb (suc j) (length t / 512))
block_tested F G t j o e q = q ∙ simp (e, add-sub_cancel_left, add-one)

-- the count that block j states stands in its second byte
pub count_at : (t : List ℕ) (j : ℕ) → get_or (block_at t j) 1 0 ≡ get_or t (512 * j + 1) 0
count_at t j = get_or-take 512 (drop (512 * j) t) 1 0 (lit< tt) ∙ get_or-drop (512 * j) t 1 0

-- the count that all blocks state, by its parts
pub count_parts : (F : Format) (t : List ℕ) → records_in F t ≡ F.capacity * (length t / 512 - 1) + get_or t (512 * (length t / 512 - 1) + 1) 0
unfolding records_in
count_parts F t = rw (count_at t (length t / 512 - 1))
