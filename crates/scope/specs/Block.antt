-- 01, 'The block': every file is a run of 512-byte blocks. Assumes nothing.
use mathlib.Core.List.{List, [], ◌∷◌, ◌++◌, flat_map}
use Rattle.std.specs.Prelude.{Bool, true, ◌&&◌, ◌||◌, ℕ, zero, suc, ◌+◌, ◌-◌, ◌*◌, ◌/◌, ◌%◌, eqb, leb, ltb, length, get_or, take, drop, replicate}
use Rattle.scope.specs.declared.Format.{Format}
use Rattle.scope.specs.Outcome.{Outcome, require, ◌>>◌}

-- 'Numbers are .. stored low byte first': the 16-bit number at a position, and the bytes of one
abbrev pub word_at : List ℕ → ℕ → ℕ
word_at b i = get_or b i 0 + 256 * get_or b (i + 1) 0

abbrev pub word_bytes : ℕ → List ℕ
word_bytes n = n % 256 ∷ n / 256 ∷ []

-- 'w(0) = 1; each next weight is 3 × the one before, modulo 65,521'
unfoldable pub weight : ℕ → ℕ
weight zero = 1
weight (suc i) = (3 * weight i) % 65521

-- 'the sum of byte i × w(i)' for i below n
unfoldable pub weighted : List ℕ → ℕ → ℕ
weighted b zero = 0
weighted b (suc i) = weighted b i + get_or b i 0 * weight i

-- '.. for i from 0 to 509, modulo 65,521'
unfoldable pub check_of : List ℕ → ℕ
check_of b = weighted b 510 % 65521

-- 'Bytes 510 to 511: the check'
unfoldable pub check_ok : List ℕ → Bool
check_ok b = eqb (check_of b) (word_at b 510)

-- 'Byte 0: letter. Byte 1: count of records. Bytes 2 to 3: the block's index from 0. Every block but the last is full.'
unfoldable pub head_ok : Format → List ℕ → ℕ → Bool → Bool
head_ok F b index last =
    eqb (get_or b 0 0) F.letter &&
    (eqb (word_at b 2) index &&
    (ltb 0 (get_or b 1 0) &&
    (leb (get_or b 1 0) F.capacity &&
    (last || eqb (get_or b 1 0) F.capacity))))

-- n bytes from i on are 0
unfoldable pub zeros : List ℕ → ℕ → ℕ → Bool
zeros b i zero = true
zeros b i (suc n) = eqb (get_or b i 0) 0 && zeros b (suc i) n

-- 'Records start at byte 4. Every byte after the last record up to byte 509 is 0.'
unfoldable pub padding_ok : Format → List ℕ → Bool
padding_ok F b = zeros b (4 + F.width * get_or b 1 0) (506 - F.width * get_or b 1 0)

-- 'each block: 11 check; 12 letter, index, count 0 or over 63, short but not last; 13 nonzero padding'
unfoldable pub block_test : Format → List ℕ → ℕ → Bool → Outcome (Unit {0})
block_test F b index last =
    require (check_ok b) F.number index
    >> (require (head_ok F b index last) (F.number + 1) index
    >> require (padding_ok F b) (F.number + 2) index)

-- the first 510 bytes, and their check
unfoldable pub seal : List ℕ → List ℕ
seal b = take 510 b ++ word_bytes (check_of b)

-- a block: letter, count, index, records, zeros, check
unfoldable pub block_of : ℕ → ℕ → ℕ → List ℕ → List ℕ
block_of letter count index body = seal (letter ∷ count ∷ word_bytes index ++ body ++ replicate (506 - length body) 0)

-- n blocks from an index on, of records whose bytes are given: each but the last takes as many as it can hold
unfoldable pub blocks_of : {A : Type 0} → Format → (A → List ℕ) → ℕ → ℕ → List A → List ℕ
blocks_of F bytes zero index rs = []
blocks_of F bytes (suc n) index rs =
    block_of F.letter (length (take F.capacity rs)) index (flat_map bytes (take F.capacity rs))
    ++ blocks_of F bytes n (suc index) (drop F.capacity rs)

-- the file that holds records: as few blocks as they need
unfoldable pub file_of : {A : Type 0} → Format → (A → List ℕ) → List A → List ℕ
file_of F bytes rs = blocks_of F bytes ((length rs + (F.capacity - 1)) / F.capacity) 0 rs

-- block j of a file, and the count that it states
abbrev pub block_at : List ℕ → ℕ → List ℕ
block_at t j = take 512 (drop (512 * j) t)

-- the bytes of record n of a file: all blocks before its own are full
unfoldable pub record_at : Format → List ℕ → ℕ → List ℕ
record_at F t n = take F.width (drop (512 * (n / F.capacity) + (4 + F.width * (n % F.capacity))) t)

-- how many records a file's blocks state: its last block's, and all the others are full
unfoldable pub records_in : Format → List ℕ → ℕ
records_in F t = F.capacity * (length t / 512 - 1) + get_or (block_at t (length t / 512 - 1)) 1 0
