-- A set of positions below 2,048: bits of 32 words of 64 bits, and a word more that tells which of them are not 0. Assumes nothing.
use Rattle.std.specs.Prelude.{◌≡◌, cond, List, ℕ, ◌/◌, ◌%◌, ◌^◌, ◌<◌, eqb, ltb, get_or, length}

abbrev pub positions : ℕ
positions = 2048

-- how many words hold the positions; the sum stands behind them
abbrev pub blocks : ℕ
blocks = 32

abbrev pub words : ℕ
words = 33

-- bit j of a word
unfoldable pub bit : ℕ → ℕ → ℕ
bit x j = x / 2 ^ j % 2

-- 1 where position q is in the set, else 0
unfoldable pub member : List ℕ → ℕ → ℕ
member m q = bit (get_or m (q / 64) 0) (q % 64)

-- 1 where b is a block whose word is not 0, else 0
unfoldable pub some_in : List ℕ → ℕ → ℕ
some_in m b = cond (ltb b blocks) (cond (eqb (get_or m b 0) 0) 0 1) 0

-- words that hold a set: the sum tells which of the others are not 0
pub record Units (m : List ℕ) : Type 0 where
  pub size : length m ≡ words
  pub sums : (b : ℕ) → b < 64 → bit (get_or m blocks 0) b ≡ some_in m b

-- some position is in the set, and none is
abbrev pub Some : List ℕ → Type 0
Some m = (q : ℕ) × (q < positions) × (member m q ≡ 1)

abbrev pub Empty : List ℕ → Type 0
Empty m = (q : ℕ) → q < positions → member m q ≡ 0

-- ---- what each call does

-- whether q is in the set becomes v, and nothing else changes
pub record Putted (m : List ℕ) (q v : ℕ) (m' : List ℕ) : Type 0 where
  pub units : Units m'
  pub here : member m' q ≡ v
  pub other : (j : ℕ) → j < positions → (j ≡ q → ⊥) → member m' j ≡ member m j

-- r is the least position in the set
pub record First (m : List ℕ) (r : ℕ) : Type 0 where
  pub low : r < positions
  pub here : member m r ≡ 1
  pub before : (j : ℕ) → j < r → member m j ≡ 0
