-- 01, 'Derivations': 'Steps gather in one block until it holds 126.' What a writer keeps of the steps pushed so far: their full
-- blocks, which are written, and the others, which gather. Assumes nothing.
use Rattle.std.specs.Prelude.{◌≡◌, cond, List, [], ◌∷◌, ◌++◌, ℕ, zero, suc, ◌+◌, ◌*◌, ◌/◌, ◌%◌, ◌<◌, ◌≤◌, eqb, length, get_or, take, drop}
use Rattle.scope.specs.declared.Format.{Format}
use Rattle.scope.specs.Block.{file_of}
use Rattle.codec.specs.Valid.{front, rest}
use Rattle.rules.specs.declared.Step.{Step}
use Rattle.rules.specs.Steps.{R, lettered, step_bytes}
use Rattle.gather.specs.declared.Writer.{Writer}
use Rattle.gather.specs.declared.At.{At}

-- the format of a writer's blocks: 'Byte 0: letter'
abbrev pub format_in : Writer → Format
format_in w = lettered (get_or w.block 0 0)

-- the bytes of the steps that gather: 'Records start at byte 4', 'steps of 4 bytes'
abbrev pub body_of : List ℕ → ℕ → List ℕ
body_of block count = take (4 * count) (drop 4 block)

-- how many steps a writer has taken
abbrev pub steps_in : Writer → ℕ
steps_in w = 126 * w.blocks + w.count

-- a writer of an array
abbrev pub gathered : List ℕ → ℕ → ℕ → Writer
gathered block count blocks = record { block = block; count = count; blocks = blocks }

-- the writer of a block that is lent
abbrev pub lent : List ℕ → At → Writer
lent block at = gathered block at.count at.blocks

-- 'an R for each false literal of the clause', in position order: of position p of clause k, where a bit says so; of the positions from p
-- on whose bits are set in b, as many positions as a step can name
abbrev pub removal_if : ℕ → ℕ → ℕ → List Step
removal_if bit k p = cond (eqb bit 1) (R p k ∷ []) []

abbrev pub positions : ℕ
positions = 255

unfoldable pub removals_at : ℕ → ℕ → ℕ → ℕ → List Step
removals_at zero k p b = []
removals_at (suc more) k p b = removal_if (b % 2) k p ++ removals_at more k (suc p) (b / 2)

-- the block that gathers has room
pub record Gathers (w : Writer) : Type 0 where
  pub few : w.count < 126
  pub whole : length w.block ≡ 512

-- .. and m steps more fit the buffer: '126 steps of 4 bytes in a full block, at most 65,536 blocks'
pub record Space (m : ℕ) (out : List ℕ) (w : Writer) : Type 0 where
  pub gathers : Gathers w
  pub lent : steps_in w + m ≤ 126 * (length out / 512)
  pub most : steps_in w + m ≤ 126 * 65536

-- the steps ss were pushed, on a buffer that was d: the bytes of their full blocks stand in front of what stood behind in d, and
-- those of the others gather
pub record Kept (ss : List Step) (d out : List ℕ) (w : Writer) : Type 0 where
  pub count : w.count ≡ length ss % 126
  pub blocks : w.blocks ≡ length ss / 126
  pub body : body_of w.block w.count ≡ rest (format_in w) step_bytes ss
  pub bytes : out ≡ front (format_in w) step_bytes ss ++ drop (512 * w.blocks) d

-- the steps ss were pushed, whatever was pushed before
pub record Pushed (ss : List Step) (out : List ℕ) (w : Writer) (out' : List ℕ) (w' : Writer) : Type 0 where
  pub gathers : Gathers w'
  pub steps : steps_in w' ≡ steps_in w + length ss
  pub size : length out' ≡ length out
  pub letter : get_or w'.block 0 0 ≡ get_or w.block 0 0
  pub kept : (rs : List Step) (d : List ℕ) → Kept rs d out w → Kept (rs ++ ss) d out' w'

-- the steps that gather are written: the buffer starts with the derivation's blocks, and 'Bytes past its last block stay'
abbrev pub Closed : List ℕ → Writer → List ℕ → Type 0
Closed out w out' = (ss : List Step) (d : List ℕ) → Kept ss d out w
    → out' ≡ file_of (format_in w) step_bytes ss ++ drop (length (file_of (format_in w) step_bytes ss)) d
