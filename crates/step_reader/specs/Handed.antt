-- 01, 'Derivations': 'A reader over the derivation's bytes hands out one step at a time. Opening it meets rows 40 to 44; after the
-- last step it says that none is left.' And row 65, 'with 44 and after it'. Assumes nothing.
use Rattle.std.specs.Prelude.{List, [], ◌∷◌, cond, ℕ, zero, suc, ◌+◌, ◌-◌, ◌/◌, min, ltb, length, Option, Some, None, Result}
use Rattle.scope.specs.declared.Refusal.{Refusal}
use Rattle.scope.specs.Outcome.{Outcome, answer, refused, outcome_by, require, ◌>>◌}
use Rattle.scope.specs.Block.{records_in}
use Rattle.rules.specs.declared.Step.{Step}
use Rattle.rules.specs.Steps.{derivations, step_at, size_ok}
use Rattle.steps.specs.Opened.{block_row, step_row}

-- a step, or that none is left
pub data Next : Type 0 where
  one : Step → Next
  none : Next

abbrev pub next_in : Option Step → Next
next_in (Some s) = one s
next_in None = none

-- the number and the values of every case of what is handed out
abbrev pub handed_of : Result (Option Step) Refusal → Outcome Next
handed_of = outcome_by next_in

-- below the count that the blocks state: 44 and 65 of the step, then the step. At or past the count none is left
unfoldable pub counted_step : List ℕ → ℕ → Outcome Next
counted_step d at = cond (ltb at (records_in derivations d)) (step_row d at >> answer (one (step_at d at))) (answer none)

-- the block of an index; behind all blocks, the last
abbrev pub block_of : List ℕ → ℕ → ℕ
block_of d at = min (at / 126) (length d / 512 - 1)

-- The step at an index of any bytes, and what is looked at: the length (40), the first byte, one block (41 to 43), and in it the count and
-- the step (44, 65). No other byte of another block matters (`one_block`): the count of the last one decides only where that is the block
unfoldable pub step_handed : List ℕ → ℕ → Outcome Next
step_handed d at = require (size_ok (length d)) 40 0 >> (block_row d (block_of d at) >> counted_step d at)

-- what a reader says that stands at an index, where opening its bytes met `form`
abbrev pub next_of : List ℕ → ℕ → Outcome (Unit {0}) → Outcome Next
next_of d at form = form >> step_handed d at

-- the index after one. It stays at 8,257,536, the most steps that 65,536 blocks hold
unfoldable pub after_of : ℕ → ℕ
after_of at = cond (ltb at 8257536) (at + 1) at

-- what a reader hands out in n calls, from an index on
abbrev pub handed : Outcome Next → List Step → List Step
handed (answer (one s)) ss = s ∷ ss
handed (answer none) ss = []
handed (refused number place) ss = []

unfoldable pub read_from : List ℕ → Outcome (Unit {0}) → ℕ → ℕ → List Step
read_from d form at zero = []
read_from d form at (suc n) = handed (next_of d at form) (read_from d form (after_of at) n)
