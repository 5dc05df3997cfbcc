-- Where a step stands, the rows of a derivation's form by block and by step, and what opening answers. Assumes nothing.
use Rattle.std.specs.Prelude.{List, cond, ℕ, suc, ◌+◌, ◌*◌, ◌/◌, ◌%◌, eqb, length, Result}
use Rattle.scope.specs.declared.Refusal.{Refusal}
use Rattle.scope.specs.Outcome.{Outcome, answer, outcome_by, ◌>>=◌}
use Rattle.scope.specs.Block.{block_test, block_at}
use Rattle.rules.specs.declared.Step.{Step}
use Rattle.rules.specs.declared.Version.{Version}
use Rattle.rules.specs.Steps.{format_of, version_of, step_at, step_ok, rule_in, form_row, decode_steps}

-- where step k starts
abbrev pub place_of : ℕ → ℕ
place_of k = 512 * (k / 126) + (4 + 4 * (k % 126))

-- 41 to 43 of block j
abbrev pub block_row : List ℕ → ℕ → Outcome (Unit {0})
block_row d j = block_test (format_of (version_of d)) (block_at d j) j (eqb (suc j) (length d / 512))

-- the number of the row that refuses a step's form, 44 before 65, or 0
unfoldable pub form_number : Version → Step → ℕ
form_number v s = cond (step_ok s) (cond (rule_in v s.rule) 0 65) 44

-- 44 and 65 of step k
abbrev pub step_row : List ℕ → ℕ → Outcome (Unit {0})
step_row d k = form_row (version_of d) (step_at d k) k

-- how many steps a derivation has, or its first refusal of 40 to 44 and 65
unfoldable pub step_count : List ℕ → Outcome ℕ
step_count d = decode_steps d >>= λ ss. answer (length ss)

-- the number and the values of every case of what opening answers
abbrev pub opened_of : Result ℕ Refusal → Outcome ℕ
opened_of = outcome_by (λ n. n)
