-- Check as it stood before 'Version two of the steps': letter 68 alone, and no row 65. Assumes nothing.
use Rattle.std.specs.Prelude.{◌≡◌, List, ℕ, ◌/◌, suc, eqb, length, get_or}
use Rattle.scope.specs.Outcome.{Outcome, answer, require, first, ◌>>◌, ◌>>=◌}
use Rattle.scope.specs.Block.{block_test, block_at, records_in}
use Rattle.scope.specs.Table.{list_from}
use Rattle.calculus.specs.Expansion.{expand}
use Rattle.calculus.specs.Decide.{nodes_of, asked}
use Rattle.rules.specs.declared.Step.{Step}
use Rattle.rules.specs.declared.Version.TheVariants.{One}
use Rattle.rules.specs.Steps.{derivations, step_at, step_ok, size_ok}
use Rattle.rules.specs.Rules.{accepts}

-- 40; 41 to 43; 44
unfoldable pub form_earlier : List ℕ → Outcome (Unit {0})
form_earlier d =
    require (size_ok (length d)) 40 0
    >> (first (λ j. block_test derivations (block_at d j) j (eqb (suc j) (length d / 512))) 0 (length d / 512)
    >> first (λ k. require (step_ok (step_at d k)) 44 k) 0 (records_in derivations d))

unfoldable pub decode_earlier : List ℕ → Outcome (List Step)
decode_earlier d = form_earlier d >> answer (list_from (step_at d) 0 (records_in derivations d))

abbrev pub check_earlier : List ℕ → List ℕ → List ℕ → List ℕ → Outcome (Unit {0})
check_earlier t goals work d =
    asked t goals 0 0 (length work) >>= λ rs. decode_earlier d >>= accepts One (expand (nodes_of rs)) goals (length rs)

-- 'Letter 68 keeps the earlier rules': bytes whose block 0 does not have letter 86
abbrev pub Earlier : List ℕ → Type 0
Earlier d = get_or d 0 0 ≡ 86 → ⊥
