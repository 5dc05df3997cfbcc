-- Check as it stood before 'A derivation names its goals' and 'Version two of the steps': no rule G, no letter 86, no rows 64 and 65.
-- Assumes nothing.
use Rattle.std.specs.Prelude.{List, [], ◌∷◌, ◌≡◌, Bool, cond, ◌&&◌, ◌||◌, ℕ, ◌/◌, ◌<◌, suc, eqb, leb, length}
use Rattle.scope.specs.declared.Node.{Node}
use Rattle.scope.specs.Outcome.{Outcome, answer, refused, require, first, ◌>>◌, ◌>>=◌}
use Rattle.scope.specs.Block.{block_test, block_at, records_in}
use Rattle.scope.specs.Table.{list_from}
use Rattle.calculus.specs.Expansion.{expand}
use Rattle.calculus.specs.Decide.{nodes_of, asked}
use Rattle.rules.specs.declared.Step.{Step}
use Rattle.rules.specs.declared.Version.TheVariants.{One}
use Rattle.rules.specs.Steps.{derivations, step_at, size_ok}
use Rattle.rules.specs.Rules.{root, Progress, running, complete, apply, ended}

-- 44: 'unknown rule letter, position over 1 in R or nonzero elsewhere'; 'position 2 becomes legal in R'
unfoldable pub step_ok_unnamed : Step → Bool
step_ok_unnamed s =
    cond (eqb s.rule 82) (leb s.position 2)
    ((eqb s.rule 85 || (eqb s.rule 69 || (eqb s.rule 67 || eqb s.rule 83))) && eqb s.position 0)

-- 40; 41 to 43; 44
unfoldable pub form_unnamed : List ℕ → Outcome (Unit {0})
form_unnamed d =
    require (size_ok (length d)) 40 0
    >> (first (λ j. block_test derivations (block_at d j) j (eqb (suc j) (length d / 512))) 0 (length d / 512)
    >> first (λ k. require (step_ok_unnamed (step_at d k)) 44 k) 0 (records_in derivations d))

unfoldable pub decode_unnamed : List ℕ → Outcome (List Step)
decode_unnamed d = form_unnamed d >> answer (list_from (step_at d) 0 (records_in derivations d))

module _ (expand : ℕ → List (List ℕ)) (goals : List ℕ) (nodes : ℕ) where
  -- 46 and 45 at step i
  unfoldable pub advance_unnamed : ℕ → Step → Progress → Outcome Progress
  advance_unnamed i s complete = refused 46 i
  advance_unnamed i s (running b waiting) = at i (apply expand goals nodes s b waiting)
    where
      at : ℕ → Outcome Progress → Outcome Progress
      at i (answer p) = answer p
      at i (refused number place) = refused 45 i

  -- the steps from step i on
  unfoldable pub run_unnamed : ℕ → List Step → Progress → Outcome (Unit {0})
  run_unnamed i [] p = ended One expand goals nodes i p
  run_unnamed i (s ∷ ss) p = advance_unnamed i s p >>= run_unnamed (suc i) ss

abbrev pub checked_unnamed : List Node → List ℕ → List ℕ → Outcome (Unit {0})
checked_unnamed rs goals d = decode_unnamed d >>= λ ss. run_unnamed (expand (nodes_of rs)) goals (length rs) 0 ss (running root [])

abbrev pub check_unnamed : List ℕ → List ℕ → List ℕ → List ℕ → Outcome (Unit {0})
check_unnamed t goals work d = asked t goals 0 0 (length work) >>= λ rs. checked_unnamed rs goals d

-- 'Files without G': no step has its letter
abbrev pub Nameless : List ℕ → Type 0
Nameless d = (k : ℕ) → k < records_in derivations d → (step_at d k).rule ≡ 71 → ⊥
