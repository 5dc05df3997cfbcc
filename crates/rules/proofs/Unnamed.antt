-- Files of letter 68 without G are judged as before derivations named their goals and had a second version. Assumes nothing.
use mathlib.Core.Path.{◌≡◌, refl, ap, ◌∙◌}
use mathlib.Core.List.{List, [], ◌∷◌}
use mathlib.Core.Bool.{Bool, false, or-false}
use Prim.Native.Nat.{ℕ, zero, suc, ◌+◌, ◌<◌}
use native.Mathlib.Omega.{arith}
use lib.Dec.{eqb}
use lib.ListN.{length}
use borrow.Author.Tests.{ne_eqb}
use Rattle.scope.specs.declared.Node.{Node}
use Rattle.scope.specs.Outcome.{Outcome, answer, refused, require, ◌>>◌, ◌>>=◌}
use Rattle.scope.specs.Block.{records_in}
use Rattle.scope.specs.Table.{list_from}
use Rattle.calculus.specs.Expansion.{expand}
use Rattle.calculus.specs.Model.{All}
use Rattle.calculus.specs.Decide.{nodes_of, asked}
use Rattle.rules.specs.declared.Step.{Step}
use Rattle.rules.specs.declared.Version.TheVariants.{One}
use Rattle.rules.specs.Steps.{derivations, step_at, step_ok}
use Rattle.rules.specs.Rules.{root, Progress, running, complete, is_g, names, names_test, apply, advance, run, accepts}
use Rattle.rules.specs.Derive.{check}
use Rattle.rules.specs.Earlier.{form_earlier, decode_earlier, Earlier}
use Rattle.rules.specs.Unnamed.{step_ok_unnamed, form_unnamed, decode_unnamed, advance_unnamed, run_unnamed, checked_unnamed, check_unnamed, Nameless}
use Rattle.rules.proofs.Earlier.{first_same, check_earlier_lem}
use Rattle.rules.proofs.Names.{body-whole}

-- ---- the form

form_same : (s : Step) → is_g s ≡ false → step_ok s ≡ step_ok_unnamed s
unfolding step_ok step_ok_unnamed
form_same s e = rw (e, or-false (eqb s.rule 83))

module _ (d : List ℕ) (none : Nameless d) where
  not_named : (k : ℕ) → k < records_in derivations d → is_g (step_at d k) ≡ false
  not_named k h = ne_eqb (step_at d k).rule 71 (none k h)

  decode_same : decode_earlier d ≡ decode_unnamed d
  unfolding decode_earlier decode_unnamed form_earlier form_unnamed
  decode_same =
      rw (first_same (λ k. require (step_ok (step_at d k)) 44 k) (λ k. require (step_ok_unnamed (step_at d k)) 44 k) (records_in derivations d) 0
      (λ k z h. ap (λ (t : Bool). require t 44 k) (form_same (step_at d k) (not_named k (omega arith)))))

-- ---- the steps in turn

module _ (f : ℕ → Step) where
  steps_not-named : (n i : ℕ) → ((k : ℕ) → k < i + n → is_g (f k) ≡ false) → All (λ s. is_g s ≡ false) (list_from f i n)
  unfolding list_from
  steps_not-named zero i h = tt
  steps_not-named (suc n) i h = (h i (omega arith), steps_not-named n (suc i) (λ k l. h k (omega arith)))

names-none : (ss : List Step) → All (λ s. is_g s ≡ false) ss → names ss ≡ []
unfolding names
names-none [] a = refl
names-none (s ∷ ss) a = rw a.0

module _ (expand : ℕ → List (List ℕ)) (goals : List ℕ) (nodes : ℕ) where
  run_same : (ss : List Step) (i : ℕ) (p : Progress) → All (λ s. is_g s ≡ false) ss → run One expand goals nodes i ss p ≡ run_unnamed expand goals nodes i ss p
  unfolding run run_unnamed advance advance_unnamed
  run_same [] i p a = refl
  run_same (s ∷ ss) i complete a = refl
  run_same (s ∷ ss) i (running b waiting) a = rw a.0 (go (apply expand goals nodes s b waiting) refl (λ q. run_same ss (suc i) q a.1))
    where
      go : (o : Outcome Progress) → apply expand goals nodes s b waiting ≡ o
          → ((q : Progress) → run One expand goals nodes (suc i) ss q ≡ run_unnamed expand goals nodes (suc i) ss q)
          → (advance_unnamed expand goals nodes i s (running b waiting) >>= run One expand goals nodes (suc i) ss)
          ≡ (advance_unnamed expand goals nodes i s (running b waiting) >>= run_unnamed expand goals nodes (suc i) ss)
      go (answer q) e r = rw e (r q)
      go (refused number place) e r = rw e

  accepts_same : (ss : List Step) → All (λ s. is_g s ≡ false) ss → accepts One expand goals nodes ss ≡ run_unnamed expand goals nodes 0 ss (running root [])
  unfolding accepts names_test
  accepts_same ss a = rw (names-none ss a, body-whole ss (names-none ss a)) (run_same ss 0 (running root []) a)

-- ---- the calls

module _ (goals d : List ℕ) (before : Earlier d) (none : Nameless d) where
  judged_same : (rs : List Node) → (decode_earlier d >>= accepts One (expand (nodes_of rs)) goals (length rs)) ≡ checked_unnamed rs goals d
  unfolding decode_unnamed
  judged_same rs = rw (decode_same d none) (go (form_unnamed d))
    where
      go : (o : Outcome (Unit {0})) → ((o >> answer (list_from (step_at d) 0 (records_in derivations d))) >>= accepts One (expand (nodes_of rs)) goals (length rs))
          ≡ ((o >> answer (list_from (step_at d) 0 (records_in derivations d))) >>= λ ss. run_unnamed (expand (nodes_of rs)) goals (length rs) 0 ss (running root []))
      go (answer u) = accepts_same (expand (nodes_of rs)) goals (length rs) _ (steps_not-named (step_at d) (records_in derivations d) 0 (λ k h. not_named d none k (omega arith)))
      go (refused number place) = refl

  -- 'Files without G stay valid', and are refused as before
  pub check_unnamed_lem : (t w : List ℕ) → check t goals w d ≡ check_unnamed t goals w d
  check_unnamed_lem t w = check_earlier_lem d before t goals w ∙ go (asked t goals 0 0 (length w))
    where
      go : (o : Outcome (List Node)) → (o >>= λ rs. decode_earlier d >>= accepts One (expand (nodes_of rs)) goals (length rs)) ≡ (o >>= λ rs. checked_unnamed rs goals d)
      go (answer rs) = judged_same rs
      go (refused number place) = refl
