-- The rows of a step's form, as the code meets them. Assumes nothing.
use mathlib.Core.Path.{◌≡◌, sym, ap₂, ◌∙◌}
use mathlib.Core.List.{List}
use mathlib.Core.Logic.{◌⊎◌, inl, inr}
use mathlib.Core.Bool.{true, cond}
use Prim.Native.Nat.{ℕ}
use lib.Dec.{eqb, leb, lit<, lit≤}
use borrow.Author.Tests.{eq-eqb}
use Rattle.scope.specs.declared.Format.{Format}
use Rattle.scope.specs.Outcome.{Outcome, refused, fine}
use Rattle.scope.proofs.Tests.{by_test}
use Rattle.block.specs.Format.{Fitting}
use Rattle.rules.specs.declared.Step.{Step}
use Rattle.rules.specs.declared.Version.{Version}
use Rattle.rules.specs.Steps.{format_of, version_of, step_at, step_ok, rule_in, form_row}
use Rattle.steps.specs.Opened.{form_number, step_row}

-- the letters of the rules without a position
abbrev Plain : ℕ → Type 0
Plain r = (r ≡ 67) ⊎ (r ≡ 69) ⊎ (r ≡ 71) ⊎ (r ≡ 83) ⊎ (r ≡ 85)

-- a step's form by its rule: R, or one of the other five
module _ (s : Step) where
  pub ok_removal : s.rule ≡ 82 → leb s.position 2 ≡ step_ok s
  unfolding step_ok
  ok_removal e = simp e

  pub ok_plain : Plain s.rule → eqb s.position 0 ≡ step_ok s
  unfolding step_ok
  ok_plain (inl e) = simp e
  ok_plain (inr (inl e)) = simp e
  ok_plain (inr (inr (inl e))) = simp e
  ok_plain (inr (inr (inr (inl e)))) = simp e
  ok_plain (inr (inr (inr (inr e)))) = simp e

pub fitting : (F : Format) (v : Version) → F ≡ format_of v → Fitting F
fitting F v e = rw e (record { room = lit≤ tt; numbered = lit< tt })

-- ---- the row that refuses a step's form

module _ (v : Version) (s : Step) where
  pub number_0 : step_ok s ≡ true → rule_in v s.rule ≡ true → 0 ≡ form_number v s
  unfolding form_number
  number_0 e f = rw (e, f)

  -- met, or the refusal
  row_of_lem : (k : ℕ) → form_row v s k ≡ cond (eqb (form_number v s) 0) fine (refused (form_number v s) k)
  unfolding form_number
  row_of_lem k =
      by_test (step_ok s) (λ e. by_test (rule_in v s.rule) (λ f. rw (e, f)) (λ f. rw (e, f))) (λ e. rw e)

  pub step-fine : (k : ℕ) {n : ℕ} → n ≡ form_number v s → n ≡ 0 → form_row v s k ≡ fine
  step-fine k {n} e z = row_of_lem k ∙ rw (← e) (rw (eq-eqb n 0 z))

-- what the test of step k says is the row of step k
pub looked : (d : List ℕ) (k : ℕ) {v : Version} {s : Step} {o : Outcome (Unit {0})} → o ≡ form_row v s k → v ≡ version_of d → s ≡ step_at d k → step_row d k ≡ o
looked d k e v s = sym (e ∙ ap₂ (λ (u : Version) (r : Step). form_row u r k) v s)
