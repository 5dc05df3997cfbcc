-- Files of letter 68 are judged as before there was a second version. Assumes nothing.
use mathlib.Core.Path.{◌≡◌, refl}
use mathlib.Core.List.{List}
use mathlib.Core.Bool.{Bool, true, false}
use Prim.Native.Nat.{ℕ, zero, suc, ◌+◌, ◌<◌, ◌≤◌}
use native.Mathlib.Omega.{arith}
use lib.ListN.{get_or}
use borrow.Author.Tests.{ne_eqb}
use Rattle.scope.specs.Outcome.{Outcome, fine, require, first, ◌>>◌}
use Rattle.scope.specs.Block.{records_in}
use Rattle.rules.specs.declared.Version.TheVariants.{One}
use Rattle.rules.specs.Steps.{derivations, version_of, step_at, step_ok, rule_in, form_row, form_test, decode_steps}
use Rattle.rules.specs.Derive.{checked, check}
use Rattle.rules.specs.Earlier.{form_earlier, decode_earlier, check_earlier, Earlier}

-- rows that say the same one by one say the same in turn
pub first_same : (f g : ℕ → Outcome (Unit {0})) (n i : ℕ) → ((k : ℕ) → i ≤ k → k < i + n → f k ≡ g k) → first f i n ≡ first g i n
unfolding first
first_same f g zero i h = refl
first_same f g (suc n) i h = rw (h i (omega arith) (omega arith), first_same f g n (suc i) (λ k a b. h k (omega arith) (omega arith)))

-- no row 65 in version one
row_one : (t : Bool) (k : ℕ) → (require t 44 k >> fine) ≡ require t 44 k
row_one true k = refl
row_one false k = refl

version_one : (d : List ℕ) → Earlier d → version_of d ≡ One
unfolding version_of
version_one d e = rw (ne_eqb (get_or d 0 0) 86 e)

module _ (d : List ℕ) (before : Earlier d) where
  form_same : (k : ℕ) → form_row One (step_at d k) k ≡ require (step_ok (step_at d k)) 44 k
  unfolding rule_in
  form_same k = row_one (step_ok (step_at d k)) k

  decode_earlier_lem : decode_steps d ≡ decode_earlier d
  unfolding decode_steps decode_earlier form_test form_earlier
  decode_earlier_lem =
      rw (
        version_one d before,
        first_same (λ k. form_row One (step_at d k) k) (λ k. require (step_ok (step_at d k)) 44 k) (records_in derivations d) 0
            (λ k z h. form_same k),
      )

  -- 'Letter 68 keeps the earlier rules', its refusals too
  pub check_earlier_lem : (t goals w : List ℕ) → check t goals w d ≡ check_earlier t goals w d
  unfolding check checked
  check_earlier_lem t goals w = rw (version_one d before, decode_earlier_lem)
