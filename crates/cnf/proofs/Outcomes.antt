-- What holds of an outcome: one claim of the answer, one of a refusal's number and place. Assumes nothing.
use mathlib.Core.Path.{◌≡◌, refl, subst}
use mathlib.Core.Bool.{Bool, true, false}
use Prim.Native.Nat.{ℕ}
use Rattle.scope.specs.Outcome.{Outcome, answer, refused, require, ◌>>◌, ◌>>=◌}

-- the answer fulfils P, and a refusal R
abbrev pub Ends : {A : Type 0} → (ℕ → ℕ → Type 0) → (A → Type 0) → Outcome A → Type 0
Ends R P (answer a) = P a
Ends R P (refused number place) = R number place

module _ (R : ℕ → ℕ → Type 0) where
  -- by what it is
  pub ends : {A : Type 0} (P : A → Type 0) (o : Outcome A) → ((a : A) → o ≡ answer a → P a) → ((number place : ℕ) → o ≡ refused number place → R number place)
      → Ends R P o
  ends P (answer a) f g = f a refl
  ends P (refused number place) f g = g number place refl

  -- a weaker claim of the answer
  pub ends_as : {A : Type 0} (P Q : A → Type 0) (o : Outcome A) → ((a : A) → P a → Q a) → Ends R P o → Ends R Q o
  ends_as P Q (answer a) f r = f a r
  ends_as P Q (refused number place) f r = r

  -- one outcome after another
  pub ends_on : {A B : Type 0} (P : A → Type 0) (Q : B → Type 0) (o : Outcome A) (next : A → Outcome B) → Ends R P o → ((a : A) → P a → Ends R Q (next a))
      → Ends R Q (o >>= next)
  ends_on P Q (answer a) next r f = f a r
  ends_on P Q (refused number place) next r f = r

  -- a row before it
  pub ends_row : {A : Type 0} (P : A → Type 0) (t : Bool) (number place : ℕ) (next : Outcome A) → R number place → (t ≡ true → Ends R P next)
      → Ends R P (require t number place >> next)
  ends_row P true number place next r f = f refl
  ends_row P false number place next r f = r

  -- what it says of an outcome that is known
  pub ends_answer : {A : Type 0} (P : A → Type 0) (o : Outcome A) {a : A} → Ends R P o → o ≡ answer a → P a
  ends_answer P o {a} r e = subst (λ (x : Outcome _). Ends R P x) e r

  pub ends_refused : {A : Type 0} (P : A → Type 0) (o : Outcome A) {number place : ℕ} → Ends R P o → o ≡ refused number place → R number place
  ends_refused P o r e = subst (λ (x : Outcome _). Ends R P x) e r
