-- 01, 'Where each call says no': what a call answers. Assumes nothing.
use Rattle.std.specs.Prelude.{Bool, true, false, ℕ, zero, suc, Result, Ok, Err}
use Rattle.scope.specs.declared.Refusal.{Refusal}

-- 'A refusal is a number and a place'
pub data Outcome (A : Type 0) : Type 0 where
  answer : A → Outcome A
  refused : ℕ → ℕ → Outcome A

abbrev pub fine : Outcome (Unit {0})
fine = answer tt

-- 'checked in table order': what comes later is asked only where nothing was refused before
infixl 20 ◌>>=◌
abbrev pub ◌>>=◌ : {A B : Type 0} → Outcome A → (A → Outcome B) → Outcome B
answer a >>= next = next a
refused number place >>= next = refused number place

infixl 20 ◌>>◌
abbrev pub ◌>>◌ : {A B : Type 0} → Outcome A → Outcome B → Outcome B
answer a >> next = next
refused number place >> next = refused number place

-- a row of the table: the number at the place, unless the test holds
abbrev pub require : Bool → ℕ → ℕ → Outcome (Unit {0})
require true number place = fine
require false number place = refused number place

-- the tests f i, f (i + 1), .. one after another, n of them
unfoldable pub first : (ℕ → Outcome (Unit {0})) → ℕ → ℕ → Outcome (Unit {0})
first f i zero = fine
first f i (suc n) = f i >> first f (suc i) n

-- the number and the values of every case of an answer: what an `Ok` holds goes by f
abbrev pub outcome_by : {A B : Type 0} → (A → B) → Result A Refusal → Outcome B
outcome_by f (Ok a) = answer (f a)
outcome_by f (Err r) = refused r.number r.place

-- an answer that says no more than that nothing is refused
abbrev pub verdict_of : Result (Unit {0}) Refusal → Outcome (Unit {0})
verdict_of = outcome_by (λ u. u)
