-- Laws of the tests' Bools, of one outcome after another, and of what `?` returns. Assumes nothing.
use mathlib.Core.Path.{◌≡◌, sym, refl}
use mathlib.Core.Bool.{Bool, true, false, ◌&&◌, ◌||◌, false≢true}
use Prim.Native.Nat.{ℕ}
use native.Mathlib.Omega.{arith}
use Rattle.std.specs.Prelude.{Result}
use Rattle.std.specs.Result.{IsErrAnd}
use Rattle.std.proofs.lemmas.Result.{err_from_is_err_and}
use Rattle.scope.specs.declared.Refusal.{Refusal}
use Rattle.scope.specs.Outcome.{Outcome, answer, refused, fine, outcome_by, require, ◌>>◌, ◌>>=◌}

-- a proof by the two cases of a test
pub by_test : {P : Type 0} (t : Bool) → (t ≡ true → P) → (t ≡ false → P) → P
by_test true f g = f refl
by_test false f g = g refl

pub and_left : (a b : Bool) → (a && b) ≡ true → a ≡ true
and_left true b e = refl
and_left false b e = e

pub and_right : (a b : Bool) → (a && b) ≡ true → b ≡ true
and_right true b e = e
and_right false b e = absurd (false≢true e)

pub and_both : (a b : Bool) → a ≡ true → b ≡ true → (a && b) ≡ true
and_both a b p q = rw p q

pub or_left : (a b : Bool) → (a || b) ≡ false → a ≡ false
or_left true b e = e
or_left false b e = refl

pub or_right : (a b : Bool) → (a || b) ≡ false → b ≡ false
or_right true b e = absurd (false≢true (sym e))
or_right false b e = e

-- a refusal is no answer
pub refused_no : {A : Type 0} {B : Type 0} {number place : ℕ} {a : A} → ◌≡◌ {A = Outcome A} (refused number place) (answer a) → B
refused_no e = absurd (let z : ◌≡◌ {A = ℕ} 0 1 = cc in omega arith)

-- a row that does not refuse has its test met
pub required : (t : Bool) (number place : ℕ) → require t number place ≡ fine → t ≡ true
required true number place e = refl
required false number place e = refused_no e

pub met : (t : Bool) (number place : ℕ) → t ≡ true → require t number place ≡ fine
met t number place e = rw e

-- neither of two refuses
pub then_first : {A : Type 0} (x : Outcome (Unit {0})) (y : Outcome A) {a : A} → (x >> y) ≡ answer a → x ≡ fine
then_first (answer tt) y e = refl
then_first (refused number place) y e = refused_no e

pub then_next : {A : Type 0} (x : Outcome (Unit {0})) (y : Outcome A) {a : A} → (x >> y) ≡ answer a → y ≡ answer a
then_next (answer tt) y e = e
then_next (refused number place) y e = refused_no e

-- the answer that a later test was handed
pub bound : {A B : Type 0} (x : Outcome A) (f : A → Outcome B) {b : B} → (x >>= f) ≡ answer b → (a : A) × (x ≡ answer a) × (f a ≡ answer b)
bound (answer a) f e = (a, refl, e)
bound (refused number place) f e = refused_no e

-- a refusal made before what is only counted is passed on, whatever comes later
pub passed_on : {A B C : Type 0} (x : Outcome A) (count : A → B) (next : A → Outcome C) {number place : ℕ}
    → (x >>= λ a. answer (count a)) ≡ refused number place → (x >>= next) ≡ refused number place
passed_on (answer a) count next e = refused_no (sym e)
passed_on (refused number place) count next e = cc

-- what a `?` hands on is the refusal that it met
pub handed_on : {A B : Type 0} (f : A → B) (r : Result A Refusal) {e : Refusal} → IsErrAnd r (λ x. x ≡ e) → outcome_by f r ≡ refused e.number e.place
handed_on f r h =
    let p = err_from_is_err_and r h in
    rw (p.1, p.2)
