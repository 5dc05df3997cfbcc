-- Laws of rows: what an answer tells of the tests before it. Assumes nothing.
use mathlib.Core.Path.{◌≡◌, refl}
use mathlib.Core.Bool.{Bool, true, false, cond, ◌&&◌, false≢true}
use Prim.Native.Nat.{ℕ}
use Rattle.scope.specs.Outcome.{Outcome, answer, refused, require, ◌>>◌}
use Rattle.scope.proofs.Tests.{refused_no}
pub use Rattle.scope.proofs.Tests.{by_test}

pub both : (a b : Bool) → (a && b) ≡ true → (a ≡ true) × (b ≡ true)
both true b e = (refl, e)
both false b e = absurd (false≢true e)

-- a row that was passed: its test, and what comes after it
pub row : {A : Type 0} (t : Bool) (number place : ℕ) (next : Outcome A) {a : A} → (require t number place >> next) ≡ answer a → (t ≡ true) × (next ≡ answer a)
row true number place next e = (refl, e)
row false number place next e = refused_no e

-- .. and the same of any outcome before another
pub passed_on : {A B : Type 0} (x : Outcome A) (next : Outcome B) {b : B} → (x >> next) ≡ answer b → (a : A) × (x ≡ answer a) × (next ≡ answer b)
passed_on (answer a) next e = (a, refl, e)
passed_on (refused number place) next e = refused_no e

-- a choice between tests holds where each test that it could take is implied
pub cond_mono : (c : Bool) {a a' b b' : Bool} → (a ≡ true → a' ≡ true) → (b ≡ true → b' ≡ true) → cond c a b ≡ true → cond c a' b' ≡ true
cond_mono true f g e = f e
cond_mono false f g e = g e
