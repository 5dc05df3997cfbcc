-- Laws of `All`, and of tests over lists. Assumes nothing.
use mathlib.Core.Path.{◌≡◌, refl, ap}
use mathlib.Core.List.{List, [], ◌∷◌, ◌++◌, map}
use mathlib.Core.Bool.{Bool, true, false, ◌&&◌, ◌||◌, or-true}
use Prim.Native.Nat.{ℕ, zero, suc, ◌<◌}
use native.Mathlib.Nat.{le_of_suc-le-suc, not-suc-le-zero}
use native.Mathlib.Omega.{arith}
use lib.ListN.{length, get_or}
pub use Rattle.scope.specs.Table.{every}
use Rattle.scope.proofs.Tests.{and_left, and_right, and_both}
use Rattle.calculus.specs.Model.{All}

-- ---- properties of all elements

module _ {A : Type 0} (P : A → Type 0) where
  pub all_append : (xs ys : List A) → All P xs → All P ys → All P (xs ++ ys)
  all_append [] ys a b = b
  all_append (x ∷ xs) ys a b = (a.0, all_append xs ys a.1 b)

  pub all_left : (xs ys : List A) → All P (xs ++ ys) → All P xs
  all_left [] ys a = tt
  all_left (x ∷ xs) ys a = (a.0, all_left xs ys a.1)

  pub all_right : (xs ys : List A) → All P (xs ++ ys) → All P ys
  all_right [] ys a = a
  all_right (x ∷ xs) ys a = all_right xs ys a.1

  pub all_at : (xs : List A) (k : ℕ) (d : A) → All P xs → k < length xs → P (get_or xs k d)
  all_at [] k d a h = absurd (not-suc-le-zero h)
  all_at (x ∷ xs) zero d a h = a.0
  all_at (x ∷ xs) (suc k) d a h = all_at xs k d a.1 (le_of_suc-le-suc h)

  -- what all elements and the default have, each entry has
  pub all_get_d : (xs : List A) (k : ℕ) (d : A) → P d → All P xs → P (get_or xs k d)
  all_get_d [] k d h a = h
  all_get_d (x ∷ xs) zero d h a = a.0
  all_get_d (x ∷ xs) (suc k) d h a = all_get_d xs k d h a.1

  -- .. and the other way
  pub all_index : (xs : List A) (d : A) → ((k : ℕ) → k < length xs → P (get_or xs k d)) → All P xs
  all_index [] d f = tt
  all_index (x ∷ xs) d f = (f 0 (omega arith), all_index xs d (λ k h. f (suc k) (omega arith)))

  pub all_each : ((x : A) → P x) → (xs : List A) → All P xs
  all_each f [] = tt
  all_each f (x ∷ xs) = (f x, all_each f xs)

pub all_imply : {A : Type 0} (P Q : A → Type 0) → ((x : A) → P x → Q x) → (xs : List A) → All P xs → All Q xs
all_imply P Q f [] a = tt
all_imply P Q f (x ∷ xs) a = (f x a.0, all_imply P Q f xs a.1)

pub all_zip : {A : Type 0} (P Q R : A → Type 0) → ((x : A) → P x → Q x → R x) → (xs : List A) → All P xs → All Q xs → All R xs
all_zip P Q R f [] a b = tt
all_zip P Q R f (x ∷ xs) a b = (f x a.0 b.0, all_zip P Q R f xs a.1 b.1)

module _ {A B : Type 0} (P : B → Type 0) (f : A → B) where
  pub all_map : (xs : List A) → All (λ x. P (f x)) xs → All P (map f xs)
  all_map [] a = tt
  all_map (x ∷ xs) a = (a.0, all_map xs a.1)

  pub map_all : (xs : List A) → All P (map f xs) → All (λ x. P (f x)) xs
  map_all [] a = tt
  map_all (x ∷ xs) a = (a.0, map_all xs a.1)

-- an element that is there, after `map`
pub get_d_map : {A B : Type 0} (f : A → B) (xs : List A) (k : ℕ) (d : A) (e : B) → k < length xs → get_or (map f xs) k e ≡ f (get_or xs k d)
get_d_map f [] k d e h = absurd (not-suc-le-zero h)
get_d_map f (x ∷ xs) zero d e h = refl
get_d_map f (x ∷ xs) (suc k) d e h = get_d_map f xs k d e (le_of_suc-le-suc h)

-- ---- tests

-- an element passes
abbrev pub any : {A : Type 0} → (A → Bool) → List A → Bool
any p [] = false
any p (x ∷ xs) = p x || any p xs

pub any_map : {A B : Type 0} (p : B → Bool) (f : A → B) (xs : List A) → any p (map f xs) ≡ any (λ x. p (f x)) xs
any_map p f [] = refl
any_map p f (x ∷ xs) = ap (p (f x) ||◌) (any_map p f xs)

pub every_map : {A B : Type 0} (p : B → Bool) (f : A → B) (xs : List A) → every p (map f xs) ≡ every (λ x. p (f x)) xs
every_map p f [] = refl
every_map p f (x ∷ xs) = ap (p (f x) &&◌) (every_map p f xs)

-- two tests that agree on all elements
pub any_same : {A : Type 0} (p q : A → Bool) (xs : List A) → All (λ x. p x ≡ q x) xs → any p xs ≡ any q xs
any_same p q [] a = refl
any_same p q (x ∷ xs) a = rw (a.0, any_same p q xs a.1)

pub every_same : {A : Type 0} (p q : A → Bool) (xs : List A) → All (λ x. p x ≡ q x) xs → every p xs ≡ every q xs
every_same p q [] a = refl
every_same p q (x ∷ xs) a = rw (a.0, every_same p q xs a.1)

-- a test that passes wherever another does
pub any_imply : {A : Type 0} (p q : A → Bool) (xs : List A) → All (λ x. p x ≡ true → q x ≡ true) xs → any p xs ≡ true → any q xs ≡ true
any_imply p q [] a e = e
any_imply p q (x ∷ xs) a e = go (p x) refl e (any_imply p q xs a.1)
  where
    go : (b : Bool) → p x ≡ b → (b || any p xs) ≡ true → (any p xs ≡ true → any q xs ≡ true) → (q x || any q xs) ≡ true
    go true z e r = rw (a.0 z)
    go false z e r = rw (r e) (or-true (q x))

module _ {A : Type 0} (p : A → Bool) where
  -- the test of every element, as a property of all
  pub every_all : (xs : List A) → every p xs ≡ true → All (λ x. p x ≡ true) xs
  every_all [] e = tt
  every_all (x ∷ xs) e = (and_left (p x) (every p xs) e, every_all xs (and_right (p x) (every p xs) e))

  pub all_every : (xs : List A) → All (λ x. p x ≡ true) xs → every p xs ≡ true
  all_every [] a = refl
  all_every (x ∷ xs) a = and_both (p x) (every p xs) a.0 (all_every xs a.1)
