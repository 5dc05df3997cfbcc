-- Rising lists of indices, and the literals picked by them. Assumes nothing.
use mathlib.Core.Path.{◌≡◌, refl, sym, ap, ◌∙◌}
use mathlib.Core.List.{List, [], ◌∷◌, ◌++◌, append_assoc, append-nil}
use Prim.Native.Nat.{ℕ, zero, suc, ◌+◌, ◌<◌, ◌≤◌}
use native.Mathlib.Omega.{arith}
use native.Mathlib.Decide.{ℕ_discrete}
use lib.ListN.{length, get_or, take}
use lib.Seq.{take-suc, take-length}
use Rattle.calculus.specs.Model.{All}
use Rattle.calculus.proofs.Lists.{all_at, all_imply, all_map}
use Rattle.questions.specs.Indices.{Rising, picked, up_to}

-- ---- rising lists

-- a list that rises from lo on rises from any lower index on
pub rising-from : (lo from hi : ℕ) (is : List ℕ) → lo ≤ from → Rising from hi is → Rising lo hi is
rising-from lo from hi [] h r = tt
rising-from lo from hi (i ∷ is) h (a, b) = (omega arith, b)

pub rising_below : (lo hi : ℕ) (is : List ℕ) → Rising lo hi is → All (λ i. i < hi) is
rising_below lo hi [] r = tt
rising_below lo hi (i ∷ is) (a, (b, r)) = (b, rising_below (suc i) hi is r)

-- it has no more indices than there are
pub rising-few : (lo hi : ℕ) (is : List ℕ) → lo ≤ hi → Rising lo hi is → lo + length is ≤ hi
rising-few lo hi [] h r = omega arith
rising-few lo hi (i ∷ is) h (a, (b, r)) = omega (arith, rising-few (suc i) hi is (omega arith) r)

-- ---- all indices below one, in front of others

module _ (P : ℕ → Type 0) where
  pub all_up_to : (i : ℕ) (is : List ℕ) → All P is → ((k : ℕ) → k < i → P k) → All P (up_to i is)
  unfolding up_to
  all_up_to zero is a f = a
  all_up_to (suc i) is a f = all_up_to i (i ∷ is) (f i (omega arith), a) (λ k h. f k (omega arith))

  -- .. and the other way
  pub up_to_all : (i : ℕ) (is : List ℕ) → All P (up_to i is) → All P is × ((k : ℕ) → k < i → P k)
  unfolding up_to
  up_to_all zero is a = (a, λ k h. absurd (omega arith))
  up_to_all (suc i) is a =
      let u = up_to_all i (i ∷ is) a in
      (u.0.1, λ k h. go k h u.0.0 u.1 (ℕ_discrete k i))
    where
      go : (k : ℕ) → k < suc i → P i → ((j : ℕ) → j < i → P j) → Dec (k ≡ i) → P k
      go k h x f (yes e) = rw e x
      go k h x f (no e) = f k (omega arith)

pub up_to_below : (i hi : ℕ) (is : List ℕ) → i ≤ hi → All (λ k. k < hi) is → All (λ k. k < hi) (up_to i is)
up_to_below i hi is h a = all_up_to (λ k. k < hi) i is a (λ k b. omega arith)

-- ---- the literals there

-- what all literals have, those picked have
pub picked_all : (P : ℕ → Type 0) (ls is : List ℕ) → All P ls → All (λ i. i < length ls) is → All P (picked ls is)
picked_all P ls is a b = all_map P (λ i. get_or ls i 0) is (all_imply (λ i. i < length ls) (λ i. P (get_or ls i 0)) (λ i h. all_at P ls i 0 a h) is b)

-- the literals before i are the first ones
pub picked_up_to : (ls : List ℕ) (i : ℕ) (is : List ℕ) → i ≤ length ls → picked ls (up_to i is) ≡ take i ls ++ picked ls is
unfolding up_to
picked_up_to ls zero is h = refl
picked_up_to ls (suc i) is h =
    picked_up_to ls i (i ∷ is) (omega arith)
    ∙ sym (append_assoc (take i ls) (get_or ls i 0 ∷ []) (picked ls is))
    ∙ ap (◌++ picked ls is) (sym (take-suc ls i 0 h))

-- all indices pick all literals
pub picked-whole : (ls : List ℕ) → picked ls (up_to (length ls) []) ≡ ls
picked-whole ls = picked_up_to ls (length ls) [] (omega arith) ∙ append-nil (take (length ls) ls) ∙ take-length ls
