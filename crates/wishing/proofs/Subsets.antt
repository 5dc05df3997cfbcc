-- Every rising list of a size is visited among those of that size; counts of true wishes as rising lists. Assumes nothing.
use mathlib.Core.Path.{◌≡◌, refl, sym, ap, ◌∙◌}
use mathlib.Core.Logic.{◌⊎◌, inl, inr}
use mathlib.Core.List.{List, [], ◌∷◌, ◌++◌, map}
use mathlib.Core.Bool.{Bool, true, false, cond}
use Prim.Native.Nat.{ℕ, zero, suc, ◌+◌, ◌^◌, ◌<◌, ◌≤◌}
use native.Mathlib.Omega.{arith}
use native.Mathlib.Decide.{ℕ_discrete}
use native.Mathlib.Nat.{add-zero}
use lib.ListN.{length, get_or, length-append, length-map}
use Rattle.calculus.specs.Count.{one}
use Rattle.calculus.specs.Model.{All}
use Rattle.calculus.proofs.Lists.{all_append, all_left, all_right, all_imply, all_each, all_map, map_all}
use Rattle.questions.specs.Indices.{Rising}
use Rattle.questions.proofs.Indices.{rising-from}
use Rattle.wishing.specs.Wish.{subsets, count}

-- ---- the subsets

-- what is visited rises, and has the size
pub subsets_rise : (lo n s hi : ℕ) → hi ≡ lo + n → All (λ q. Rising lo hi q × (length q ≡ s)) (subsets lo n s)
unfolding subsets
subsets_rise lo n zero hi h = ((tt, refl), tt)
subsets_rise lo zero (suc s) hi h = tt
subsets_rise lo (suc n) (suc s) hi h =
    all_append (λ q. Rising lo hi q × (length q ≡ suc s)) (map (lo ∷◌) (subsets (suc lo) n s)) (subsets (suc lo) n (suc s))
    (all_map (λ q. Rising lo hi q × (length q ≡ suc s)) (lo ∷◌) (subsets (suc lo) n s)
    (all_imply (λ q. Rising (suc lo) hi q × (length q ≡ s)) (λ q. Rising lo hi (lo ∷ q) × (length (lo ∷ q) ≡ suc s))
    (λ q r. ((omega arith, (omega arith, r.0)), ap suc r.1)) (subsets (suc lo) n s) (subsets_rise (suc lo) n s hi (omega arith))))
    (all_imply (λ q. Rising (suc lo) hi q × (length q ≡ suc s)) (λ q. Rising lo hi q × (length q ≡ suc s))
    (λ q r. (rising-from lo (suc lo) hi q (omega arith) r.0, r.1)) (subsets (suc lo) n (suc s)) (subsets_rise (suc lo) n (suc s) hi (omega arith)))

-- every rising list of size s is visited: what all visited have, it has
pub visited : (P : List ℕ → Type 0) (lo n s hi : ℕ) → hi ≡ lo + n → All P (subsets lo n s) → (q : List ℕ) → Rising lo hi q → length q ≡ s → P q
unfolding subsets
visited P lo n zero hi h a [] r e = a.0
visited P lo n zero hi h a (i ∷ q) r e = absurd (omega arith)
visited P lo zero (suc s) hi h a [] r e = absurd (omega arith)
visited P lo zero (suc s) hi h a (i ∷ q) (b, (c, r)) e = absurd (omega arith)
visited P lo (suc n) (suc s) hi h a [] r e = absurd (omega arith)
visited P lo (suc n) (suc s) hi h a (i ∷ q) (b, (c, r)) e =
    go (ℕ_discrete lo i)
    (visited (λ x. P (lo ∷ x)) (suc lo) n s hi (omega arith) (map_all P (lo ∷◌) (subsets (suc lo) n s) (all_left P (map (lo ∷◌) (subsets (suc lo) n s)) (subsets (suc lo) n (suc s)) a)))
    (visited P (suc lo) n (suc s) hi (omega arith) (all_right P (map (lo ∷◌) (subsets (suc lo) n s)) (subsets (suc lo) n (suc s)) a))
  where
    go : Dec (lo ≡ i) → ((q : List ℕ) → Rising (suc lo) hi q → length q ≡ s → P (lo ∷ q))
        → ((q : List ℕ) → Rising (suc lo) hi q → length q ≡ suc s → P q) → P (i ∷ q)
    go (yes z) f g = rw z at (f q (rising-from (suc lo) (suc i) hi q (omega arith) r) (omega arith))
    go (no z) f g = g (i ∷ q) (omega arith, (c, r)) e

-- fewer indices than the size: none is visited, so code need not walk there
pub subsets-none : (lo n s : ℕ) → n < s → subsets lo n s ≡ []
unfolding subsets
subsets-none lo n zero h = absurd (omega arith)
subsets-none lo zero (suc s) h = refl
subsets-none lo (suc n) (suc s) h = rw (subsets-none (suc lo) n s (omega arith), subsets-none (suc lo) n (suc s) (omega arith))

-- dictionary order, and lists in which each stands before all later ones: so no list is visited twice
abbrev pub Earlier : List ℕ → List ℕ → Type 0
Earlier xs [] = ⊥
Earlier [] (y ∷ ys) = Unit {0}
Earlier (x ∷ xs) (y ∷ ys) = (x < y) ⊎ ((x ≡ y) × Earlier xs ys)

abbrev pub Ordered : List (List ℕ) → Type 0
Ordered [] = Unit {0}
Ordered (q ∷ qs) = All (Earlier q) qs × Ordered qs

pub never_earlier : (q : List ℕ) → Earlier q q → ⊥
never_earlier [] e = e
never_earlier (i ∷ q) (inl h) = omega arith
never_earlier (i ∷ q) (inr e) = never_earlier q e.1

ordered_append : (xs ys : List (List ℕ)) → Ordered xs → Ordered ys → All (λ x. All (Earlier x) ys) xs → Ordered (xs ++ ys)
ordered_append [] ys o p a = p
ordered_append (x ∷ xs) ys o p a = (all_append (Earlier x) xs ys o.0 a.0, ordered_append xs ys o.1 p a.1)

ordered-map : (i : ℕ) (xs : List (List ℕ)) → Ordered xs → Ordered (map (i ∷◌) xs)
ordered-map i [] o = tt
ordered-map i (x ∷ xs) o =
    (all_map (Earlier (i ∷ x)) (i ∷◌) xs (all_imply (Earlier x) (λ y. Earlier (i ∷ x) (i ∷ y)) (λ y e. inr (refl, e)) xs o.0), ordered-map i xs o.1)

-- 'equal sizes in dictionary order of their rising index lists'
pub subsets-ordered : (lo n s : ℕ) → Ordered (subsets lo n s)
unfolding subsets
subsets-ordered lo n zero = (tt, tt)
subsets-ordered lo zero (suc s) = tt
subsets-ordered lo (suc n) (suc s) =
    ordered_append (map (lo ∷◌) (subsets (suc lo) n s)) (subsets (suc lo) n (suc s))
    (ordered-map lo (subsets (suc lo) n s) (subsets-ordered (suc lo) n s)) (subsets-ordered (suc lo) n (suc s))
    (all_map (λ x. All (Earlier x) (subsets (suc lo) n (suc s))) (lo ∷◌) (subsets (suc lo) n s)
    (all_each (λ x. All (Earlier (lo ∷ x)) (subsets (suc lo) n (suc s))) (λ x.
    all_imply (λ q. Rising (suc lo) (suc lo + n) q × (length q ≡ suc s)) (Earlier (lo ∷ x)) (λ q r. later x q r.0 r.1)
    (subsets (suc lo) n (suc s)) (subsets_rise (suc lo) n (suc s) (suc lo + n) refl)) (subsets (suc lo) n s)))
  where
    later : (x q : List ℕ) → Rising (suc lo) (suc lo + n) q → length q ≡ suc s → Earlier (lo ∷ x) q
    later x [] r e = omega arith
    later x (i ∷ q) r e = inl (omega (arith, r.0))

-- ---- how many there are

-- those of at most s indices: 2 ^ n of n
abbrev pub total : ℕ → ℕ → ℕ → ℕ
total lo n zero = length (subsets lo n zero)
total lo n (suc s) = length (subsets lo n (suc s)) + total lo n s

subsets-one : (lo n : ℕ) → length (subsets lo n zero) ≡ 1
unfolding subsets
subsets-one lo n = refl

subsets_more : (lo n s : ℕ) → length (subsets lo (suc n) (suc s)) ≡ length (subsets (suc lo) n s) + length (subsets (suc lo) n (suc s))
unfolding subsets
subsets_more lo n s =
    length-append (map (lo ∷◌) (subsets (suc lo) n s)) (subsets (suc lo) n (suc s))
    ∙ ap (λ (x : ℕ). x + length (subsets (suc lo) n (suc s))) (length-map (subsets (suc lo) n s) (lo ∷◌))

total_more : (lo n s : ℕ) → total lo (suc n) (suc s) ≡ total (suc lo) n s + total (suc lo) n (suc s)
total_more lo n zero = omega (arith, subsets_more lo n zero, subsets-one lo (suc n), subsets-one (suc lo) n)
total_more lo n (suc s) = omega (arith, subsets_more lo n (suc s), total_more lo n s)

pub total_all : (lo n s : ℕ) → n ≤ s → total lo n s ≡ 2 ^ n
unfolding subsets
total_all lo zero zero h = refl
total_all lo zero (suc s) h = omega (arith, total_all lo zero s (omega arith))
total_all lo (suc n) zero h = absurd (omega arith)
total_all lo (suc n) (suc s) h = total_more lo n s ∙ omega (arith, total_all (suc lo) n s (omega arith), total_all (suc lo) n (suc s) (omega arith))

-- ---- the indices that pass a test

module _ (f : ℕ → Bool) where
  pub hits : ℕ → ℕ → List ℕ
  hits lo zero = []
  hits lo (suc n) = cond (f lo) (lo ∷ hits (suc lo) n) (hits (suc lo) n)

  pub hits_rise : (lo n hi : ℕ) → hi ≡ lo + n → Rising lo hi (hits lo n)
  unfolding hits
  hits_rise lo zero hi h = tt
  hits_rise lo (suc n) hi h = go (f lo) (hits_rise (suc lo) n hi (omega arith))
    where
      go : (b : Bool) → Rising (suc lo) hi (hits (suc lo) n) → Rising lo hi (cond b (lo ∷ hits (suc lo) n) (hits (suc lo) n))
      go true r = (omega arith, (omega arith, r))
      go false r = rising-from lo (suc lo) hi (hits (suc lo) n) (omega arith) r

  pub hits_pass : (lo n : ℕ) → All (λ i. f i ≡ true) (hits lo n)
  unfolding hits
  hits_pass lo zero = tt
  hits_pass lo (suc n) = go (f lo) refl (hits_pass (suc lo) n)
    where
      go : (b : Bool) → f lo ≡ b → All (λ i. f i ≡ true) (hits (suc lo) n) → All (λ i. f i ≡ true) (cond b (lo ∷ hits (suc lo) n) (hits (suc lo) n))
      go true e r = (e, r)
      go false e r = r

  pub hits_few : (lo n : ℕ) → length (hits lo n) ≤ n
  unfolding hits
  hits_few lo zero = omega arith
  hits_few lo (suc n) = go (f lo) (hits_few (suc lo) n)
    where
      go : (b : Bool) → length (hits (suc lo) n) ≤ n → length (cond b (lo ∷ hits (suc lo) n) (hits (suc lo) n)) ≤ suc n
      go true r = omega arith
      go false r = omega arith

  -- a rising list of indices that pass is no longer
  pub hits_most : (lo n hi : ℕ) → hi ≡ lo + n → (q : List ℕ) → Rising lo hi q → All (λ i. f i ≡ true) q → length q ≤ length (hits lo n)
  unfolding hits
  hits_most lo zero hi h [] r a = omega arith
  hits_most lo zero hi h (i ∷ q) (b, (c, r)) a = absurd (omega arith)
  hits_most lo (suc n) hi h [] r a = omega arith
  hits_most lo (suc n) hi h (i ∷ q) (b, (c, r)) a = go (ℕ_discrete i lo) (f lo) refl (hits_most (suc lo) n hi (omega arith))
    where
      go : Dec (i ≡ lo) → (z : Bool) → f lo ≡ z → ((q : List ℕ) → Rising (suc lo) hi q → All (λ i. f i ≡ true) q → length q ≤ length (hits (suc lo) n))
          → length (i ∷ q) ≤ length (cond z (lo ∷ hits (suc lo) n) (hits (suc lo) n))
      go (yes e) true z g = omega (arith, g q (rising-from (suc lo) (suc i) hi q (omega arith) r) a.1)
      go (yes e) false z g = let x : true ≡ false = sym a.0 ∙ ap f e ∙ z in let y : ◌≡◌ {A = ℕ} 0 1 = cc in absurd (omega arith)
      go (no e) true z g = omega (arith, g (i ∷ q) (omega arith, (c, r)) a)
      go (no e) false z g = g (i ∷ q) (omega arith, (c, r)) a

-- there are as many as literals of the list that pass
pub hits_count : (f p : ℕ → Bool) (lo : ℕ) (ls : List ℕ) → ((i : ℕ) → i < length ls → f (lo + i) ≡ p (get_or ls i 0))
    → length (hits f lo (length ls)) ≡ count p ls
unfolding hits
hits_count f p lo [] h = refl
hits_count f p lo (l ∷ ls) h =
    let z : f lo ≡ p l = ap f (sym (add-zero lo)) ∙ h 0 (omega arith) in
    rw z (go (p l) (hits_count f p (suc lo) ls (λ i b. ap f (suc-out i) ∙ h (suc i) (omega arith))))
  where
    suc-out : (i : ℕ) → suc lo + i ≡ lo + suc i
    suc-out i = omega arith

    go : (b : Bool) → length (hits f (suc lo) (length ls)) ≡ count p ls
        → length (cond b (lo ∷ hits f (suc lo) (length ls)) (hits f (suc lo) (length ls))) ≡ one b + count p ls
    go true r = omega arith
    go false r = omega arith
