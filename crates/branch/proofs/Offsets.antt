-- Laws of clauses one after the other: where each begins, and which slots are its own. Assumes nothing.
use mathlib.Core.Path.{◌≡◌, refl, sym, ap, ◌∙◌}
use mathlib.Core.List.{List, [], ◌∷◌, ◌++◌, map, append_assoc}
use Prim.Native.Nat.{ℕ, zero, suc, ◌+◌, ◌<◌, ◌≤◌}
use native.Mathlib.Omega.{arith}
use native.Mathlib.Decide.{dec_lt}
use lib.ListN.{length, get_or, length-append, get_or-append}
use lib.Seq.{get_or-append-add}
use Rattle.branch.specs.Clauses.{flat, offset}

pub flat_append : (cs ds : List (List ℕ)) → flat (cs ++ ds) ≡ flat cs ++ flat ds
unfolding flat
flat_append [] ds = refl
flat_append (c ∷ cs) ds = ap (c ++◌) (flat_append cs ds) ∙ sym (append_assoc c (flat cs) (flat ds))

pub map_append : {A B : Type 0} (f : A → B) (xs ys : List A) → map f (xs ++ ys) ≡ map f xs ++ map f ys
map_append f [] ys = refl
map_append f (x ∷ xs) ys = ap (f x ∷◌) (map_append f xs ys)

pub flat_map : (f : ℕ → ℕ) (cs : List (List ℕ)) → flat (map (map f) cs) ≡ map f (flat cs)
unfolding flat
flat_map f [] = refl
flat_map f (c ∷ cs) = ap (map f c ++◌) (flat_map f cs) ∙ sym (map_append f c (flat cs))

-- ---- clauses in front, and clauses behind

pub offset_low : (cs ds : List (List ℕ)) (k : ℕ) → k ≤ length cs → offset (cs ++ ds) k ≡ offset cs k
unfolding offset
offset_low cs ds zero h = refl
offset_low [] ds (suc k) h = absurd (omega (arith, h))
offset_low (c ∷ cs) ds (suc k) h = ap (length c +◌) (offset_low cs ds k (omega (arith, h)))

pub offset_high : (cs ds : List (List ℕ)) (j : ℕ) → offset (cs ++ ds) (length cs + j) ≡ length (flat cs) + offset ds j
unfolding offset flat
offset_high [] ds j =
    let z : 0 + j ≡ j = omega arith in
    ap (offset ds) z ∙ omega arith
offset_high (c ∷ cs) ds j =
    let z : suc (length cs) + j ≡ suc (length cs + j) = omega arith in
    ap (offset (c ∷ (cs ++ ds))) z ∙ omega (arith, offset_high cs ds j, length-append c (flat cs))

pub offset_all : (cs : List (List ℕ)) → offset cs (length cs) ≡ length (flat cs)
unfolding offset flat
offset_all [] = refl
offset_all (c ∷ cs) = omega (arith, offset_all cs, length-append c (flat cs))

-- ---- one clause

pub offset-none : (cs : List (List ℕ)) → offset cs 0 ≡ 0
unfolding offset
offset-none cs = refl

pub offset_next : (cs : List (List ℕ)) (k : ℕ) → k < length cs → offset cs (suc k) ≡ offset cs k + length (get_or cs k [])
unfolding offset
offset_next [] k h = absurd (omega (arith, h))
offset_next (c ∷ cs) zero h = ap (length c +◌) (offset-none cs) ∙ omega arith
offset_next (c ∷ cs) (suc k) h = omega (arith, offset_next cs k (omega (arith, h)))

pub offset_most : (cs : List (List ℕ)) (k : ℕ) → offset cs k ≤ length (flat cs)
unfolding offset flat
offset_most cs zero = omega arith
offset_most [] (suc k) = omega arith
offset_most (c ∷ cs) (suc k) = omega (arith, offset_most cs k, length-append c (flat cs))

-- a slot of one clause comes before a later clause
pub offset_before : (cs : List (List ℕ)) (j k : ℕ) → j < k → k ≤ length cs → offset cs j + length (get_or cs j []) ≤ offset cs k
offset_before cs j zero h b = absurd (omega (arith, h))
offset_before cs j (suc k) h b = go (dec_lt j k) (λ q. offset_before cs j k q (omega (arith, b)))
  where
    go : Dec (j < k) → (j < k → offset cs j + length (get_or cs j []) ≤ offset cs k) → offset cs j + length (get_or cs j []) ≤ offset cs (suc k)
    go (yes q) r = omega (arith, r q, offset_next cs k (omega (arith, b)))
    go (no q) r =
        let z : j ≡ k = omega (arith, q, h) in
        omega (arith, offset_next cs k (omega (arith, b)), ap (offset cs) z, ap (λ (i : ℕ). length (get_or cs i [])) z)

-- so two places with one slot are the same
pub slot_same : (cs : List (List ℕ)) (j k p q : ℕ) → j < length cs → k < length cs → p < length (get_or cs j []) → q < length (get_or cs k [])
    → offset cs j + p ≡ offset cs k + q → (j ≡ k) × (p ≡ q)
slot_same cs j k p q a b c d e = go (dec_lt j k) (dec_lt k j)
  where
    go : Dec (j < k) → Dec (k < j) → (j ≡ k) × (p ≡ q)
    go (yes x) y = absurd (omega (arith, offset_before cs j k x (omega (arith, b)), c, e))
    go (no x) (yes y) = absurd (omega (arith, offset_before cs k j y (omega (arith, a)), d, e))
    go (no x) (no y) =
        let z : j ≡ k = omega (arith, x, y) in
        (z, omega (arith, e, ap (offset cs) z))

-- the literal in a clause's slot
pub flat-at : (cs : List (List ℕ)) (k p : ℕ) → k < length cs → p < length (get_or cs k []) → get_or (flat cs) (offset cs k + p) 0 ≡ get_or (get_or cs k []) p 0
unfolding flat offset
flat-at [] k p h b = absurd (omega (arith, h))
flat-at (c ∷ cs) zero p h b = ap (λ (i : ℕ). get_or (c ++ flat cs) i 0) (omega arith) ∙ get_or-append c (flat cs) 0 p b
flat-at (c ∷ cs) (suc k) p h b =
    let z : length c + offset cs k + p ≡ length c + (offset cs k + p) = omega arith in
    ap (λ (i : ℕ). get_or (c ++ flat cs) i 0) z ∙ get_or-append-add c (flat cs) (offset cs k + p) 0 ∙ flat-at cs k p (omega (arith, h)) b
