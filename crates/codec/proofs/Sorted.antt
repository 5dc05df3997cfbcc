-- Literals in order of their nodes, of any number: a test of all of them does not see the order, they rise exactly where no two
-- are of one node, and what rises stays. Assumes nothing.
use mathlib.Core.Path.{◌≡◌, ◌∙◌, ap, sym, refl}
use mathlib.Core.List.{List, [], ◌∷◌, map}
use mathlib.Core.Bool.{Bool, true, false, not, ◌&&◌, ◌||◌}
use Prim.Native.Nat.{ℕ, suc, ◌/◌, ◌<◌}
use lib.ListN.{length}
use native.Mathlib.Omega.{arith}
use lib.Dec.{eqb, ltb}
use borrow.Author.Tests.{ltb-true, ltb-false, lt-ltb, le-ltb, ne_eqb, eq-eqb}
use Rattle.scope.specs.Table.{every, rising}
use Rattle.scope.specs.Calls.{placed, sorted}
use Rattle.scope.proofs.Tests.{by_test, and_left, and_right}
use Rattle.codec.specs.Given.{among, apart}

-- their nodes rise
abbrev pub up : List ℕ → Bool
up ls = rising (map (◌/ 2) ls)

lower : ℕ → List ℕ → Bool
lower l [] = true
lower l (k ∷ ks) = ltb (l / 2) (k / 2)

up_step : (l : ℕ) (ls : List ℕ) → up (l ∷ ls) ≡ (lower l ls && up ls)
unfolding lower
up_step l [] = refl
up_step l (k ∷ ks) = refl

and_swap : (a b c : Bool) → (a && (b && c)) ≡ (b && (a && c))
and_swap true b c = refl
and_swap false true c = refl
and_swap false false c = refl

or_swap : (a b c : Bool) → (a || (b || c)) ≡ (b || (a || c))
or_swap true true c = refl
or_swap true false c = refl
or_swap false b c = refl

every-placed : (p : ℕ → Bool) (l : ℕ) (ks : List ℕ) → every p (placed l ks) ≡ (p l && every p ks)
unfolding placed
every-placed p l [] = refl
every-placed p l (k ∷ ks) =
    by_test (ltb (k / 2) (l / 2))
    (λ e. rw (e, every-placed p l ks) (and_swap (p k) (p l) (every p ks)))
    (λ e. rw e)

pub every-sorted : (p : ℕ → Bool) (ls : List ℕ) → every p (sorted ls) ≡ every p ls
unfolding sorted
every-sorted p [] = refl
every-sorted p (l ∷ ls) = every-placed p l (sorted ls) ∙ ap (p l &&◌) (every-sorted p ls)

among-placed : (m l : ℕ) (ks : List ℕ) → among m (placed l ks) ≡ (eqb (m / 2) (l / 2) || among m ks)
unfolding among placed
among-placed m l [] = refl
among-placed m l (k ∷ ks) =
    by_test (ltb (k / 2) (l / 2))
    (λ e. rw (e, among-placed m l ks) (or_swap (eqb (m / 2) (k / 2)) (eqb (m / 2) (l / 2)) (among m ks)))
    (λ e. rw e)

among-sorted : (m : ℕ) (ls : List ℕ) → among m (sorted ls) ≡ among m ls
unfolding among sorted
among-sorted m [] = refl
among-sorted m (l ∷ ls) = among-placed m l (sorted ls) ∙ ap (eqb (m / 2) (l / 2) ||◌) (among-sorted m ls)

-- below the first of literals that rise, none is of its node
not-among : (l k : ℕ) (ks : List ℕ) → l / 2 < k / 2 → up (k ∷ ks) ≡ true → among l ks ≡ false
unfolding among
not-among l k [] h r = refl
not-among l k (j ∷ ks) h r =
    let less = ltb-true (k / 2) (j / 2) (and_left (ltb (k / 2) (j / 2)) (up (j ∷ ks)) r) in
    rw (ne_eqb (l / 2) (j / 2) (λ q. omega arith))
    (not-among l j ks (omega arith) (and_right (ltb (k / 2) (j / 2)) (up (j ∷ ks)) r))

-- what stands first after l joined literals behind k, which is lower
lower_placed : (k l : ℕ) (ks : List ℕ) → k / 2 < l / 2 → lower k (placed l ks) ≡ lower k ks
unfolding lower placed
lower_placed k l [] h = lt-ltb (k / 2) (l / 2) h
lower_placed k l (j ∷ ks) h =
    by_test (ltb (j / 2) (l / 2))
    (λ e. rw e)
    (λ e.
    let high = ltb-false (j / 2) (l / 2) e in
    rw (e, lt-ltb (k / 2) (l / 2) h) (sym (lt-ltb (k / 2) (j / 2) (omega arith))))

up_placed : (l : ℕ) (ks : List ℕ) → up (placed l ks) ≡ (not (among l ks) && up ks)
unfolding among placed
up_placed l [] = refl
up_placed l (k ∷ ks) =
    by_test (ltb (k / 2) (l / 2))
    (λ e.
    let less = ltb-true (k / 2) (l / 2) e in
    rw (e, up_step k (placed l ks), up_step k ks, lower_placed k l ks less, up_placed l ks, ne_eqb (l / 2) (k / 2) (λ q. omega arith))
    (and_swap (lower k ks) (not (among l ks)) (up ks)))
    (λ e.
    let high = ltb-false (k / 2) (l / 2) e in
    rw e
    (by_test (ltb (l / 2) (k / 2))
    (λ f.
    let less = ltb-true (l / 2) (k / 2) f in
    rw (f, ne_eqb (l / 2) (k / 2) (λ q. omega arith))
    (by_test (up (k ∷ ks)) (λ r. rw (not-among l k ks less r)) (λ r. rw r (by_test (among l ks) (λ a. rw a) (λ a. rw a)))))
    (λ f. rw (f, eq-eqb (l / 2) (k / 2) (omega (arith, ltb-false (l / 2) (k / 2) f))))))

pub up_sorted : (ls : List ℕ) → up (sorted ls) ≡ apart ls
unfolding sorted apart
up_sorted [] = refl
up_sorted (l ∷ ls) =
    up_placed l (sorted ls)
    ∙ ap (λ (b : Bool). not b && up (sorted ls)) (among-sorted l ls)
    ∙ ap (not (among l ls) &&◌) (up_sorted ls)

-- as many as there were
pub length-placed : (l : ℕ) (ks : List ℕ) → length (placed l ks) ≡ suc (length ks)
unfolding placed
length-placed l [] = refl
length-placed l (k ∷ ks) = by_test (ltb (k / 2) (l / 2)) (λ e. rw e (ap suc (length-placed l ks))) (λ e. rw e)

pub length-sorted : (ls : List ℕ) → length (sorted ls) ≡ length ls
unfolding sorted
length-sorted [] = refl
length-sorted (l ∷ ls) = length-placed l (sorted ls) ∙ ap suc (length-sorted ls)

-- those that rise stay
placed_first : (l : ℕ) (ks : List ℕ) → lower l ks ≡ true → placed l ks ≡ l ∷ ks
unfolding placed lower
placed_first l [] h = refl
placed_first l (k ∷ ks) h = rw (le-ltb (k / 2) (l / 2) (omega (arith, ltb-true (l / 2) (k / 2) h)))

pub sorted_same : (ls : List ℕ) → up ls ≡ true → sorted ls ≡ ls
unfolding sorted
sorted_same [] h = refl
sorted_same (l ∷ ls) h =
    let q = sym (up_step l ls) ∙ h in
    ap (placed l) (sorted_same ls (and_right (lower l ls) (up ls) q)) ∙ placed_first l ls (and_left (lower l ls) (up ls) q)
