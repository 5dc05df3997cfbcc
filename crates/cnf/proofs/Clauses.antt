-- Clauses: dropping repeats keeps what is true, both signs make a clause true, and literals that are left have nodes of their own.
-- Assumes nothing.
use mathlib.Core.Path.{◌≡◌, ◌∙◌, ap, sym, refl}
use mathlib.Core.List.{List, [], ◌∷◌, ◌++◌}
use mathlib.Core.Logic.{◌⊎◌, inl, inr, ⊎_elim}
use mathlib.Core.Bool.{Bool, true, false, not, ◌||◌, false≢true, or_assoc, or_comm, or-false, or-true, or_self_left, or-not_self, not-not}
use Prim.Native.Nat.{ℕ, ◌+◌, ◌-◌, ◌/◌, ◌%◌}
use native.Mathlib.Omega.{arith}
use lib.Dec.{eqb}
use lib.ListN.{get_or}
use borrow.Author.Tests.{eqb-true, eqb-false, eq-eqb, ne_eqb}
use Rattle.scope.proofs.Tests.{or_left, or_right}
use Rattle.codec.proofs.Rows.{by_test}
use Rattle.cnf.specs.Fold.{opposite, holds, kept, distinct_from, both_signs}
use Rattle.cnf.specs.Meaning.{literal_true, clause_true}

-- one of two is true
pub or_cases : (a b : Bool) → (a || b) ≡ true → (a ≡ true) ⊎ (b ≡ true)
or_cases true b e = inl refl
or_cases false b e = inr e

-- where a literal stands
pub holds-first : (l : ℕ) (c : List ℕ) → holds l (l ∷ c) ≡ true
unfolding holds
holds-first l c = rw (eq-eqb l l refl)

pub holds_later : (l x : ℕ) (c : List ℕ) → holds l c ≡ true → holds l (x ∷ c) ≡ true
unfolding holds
holds_later l x c e = rw (e, or-true)

by-holds : (l x : ℕ) (c : List ℕ) → holds l (x ∷ c) ≡ true → (x ≡ l) ⊎ (holds l c ≡ true)
unfolding holds
by-holds l x c e = ⊎_elim (λ q. inl (eqb-true x l q)) inr (or_cases (eqb x l) (holds l c) e)

pub holds_more : (l x : ℕ) (c : List ℕ) → holds l (c ++ x ∷ []) ≡ (holds l c || eqb x l)
unfolding holds
holds_more l x [] = or-false (eqb x l)
holds_more l x (y ∷ c) = rw (holds_more l x c, or_assoc)

or_swap : (a b c : Bool) → (a || (b || c)) ≡ (b || (a || c))
or_swap true b c = sym (or-true b)
or_swap false b c = refl

-- the opposite literal's truth
opposite-true : (s : List ℕ) (l : ℕ) → literal_true s (opposite l) ≡ not (literal_true s l)
unfolding literal_true
opposite-true s l =
    let same : opposite l / 2 ≡ l / 2 = omega arith in
    by_test (eqb (l % 2) 0)
    (λ e.
    let odd : opposite l % 2 ≡ 1 = omega (arith, eqb-true (l % 2) 0 e) in
    rw (same, odd, e))
    (λ e.
    let even : opposite l % 2 ≡ 0 = omega (arith, eqb-false (l % 2) 0 e) in
    rw (same, even, e) (sym (not-not (eqb (get_or s (l / 2) 0) 1))))

-- a literal that is true makes its clause true
module _ (s : List ℕ) where
  held-true : (l : ℕ) (c : List ℕ) → holds l c ≡ true → (literal_true s l || clause_true s c) ≡ clause_true s c
  unfolding holds clause_true
  held-true l [] e = absurd (false≢true e)
  held-true l (x ∷ c) e =
      ⊎_elim
      (λ q. rw (← q) (or_self_left (literal_true s x) (clause_true s c)))
      (λ q. or_swap (literal_true s l) (literal_true s x) (clause_true s c) ∙ ap (literal_true s x ||◌) (held-true l c q))
      (by-holds l x c e)

  pub clause_more : (l : ℕ) (c : List ℕ) → clause_true s (c ++ l ∷ []) ≡ (clause_true s c || literal_true s l)
  unfolding clause_true
  clause_more l [] = or-false (literal_true s l)
  clause_more l (x ∷ c) = rw (clause_more l c, or_assoc)

  -- 'after repeated literals are dropped'
  distinct_from_lem : (c kept : List ℕ) → clause_true s (distinct_from kept c) ≡ (clause_true s kept || clause_true s c)
  unfolding distinct_from clause_true
  distinct_from_lem [] kept = sym (or-false (clause_true s kept))
  distinct_from_lem (l ∷ c) kept =
      by_test (holds l kept)
      (λ e.
      rw e
      (distinct_from_lem c kept
      ∙ ap (◌|| clause_true s c) (sym (held-true l kept e) ∙ or_comm (literal_true s l) (clause_true s kept))
      ∙ or_assoc (clause_true s kept) (literal_true s l) (clause_true s c)))
      (λ e.
      rw e
      (distinct_from_lem c (kept ++ l ∷ [])
      ∙ ap (◌|| clause_true s c) (clause_more l kept)
      ∙ or_assoc (clause_true s kept) (literal_true s l) (clause_true s c)))

  pub distinct_true : (c : List ℕ) → clause_true s (distinct_from [] c) ≡ clause_true s c
  unfolding clause_true
  distinct_true c = distinct_from_lem c []

  -- 'one holding both signs of a variable is true'
  pub both_true : (c : List ℕ) → both_signs c ≡ true → clause_true s c ≡ true
  unfolding both_signs clause_true
  both_true [] e = e
  both_true (l ∷ c) e =
      ⊎_elim
      (λ q.
      ap (literal_true s l ||◌) (sym (held-true (opposite l) c q))
      ∙ sym (or_assoc (literal_true s l) (literal_true s (opposite l)) (clause_true s c))
      ∙ rw (opposite-true s l, or-not_self))
      (λ q. rw (both_true c q, or-true))
      (or_cases (holds (opposite l) c) (both_signs c) e)

-- what stays stood in the clause
distinct_held : (l : ℕ) (c kept : List ℕ) → holds l (distinct_from kept c) ≡ true → (holds l kept ≡ true) ⊎ (holds l c ≡ true)
unfolding distinct_from
distinct_held l [] kept e = inl e
distinct_held l (x ∷ c) kept e =
    by_test (holds x kept)
    (λ q. ⊎_elim inl (λ p. inr (holds_later l x c p)) (distinct_held l c kept (rw q at e)))
    (λ q.
    ⊎_elim
    (λ p. ⊎_elim inl (λ r. inr (rw (eqb-true x l r) (holds-first l c))) (or_cases (holds l kept) (eqb x l) (sym (holds_more l x kept) ∙ p)))
    (λ p. inr (holds_later l x c p))
    (distinct_held l c (kept ++ x ∷ []) (rw q at e)))

pub distinct_in : (l : ℕ) (c : List ℕ) → holds l (distinct_from [] c) ≡ true → holds l c ≡ true
unfolding holds
distinct_in l c e = ⊎_elim (λ q. absurd (false≢true q)) (λ q. q) (distinct_held l c [] e)

-- .. and stays once
abbrev Once : List ℕ → Type 0
Once [] = Unit {0}
Once (l ∷ c) = (holds l c ≡ false) × Once c

once_more : (l : ℕ) (c : List ℕ) → Once c → holds l c ≡ false → Once (c ++ l ∷ [])
unfolding holds
once_more l [] o e = (refl, tt)
once_more l (x ∷ c) o e =
    let other : eqb l x ≡ false = ne_eqb l x (λ q. eqb-false x l (or_left (eqb x l) (holds l c) e) (sym q)) in
    (holds_more x l c ∙ rw o.0 other, once_more l c o.1 (or_right (eqb x l) (holds l c) e))

distinct_once : (c kept : List ℕ) → Once kept → Once (distinct_from kept c)
unfolding distinct_from
distinct_once [] kept o = o
distinct_once (l ∷ c) kept o =
    by_test (holds l kept)
    (λ e. rw e (distinct_once c kept o))
    (λ e. rw e (distinct_once c (kept ++ l ∷ []) (once_more l kept o e)))

-- a clause without both signs
opposite_twice : (a b : ℕ) → a ≡ opposite b → b ≡ opposite a
opposite_twice a b e = omega arith

both-none : (a b : ℕ) (c : List ℕ) → both_signs c ≡ false → holds a c ≡ true → holds b c ≡ true → a ≡ opposite b → ⊥
unfolding both_signs holds
both-none a b [] n p q e = false≢true p
both-none a b (x ∷ c) n p q e =
    let first : holds (opposite x) c ≡ false = or_left (holds (opposite x) c) (both_signs c) n in
    let later : both_signs c ≡ false = or_right (holds (opposite x) c) (both_signs c) n in
    ⊎_elim
    (λ h.
    ⊎_elim
    (λ k. omega arith)
    (λ k. let r : opposite x ≡ b = ap (λ (k : ℕ). opposite k) h ∙ sym (opposite_twice a b e) in false≢true (sym first ∙ rw r k))
    (by-holds b x c q))
    (λ h.
    ⊎_elim
    (λ k. let r : opposite x ≡ a = ap (λ (k : ℕ). opposite k) k ∙ sym e in false≢true (sym first ∙ rw r h))
    (λ k. both-none a b c later h k e)
    (by-holds b x c q))
    (by-holds a x c p)

-- the node of a is that of no literal of a clause
abbrev pub Apart : ℕ → List ℕ → Type 0
Apart a c = (l : ℕ) → holds l c ≡ true → a / 2 ≡ l / 2 → ⊥

pub distinct_apart : (c : List ℕ) (a : ℕ) (rest : List ℕ) → both_signs c ≡ false → distinct_from [] c ≡ a ∷ rest → Apart a rest
distinct_apart c a rest n e l h same =
    let once : Once (a ∷ rest) = rw e at (distinct_once c [] tt) in
    let stood : (m : ℕ) → holds m (a ∷ rest) ≡ true → holds m c ≡ true = λ m k. distinct_in m c (rw e k) in
    by_test (eqb a l)
    (λ q. false≢true (sym once.0 ∙ rw (eqb-true a l q) h))
    (λ q. both-none a l c n (stood a (holds-first a rest)) (stood l (holds_later l a rest h)) (omega (arith, eqb-false a l q)))

-- one literal more behind a clause: what is kept, what stands there, and both signs
pub distinct_more : (l : ℕ) (c before : List ℕ) → distinct_from before (c ++ l ∷ []) ≡ kept (distinct_from before c) l
unfolding distinct_from
distinct_more l [] before = refl
distinct_more l (x ∷ c) before = distinct_more l c (kept before x)

holds_kept : (x l : ℕ) (before : List ℕ) → holds x (kept before l) ≡ (holds x before || eqb l x)
holds_kept x l before =
    by_test (holds l before)
    (λ e.
    rw e
    (by_test (eqb l x)
    (λ q. let here : holds x before ≡ true = rw (eqb-true l x q) at e in rw (q, here))
    (λ q. rw (q, or-false))))
    (λ e. rw e (holds_more x l before))

distinct_holds-from : (x : ℕ) (c before : List ℕ) → holds x (distinct_from before c) ≡ (holds x before || holds x c)
unfolding distinct_from holds
distinct_holds-from x [] before = sym (or-false (holds x before))
distinct_holds-from x (l ∷ c) before =
    distinct_holds-from x c (kept before l)
    ∙ ap (◌|| holds x c) (holds_kept x l before)
    ∙ or_assoc (holds x before) (eqb l x) (holds x c)

pub distinct_holds : (x : ℕ) (c : List ℕ) → holds x (distinct_from [] c) ≡ holds x c
unfolding holds
distinct_holds x c = distinct_holds-from x c []

-- each is the other's opposite, or neither
opposite-eqb : (a b : ℕ) → eqb a (opposite b) ≡ eqb b (opposite a)
opposite-eqb a b =
    by_test (eqb a (opposite b))
    (λ e. e ∙ sym (eq-eqb b (opposite a) (opposite_twice a b (eqb-true a (opposite b) e))))
    (λ e. e ∙ sym (ne_eqb b (opposite a) (λ q. eqb-false a (opposite b) e (opposite_twice b a q))))

or_middle : (a b c d : Bool) → (a || b || (c || d)) ≡ (a || c || (b || d))
or_middle true b c d = refl
or_middle false b c d = or_swap b c d

pub both_more : (l : ℕ) (c : List ℕ) → both_signs (c ++ l ∷ []) ≡ (both_signs c || holds (opposite l) c)
unfolding both_signs holds
both_more l [] = refl
both_more l (x ∷ c) =
    ap (◌|| both_signs (c ++ l ∷ [])) (holds_more (opposite x) l c ∙ ap (holds (opposite x) c ||◌) (opposite-eqb l x))
    ∙ ap (holds (opposite x) c || eqb x (opposite l) ||◌) (both_more l c)
    ∙ or_middle (holds (opposite x) c) (eqb x (opposite l)) (both_signs c) (holds (opposite l) c)
