-- The other way: every instance of a published rule from the sequent of a state that is reached is a step that the checker answers, where
-- the literal of UNIT and SPLIT is undecided, and that of SPLIT one of the nodes'. Assumes nothing.
use mathlib.Core.Path.{◌≡◌, refl, sym, ap, ◌∙◌, subst}
use mathlib.Core.Logic.{◌⊎◌, inl, inr}
use mathlib.Core.List.{List, [], ◌∷◌, ◌++◌}
use mathlib.Core.Bool.{true, false, not, or-true}
use Prim.Native.Nat.{ℕ, suc, ◌+◌, ◌*◌, ◌<◌}
use native.Mathlib.Omega.{arith}
use lib.Dec.{ltb}
use lib.ListN.{length, get_or}
use borrow.Author.Tests.{lt-ltb}
use Rattle.scope.specs.Outcome.{answer}
use Rattle.scope.proofs.Tests.{by_test, and_both}
use Rattle.calculus.specs.Expansion.{neg}
use Rattle.calculus.specs.Order.{undecided, value_of, mem, clauses}
use Rattle.calculus.proofs.Literals.{neg-neg, mem_same, mem_other, mem-later}
use Rattle.rules.specs.declared.Step.{Step}
use Rattle.rules.specs.Steps.{U, R, E, C, S}
use Rattle.rules.specs.Rules.{Branch, join, strike_clause, strike_literal, is_holds, among, unstruck, any_holds, Progress, running, turn}
use Rattle.rules.specs.Rules.{clause_at, stands, left, rule_u, rule_r, rule_e, rule_c, rule_s, apply}
use Rattle.rules.proofs.Laws.{place}
use Rattle.published.specs.Published.{With, here, there, ◌⊢◌}
use Rattle.published.specs.Reading.{standing, sequent_of, Within}
use Rattle.published.proofs.Standing.{among_same, among_next, unstruck_same, standing_same, struck_clause, struck_beside, standing-join}

-- ---- lists with one more element

with_length : {A : Type 0} {x : A} {xs ys : List A} → With x xs ys → length ys ≡ suc (length xs)
with_length here = refl
with_length (there w) = ap suc (with_length w)

-- it is the first, or it is in the rest
with_cases : {A : Type 0} {x y : A} {xs ys : List A} → With x xs (y ∷ ys) → ((x ≡ y) × (xs ≡ ys)) ⊎ ((zs : List A) × (xs ≡ y ∷ zs) × With x zs ys)
with_cases here = inl (refl, refl)
with_cases (there {xs = zs} w) = inr (zs, refl, w)

with_mem : {l : ℕ} {Γ G : List ℕ} → With l Γ G → mem l G ≡ true
with_mem {l} (here {xs = xs}) = mem_same xs l l refl
with_mem {l} (there {y = y} {ys = ys} w) = mem-later ys y l (with_mem w)

with_holds : {l : ℕ} {C D : List ℕ} (G : List ℕ) → With l C D → mem l G ≡ true → any_holds G D ≡ true
unfolding any_holds value_of
with_holds G here m = rw m
with_holds G (there {y = y} w) m = rw (with_holds G w m) (or-true (is_holds (value_of G y)))

-- ---- where an element of the sequent is in the clause list

-- a clause that stands, its number, and the others
record Found (b : Branch) (k : ℕ) (cs : List (List ℕ)) (D : List ℕ) (Δ : List (List ℕ)) : Type 0 where
  i : ℕ
  n : ℕ
  at_place : n ≡ k + i
  inside : i < length cs
  free : mem n b.struck_clauses ≡ false
  is : unstruck b n 0 (get_or cs i []) ≡ D
  others : standing (strike_clause n b) k cs ≡ Δ

find_clause : {D : List ℕ} {Δ : List (List ℕ)} (b : Branch) (k : ℕ) (cs : List (List ℕ)) → With D Δ (standing b k cs) → Found b k cs D Δ
unfolding standing
find_clause b k [] w = absurd (omega (arith, with_length w))
find_clause {D} {Δ} b k (c ∷ cs) w = go (λ Z v. find_clause b (suc k) cs v)
  where
    later : Found b (suc k) cs D Δ → mem k b.struck_clauses ≡ true → Found b k (c ∷ cs) D Δ
    later r t = record {
      i = suc r.i;
      n = r.n;
      at_place = omega (arith, r.at_place);
      inside = omega (arith, r.inside);
      free = r.free;
      is = r.is;
      others = rw (mem_other b.struck_clauses r.n k (λ e. omega (arith, r.at_place)), t) r.others;
    }

    first : mem k b.struck_clauses ≡ false → D ≡ unstruck b k 0 c → Δ ≡ standing b (suc k) cs → Found b k (c ∷ cs) D Δ
    first t e f = record {
      i = 0;
      n = k;
      at_place = omega arith;
      inside = omega arith;
      free = t;
      is = sym e;
      others = rw (mem_same b.struck_clauses k k refl)
          (standing_same (strike_clause k b) b (suc k) cs (λ m o. (mem_other b.struck_clauses k m (λ z. omega arith), λ u q z. refl)) ∙ sym f);
    }

    among-rest : (zs : List (List ℕ)) → mem k b.struck_clauses ≡ false → Δ ≡ unstruck b k 0 c ∷ zs → Found b (suc k) cs D zs
        → Found b k (c ∷ cs) D Δ
    among-rest zs t e r = record {
      i = suc r.i;
      n = r.n;
      at_place = omega (arith, r.at_place);
      inside = omega (arith, r.inside);
      free = r.free;
      is = r.is;
      others = rw (mem_other b.struck_clauses r.n k (λ z. omega (arith, r.at_place)), t)
          (rw (unstruck_same (strike_clause r.n b) b k 0 c (λ q o. refl), r.others) (sym e));
    }

    cases : mem k b.struck_clauses ≡ false → ((Z : List (List ℕ)) → With D Z (standing b (suc k) cs) → Found b (suc k) cs D Z)
        → ((D ≡ unstruck b k 0 c) × (Δ ≡ standing b (suc k) cs))
        ⊎ ((zs : List (List ℕ)) × (Δ ≡ unstruck b k 0 c ∷ zs) × With D zs (standing b (suc k) cs)) → Found b k (c ∷ cs) D Δ
    cases t r (inl q) = first t q.0 q.1
    cases t r (inr q) = among-rest q.0 t q.1 (r q.0 q.2)

    go : ((Z : List (List ℕ)) → With D Z (standing b (suc k) cs) → Found b (suc k) cs D Z) → Found b k (c ∷ cs) D Δ
    go r =
        by_test (mem k b.struck_clauses)
        (λ t. later (r Δ (rw t at w)) t)
        (λ t. cases t r (with_cases (rw t at w)))

-- an unstruck literal, its position, and the others
record FoundIn (b : Branch) (k p : ℕ) (c : List ℕ) (m : ℕ) (C : List ℕ) : Type 0 where
  i : ℕ
  q : ℕ
  at_place : q ≡ p + i
  inside : i < length c
  free : among (place k q) b.struck_literals ≡ false
  is : get_or c i 0 ≡ m
  others : unstruck (strike_literal (place k q) b) k p c ≡ C

find_literal : {m : ℕ} {C : List ℕ} (b : Branch) (k p : ℕ) (c : List ℕ) → With m C (unstruck b k p c) → FoundIn b k p c m C
unfolding unstruck
find_literal b k p [] w = absurd (omega (arith, with_length w))
find_literal {m} {C} b k p (l ∷ c) w = go (λ Z v. find_literal b k (suc p) c v)
  where
    later : FoundIn b k (suc p) c m C → among (place k p) b.struck_literals ≡ true → FoundIn b k p (l ∷ c) m C
    later r t = record {
      i = suc r.i;
      q = r.q;
      at_place = omega (arith, r.at_place);
      inside = omega (arith, r.inside);
      free = r.free;
      is = r.is;
      others = rw (among_next k r.q p b.struck_literals (λ e. omega (arith, r.at_place)), t) r.others;
    }

    first : among (place k p) b.struck_literals ≡ false → m ≡ l → C ≡ unstruck b k (suc p) c → FoundIn b k p (l ∷ c) m C
    first t e f = record {
      i = 0;
      q = p;
      at_place = omega arith;
      inside = omega arith;
      free = t;
      is = sym e;
      others = rw (among_same k p b.struck_literals)
          (unstruck_same (strike_literal (place k p) b) b k (suc p) c (λ r o. among_next k p r b.struck_literals (λ z. omega arith)) ∙ sym f);
    }

    among-rest : (zs : List ℕ) → among (place k p) b.struck_literals ≡ false → C ≡ l ∷ zs → FoundIn b k (suc p) c m zs → FoundIn b k p (l ∷ c) m C
    among-rest zs t e r = record {
      i = suc r.i;
      q = r.q;
      at_place = omega (arith, r.at_place);
      inside = omega (arith, r.inside);
      free = r.free;
      is = r.is;
      others = rw (among_next k r.q p b.struck_literals (λ z. omega (arith, r.at_place)), t) (rw r.others (sym e));
    }

    cases : among (place k p) b.struck_literals ≡ false → ((Z : List ℕ) → With m Z (unstruck b k (suc p) c) → FoundIn b k (suc p) c m Z)
        → ((m ≡ l) × (C ≡ unstruck b k (suc p) c)) ⊎ ((zs : List ℕ) × (C ≡ l ∷ zs) × With m zs (unstruck b k (suc p) c)) → FoundIn b k p (l ∷ c) m C
    cases t r (inl q) = first t q.0 q.1
    cases t r (inr q) = among-rest q.0 t q.1 (r q.0 q.2)

    go : ((Z : List ℕ) → With m Z (unstruck b k (suc p) c) → FoundIn b k (suc p) c m Z) → FoundIn b k p (l ∷ c) m C
    go r =
        by_test (among (place k p) b.struck_literals)
        (λ t. later (r C (rw t at w)) t)
        (λ t. cases t r (with_cases (rw t at w)))

-- ---- the steps

module _ (ex : ℕ → List (List ℕ)) (goals : List ℕ) (nodes : ℕ) (b : Branch) (waiting : List Branch) where
  abbrev formula : List (List ℕ)
  formula = standing b 0 (clauses ex goals b.G)

  abbrev Goes : Step → Progress → Type 0
  Goes s p = apply ex goals nodes s b waiting ≡ answer p

  -- a clause of Δ stands, and its literals are those that are left of it
  module _ {D : List ℕ} {Δ : List (List ℕ)} (f : Found b 0 (clauses ex goals b.G) D Δ) where
    same_number : f.i ≡ f.n
    same_number = omega (arith, f.at_place)

    found-stands : stands ex goals nodes b f.n ≡ true
    found-stands =
        and_both (ltb f.n (length (clauses ex goals b.G))) (not (mem f.n b.struck_clauses))
        (lt-ltb f.n (length (clauses ex goals b.G)) (omega (arith, f.inside, f.at_place))) (ap not f.free)

    found_left : left ex goals nodes b f.n ≡ D
    found_left = subst (λ (j : ℕ). unstruck b f.n 0 (get_or (clauses ex goals b.G) j []) ≡ D) same_number f.is

  -- UNIT on an undecided literal
  pub answered-U : {l : ℕ} {Δ : List (List ℕ)} → Within ex goals b → With (l ∷ []) Δ formula → value_of b.G l ≡ undecided
      → (k : ℕ) × Goes (U k) (running (strike_clause k (join l b)) waiting)
      × (sequent_of ex goals (strike_clause k (join l b)) ≡ (l ∷ b.G ⊢ Δ ++ ex l))
  unfolding apply rule_u
  answered-U {l} {Δ} v w u =
      let f = find_clause b 0 (clauses ex goals b.G) w in
      let h : f.n < length (clauses ex goals b.G) = omega (arith, f.inside, f.at_place) in (
        f.n,
        rw (found-stands f, found_left f, u),
        ap (λ (d : List (List ℕ)). l ∷ b.G ⊢ d)
            (standing-join ex goals (strike_clause f.n b) ((h, v.0), v.1, v.2) l ∙ ap (◌++ ex l) f.others),
      )

  -- RED; what is left of the clause stands where the clause stood
  pub answered-R : {l : ℕ} {Γ C D : List ℕ} {Δ : List (List ℕ)} → Within ex goals b → With l Γ b.G → With (neg l) C D → With D Δ formula
      → (p : ℕ) × (k : ℕ) × Goes (R p k) (running (strike_literal (place k p) b) waiting)
      × With C Δ (sequent_of ex goals (strike_literal (place k p) b)).Δ
  unfolding apply rule_r value_of
  answered-R {l} {Γ} {C} {D} {Δ} v g c w =
      let f = find_clause b 0 (clauses ex goals b.G) w in
      let k : ℕ = f.n in
      let x : FoundIn b f.n 0 (clause_at ex goals nodes b f.n) (neg l) C =
      find_literal b f.n 0 (clause_at ex goals nodes b f.n) (subst (λ (d : List ℕ). With (neg l) C d) (sym (found_left f)) c) in
      let e : x.i ≡ x.q = omega (arith, x.at_place) in
      let m : get_or (clause_at ex goals nodes b f.n) x.q 0 ≡ neg l =
      subst (λ (j : ℕ). get_or (clause_at ex goals nodes b f.n) j 0 ≡ neg l) e x.is in
      let h : x.q < length (clause_at ex goals nodes b f.n) = omega (arith, x.inside, x.at_place) in
      let y = struck_clause (strike_literal (place f.n x.q) b) 0 f.n f.n (clauses ex goals b.G) (omega arith)
      (omega (arith, f.inside, f.at_place)) f.free in (
        x.q,
        f.n,
        rw (found-stands f, lt-ltb x.q (length (clause_at ex goals nodes b f.n)) h, x.free, m, v.2 l (with_mem g), neg-neg l, with_mem g),
        rw (x.others, struck_beside b f.n x.q (clauses ex goals b.G), f.others) at y,
      )

  -- ELIM
  pub answered-E : {l : ℕ} {Γ C D : List ℕ} {Δ : List (List ℕ)} → With l Γ b.G → With l C D → With D Δ formula
      → (k : ℕ) × Goes (E k) (running (strike_clause k b) waiting) × (sequent_of ex goals (strike_clause k b) ≡ (b.G ⊢ Δ))
  unfolding apply rule_e
  answered-E g c w =
      let f = find_clause b 0 (clauses ex goals b.G) w in (
        f.n,
        rw (found-stands f, found_left f, with_holds b.G c (with_mem g)),
        ap (λ (d : List (List ℕ)). b.G ⊢ d) f.others,
      )

  -- CONFLICT
  pub answered-C : {Δ : List (List ℕ)} → With [] Δ formula → (k : ℕ) × Goes (C k) (turn waiting)
  unfolding apply rule_c
  answered-C w =
      let f = find_clause b 0 (clauses ex goals b.G) w in
      (f.n, rw (found-stands f, found_left f))

  -- SPLIT on an undecided literal of the nodes
  pub answered-S : (l : ℕ) → Within ex goals b → l < 2 * nodes → value_of b.G l ≡ undecided
      → Goes (S l) (running (join l b) (join (neg l) b ∷ waiting))
      × (sequent_of ex goals (join l b) ≡ (l ∷ b.G ⊢ formula ++ ex l))
      × (sequent_of ex goals (join (neg l) b) ≡ (neg l ∷ b.G ⊢ formula ++ ex (neg l)))
  unfolding apply rule_s
  answered-S l v h u = (
    rw (lt-ltb l (2 * nodes) h, u),
    ap (λ (d : List (List ℕ)). l ∷ b.G ⊢ d) (standing-join ex goals b v l),
    ap (λ (d : List (List ℕ)). neg l ∷ b.G ⊢ d) (standing-join ex goals b v (neg l)),
  )
