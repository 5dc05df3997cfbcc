-- The table of a file: it reads, its goal means what the file does, and only 51 and 52 refuse it. Assumes nothing.
use mathlib.Core.Path.{◌≡◌, ◌∙◌, ap, sym, refl}
use mathlib.Core.List.{List, [], ◌∷◌}
use mathlib.Core.Bool.{Bool, true, false, not, ◌&&◌, ◌||◌, and_assoc, or_assoc, and-true, or-false, and_self, not-and_self}
use Prim.Native.Nat.{ℕ, zero, suc, ◌+◌, ◌-◌, ◌*◌, ◌/◌, ◌<◌, ◌≤◌}
use native.Mathlib.Nat.{add-zero}
use native.Mathlib.Omega.{arith}
use lib.Dec.{eqb, ltb}
use lib.ListN.{length}
use borrow.Author.Tests.{eqb-true, eqb-false, ltb-true, ltb-false}
use Rattle.scope.specs.declared.Node.{Node}
use Rattle.scope.specs.Outcome.{◌>>=◌}
use Rattle.scope.specs.Truth.{truth, joined}
use Rattle.scope.specs.Calls.{decode_used, Added}
use Rattle.codec.specs.Valid.{Bytes}
use Rattle.codec.proofs.Rows.{by_test}
use Rattle.codec.proofs.Files.{by_last}
use Rattle.codec.proofs.Records.{bytes_node}
use Rattle.truth.proofs.Truths.{negation_of_any}
use Rattle.cnf.specs.Text.{File}
use Rattle.cnf.specs.Fold.{node, put, at, opposite, points, yes_literal, no_literal, holds, distinct_from, both_signs, or_all, or_clause, clause, and_join, and_all, goal_of, empty, build}
use Rattle.cnf.specs.Meaning.{literal_true, clause_true, clauses_true}
use Rattle.cnf.proofs.Outcomes.{ends_as, ends_on}
use Rattle.cnf.proofs.Records.{point_reads}
use Rattle.cnf.proofs.Puts.{Holds, Extends, extends_same, extends_on, extends_truth, Full, Runs, PutAt, put-runs}
use Rattle.cnf.proofs.Means.{Gives, literal_truth, yes-runs, no-runs, Joins, join_runs}
use Rattle.cnf.proofs.Clauses.{holds-first, holds_later, distinct_true, both_true, distinct_in, Apart, distinct_apart}

-- every literal of a clause is of a variable
abbrev pub Below : ℕ → List ℕ → Type 0
Below vars c = (l : ℕ) → holds l c ≡ true → l < 2 * vars

-- .. of every clause
abbrev pub AllBelow : ℕ → List (List ℕ) → Type 0
AllBelow vars [] = Unit {0}
AllBelow vars (c ∷ cs) = Below vars c × AllBelow vars cs

-- the same meaning said otherwise, with fewer nodes before it
gives_as : {vars : ℕ} {qs rs : List Node} {f : List ℕ → Bool} (g : List ℕ → Bool) (u : Added) → Extends qs rs → ((s : List ℕ) → f s ≡ g s) → Gives vars rs f u
    → Gives vars qs g u
gives_as g u e q p = record {
  rs' = p.rs';
  holds = p.holds;
  extends = extends_on e p.extends;
  inside = p.inside;
  means = λ s. p.means s ∙ q s;
}

module _ (vars : ℕ) where
  -- a table whose literal means f, as it stands
  gives_here : (t : Added) (rs : List Node) (f : List ℕ → Bool) → Holds vars t.used t.bytes rs → t.literal / 2 < length rs
      → ((s : List ℕ) → truth s rs t.literal ≡ f s) → Gives vars rs f t
  gives_here t rs f h i m = record { rs' = rs; holds = h; extends = extends_same rs; inside = i; means = m }

  -- 'folded left by OR'
  or_runs : (c : List ℕ) (t : Added) (rs : List Node) (f : List ℕ → Bool) → Holds vars t.used t.bytes rs → t.literal / 2 < length rs
      → ((s : List ℕ) → truth s rs t.literal ≡ f s) → Below vars c → Apart t.literal c
      → Runs (Gives vars rs (λ s. f s || clause_true s c)) (or_all t c)
  unfolding or_all clause_true joined
  or_runs [] t rs f h i m b a = gives_here t rs (λ s. f s || false) h i (λ s. m s ∙ sym (or-false (f s)))
  or_runs (l ∷ c) t rs f h i m b a =
      let low : l < 2 * vars = b l (holds-first l c) in
      let here : (s : List ℕ) → truth s rs l ≡ literal_true s l = λ s. literal_truth h s l low in
      ends_on Full (Joins vars rs (λ s. truth s rs t.literal || truth s rs l)) (Gives vars rs (λ s. f s || (literal_true s l || clause_true s c)))
      (put t 4 t.literal l) (λ u. or_all u c)
      (join_runs 4 (omega arith) (omega arith) h t.literal l i (omega (arith, h.wide)) (a l (holds-first l c)))
      (λ u j.
      ends_as Full (Gives vars j.gives.rs' (λ s. f s || literal_true s l || clause_true s c)) (Gives vars rs (λ s. f s || (literal_true s l || clause_true s c))) (or_all u c)
      (λ w. gives_as (λ s. f s || (literal_true s l || clause_true s c)) w j.gives.extends (λ s. or_assoc (f s) (literal_true s l) (clause_true s c)))
      (or_runs c u j.gives.rs' (λ s. f s || literal_true s l) j.gives.holds j.gives.inside
      (λ s. j.gives.means s ∙ rw (m s, here s))
      (λ x y. b x (holds_later x l c y))
      (λ x y same. omega (arith, j.beyond, b x (holds_later x l c y), same))))

  -- a clause without repeats: 'an empty one is false'
  or_clause-runs : (d : List ℕ) (t : Added) (rs : List Node) → Holds vars t.used t.bytes rs → Below vars d
      → ((a : ℕ) (rest : List ℕ) → d ≡ a ∷ rest → Apart a rest) → Runs (Gives vars rs (λ s. clause_true s d)) (or_clause t d)
  unfolding or_clause clause_true
  or_clause-runs [] t rs h b apart = no-runs h t.literal
  or_clause-runs (l ∷ d) t rs h b apart =
      let low : l < 2 * vars = b l (holds-first l d) in
      or_runs d (at t l) rs (λ s. literal_true s l) h (omega (arith, h.wide)) (λ s. literal_truth h s l low) (λ x y. b x (holds_later x l d y)) (apart l d refl)

  -- a clause: 'one holding both signs of a variable is true'
  clause-runs : (c : List ℕ) (t : Added) (rs : List Node) → Holds vars t.used t.bytes rs → Below vars c
      → Runs (Gives vars rs (λ s. clause_true s c)) (clause t c)
  unfolding clause
  clause-runs c t rs h b =
      by_test (both_signs c)
      (λ e.
      rw e
      (ends_as Full (Gives vars rs (λ s. true)) (Gives vars rs (λ s. clause_true s c)) (yes_literal t)
      (λ u. gives_as (λ s. clause_true s c) u (extends_same rs) (λ s. sym (both_true s c e)))
      (yes-runs h t.literal)))
      (λ e.
      rw e
      (ends_as Full (Gives vars rs (λ s. clause_true s (distinct_from [] c))) (Gives vars rs (λ s. clause_true s c)) (or_clause t (distinct_from [] c))
      (λ u. gives_as (λ s. clause_true s c) u (extends_same rs) (λ s. distinct_true s c))
      (or_clause-runs (distinct_from [] c) t rs h (λ x y. b x (distinct_in x c y)) (λ a rest q. distinct_apart c a rest e q))))

  -- AND: 'equal literals give that literal, opposite ones give false'
  join_step : (goal : ℕ) (t : Added) (rs : List Node) (f g : List ℕ → Bool) → Holds vars t.used t.bytes rs → goal / 2 < length rs → t.literal / 2 < length rs
      → ((s : List ℕ) → truth s rs goal ≡ g s) → ((s : List ℕ) → truth s rs t.literal ≡ f s)
      → Runs (Gives vars rs (λ s. g s && f s)) (and_join goal t)
  unfolding and_join joined
  join_step goal t rs f g h i k mg mf =
      by_test (eqb goal t.literal)
      (λ e.
      let same : goal ≡ t.literal = eqb-true goal t.literal e in
      rw e (gives_here t rs (λ s. g s && f s) h k
      (λ s. mf s ∙ sym (and_self (f s)) ∙ ap (◌&& f s) (sym (mf s) ∙ ap (truth s rs) (sym same) ∙ mg s))))
      (λ e. by_test (eqb goal (opposite t.literal))
      (λ o.
      let other : goal ≡ opposite t.literal = eqb-true goal (opposite t.literal) o in
      rw (e, o)
      (ends_as Full (Gives vars rs (λ s. false)) (Gives vars rs (λ s. g s && f s)) (no_literal t)
      (λ u. gives_as (λ s. g s && f s) u (extends_same rs)
      (λ s. sym (not-and_self (f s)) ∙ ap (◌&& f s) (ap not (sym (mf s)) ∙ sym (negation_of_any s rs t.literal) ∙ ap (truth s rs) (sym other) ∙ mg s)))
      (no-runs h t.literal)))
      (λ o.
      rw (e, o)
      (ends_as Full (Joins vars rs (λ s. truth s rs goal && truth s rs t.literal)) (Gives vars rs (λ s. g s && f s)) (put t 3 goal t.literal)
      (λ u j. gives_as (λ s. g s && f s) u (extends_same rs) (λ s. rw (mg s, mf s)) j.gives)
      (join_runs 3 (omega arith) (omega arith) h goal t.literal i k
      (λ q. omega (arith, eqb-false goal t.literal e, eqb-false goal (opposite t.literal) o))))))

  -- 'Clauses are folded left by AND'
  and-runs : (cs : List (List ℕ)) (t : Added) (rs : List Node) (g : List ℕ → Bool) → Holds vars t.used t.bytes rs → t.literal / 2 < length rs
      → ((s : List ℕ) → truth s rs t.literal ≡ g s) → AllBelow vars cs
      → Runs (Gives vars rs (λ s. g s && clauses_true s cs)) (and_all t cs)
  unfolding and_all clauses_true
  and-runs [] t rs g h i m b = gives_here t rs (λ s. g s && true) h i (λ s. m s ∙ sym (and-true (g s)))
  and-runs (c ∷ cs) t rs g h i m b =
      let goal : List ℕ → Bool = λ s. g s && (clause_true s c && clauses_true s cs) in
      ends_on Full (Gives vars rs (λ s. clause_true s c)) (Gives vars rs goal) (clause t c) (λ u. and_join t.literal u >>= λ w. and_all w cs)
      (clause-runs c t rs h b.0)
      (λ u p.
      ends_on Full (Gives vars p.rs' (λ s. g s && clause_true s c)) (Gives vars rs goal) (and_join t.literal u) (λ w. and_all w cs)
      (join_step t.literal u p.rs' (λ s. clause_true s c) g p.holds (omega (arith, p.extends.more)) p.inside (λ s. extends_truth s t.literal p.extends i ∙ m s) p.means)
      (λ w q.
      ends_as Full (Gives vars q.rs' (λ s. g s && clause_true s c && clauses_true s cs)) (Gives vars rs goal) (and_all w cs)
      (λ x. gives_as goal x (extends_on p.extends q.extends) (λ s. and_assoc (g s) (clause_true s c) (clauses_true s cs)))
      (and-runs cs w q.rs' (λ s. g s && clause_true s c) q.holds q.inside q.means b.1)))

  -- 'no clauses give true'
  goal_runs : (cs : List (List ℕ)) (t : Added) (rs : List Node) → Holds vars t.used t.bytes rs → AllBelow vars cs
      → Runs (Gives vars rs (λ s. clauses_true s cs)) (goal_of t cs)
  unfolding goal_of clauses_true
  goal_runs [] t rs h b = yes-runs h t.literal
  goal_runs (c ∷ cs) t rs h b =
      ends_on Full (Gives vars rs (λ s. clause_true s c)) (Gives vars rs (λ s. clause_true s c && clauses_true s cs)) (clause t c) (λ u. and_all u cs)
      (clause-runs c t rs h b.0)
      (λ u p.
      ends_as Full (Gives vars p.rs' (λ s. clause_true s c && clauses_true s cs)) (Gives vars rs (λ s. clause_true s c && clauses_true s cs)) (and_all u cs)
      (λ w. gives_as (λ s. clause_true s c && clauses_true s cs) w p.extends (λ s. refl))
      (and-runs cs u p.rs' (λ s. clause_true s c) p.holds p.inside p.means b.1))

-- the points below vars stand in the table
record Pointed (vars : ℕ) (u : Added) : Type 0 where
  rs : List Node
  holds : Holds vars u.used u.bytes rs

-- the ATOM of point p joins those of the points below it
point_next : (p : ℕ) (rs : List Node) (u : Added) → length rs ≡ p → PutAt p rs (node 2 p 0) u → (rs' : List Node) × Holds (suc p) u.used u.bytes rs'
    × (length rs' ≡ suc p)
point_next p rs u l q =
    let there : p ≤ u.literal / 2 =
    by_test (ltb (u.literal / 2) p)
    (λ e.
    let same : node 2 p 0 ≡ node 2 (u.literal / 2) 0 = sym q.node ∙ q.holds.points (u.literal / 2) (ltb-true (u.literal / 2) p e) in
    absurd (omega (arith, ap (λ (x : Node). x.a) same, ltb-true (u.literal / 2) p e)))
    (λ e. ltb-false (u.literal / 2) p e) in
    let last : u.literal / 2 ≡ p = omega (arith, q.one, q.inside) in (
      q.rs',
      record {
        bytes_of = q.holds.bytes_of;
        within = q.holds.within;
        nodes = q.holds.nodes;
        wide = omega (arith, q.inside);
        points = λ k i.
            by_last k (suc p) i
            (λ e. let here : k ≡ p = omega arith in rw (here, ← last) (q.node ∙ rw last))
            (λ e. q.holds.points k (omega arith));
      },
      omega (arith, q.one, q.inside),
    )

-- 'points 0 to V − 1 are added first'
points-runs : (n p : ℕ) (t : Added) (rs : List Node) → Holds p t.used t.bytes rs → length rs ≡ p → p + n ≤ 1024 → Runs (Pointed (p + n)) (points t p n)
unfolding points
points-runs zero p t rs h l m = record { rs = rs; holds = rw add-zero h }
points-runs (suc n) p t rs h l m =
    ends_on Full (PutAt p rs (node 2 p 0)) (Pointed (p + suc n)) (put t 2 p 0) (λ u. points u (suc p) n)
    (put-runs h (node 2 p 0) (node 2 p 0) (bytes_node (node 2 p 0) (record { kind = omega arith; a = omega arith; b = omega arith; c = omega arith })) (point_reads p (length rs) (omega arith)))
    (λ u q.
    let next = point_next p rs u l q in
    let sum : suc p + n ≡ p + suc n = omega arith in
    rw sum at (points-runs n (suc p) u next.0 next.1 next.2 (omega arith)))

-- the table of a file
pub build_runs : (buf : List ℕ) (f : File) → Bytes buf → f.variables ≤ 1024 → AllBelow f.variables f.clauses
    → Runs (Gives f.variables [] (λ s. clauses_true s f.clauses)) (build buf f)
unfolding build decode_used
build_runs buf f all few below =
    let none : Holds 0 0 buf [] = record {
      bytes_of = all;
      within = omega arith;
      nodes = refl;
      wide = omega arith;
      points = λ p i. absurd (omega arith);
    } in
    let sum : 0 + f.variables ≡ f.variables = omega arith in
    ends_on Full (Pointed f.variables) (Gives f.variables [] (λ s. clauses_true s f.clauses)) (points (empty buf) 0 f.variables) (λ t. goal_of t f.clauses)
    (rw sum at (points-runs f.variables 0 (empty buf) [] none refl (omega arith)))
    (λ t p.
    ends_as Full (Gives f.variables p.rs (λ s. clauses_true s f.clauses)) (Gives f.variables [] (λ s. clauses_true s f.clauses)) (goal_of t f.clauses)
    (λ u. gives_as (λ s. clauses_true s f.clauses) u (record { more = omega arith; first = refl }) (λ s. refl))
    (goal_runs f.variables f.clauses t p.rs p.holds below))
