-- A literal of truths that agree with the table is as true as its clauses. Assumes nothing.
use mathlib.Core.Path.{◌≡◌, refl, sym, ap, ◌∙◌}
use mathlib.Core.List.{List, map}
use mathlib.Core.Bool.{Bool, true, false, cond, not, not-not}
use Prim.Native.Nat.{ℕ, ◌*◌, ◌/◌, ◌%◌, ◌<◌}
use native.Mathlib.Omega.{arith}
use native.Mathlib.Decide.{ℕ_discrete}
use lib.Dec.{eqb}
use lib.ListN.{length, get_or, length-map}
use borrow.Author.Tests.{eq-eqb, ne_eqb}
use Rattle.scope.specs.declared.Node.{Node}
use Rattle.scope.specs.declared.Truth.{Truth}
use Rattle.scope.specs.declared.Truth.TheVariants.{Yes, No, Unknown}
use Rattle.scope.specs.Table.{arity, operands}
use Rattle.scope.specs.Truth.{Logic, classical}
use Rattle.scope.specs.Kleene.{opposite, kleene}
use Rattle.scope.proofs.Operands.{operands-length}
use Rattle.calculus.specs.Expansion.{neg, chosen, expand}
use Rattle.calculus.specs.Model.{All, Table, lit_in, lit_true, Model}
use Rattle.calculus.proofs.Lists.{any, every, all_imply, get_d_map, any_map, every_map, any_same, every_same, every_all, all_every}
use Rattle.calculus.proofs.Literals.{neg-node}
use Rattle.calculus.proofs.Rows.{row_of, signed, choice, row_has, demand, row_true, row_true_lem, is_yes, row_yes, row_atom, Within, row_within_lem}

-- a clause with a literal whose truth passes a test
abbrev pub clause_has : {A : Type 0} → Logic A → (A → Bool) → (ℕ → A) → List ℕ → Bool
clause_has L p v c = any (λ m. p (lit_in L v m)) c

-- ---- any logic whose negation undoes itself; p is a test of its truths

module _ {A : Type 0} (L : Logic A) (twice : (x : A) → L.opposite (L.opposite x) ≡ x) where
  pub neg-truth : (v : ℕ → A) (l : ℕ) → lit_in L v (neg l) ≡ L.opposite (lit_in L v l)
  unfolding lit_in
  neg-truth v l = rw (neg-node l) (go (ℕ_discrete (l % 2) 0))
    where
      go : Dec (l % 2 ≡ 0) → signed L (neg l % 2) (v (l / 2)) ≡ L.opposite (signed L (l % 2) (v (l / 2)))
      go (yes e) = rw (eq-eqb (l % 2) 0 e, ne_eqb (neg l % 2) 0 (λ q. omega arith))
      go (no e) = rw (ne_eqb (l % 2) 0 e, eq-eqb (neg l % 2) 0 (omega arith)) (sym (twice (v (l / 2))))

  -- a choice of an operand has the truth that the operands give it
  chosen-truth : (v : ℕ → A) (x : Node) (c : ℕ) → c / 2 < length (operands x) → lit_in L v (chosen x c) ≡ choice L (map (lit_in L v) (operands x)) c
  unfolding chosen
  chosen-truth v x c h = rw (get_d_map (lit_in L v) (operands x) (c / 2) 0 L.none h) (go (eqb (c % 2) 0))
    where
      l : ℕ
      l = get_or (operands x) (c / 2) 0

      go : (p : Bool) → lit_in L v (cond p l (neg l)) ≡ cond p (lit_in L v l) (L.opposite (lit_in L v l))
      go true = refl
      go false = neg-truth v l

  -- the clauses of a literal, on the operands' truths
  expand_row : (p : A → Bool) (t : ℕ → Node) (v : ℕ → A) (l : ℕ) → (t (l / 2)).kind < 9
      → every (clause_has L p v) (expand t l) ≡ row_has L p (t (l / 2)).kind (l % 2) (map (lit_in L v) (operands (t (l / 2))))
  unfolding expand
  expand_row p t v l h =
      every_map (clause_has L p v) (map (chosen x)) row
      ∙ every_same (λ c. clause_has L p v (map (chosen x) c)) (any says) row
      (all_imply (All (Within x.kind)) (λ c. clause_has L p v (map (chosen x) c) ≡ any says c)
      (λ c w. any_map (λ m. p (lit_in L v m)) (chosen x) c
      ∙ any_same (λ m. p (lit_in L v (chosen x m))) says c
      (all_imply (Within x.kind) (λ m. p (lit_in L v (chosen x m)) ≡ says m)
      (λ m k. ap p (chosen-truth v x m (omega (arith, k, operands-length x)))) c w))
      row (row_within_lem x.kind (l % 2) h (omega arith)))
    where
      x : Node
      x = t (l / 2)

      row : List (List ℕ)
      row = row_of x.kind (l % 2)

      says : ℕ → Bool
      says c = p (choice L (map (lit_in L v) (operands x)) c)

-- a node that is no ATOM
node_demand : {A : Type 0} (L : Logic A) (n : ℕ) (t : ℕ → Node) (v : ℕ → A) → Table n t → Model L n t v
    → (i : ℕ) → i < n → ((t i).kind ≡ 2 → ⊥) → demand L (t i).kind (map (lit_in L v) (operands (t i))) ≡ v i
node_demand L n t v T M i h k = go (ℕ_discrete (t i).kind 1)
  where
    go : Dec ((t i).kind ≡ 1) → demand L (t i).kind (map (lit_in L v) (operands (t i))) ≡ v i
    go (yes e) = rw (eq-eqb (t i).kind 1 e) (sym (M.top i h e))
    go (no e) = rw (ne_eqb (t i).kind 1 e) (sym (M.join i h (omega (arith, (T.kinds i h).0))))

-- the operands' truths are as many as the kind has operands
truths-length : {A : Type 0} (L : Logic A) (v : ℕ → A) (x : Node) → length (map (lit_in L v) (operands x)) ≡ arity x.kind
truths-length L v x = length-map (operands x) (lit_in L v) ∙ operands-length x

-- ---- two values

-- a clause is true where one of its literals is
abbrev pub clause_true : (ℕ → Bool) → List ℕ → Bool
clause_true v c = any (lit_true v) c

pub neg-true : (v : ℕ → Bool) (l : ℕ) → lit_true v (neg l) ≡ not (lit_true v l)
neg-true = neg-truth classical not-not

module _ (n : ℕ) (t : ℕ → Node) (v : ℕ → Bool) (T : Table n t) (M : Model classical n t v) where
  -- the clauses of a true literal are true
  pub expand-true : (l : ℕ) → l < 2 * n → lit_true v l ≡ true → All (λ c. clause_true v c ≡ true) (expand t l)
  unfolding lit_in
  expand-true l h e =
      every_all (clause_true v) (expand t l)
      (expand_row classical not-not (λ b. b) t v l (T.kinds (l / 2) (omega arith)).1 ∙ go (ℕ_discrete (t (l / 2)).kind 2))
    where
      truths : List Bool
      truths = map (lit_true v) (operands (t (l / 2)))

      go : Dec ((t (l / 2)).kind ≡ 2) → row_true (t (l / 2)).kind (l % 2) truths ≡ true
      go (yes k) = rw (k, row_atom (l % 2) (omega arith))
      go (no k) =
          row_true_lem (t (l / 2)).kind (l % 2) (T.kinds (l / 2) (omega arith)) k (omega arith) truths (truths-length classical v (t (l / 2)))
          ∙ ap (signed classical (l % 2)) (node_demand classical n t v T M (l / 2) (omega arith) k) ∙ e

-- ---- Kleene's tables

-- a clause with a literal that is yes
abbrev pub clause_yes : (ℕ → Truth) → List ℕ → Bool
clause_yes v c = clause_has kleene is_yes v c

opposite_twice : (x : Truth) → opposite (opposite x) ≡ x
opposite_twice Yes = refl
opposite_twice No = refl
opposite_twice Unknown = refl

-- where each clause of a literal has a yes, the literal is yes, unless it is an ATOM's
pub yes-expand : (n : ℕ) (t : ℕ → Node) (v : ℕ → Truth) → Table n t → Model kleene n t v
    → (l : ℕ) → l < 2 * n → ((t (l / 2)).kind ≡ 2 → ⊥) → All (λ c. clause_yes v c ≡ true) (expand t l) → lit_in kleene v l ≡ Yes
unfolding lit_in
yes-expand n t v T M l h k a =
    ap (signed kleene (l % 2)) (sym (node_demand kleene n t v T M (l / 2) (omega arith) k))
    ∙ row_yes (t (l / 2)).kind (l % 2) (T.kinds (l / 2) (omega arith)) k (omega arith)
    (map (lit_in kleene v) (operands (t (l / 2)))) (truths-length kleene v (t (l / 2)))
    (sym (expand_row kleene opposite_twice is_yes t v l (T.kinds (l / 2) (omega arith)).1) ∙ all_every (clause_yes v) (expand t l) a)
