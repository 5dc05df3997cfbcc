-- What the records that the reader adds mean: TRUE, points, AND and OR, under every setting. Assumes nothing.
use mathlib.Core.Path.{◌≡◌, ◌∙◌, ap, sym, refl}
use mathlib.Core.List.{List, [], ◌∷◌, map}
use mathlib.Core.Bool.{Bool, true, false, not, and_comm, or_comm}
use Prim.Native.Nat.{ℕ, ◌+◌, ◌-◌, ◌*◌, ◌/◌, ◌%◌, ◌<◌, ◌≤◌}
use native.Mathlib.Omega.{arith}
use lib.Dec.{eqb, ltb}
use lib.ListN.{length, get_or}
use borrow.Author.Tests.{eqb-true, eqb-false, eq-eqb, ne_eqb, ltb-true, ltb-false}
use Rattle.scope.specs.declared.Node.{Node}
use Rattle.scope.specs.Outcome.{answer}
use Rattle.scope.specs.Table.{node_bytes, operands}
use Rattle.scope.specs.Truth.{classical, truth, joined}
use Rattle.scope.specs.Calls.{Added, add}
use Rattle.scope.proofs.Operands.{operands-two}
use Rattle.codec.specs.Valid.{Bytes}
use Rattle.codec.proofs.Rows.{by_test}
use Rattle.codec.proofs.Records.{bytes_node}
use Rattle.truth.specs.Evaluated.{Low}
use Rattle.truth.proofs.Truths.{negation_opposite, negation_of_any, true-true, atom_point, node-joins}
use Rattle.cnf.specs.Fold.{node, at, opposite, yes_literal, no_literal}
use Rattle.cnf.specs.Meaning.{literal_true}
use Rattle.cnf.proofs.Outcomes.{ends_as, ends_on}
use Rattle.cnf.proofs.Records.{true-reads, ordered, join-reads}
use Rattle.cnf.proofs.Puts.{Holds, Extends, extends_truth, Full, Runs, most, low, PutAt, put-runs}

-- the literal of u means f in its table, which has rs before it
pub record Gives (vars : ℕ) (rs : List Node) (f : List ℕ → Bool) (u : Added) : Type 0 where
  pub rs' : List Node
  pub holds : Holds vars u.used u.bytes rs'
  pub extends : Extends rs rs'
  pub inside : u.literal / 2 < length rs'
  pub means : (s : List ℕ) → truth s rs' u.literal ≡ f s

-- the literals of points
module _ {vars used : ℕ} {bytes : List ℕ} {rs : List Node} (h : Holds vars used bytes rs) where
  point_truth : (s : List ℕ) (p : ℕ) → p < vars → truth s rs (2 * p) ≡ eqb (get_or s p 0) 1
  point_truth s p i = atom_point s rs p (node 2 p 0) (omega (arith, h.wide)) (h.points p i) refl

  pub literal_truth : (s : List ℕ) (l : ℕ) → l < 2 * vars → truth s rs l ≡ literal_true s l
  unfolding literal_true
  literal_truth s l i =
      by_test (eqb (l % 2) 0)
      (λ e.
      let q : l ≡ 2 * (l / 2) = omega (arith, eqb-true (l % 2) 0 e) in
      ap (truth s rs) q ∙ point_truth s (l / 2) (omega arith) ∙ rw e)
      (λ e.
      let q : l ≡ 2 * (l / 2) + 1 = omega (arith, eqb-false (l % 2) 0 e) in
      ap (truth s rs) q ∙ negation_opposite s rs (l / 2) ∙ ap not (point_truth s (l / 2) (omega arith)) ∙ rw e)

  -- TRUE and its negation
  small_true : Bytes (node_bytes (node 1 0 0))
  small_true = bytes_node (node 1 0 0) (record { kind = omega arith; a = omega arith; b = omega arith; c = omega arith })

  gives_true : (u : Added) → PutAt vars rs (node 1 0 0) u → Gives vars rs (λ s. true) u
  gives_true u p = record {
    rs' = p.rs';
    holds = p.holds;
    extends = p.extends;
    inside = p.inside;
    means = λ s. ap (truth s p.rs') p.even ∙ true-true s p.rs' (u.literal / 2) (node 1 0 0) p.inside p.node refl;
  }

  put-true : Runs (Gives vars rs (λ s. true)) (add bytes used (node_bytes (node 1 0 0)))
  put-true =
      ends_as Full (PutAt vars rs (node 1 0 0)) (Gives vars rs (λ s. true)) (add bytes used (node_bytes (node 1 0 0))) gives_true
      (put-runs h (node 1 0 0) (node 1 0 0) small_true (true-reads (length rs)))

  pub yes-runs : (l : ℕ) → Runs (Gives vars rs (λ s. true)) (yes_literal (record { literal = l; used = used; bytes = bytes }))
  unfolding yes_literal
  yes-runs l = put-true

  gives_false : (u : Added) → Gives vars rs (λ s. true) u → Gives vars rs (λ s. false) (at u (opposite u.literal))
  gives_false u g = record {
    rs' = g.rs';
    holds = g.holds;
    extends = g.extends;
    inside = omega (arith, g.inside);
    means = λ s. negation_of_any s g.rs' u.literal ∙ ap not (g.means s);
  }

  pub no-runs : (l : ℕ) → Runs (Gives vars rs (λ s. false)) (no_literal (record { literal = l; used = used; bytes = bytes }))
  unfolding no_literal
  no-runs l =
      ends_on Full (Gives vars rs (λ s. true)) (Gives vars rs (λ s. false)) (add bytes used (node_bytes (node 1 0 0))) (λ u. answer (at u (opposite u.literal)))
      put-true gives_false

-- AND and OR go either way round
joined_comm : (kind : ℕ) → 2 < kind → kind < 5 → (x y : Bool) → joined classical kind (x ∷ y ∷ []) ≡ joined classical kind (y ∷ x ∷ [])
unfolding joined
joined_comm kind h i x y =
    by_test (eqb kind 3)
    (λ e. rw e (and_comm x y))
    (λ e. rw (e, ne_eqb kind 7 (λ q. omega arith), eq-eqb kind 4 (omega (arith, eqb-false kind 3 e))) (or_comm x y))

-- two literals joined: what it means, and that it is no point
pub record Joins (vars : ℕ) (rs : List Node) (f : List ℕ → Bool) (u : Added) : Type 0 where
  pub gives : Gives vars rs f u
  pub beyond : vars ≤ u.literal / 2

module _ (kind : ℕ) (above : 2 < kind) (below : kind < 5) {vars used : ℕ} {bytes : List ℕ} {rs : List Node} (h : Holds vars used bytes rs)
    (a b : ℕ) (left : a / 2 < length rs) (right : b / 2 < length rs) (apart : a / 2 ≡ b / 2 → ⊥) where
  ordered_kind : (ordered kind a b).kind ≡ kind
  unfolding ordered
  ordered_kind = by_test (ltb (b / 2) (a / 2)) (λ e. rw e) (λ e. rw e)

  -- the operands' truths, in either order
  either : (s : List ℕ) (qs : List Node)
      → joined classical kind (map (truth s qs) (operands (ordered kind a b))) ≡ joined classical kind (truth s qs a ∷ truth s qs b ∷ [])
  unfolding ordered
  either s qs =
      by_test (ltb (b / 2) (a / 2))
      (λ e. rw (e, operands-two (node kind b a) above (omega arith)) (joined_comm kind above below (truth s qs b) (truth s qs a)))
      (λ e. rw (e, operands-two (node kind a b) above (omega arith)))

  module _ (u : Added) (p : PutAt vars rs (ordered kind a b) u) where
    earlier : Low (ordered kind a b) (u.literal / 2)
    earlier = rw p.node at (low p.holds (u.literal / 2) p.inside)

    join-truth : (s : List ℕ) → truth s p.rs' u.literal ≡ joined classical kind (truth s rs a ∷ truth s rs b ∷ [])
    join-truth s =
        let k : 2 < (ordered kind a b).kind = rw ordered_kind above in
        ap (truth s p.rs') p.even
        ∙ node-joins s p.rs' (u.literal / 2) (ordered kind a b) p.inside p.node earlier.below k
        ∙ ap (λ (i : ℕ). joined classical i (map (truth s p.rs') (operands (ordered kind a b)))) ordered_kind
        ∙ either s p.rs'
        ∙ ap (λ (x : Bool). joined classical kind (x ∷ truth s p.rs' b ∷ [])) (extends_truth s a p.extends left)
        ∙ ap (λ (y : Bool). joined classical kind (truth s rs a ∷ y ∷ [])) (extends_truth s b p.extends right)

    -- it is no point: those are ATOMs
    no-point : vars ≤ u.literal / 2
    no-point =
        by_test (ltb (u.literal / 2) vars)
        (λ e.
        let q : ordered kind a b ≡ node 2 (u.literal / 2) 0 = sym p.node ∙ p.holds.points (u.literal / 2) (ltb-true (u.literal / 2) vars e) in
        absurd (omega (arith, ap (λ (x : Node). x.kind) q, ordered_kind)))
        (λ e. ltb-false (u.literal / 2) vars e)

    gives-join : Joins vars rs (λ s. joined classical kind (truth s rs a ∷ truth s rs b ∷ [])) u
    gives-join = record {
      gives = record { rs' = p.rs'; holds = p.holds; extends = p.extends; inside = p.inside; means = join-truth };
      beyond = no-point;
    }

  small_join : Bytes (node_bytes (node kind a b))
  small_join =
      let few = most h in
      bytes_node (node kind a b) (record { kind = omega arith; a = omega arith; b = omega arith; c = omega arith })

  pub join_runs : Runs (Joins vars rs (λ s. joined classical kind (truth s rs a ∷ truth s rs b ∷ []))) (add bytes used (node_bytes (node kind a b)))
  join_runs =
      ends_as Full (PutAt vars rs (ordered kind a b)) (Joins vars rs (λ s. joined classical kind (truth s rs a ∷ truth s rs b ∷ []))) (add bytes used (node_bytes (node kind a b)))
      gives-join
      (put-runs h (node kind a b) (ordered kind a b) small_join (join-reads kind above below a b (length rs) left right apart))
