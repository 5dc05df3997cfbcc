-- The record that add looks up means what the record did, and so does one whose operands are replaced by literals of the same
-- meaning, in every even logic and for operands of any number. Assumes nothing.
use mathlib.Core.Path.{◌≡◌, refl, sym, ap, ◌∙◌}
use mathlib.Core.List.{List, [], ◌∷◌, map}
use mathlib.Core.Bool.{Bool, true, false, cond, ◌||◌}
use Prim.Native.Nat.{ℕ, suc, ◌/◌, ◌%◌, ◌<◌}
use native.Mathlib.Omega.{arith}
use native.Mathlib.Decide.{ℕ_discrete}
use lib.Dec.{eqb, ltb}
use lib.ListN.{length, get_or}
use borrow.Author.Tests.{eq-eqb, ne_eqb, ltb-true, ltb-false}
use Rattle.scope.specs.declared.Node.{Node}
use Rattle.scope.specs.Table.{neg, operands, with_operands, every}
use Rattle.scope.specs.Truth.{Logic, chained, lit_truth, joined, node_truth}
use Rattle.scope.specs.Calls.{placed, sorted, ordered, turned, normal}
use Rattle.scope.proofs.Operands.{operands-none, operands-length}
use Rattle.scope.proofs.Tests.{by_test}
use Rattle.codec.proofs.Rows.{both as both_hold}
use Rattle.codec.proofs.Sorted.{length-placed, length-sorted}
use Rattle.codec.proofs.Normal.{by-five, operands_with, turned-five, turned_other, turned_kind, ordered-none, ordered_kind, ordered-operands}
use Rattle.truth.proofs.Truths.{node-two}
use Rattle.rebuilding.specs.Rebuild.{rebuilt, mapped}
use Rattle.rebuilding.specs.Promised.{Orderless, Even}

-- ---- a record with its operands replaced

length-map : {A B : Type 0} (f : A → B) (xs : List A) → length (map f xs) ≡ length xs
length-map f [] = refl
length-map f (x ∷ xs) = ap suc (length-map f xs)

pub mapped-operands : (m : List ℕ) (x : Node) → operands (mapped m x) ≡ map (rebuilt m) (operands x)
unfolding mapped
mapped-operands m x = operands_with x (map (rebuilt m) (operands x)) (length-map (rebuilt m) (operands x) ∙ operands-length x)

pub mapped_kind : (m : List ℕ) (x : Node) → (mapped m x).kind ≡ x.kind
unfolding mapped with_operands
mapped_kind m x = refl

pub mapped-none : (m : List ℕ) (x : Node) → x.kind < 3 → mapped m x ≡ x
unfolding mapped with_operands
mapped-none m x k = rw (operands-none x k)

-- two functions one after the other that agree with a third on what passes
map_through : {A : Type 0} (p : ℕ → Bool) (f : ℕ → A) (g : ℕ → ℕ) (h : ℕ → A) → ((l : ℕ) → p l ≡ true → f (g l) ≡ h l)
    → (ls : List ℕ) → every p ls ≡ true → map f (map g ls) ≡ map h ls
map_through p f g h q [] e = refl
map_through p f g h q (l ∷ ls) e =
    let d = both_hold (p l) (every p ls) e in
    rw (q l d.0, map_through p f g h q ls d.1)

-- ---- a join of several that does not see their order

module _ {A : Type 0} (f : A → A → A) (less : Orderless f) (d : A) where
  -- all of a list joined
  abbrev all : List A → A
  all [] = d
  all (x ∷ xs) = chained f x xs

  chain_cons : (x : A) (ys : List A) → 0 < length ys → chained f x ys ≡ f x (all ys)
  chain_cons x [] h = absurd (omega arith)
  chain_cons x (y ∷ ys) h = refl

  swap_first : (x y : A) (ys : List A) → f x (chained f y ys) ≡ f y (chained f x ys)
  swap_first x y [] = less.two x y
  swap_first x y (z ∷ ys) = less.three x y (chained f z ys)

  module _ (t : ℕ → A) where
    all_placed : (l : ℕ) (ks : List ℕ) → all (map t (placed l ks)) ≡ all (map t (l ∷ ks))
    unfolding placed
    all_placed l [] = refl
    all_placed l (k ∷ ks) =
        by_test (ltb (k / 2) (l / 2))
        (λ e.
        let some : 0 < length (map t (placed l ks)) = omega (arith, length-map t (placed l ks), length-placed l ks) in
        rw (e, chain_cons (t k) (map t (placed l ks)) some, all_placed l ks) (swap_first (t k) (t l) (map t ks)))
        (λ e. rw e)

    all-sorted : (ls : List ℕ) → all (map t (sorted ls)) ≡ all (map t ls)
    unfolding sorted
    all-sorted [] = refl
    all-sorted (l ∷ ls) = all_placed l (sorted ls) ∙ behind ls (all-sorted ls)
      where
        behind : (ls : List ℕ) → all (map t (sorted ls)) ≡ all (map t ls) → chained f (t l) (map t (sorted ls)) ≡ chained f (t l) (map t ls)
        behind [] e = refl
        behind (k ∷ ks) e =
            let some : 0 < length (map t (sorted (k ∷ ks))) = omega (arith, length-map t (sorted (k ∷ ks)), length-sorted (k ∷ ks)) in
            chain_cons (t l) (map t (sorted (k ∷ ks))) some ∙ ap (f (t l)) e

module _ {A : Type 0} (L : Logic A) (even : Even L) where
  neg-truth : (v : List A) (l : ℕ) → lit_truth L v (neg l) ≡ L.opposite (lit_truth L v l)
  unfolding lit_truth
  neg-truth v l =
      let same : neg l / 2 ≡ l / 2 = omega arith in
      rw same (go (ℕ_discrete (l % 2) 0))
    where
      x : A
      x = get_or v (l / 2) L.none

      go : Dec (l % 2 ≡ 0) → cond (eqb (neg l % 2) 0) x (L.opposite x) ≡ L.opposite (cond (eqb (l % 2) 0) x (L.opposite x))
      go (yes e) = rw (eq-eqb (l % 2) 0 e, ne_eqb (neg l % 2) 0 (λ q. omega arith))
      go (no e) = rw (ne_eqb (l % 2) 0 e, eq-eqb (neg l % 2) 0 (omega arith)) (sym (even.twice x))

  -- the joins of kinds other than 5
  joined_all : (kind : ℕ) (xs : List A) → (kind ≡ 5 → ⊥)
      → joined L kind xs
      ≡ cond (eqb kind 3 || eqb kind 7) (all L.both even.both L.none xs)
      (cond (eqb kind 4 || eqb kind 8) (all L.either even.either L.none xs)
      (all L.alike even.alike L.none xs))
  unfolding joined
  joined_all kind [] h = go (eqb kind 3 || eqb kind 7) (eqb kind 4 || eqb kind 8)
    where
      go : (p q : Bool) → L.none ≡ cond p L.none (cond q L.none L.none)
      go true q = refl
      go false true = refl
      go false false = refl
  joined_all kind (x ∷ xs) h = rw (ne_eqb kind 5 h)

  joined-sorted : (kind : ℕ) (t : ℕ → A) (ls : List ℕ) → (kind ≡ 5 → ⊥) → joined L kind (map t (sorted ls)) ≡ joined L kind (map t ls)
  joined-sorted kind t ls h =
      rw (
        joined_all kind (map t (sorted ls)) h,
        joined_all kind (map t ls) h,
        all-sorted L.both even.both L.none t ls,
        all-sorted L.either even.either L.none t ls,
        all-sorted L.alike even.alike L.none t ls,
      )

  module _ (s : List ℕ) (v : List A) where
    -- an operation's truth
    pub operation : (x : Node) → 2 < x.kind → node_truth L s v x ≡ joined L x.kind (map (lit_truth L v) (operands x))
    unfolding node_truth
    operation x h = rw (ne_eqb x.kind 1 (λ q. omega arith), ne_eqb x.kind 2 (λ q. omega arith))

    ordered-means : (x : Node) → (x.kind ≡ 5 → ⊥) → node_truth L s v (ordered x) ≡ node_truth L s v x
    ordered-means x f =
        by_test (ltb x.kind 3)
        (λ k. rw (ordered-none x (ltb-true x.kind 3 k)))
        (λ k.
        let some : 2 < x.kind = omega (arith, ltb-false x.kind 3 k) in
        operation (ordered x) (rw (ordered_kind x) some)
        ∙ rw (ordered-operands x, ordered_kind x) (joined-sorted x.kind (lit_truth L v) (operands x) f)
        ∙ sym (operation x some))

    or-means : (x y : A) → joined L 4 (L.opposite x ∷ y ∷ []) ≡ joined L 5 (x ∷ y ∷ [])
    unfolding joined
    or-means x y = refl

    -- 'OR of ¬a and b' means what the IMP did
    turned-means : (x : Node) → node_truth L s v (turned x) ≡ node_truth L s v x
    turned-means x =
        by-five x
        (λ f.
        let y : Node = record { kind = 4; a = neg x.a; b = x.b; c = x.c } in
        ap (node_truth L s v) (turned-five x f)
        ∙ node-two L s v y (omega arith) (omega arith)
        ∙ ap (λ (z : A). joined L 4 (z ∷ lit_truth L v x.b ∷ [])) (neg-truth v x.a)
        ∙ or-means (lit_truth L v x.a) (lit_truth L v x.b)
        ∙ ap (λ (k : ℕ). joined L k (lit_truth L v x.a ∷ lit_truth L v x.b ∷ [])) (sym f)
        ∙ sym (node-two L s v x (omega arith) (omega arith)))
        (λ f. rw (turned_other x f))

    pub normal-means : (x : Node) → node_truth L s v (normal x) ≡ node_truth L s v x
    normal-means x = ordered-means (turned x) (turned_kind x) ∙ turned-means x

  -- v has the records' truths, w those of the nodes rebuilt so far, and m the rebuilt literal of each record
  module _ (s : List ℕ) (v w : List A) (m : List ℕ) where
    -- a literal of a record whose rebuilt literal means what the record did
    pub rebuilt-means : (l : ℕ) → lit_truth L w (get_or m (l / 2) 0) ≡ get_or v (l / 2) L.none → lit_truth L w (rebuilt m l) ≡ lit_truth L v l
    unfolding rebuilt lit_truth
    rebuilt-means l e = go (eqb (l % 2) 0)
      where
        go : (c : Bool) → lit_truth L w (cond c (get_or m (l / 2) 0) (neg (get_or m (l / 2) 0))) ≡ cond c (get_or v (l / 2) L.none) (L.opposite (get_or v (l / 2) L.none))
        go true = e
        go false = neg-truth w (get_or m (l / 2) 0) ∙ ap L.opposite e

    -- TRUE and ATOM do not look at other nodes
    low-means : (x : Node) → 0 < x.kind → x.kind < 3 → Dec (x.kind ≡ 1) → node_truth L s w x ≡ node_truth L s v x
    unfolding node_truth
    low-means x k h (yes e) = rw e
    low-means x k h (no e) =
        let two : x.kind ≡ 2 = omega arith in
        rw two

    -- 'each rebuilt literal means what its record did', one record further: the node that add looks up has the record's truth
    pub step-means : (x : Node) (n : ℕ) → 0 < x.kind → every (λ l. ltb (l / 2) n) (operands x) ≡ true
        → ((j : ℕ) → j < n → lit_truth L w (get_or m j 0) ≡ get_or v j L.none)
        → node_truth L s w (normal (mapped m x)) ≡ node_truth L s v x
    step-means x n k below h =
        normal-means s w (mapped m x)
        ∙ by_test (ltb x.kind 3)
        (λ l. rw (mapped-none m x (ltb-true x.kind 3 l)) (low-means x k (ltb-true x.kind 3 l) (ℕ_discrete x.kind 1)))
        (λ l.
        let some : 2 < x.kind = omega (arith, ltb-false x.kind 3 l) in
        operation s w (mapped m x) (rw (mapped_kind m x) some)
        ∙ rw (mapped-operands m x, mapped_kind m x)
        (ap (joined L x.kind)
        (map_through (λ l. ltb (l / 2) n) (lit_truth L w) (rebuilt m) (lit_truth L v) (λ l q. rebuilt-means l (h (l / 2) (ltb-true (l / 2) n q))) (operands x) below))
        ∙ sym (operation s v x some))
