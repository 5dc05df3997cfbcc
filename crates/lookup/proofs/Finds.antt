-- Laws of `index_of` over the nodes of a table, for loops that compare one after another, and block after block: what is left at n, past n
-- others, is the answer. Assumes nothing.
use mathlib.Core.Path.{◌≡◌, ◌∙◌, ap, refl, sym}
use mathlib.Core.Bool.{true, false, cond, ◌&&◌, and-false}
use mathlib.Core.List.{[], ◌∷◌}
use Prim.Native.Nat.{ℕ, zero, suc, ◌+◌, ◌-◌, ◌*◌, ◌/◌, ◌%◌, ◌<◌, ◌≤◌}
use native.Mathlib.Nat.{zero-add, add-zero, suc-add, sub-zero}
use native.Mathlib.Omega.{arith}
use borrow.Author.Tests.{eq-eqb, ne_eqb, lt-ltb, le-ltb, eqb-true, ltb-true, ltb-false}
use lib.Dec.{eqb, ltb}
use Rattle.std.specs.Prelude.{Some, None}
use Rattle.record.specs.Place.{place_of}
use Rattle.lookup.specs.Found.{among}
use Rattle.scope.specs.declared.Node.{Node}
use Rattle.scope.specs.Table.{operands, every, range_ok, same_node, list_from}
use Rattle.scope.specs.Calls.{no_node, index_of}
use Rattle.scope.proofs.Tests.{by_test}
use Rattle.scope.proofs.Lists.{length_list_from, get_d_list_from, list_from_turn, list_from_done}
use Rattle.scope.proofs.Operands.{operands-some}
use Rattle.codec.proofs.Rows.{both}
use Rattle.codec.proofs.Nodes.{index_none}

-- where record i of block j stands
pub place_is : (j i : ℕ) → i < 63 → 512 * j + 4 + 8 * i ≡ place_of (63 * j + i)
place_is j i h =
    let q : (63 * j + i) / 63 ≡ j = omega arith in
    let r : (63 * j + i) % 63 ≡ i = omega arith in
    rw (q, r) (omega arith)

-- two nodes differ in the first two operands, or in the kind, or only in c if at all
module _ (x y : Node) where
  pub other_pair : (x.a + 65536 * x.b ≡ y.a + 65536 * y.b → ⊥) → false ≡ same_node x y
  other_pair h =
      by_test (eqb x.a y.a)
      (λ t. by_test (eqb x.b y.b)
      (λ u. absurd (h (omega (arith, eqb-true x.a y.a t, eqb-true x.b y.b u))))
      (λ u. simp (u, and-false)))
      (λ t. simp (t, and-false))

  pub other_kind : (x.kind ≡ y.kind → ⊥) → eqb x.kind y.kind ≡ same_node x y
  other_kind h = rw (ne_eqb x.kind y.kind h)

  pub only_c : x.kind ≡ y.kind → x.a ≡ y.a → x.b ≡ y.b → eqb x.c y.c ≡ same_node x y
  only_c e a b = rw (eq-eqb x.kind y.kind e, eq-eqb x.a y.a a, eq-eqb x.b y.b b)

-- an index that is among the first n, or not
pub is_among : (n i k : ℕ) → i < n → i ≡ k → Some i ≡ among n k
is_among n i k h e = rw (← e, lt-ltb i n h)

pub not_among : (n k : ℕ) → n ≤ k → None ≡ among n k
not_among n k h = rw (le-ltb k n h)

pub from_some : (n k : ℕ) {i : ℕ} → Some i ≡ among n k → (i ≡ k) × (k < n)
from_some n k {i} e =
    by_test (ltb k n)
    (λ t. let q : Some i ≡ Some k = rw t at e in (cc, ltb-true k n t))
    (λ t. let q : Some i ≡ None = rw t at e in cc)

pub from_none : (n k : ℕ) → None ≡ among n k → n ≤ k
from_none n k e =
    by_test (ltb k n)
    (λ t. let q : None ≡ Some k = rw t at e in cc)
    (λ t. ltb-false k n t)

module _ (f : ℕ → Node) (x : Node) (n e : ℕ) where
  pub found : n < e → same_node (f n) x ≡ true → n + index_of x (list_from f n (e - n)) ≡ n
  unfolding index_of
  found h q = rw (list_from_turn f n e h, q) (omega arith)

  pub passed : n < e → same_node (f n) x ≡ false → n + index_of x (list_from f n (e - n)) ≡ n + 1 + index_of x (list_from f (n + 1) (e - (n + 1)))
  unfolding index_of
  passed h q = rw (list_from_turn f n e h, q) (omega arith)

  pub none : n ≤ e → e ≤ n → n + index_of x (list_from f n (e - n)) ≡ e
  unfolding index_of
  none h k = rw (list_from_done f n e k) (omega arith)

-- k nodes, then n more
module _ (f : ℕ → Node) (x : Node) (n : ℕ) where
  pub within : (k i : ℕ) → index_of x (list_from f i k) < k → index_of x (list_from f i (k + n)) ≡ index_of x (list_from f i k)
  unfolding index_of list_from
  within zero i h = absurd (omega arith)
  within (suc k) i h =
      rw (suc-add k n)
      (by_test (same_node (f i) x)
      (λ t. simp t)
      (λ t. let more : suc (index_of x (list_from f (suc i) k)) < suc k = rw t at h in simp t (ap suc (within k (suc i) (omega arith)))))

  pub beyond : (k i : ℕ) → k ≤ index_of x (list_from f i k) → index_of x (list_from f i (k + n)) ≡ k + index_of x (list_from f (i + k) n)
  unfolding index_of list_from
  beyond zero i h = rw (zero-add, zero-add, add-zero) refl
  beyond (suc k) i h =
      rw (suc-add k n)
      (by_test (same_node (f i) x)
      (λ t. let none : suc k ≤ 0 = rw t at h in absurd (omega arith))
      (λ t.
      let more : suc k ≤ suc (index_of x (list_from f (suc i) k)) = rw t at h in
      let past : suc i + k ≡ i + suc k = omega arith in
      simp t (ap suc (rw past at (beyond k (suc i) (omega arith))) ∙ omega arith)))

-- a block of 63, where more nodes follow
module _ (f : ℕ → Node) (x : Node) (i e : ℕ) (h : i + 63 ≤ e) where
  split : list_from f i (e - i) ≡ list_from f i (63 + (e - (i + 63)))
  split = let q : e - i ≡ 63 + (e - (i + 63)) = omega arith in ap (list_from f i) q

  pub in_block : index_of x (list_from f i 63) < 63 → index_of x (list_from f i (e - i)) ≡ index_of x (list_from f i 63)
  in_block k = ap (index_of x) split ∙ within f x (e - (i + 63)) 63 i k

  pub past_block : 63 ≤ index_of x (list_from f i 63) → index_of x (list_from f i (e - i)) ≡ 63 + index_of x (list_from f (i + 63) (e - (i + 63)))
  past_block k = ap (index_of x) split ∙ beyond f x (e - (i + 63)) 63 i k

-- operands are of earlier nodes: so no node before that of b is x
range_b : (y : Node) (n : ℕ) → 2 < y.kind → range_ok y n ≡ true → y.b / 2 < n
unfolding range_ok
range_b y n k e =
    let all : every (λ l. ltb (l / 2) n) (operands y) ≡ true = rw (ne_eqb y.kind 2 (λ q. omega arith)) at e in
    let some : (ltb (y.a / 2) n && (ltb (y.b / 2) n && every (λ l. ltb (l / 2) n) (cond (ltb y.kind 7) [] (y.c ∷ [])))) ≡ true =
    rw (operands-some y k) at all in
    ltb-true (y.b / 2) n (both (ltb (y.b / 2) n) _ (both (ltb (y.a / 2) n) _ some).1).0

module _ (f : ℕ → Node) (x : Node) (nodes : ℕ) (low : (n : ℕ) → n < nodes → range_ok (f n) n ≡ true) (own : range_ok x nodes ≡ true) where
  before : (m : ℕ) → m ≤ x.b / 2 → m < nodes → 2 < x.kind → same_node (f m) x ≡ false
  before m h i k =
      by_test (same_node (f m) x)
      (λ t.
      let s = both (eqb (f m).kind x.kind) _ t in
      let u = both (eqb (f m).b x.b) _ (both (eqb (f m).a x.a) _ s.1).1 in
      let kind : (f m).kind ≡ x.kind = eqb-true (f m).kind x.kind s.0 in
      let b : (f m).b ≡ x.b = eqb-true (f m).b x.b u.0 in
      absurd (omega (arith, range_b (f m) m (omega arith) (low m i))))
      (λ t. t)

  module _ (j : ℕ) (h : 63 * j ≤ x.b / 2) (none : x.kind < 3 → j ≡ 0) where
    pub start-low : j ≤ nodes / 63
    start-low =
        by_test (ltb x.kind 3)
        (λ t. omega (arith, none (ltb-true x.kind 3 t)))
        (λ t. omega (arith, range_b x nodes (omega (arith, ltb-false x.kind 3 t)) own))

    pub start_left : 63 * j + index_of x (list_from f (63 * j) (nodes - 63 * j)) ≡ index_of x (list_from f 0 nodes)
    start_left =
        by_test (ltb x.kind 3)
        (λ t. let z : j ≡ 0 = none (ltb-true x.kind 3 t) in rw z (simp (sub-zero, zero-add)))
        (λ t.
        let k : 2 < x.kind = omega (arith, ltb-false x.kind 3 t) in
        let less : 63 * j ≤ nodes = omega (arith, start-low) in
        let size = length_list_from f (63 * j) 0 in
        let absent : index_of x (list_from f 0 (63 * j)) ≡ 63 * j =
        index_none x (list_from f 0 (63 * j))
        (λ m l. rw (get_d_list_from f (63 * j) 0 m no_node (omega (arith, size)), zero-add) (before m (omega (arith, size)) (omega (arith, size)) k))
        ∙ size in
        let whole : 63 * j + (nodes - 63 * j) ≡ nodes = omega arith in
        sym (rw (whole, zero-add) at (beyond f x (nodes - 63 * j) (63 * j) 0 (omega (arith, absent)))))
