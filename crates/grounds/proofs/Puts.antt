-- The sets that the code puts together are those of the operands that a clause has. Assumes nothing.
use mathlib.Core.Path.{◌≡◌, ap, sym, ◌∙◌}
use mathlib.Core.List.{List}
use Prim.Native.Nat.{ℕ, ◌+◌, ◌-◌, ◌*◌, ◌/◌, ◌%◌, ◌^◌, ◌<◌, ◌≤◌}
use native.Mathlib.Omega.{arith}
use native.Mathlib.Decide.{dec_lt}
use lib.ListN.{length, get_or}
use borrow.Author.Tests.{eq-eqb, ne_eqb}
use Rattle.scope.specs.declared.Node.{Node}
use Rattle.scope.specs.Table.{arity, operands, list_from}
use Rattle.scope.proofs.Operands.{arity-none, arity-two, arity-three}
use Rattle.calculus.specs.Expansion.{expand}
use Rattle.calculus.specs.Jump.{Rests, both}
use Rattle.calculus.proofs.Sizes.{expand-few}
use Rattle.index.specs.Index.{index_node}
use Rattle.index.specs.Indexed.{Indexed}
use Rattle.index.proofs.Nodes.{operand_cell, operand_low}
use Rattle.state.specs.Work.{tail, lit_at, Ready}
use Rattle.state.proofs.Areas.{held_below}
use Rattle.rests.specs.Words.{rest_at, There, Put}
use Rattle.grounds.specs.Ground.{slot_of, up_to, singles, operands_in, over, Room}
use Rattle.grounds.proofs.Rows.{all_within}

pub put_as : {m m' : List ℕ} {to : ℕ} {s s' : Rests} → s ≡ s' → Put m to s m' → Put m to s' m'
put_as e u = record { size = u.size; here = u.here ∙ e; other = u.other }

-- a slot of the literals held is there, and so is that of a literal
module _ {w m : List ℕ} {to : ℕ} (O : Room w m to) where
  pub held_there : (p : ℕ) → p ≤ tail w 0 → There m p
  held_there p h = omega (arith, O.past, O.there)

  pub slot_there : {n : ℕ} → Ready n w → {l a : ℕ} → l < 2 * n → a ≡ slot_of (tail w) l → There m a
  slot_there R {l} {a} b e = held_there a (omega (arith, e, R.trail.low (l / 2) (omega arith)))

-- ---- the cells of a node of the index

module _ {x : List ℕ} {n : ℕ} (I : Indexed x n) (p : ℕ) (h : p < n) where
  abbrev node : Node
  node = index_node x p

  pub cell_below : (i : ℕ) → i < arity node.kind → get_or x (4 * p + (1 + i)) 0 < 2 * n
  cell_below i k = omega (arith, operand_low x n p i I.table h k)

  arity-some : 2 < node.kind → 2 ≤ arity node.kind
  arity-some k = go (dec_lt node.kind 7)
    where
      go : Dec (node.kind < 7) → 2 ≤ arity node.kind
      go (yes z) = omega (arith, arity-two node.kind k z)
      go (no z) = omega (arith, arity-three node.kind (omega (arith, z)))

  pub first_below : 2 < node.kind → get_or x (4 * p + 1) 0 < 2 * n
  first_below k = cell_below 0 (omega (arith, arity-some k))

  pub second_below : 2 < node.kind → get_or x (4 * p + 2) 0 < 2 * n
  second_below k = cell_below 1 (omega (arith, arity-some k))

  pub third_below : 6 < node.kind → get_or x (4 * p + 3) 0 < 2 * n
  third_below k = cell_below 2 (omega (arith, arity-three node.kind k))

  module _ (m : List ℕ) (r : ℕ → ℕ) where
    -- the set of an operand
    set-of : (i a : ℕ) → i < arity node.kind → a ≡ slot_of r (get_or x (4 * p + (1 + i)) 0) → rest_at m a ≡ rest_at m (slot_of r (get_or (operands node) i 0))
    set-of i a k e = ap (rest_at m) (e ∙ ap (slot_of r) (sym (operand_cell x p i k)))

    module _ (s : Rests) where
      over_none : node.kind < 3 → over m r node s (up_to (arity node.kind)) ≡ s
      unfolding over list_from
      over_none k = rw (arity-none node.kind k)

      over-pair : {a b : ℕ} → 2 < node.kind → node.kind < 7 → a ≡ slot_of r (get_or x (4 * p + 1) 0) → b ≡ slot_of r (get_or x (4 * p + 2) 0)
          → both (rest_at m a) (both (rest_at m b) s) ≡ over m r node s (up_to (arity node.kind))
      unfolding over list_from
      over-pair {a} {b} k k' ea eb =
          let z = arity-two node.kind k k' in
          rw (z, set-of 0 a (omega (arith, z)) ea, set-of 1 b (omega (arith, z)) eb)

      over-three : {a b c : ℕ} → 6 < node.kind → a ≡ slot_of r (get_or x (4 * p + 1) 0) → b ≡ slot_of r (get_or x (4 * p + 2) 0) → c ≡ slot_of r (get_or x (4 * p + 3) 0)
          → both (rest_at m a) (both (rest_at m b) (both (rest_at m c) s)) ≡ over m r node s (up_to (arity node.kind))
      unfolding over list_from
      over-three {a} {b} {c} k ea eb ec =
          let z = arity-three node.kind k in
          rw (z, set-of 0 a (omega (arith, z)) ea, set-of 1 b (omega (arith, z)) eb, set-of 2 c (omega (arith, z)) ec)

-- ---- all operands

module _ {x w m : List ℕ} {n to p : ℕ} (I : Indexed x n) (O : Room w m to) (h : p < n) (q : ℕ) where
  abbrev all : Rests
  all = over m (tail w) (index_node x p) (rest_at m (q + 1)) (up_to (arity (index_node x p).kind))

  pub put-none : {m' : List ℕ} → (index_node x p).kind < 3 → Put m to (both (rest_at m 0) (rest_at m (q + 1))) m' → Put m to all m'
  put-none k u = put_as (ap (λ (s : Rests). both s (rest_at m (q + 1))) O.none ∙ sym (over_none I p h m (tail w) (rest_at m (q + 1)) k)) u

  module _ {a b : ℕ} (ea : a ≡ slot_of (tail w) (get_or x (4 * p + 1) 0)) (eb : b ≡ slot_of (tail w) (get_or x (4 * p + 2) 0)) where
    pub put-pair : {m' : List ℕ} → 2 < (index_node x p).kind → (index_node x p).kind < 7
        → Put m to (both (rest_at m a) (both (rest_at m b) (rest_at m (q + 1)))) m' → Put m to all m'
    put-pair k k' u = put_as (over-pair I p h m (tail w) (rest_at m (q + 1)) k k' ea eb) u

    pub put-triple : {c : ℕ} {m' : List ℕ} → 6 < (index_node x p).kind → c ≡ slot_of (tail w) (get_or x (4 * p + 3) 0)
        → Put m to (both (rest_at m a) (both (rest_at m b) (both (rest_at m c) (rest_at m (q + 1))))) m' → Put m to all m'
    put-triple k ec u = put_as (over-three I p h m (tail w) (rest_at m (q + 1)) k ea eb ec) u

-- ---- clause j of the literal at position q

module _ {x w m : List ℕ} {n to : ℕ} (I : Indexed x n) (R : Ready n w) (O : Room w m to) (q j : ℕ) (h : q < tail w 0) where
  abbrev l : ℕ
  l = lit_at (tail w) q

  pub literal_node : l / 2 < n
  literal_node = omega (arith, held_below R q h)

  pub literal_kind : (index_node x (l / 2)).kind < 9
  literal_kind = (I.table.kinds (l / 2) literal_node).1

  pub column_few : j < length (expand (index_node x) l) → j < 3
  column_few c = omega (arith, c, expand-few (index_node x) l)

  abbrev row : ℕ
  row = 2 * get_or x (4 * (l / 2)) 0 + l % 2

  row_is : 2 * ((index_node x (l / 2)).kind - 1) + l % 2 ≡ row
  unfolding index_node
  row_is = omega arith

  abbrev clause : Rests
  clause = over m (tail w) (index_node x (l / 2)) (rest_at m (q + 1)) (operands_in (index_node x) l j)

  -- a row of clauses of one literal
  module _ (e : singles / 2 ^ row % 2 ≡ 1) (c : j < length (expand (index_node x) l)) where
    pub single-low : j < arity (index_node x (l / 2)).kind
    single-low = (rw (row_is, eq-eqb (singles / 2 ^ row % 2) 1 e) at (all_within (index_node x) l j literal_kind c)).0

    pub put-single : {a : ℕ} {m' : List ℕ} → a ≡ slot_of (tail w) (get_or x (4 * (l / 2) + (1 + j)) 0) → Put m to (both (rest_at m a) (rest_at m (q + 1))) m' → Put m to clause m'
    unfolding over
    put-single {a} ea u =
        put_as (rw (row_is, eq-eqb (singles / 2 ^ row % 2) 1 e, set-of I (l / 2) literal_node m (tail w) j a single-low ea)) u

  pub put_others : {m' : List ℕ} → (singles / 2 ^ row % 2 ≡ 1 → ⊥)
      → Put m to (over m (tail w) (index_node x (l / 2)) (rest_at m (q + 1)) (up_to (arity (index_node x (l / 2)).kind))) m' → Put m to clause m'
  put_others e u = put_as (rw (row_is, ne_eqb (singles / 2 ^ row % 2) 1 e)) u
