-- The class of an edge, by the values of its parent and of the parent's other operand, says what the parent's clauses are. Assumes nothing.
use mathlib.Core.Path.{◌≡◌, refl, sym, ap, ◌∙◌, subst}
use mathlib.Core.Bool.{Bool, true, false, cond}
use mathlib.Core.List.{List}
use Prim.Native.Nat.{ℕ, ◌+◌, ◌-◌, ◌*◌, ◌/◌, ◌%◌, ◌<◌, ◌≤◌}
use native.Mathlib.Nat.{zero-add}
use native.Mathlib.Omega.{arith}
use native.Mathlib.Decide.{ℕ_discrete}
use lib.Dec.{eqb}
use lib.ListN.{get_or}
use borrow.Author.Tests.{eq-eqb, ne_eqb}
use Rattle.scope.specs.declared.Node.{Node}
use Rattle.scope.specs.Table.{operands, list_from}
use Rattle.scope.proofs.Lists.{get_d_list_from}
use Rattle.scope.proofs.Operands.{arity-two}
use Rattle.calculus.specs.Expansion.{neg, chosen, templates}
use Rattle.calculus.specs.Order.{State, holds, value_of, is_empty, is_one, some, first_of, literal_at, bit}
use Rattle.calculus.specs.Model.{Good}
use Rattle.calculus.proofs.Literals.{neg_below, holds-neg}
use Rattle.trail.specs.Trail.{value_code}
use Rattle.index.specs.Codes.{choice_value, state_by, code_of, code_at, class_of, code_place, class_at, classes_size}
use Rattle.index.specs.Index.{most_nodes, most_edges, classes_at, index_node}
use Rattle.index.specs.Edges.{operand_of, Pair, PairAt, ThreeAt, edge_at, parent_of, type_of, other_of}
use Rattle.index.specs.Indexed.{Indexed}
use Rattle.index.proofs.Nodes.{operand_cell}
use Rattle.clause.specs.Coded.{states_of, Coded}
use Rattle.clause.specs.Classed.{kept_by, Says, Classed}
use Rattle.trail.proofs.Codes.{code_low}
use Rattle.clause.proofs.Codes.{pair-right}

-- ---- what a class says of its code

module _ (q : ℕ) where
  class_conflict : q / 2 % 2 ≡ 1 → class_of q ≡ 1
  unfolding class_of
  class_conflict c = rw (eq-eqb (q / 2 % 2) 1 c)

  class_none : q / 2 % 2 ≡ 0 → q % 2 ≡ 0 → class_of q ≡ 0
  unfolding class_of
  class_none c u = rw (ne_eqb (q / 2 % 2) 1 (λ e. omega (arith, c, e)), ne_eqb (q % 2) 1 (λ e. omega (arith, u, e)))

  class_unit : q / 2 % 2 ≡ 0 → q % 2 ≡ 1 → class_of q ≡ 2 + q / 32 % 2 + 4096 * (q / 8 % 4)
  unfolding class_of
  class_unit c u = rw (ne_eqb (q / 2 % 2) 1 (λ e. omega (arith, c, e)), eq-eqb (q % 2) 1 u)

module _ {y : Node} {ss : List State} (q n s o : ℕ) (C : Coded y ss q) (few : n ≤ most_nodes) (low : o < 2 * n) (other : o ≡ get_or (operands y) (1 - s) 0)
    (side : q % 2 ≡ 1 → q / 32 % 8 / 2 ≡ 1 - s) where
  abbrev r : ℕ
  r = 2 + q / 32 % 2 + 4096 * (q / 8 % 4)

  -- what it keeps is the choice that the code names
  kept_choice : q % 2 ≡ 1 → kept_by o r ≡ cond (eqb (q / 32 % 8 % 2) 0) o (neg o) + q / 8 % 4 * 4096
  unfolding kept_by
  kept_choice u =
      let a : r % 2 ≡ q / 32 % 8 % 2 = omega arith in
      let b : r / 4096 ≡ q / 8 % 4 = omega arith in
      rw (a, b)

  choice_other : q % 2 ≡ 1 → chosen y (q / 32 % 8) ≡ cond (eqb (q / 32 % 8 % 2) 0) o (neg o)
  unfolding chosen
  choice_other u =
      let e : get_or (operands y) (q / 32 % 8 / 2) 0 ≡ o = ap (λ (i : ℕ). get_or (operands y) i 0) (side u) ∙ sym other in
      rw e

  choice_low : (b : Bool) → cond b o (neg o) < 2 * n
  choice_low true = low
  choice_low false = neg_below n o low

  -- a class below 2 says nothing of a unit
  no_unit : (r : ℕ) → r < 2 → (r ≡ 0 → (some is_one ss ≡ false) × (some is_empty ss ≡ false)) → (r ≡ 1 → some is_empty ss ≡ true) → Says n ss o r
  no_unit r b none conflict = record {
    none = none;
    conflict = conflict;
    free = λ h. absurd (omega (arith, b, h));
    unit = λ h. absurd (omega (arith, b, h));
    kept = λ h. absurd (omega (arith, b, h));
    kept_low = λ h. absurd (omega (arith, b, h));
  }

  unit_says : q / 2 % 2 ≡ 0 → q % 2 ≡ 1 → some is_one ss ≡ true → some is_empty ss ≡ false → Says n ss o (class_of q)
  unit_says c u e f =
      let l : ℕ = cond (eqb (q / 32 % 8 % 2) 0) o (neg o) in
      let b : l < 2 * n = choice_low (eqb (q / 32 % 8 % 2) 0) in
      let k : kept_by o r ≡ l + q / 8 % 4 * 4096 = kept_choice u in
      let z : l ≡ literal_at ss (first_of is_one ss) = sym (choice_other u) ∙ (C.unit_literal e).1 in
      rw (class_unit q c u) record {
        none = λ h. absurd (omega (arith, h));
        conflict = λ h. absurd (omega (arith, h));
        free = λ h. f;
        unit = λ h. e;
        kept = λ h. record { column = omega (arith, k, b, few, C.unit_clause e); literal = omega (arith, k, b, few, z) };
        kept_low = λ h. (omega (arith, k, b, few), omega (arith, k, b, few));
      }

  says : Says n ss o (class_of q)
  says = go (some is_one ss) (some is_empty ss) refl refl
    where
      go : (u c : Bool) → some is_one ss ≡ u → some is_empty ss ≡ c → Says n ss o (class_of q)
      go u true e f = rw (class_conflict q (C.conflict ∙ ap bit f)) (no_unit 1 (omega arith) (λ h. absurd (omega (arith, h))) (λ h. f))
      go true false e f = unit_says (C.conflict ∙ ap bit f) (C.unit ∙ ap bit e) e f
      go false false e f =
          rw (class_none q (C.conflict ∙ ap bit f) (C.unit ∙ ap bit e)) (no_unit 0 (omega arith) (λ h. (e, f)) (λ h. absurd (omega (arith, h))))

-- ---- the code that a class goes by

abbrev code_by : ℕ → ℕ
code_by i = code_at (code_place (3 + i / 27 % 4) (i / 3 % 3 - 1) (i / 108) (cond (eqb (i / 9 % 3) 1) 2 1) (i % 3))

-- a unit of it forces the other operand: the known one is decided. Computed
abbrev side_by : ℕ → ℕ
side_by i = cond (eqb (code_by i % 2) 1) (code_by i / 32 % 8 / 2) (1 - i / 108)

sides : list_from side_by 0 classes_size ≡ list_from (λ i. 1 - i / 108) 0 classes_size
unfolding list_from templates some first_of choice_value state_by code_of code_at
sides = refl

sided : (i : ℕ) → i < classes_size → code_by i % 2 ≡ 1 → code_by i / 32 % 8 / 2 ≡ 1 - i / 108
sided i h u =
    let a : get_or (list_from side_by 0 classes_size) i 0 ≡ side_by i = get_d_list_from side_by classes_size 0 i 0 h ∙ ap side_by (zero-add i) in
    let b : get_or (list_from (λ i. 1 - i / 108) 0 classes_size) i 0 ≡ 1 - i / 108 = get_d_list_from (λ i. 1 - i / 108) classes_size 0 i 0 h
    ∙ ap (λ (i : ℕ). 1 - i / 108) (zero-add i) in
    let c : side_by i ≡ code_by i / 32 % 8 / 2 = ap (λ (z : Bool). cond z (code_by i / 32 % 8 / 2) (1 - i / 108)) (eq-eqb (code_by i % 2) 1 u) in
    sym c ∙ sym a ∙ ap (λ (ls : List ℕ). get_or ls i 0) sides ∙ b

class_held : (i : ℕ) → (i / 3 % 3 ≡ 0 → ⊥) → class_at i ≡ class_of (code_by i)
unfolding class_at
class_held i d = rw (ne_eqb (i / 3 % 3) 0 d)

class_idle : (i : ℕ) → i / 3 % 3 ≡ 0 → class_at i ≡ 0
unfolding class_at
class_idle i d = rw (eq-eqb (i / 3 % 3) 0 d)

-- the same place, by equal numbers
place_as : (k k' a a' b b' c c' d d' : ℕ) → k ≡ k' → a ≡ a' → b ≡ b' → c ≡ c' → d ≡ d'
    → code_place k a b (cond (eqb c 1) 2 1) d ≡ code_place k' a' b' (cond (eqb c' 1) 2 1) d'
place_as k k' a a' b b' c c' d d' e f g h i = rw (e, f, g, h, i)

-- ---- the class of an edge

module _ {x : List ℕ} {n : ℕ} (I : Indexed x n) (G : List ℕ) (good : Good n G) (node sign e o : ℕ) (hs : sign < 2)
    (on : value_of G (2 * node + sign) ≡ holds) (w : ℕ) (ew : w ≡ value_code (value_of G o)) where
  abbrev t : ℕ → Node
  t = index_node x

  w_low : w < 3
  w_low = omega (arith, ew, code_low (value_of G o))

  -- the value of a literal whose node has one that is held
  same_node : (l m : ℕ) → l / 2 ≡ m / 2 → value_of G m ≡ holds → value_code (value_of G l) ≡ 1 + (l + m) % 2
  same_node l m e held = go (ℕ_discrete l m)
    where
      go : Dec (l ≡ m) → value_code (value_of G l) ≡ 1 + (l + m) % 2
      go (yes z) = omega (arith, ap value_code (ap (value_of G) z ∙ held), z)
      go (no z) =
          let a : l ≡ neg m = omega (arith, e, z) in
          omega (arith, ap value_code (ap (value_of G) a ∙ holds-neg n G m good held), a)

  -- of literal y, which is held
  module _ (y : ℕ) (P : Pair t n node (y / 2) e o) (held : value_of G y ≡ holds) (v : ℕ) (ev : v ≡ value_code (value_of G (2 * (y / 2)))) where
    abbrev own : Node
    own = t (y / 2)

    abbrev l : ℕ
    l = operand_of t (y / 2) P.side

    -- the known operand's value
    abbrev m : ℕ
    m = cond (eqb (l % 2 + sign) 1) 2 1

    mine-is : m ≡ value_code (value_of G l)
    mine-is = go (ℕ_discrete (l % 2 + sign) 1)
      where
        known : value_code (value_of G l) ≡ 1 + (l + (2 * node + sign)) % 2
        known = same_node l (2 * node + sign) (omega (arith, P.mine, hs)) on

        go : Dec (l % 2 + sign ≡ 1) → m ≡ value_code (value_of G l)
        go (yes z) = rw (eq-eqb (l % 2 + sign) 1 z) (omega (arith, known, z))
        go (no z) = rw (ne_eqb (l % 2 + sign) 1 z) (omega (arith, known, z, hs))

    m-low : m < 3
    m-low = omega (arith, mine-is, code_low (value_of G l))

    v-is : v ≡ 1 + y % 2
    v-is = omega (arith, ev, same_node (2 * (y / 2)) y (omega arith) held)

    -- the values of the operands' cells
    cell-value : (i : ℕ) → i < 2 → value_code (value_of G (operand_of t (y / 2) i)) ≡ value_code (value_of G (get_or x (4 * (y / 2) + (1 + i)) 0))
    cell-value i h = ap (λ (k : ℕ). value_code (value_of G k)) (operand_cell x (y / 2) i (omega (arith, h, arity-two own.kind P.kind.0 P.kind.1)))

    abbrev value-at : ℕ → ℕ
    value-at i = value_code (value_of G (operand_of t (y / 2) i))

    m-at : (i : ℕ) → P.side ≡ i → m ≡ value-at i
    m-at i z = mine-is ∙ ap value-at z

    w_at : (i : ℕ) → 1 - P.side ≡ i → w ≡ value-at i
    w_at i z = ew ∙ ap (λ (k : ℕ). value_code (value_of G k)) P.other ∙ ap value-at z

    -- its code
    code-at : (a b : ℕ) → a < 3 → b < 3 → a ≡ value-at 0 → b ≡ value-at 1 → Coded own (states_of t G y) (code_at (9 * (2 * own.kind + y % 2) + (3 * a + b)))
    code-at a b ha hb ea eb =
        let j : 9 * (2 * own.kind + y % 2) + (3 * a + b) < 126 = omega (arith, P.kind.1) in
        let z : 2 * (y / 2) + y % 2 ≡ y = omega arith in
        subst (λ (k : ℕ). Coded own (states_of t G y) k) (I.codes _ (omega (arith, j)))
        (rw z at (pair-right I G good (y / 2) (y % 2) (P.low, omega arith) refl (ea ∙ cell-value 0 (omega arith), ha) (eb ∙ cell-value 1 (omega arith), hb) j))

    coded_by : Coded own (states_of t G y) (code_at (code_place own.kind (y % 2) P.side m w))
    coded_by = go (ℕ_discrete P.side 0)
      where
        go : Dec (P.side ≡ 0) → Coded own (states_of t G y) (code_at (code_place own.kind (y % 2) P.side m w))
        go (yes z) = rw (eq-eqb P.side 0 z) (code-at m w m-low w_low (m-at 0 z) (w_at 1 (omega (arith, z))))
        go (no z) = rw (ne_eqb P.side 0 z) (code-at w m w_low m-low (w_at 0 (omega (arith, z, P.side_low))) (m-at 1 (omega (arith, z, P.side_low))))

    -- where its class stands
    abbrev i : ℕ
    i = 9 * (e + sign) + (3 * v + w)

    i-low : i < classes_size
    i-low = omega (arith, P.type, P.kind, P.side_low, hs, v-is, w_low)

    side-digit : i / 108 ≡ P.side
    side-digit = omega (arith, P.type, P.kind, P.side_low, hs, v-is, w_low)

    held-digit : i / 3 % 3 ≡ 1 + y % 2
    held-digit = omega (arith, v-is, w_low)

    code_is : code_by i ≡ code_at (code_place own.kind (y % 2) P.side m w)
    code_is =
        ap code_at
        (place_as (3 + i / 27 % 4) own.kind (i / 3 % 3 - 1) (y % 2) (i / 108) P.side (i / 9 % 3) (l % 2 + sign) (i % 3) w
        (omega (arith, P.type, P.kind, P.side_low, hs, v-is, w_low)) (omega (arith, held-digit)) side-digit
        (omega (arith, P.type, hs, v-is, w_low)) (omega (arith, w_low)))

    says-held : Says n (states_of t G y) o (get_or x (classes_at + i) 0)
    says-held =
        let q : get_or x (classes_at + i) 0 ≡ class_of (code_by i) = I.classes i i-low ∙ class_held i (λ z. omega (arith, z, held-digit)) in
        let C = subst (λ (k : ℕ). Coded own (states_of t G y) k) (sym code_is) coded_by in
        subst (λ (k : ℕ). Says n (states_of t G y) o k) (sym q)
        (says (code_by i) n P.side o C I.few P.other_low P.other (λ u. sided i i-low u ∙ ap (1 -◌) side-digit))

-- an edge is within the index
pub pair_within : {x : List ℕ} {n : ℕ} (I : Indexed x n) (node k : ℕ) → node < n → PairAt x node k → k < most_edges
pair_within I node k h e = omega (arith, e.1, I.edges.order node h)

pub three_within : {x : List ℕ} {n : ℕ} (I : Indexed x n) (node k : ℕ) → node < n → ThreeAt x node k → k < most_edges
three_within I node k h e = omega (arith, e.1, I.edges.order node h)

-- its parent is one of the nodes, its other operand a literal of one, and its type and a sign are a row of the classes
pub parent_low : {x : List ℕ} {n : ℕ} (I : Indexed x n) (node k : ℕ) → node < n → PairAt x node k → parent_of x k < n
parent_low I node k h e = (I.edges.pairs node k h e).low

pub other_within : {x : List ℕ} {n : ℕ} (I : Indexed x n) (node k : ℕ) → node < n → PairAt x node k → other_of x k < 2 * n
other_within I node k h e = (I.edges.pairs node k h e).other_low

pub row_low : {x : List ℕ} {n : ℕ} (I : Indexed x n) (node k sign : ℕ) → node < n → PairAt x node k → sign < 2 → type_of x k + sign < 24
row_low I node k sign h e s =
    let p = I.edges.pairs node k h e in
    omega (arith, p.type, p.kind, p.side_low, s)

pub three_low : {x : List ℕ} {n : ℕ} (I : Indexed x n) (node k : ℕ) → node < n → ThreeAt x node k → (edge_at x k < n) × (6 < (index_node x (edge_at x k)).kind)
three_low I node k h e =
    let t = I.edges.threes node k h e in
    (t.low, t.kind)

module _ {x : List ℕ} {n : ℕ} (I : Indexed x n) (G : List ℕ) (good : Good n G) (node k sign : ℕ) (h : node < n) (on : PairAt x node k) (hs : sign < 2)
    (is : value_of G (2 * node + sign) ≡ holds) where
  abbrev p : ℕ
  p = parent_of x k

  pair_of : Pair (index_node x) n node p (type_of x k) (other_of x k)
  pair_of = I.edges.pairs node k h on

  -- the numbers that are read
  pub other_low : other_of x k < 2 * n
  other_low = pair_of.other_low

  module _ (v w : ℕ) (ev : (v ≡ value_code (value_of G (2 * p))) × (v < 3)) (ew : (w ≡ value_code (value_of G (other_of x k))) × (w < 3)) where
    pub class_low : 9 * (type_of x k + sign) + (3 * v + w) < classes_size
    class_low = omega (arith, pair_of.type, pair_of.kind, pair_of.side_low, hs, ev.1, ew.1)

    pub classed : Classed (index_node x) n G p (other_of x k) (get_or x (classes_at + (9 * (type_of x k + sign) + (3 * v + w))) 0)
    classed = record {
      idle = λ z.
          let a : v ≡ 0 = ev.0 ∙ ap value_code z in
          I.classes _ class_low ∙ class_idle _ (omega (arith, a, ew.1));
      held = λ y e g.
          says-held I G good node sign (type_of x k) (other_of x k) hs is w ew.0 y
          (subst (λ (j : ℕ). Pair (index_node x) n node j (type_of x k) (other_of x k)) (sym e) pair_of) g v
          (ev.0 ∙ ap (λ (j : ℕ). value_code (value_of G (2 * j))) (sym e));
    }
