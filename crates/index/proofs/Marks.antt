-- Laws of marks, and of the nodes that are loaded by them from the highest down. Assumes nothing.
use mathlib.Core.Path.{◌≡◌, refl, ap, ◌∙◌}
use mathlib.Core.Logic.{◌⊎◌, inl, inr}
use mathlib.Core.List.{List, [], ◌∷◌}
use Prim.Native.Nat.{ℕ, zero, suc, ◌+◌, ◌*◌, ◌/◌, ◌%◌, ◌<◌, ◌≤◌}
use native.Mathlib.Omega.{arith}
use native.Mathlib.Decide.{ℕ_discrete}
use lib.ListN.{length, get_or, set, drop, length-set, drop_of_length-le}
use lib.Seq.{get_or-set_same, get_or-set_other, drop-cons}
use borrow.Author.Tests.{eq-eqb, ne_eqb}
use Rattle.scope.specs.Table.{operands, node_at}
use Rattle.scope.proofs.Operands.{operands-none, operands-two, operands-three, operands-some}
use Rattle.calculus.specs.Model.{All, Below}
use Rattle.calculus.specs.Agree.{Alike}
use Rattle.calculus.proofs.Lists.{all_imply}
use Rattle.index.specs.declared.Descent.{Descent}
use Rattle.index.specs.Codes.{codes_size, classes_size}
use Rattle.index.specs.Index.{index_size, most_nodes, most_edges, first_at, mid_at, end_at, codes_at, index_node, stored}
use Rattle.index.specs.Edges.{first_of, mid_of, end_of}
use Rattle.index.specs.Built.{Same, count_node, Room, Linked, Copied, Classified}
use Rattle.index.specs.Marks.{bare, marked, mark_all, placed_at, met_at, Wanted, passed, descended, sunk, Fits, Unmarked, Flagged, Unfilled, Pruned}
use Rattle.index.proofs.Nodes.{node_same, stored_size, stored_other, stored-node}
use Rattle.index.proofs.Sums.{sum-part, brings_four}
use Rattle.index.proofs.Counts.{count_size, count_same}
use Rattle.index.proofs.Wholes.{node_kept, edges_kept, codes-kept}

-- ---- marks

mark_size : (x : List ℕ) (l : ℕ) → length (marked x l) ≡ length x
mark_size x l = length-set (set x (4 * (l / 2)) 1) (codes_at + l / 126) 1 ∙ length-set x (4 * (l / 2)) 1

pub marks_size : (x ls : List ℕ) → length (mark_all x ls) ≡ length x
unfolding mark_all
marks_size x [] = refl
marks_size x (l ∷ ls) = marks_size (marked x l) ls ∙ mark_size x l

-- a place before the flags that no mark is at
pub marks_other : (x ls : List ℕ) (i : ℕ) → i < codes_at → All (λ l. i ≡ 4 * (l / 2) → ⊥) ls → get_or (mark_all x ls) i 0 ≡ get_or x i 0
unfolding mark_all
marks_other x [] i h a = refl
marks_other x (l ∷ ls) i h a =
    marks_other (marked x l) ls i h a.1 ∙ get_or-set_other (set x (4 * (l / 2)) 1) (codes_at + l / 126) i 1 0 (λ q. omega (arith, q))
    ∙ get_or-set_other x (4 * (l / 2)) i 1 0 a.0

-- what is not 0 stays so where a 1 is stored
one_kept : (x : List ℕ) (k i : ℕ) → k < length x → 0 < get_or x i 0 → 0 < get_or (set x k 1) i 0
one_kept x k i h p = go (ℕ_discrete i k)
  where
    go : Dec (i ≡ k) → 0 < get_or (set x k 1) i 0
    go (yes e) = rw (e, get_or-set_same x k 1 0 h) (omega arith)
    go (no d) = rw (get_or-set_other x k i 1 0 d) p

-- a mark and a flag stay
module _ (x : List ℕ) (l : ℕ) (z : length x ≡ index_size) (h : l / 2 < most_nodes) where
  flag_low : codes_at + l / 126 < length (set x (4 * (l / 2)) 1)
  flag_low = omega (arith, length-set x (4 * (l / 2)) 1, z, h)

  mark-kept : (i : ℕ) → 0 < get_or x i 0 → 0 < get_or (marked x l) i 0
  mark-kept i p = one_kept (set x (4 * (l / 2)) 1) (codes_at + l / 126) i flag_low (one_kept x (4 * (l / 2)) i (omega (arith, z, h)) p)

  -- the mark itself, and the flag
  mark_new : 0 < get_or (marked x l) (4 * (l / 2)) 0
  mark_new =
      let new : 0 < get_or (set x (4 * (l / 2)) 1) (4 * (l / 2)) 0 = rw (get_or-set_same x (4 * (l / 2)) 1 0 (omega (arith, z, h))) (omega arith) in
      one_kept (set x (4 * (l / 2)) 1) (codes_at + l / 126) (4 * (l / 2)) flag_low new

  flag_new : 0 < get_or (marked x l) (codes_at + l / 126) 0
  flag_new = rw (get_or-set_same (set x (4 * (l / 2)) 1) (codes_at + l / 126) 1 0 flag_low) (omega arith)

pub marks_kept : (x ls : List ℕ) (i : ℕ) → length x ≡ index_size → All (λ l. l / 2 < most_nodes) ls → 0 < get_or x i 0 → 0 < get_or (mark_all x ls) i 0
unfolding mark_all
marks_kept x [] i z a p = p
marks_kept x (l ∷ ls) i z a p = marks_kept (marked x l) ls i (mark_size x l ∙ z) a.1 (mark-kept x l z a.0 i p)

pub marks_stand : (x ls : List ℕ) → length x ≡ index_size → All (λ l. l / 2 < most_nodes) ls → All (λ l. 0 < get_or (mark_all x ls) (4 * (l / 2)) 0) ls
unfolding mark_all
marks_stand x [] z a = tt
marks_stand x (l ∷ ls) z a =
    let z' : length (marked x l) ≡ index_size = mark_size x l ∙ z in
    (marks_kept (marked x l) ls (4 * (l / 2)) z' a.1 (mark_new x l z a.0), marks_stand (marked x l) ls z' a.1)

-- a node that is marked has its block flagged
flag_marked : (p : ℕ) (x : List ℕ) (l : ℕ) → length x ≡ index_size → l / 2 < most_nodes → p ≤ most_nodes → Flagged p x → Flagged p (marked x l)
flag_marked p x l z h few f m b = go (ℕ_discrete m (l / 2))
  where
    go : Dec (m ≡ l / 2) → 0 < get_or (marked x l) (4 * m) 0 → 0 < get_or (marked x l) (codes_at + m / 63) 0
    go (yes e) _ =
        let q : m / 63 ≡ l / 126 = omega (arith, e) in
        rw q (flag_new x l z h)
    go (no d) w =
        let other : get_or (marked x l) (4 * m) 0 ≡ get_or x (4 * m) 0 = get_or-set_other (set x (4 * (l / 2)) 1) (codes_at + l / 126) (4 * m) 1 0
        (λ q. omega (arith, q)) ∙ get_or-set_other x (4 * (l / 2)) (4 * m) 1 0 (λ q. d (omega (arith, q))) in
        mark-kept x l z h (codes_at + m / 63) (f m b (omega (arith, other, w)))

pub flags_marked : (p : ℕ) (x ls : List ℕ) → length x ≡ index_size → All (λ l. l / 2 < most_nodes) ls → p ≤ most_nodes → Flagged p x → Flagged p (mark_all x ls)
unfolding mark_all
flags_marked p x [] z a few f = f
flags_marked p x (l ∷ ls) z a few f = flags_marked p (marked x l) ls (mark_size x l ∙ z) a.1 few (flag_marked p x l z a.0 few f)

-- the next of some literals
pub marks_next : (x ls : List ℕ) (i : ℕ) → i < length ls → mark_all x (drop i ls) ≡ mark_all (marked x (get_or ls i 0)) (drop (i + 1) ls)
unfolding mark_all
marks_next x ls i h =
    let e : suc i ≡ i + 1 = omega arith in
    ap (mark_all x) (drop-cons ls i 0 h) ∙ ap (λ (k : ℕ). mark_all (marked x (get_or ls i 0)) (drop k ls)) e

pub marks_end : (x ls : List ℕ) (i : ℕ) → length ls ≤ i → mark_all x (drop i ls) ≡ x
unfolding mark_all
marks_end x ls i h = rw (drop_of_length-le ls h)

-- the operands of node p, by its kind
module _ (x : List ℕ) (p : ℕ) where
  abbrev kind : ℕ
  kind = get_or x (4 * p) 0 + 1

  abbrev a : ℕ
  a = get_or x (4 * p + 1) 0

  abbrev b : ℕ
  b = get_or x (4 * p + 2) 0

  abbrev c : ℕ
  c = get_or x (4 * p + 3) 0

  pub marks_none : kind < 3 → x ≡ mark_all x (operands (index_node x p))
  unfolding mark_all index_node
  marks_none h = rw (operands-none (index_node x p) h)

  pub marks_two : 2 < kind → kind < 7 → {x₁ x₂ : List ℕ} → x₁ ≡ marked x a → x₂ ≡ marked x₁ b → x₂ ≡ mark_all x (operands (index_node x p))
  unfolding mark_all index_node
  marks_two h k e f = f ∙ rw (operands-two (index_node x p) h k) (ap (λ (y : List ℕ). marked y b) e)

  pub marks_three : 7 ≤ kind → {x₁ x₂ x₃ : List ℕ} → x₁ ≡ marked x a → x₂ ≡ marked x₁ b → x₃ ≡ marked x₂ c → x₃ ≡ mark_all x (operands (index_node x p))
  unfolding mark_all index_node
  marks_three h e f g =
      g ∙ rw (operands-three (index_node x p) h) (ap (λ (y : List ℕ). marked y c) (f ∙ ap (λ (y : List ℕ). marked y b) e))

  module _ (low : All (λ l. l / 2 < most_nodes) (operands (index_node x p))) where
    pub first_low : 2 < kind → a / 2 < most_nodes
    unfolding index_node
    first_low h = (rw (operands-some (index_node x p) h) at low).0

    pub second-low : 2 < kind → b / 2 < most_nodes
    unfolding index_node
    second-low h = (rw (operands-some (index_node x p) h) at low).1.0

    pub third-low : 7 ≤ kind → c / 2 < most_nodes
    unfolding index_node
    third-low h = (rw (operands-three (index_node x p) h) at low).1.1.0

-- ---- a node gets its places

module _ (x : List ℕ) (p : ℕ) (d : Descent) where
  abbrev z₁ : List ℕ
  z₁ = set x (first_at + p) d.last

  abbrev z₂ : List ℕ
  z₂ = set z₁ (mid_at + p) d.start

  pub placed_size : length (placed_at x p d) ≡ length x
  placed_size = simp length-set refl

  pub placed_other : (i : ℕ) → (i ≡ first_at + p → ⊥) → (i ≡ mid_at + p → ⊥) → (i ≡ end_at + p → ⊥) → get_or (placed_at x p d) i 0 ≡ get_or x i 0
  placed_other i a b c = get_or-set_other z₂ (end_at + p) i _ 0 c ∙ get_or-set_other z₁ (mid_at + p) i d.start 0 b
      ∙ get_or-set_other x (first_at + p) i d.last 0 a

  pub placed_same : Same first_at x (placed_at x p d)
  placed_same i h = placed_other i (λ q. omega (arith, q)) (λ q. omega (arith, q)) (λ q. omega (arith, q))

  module _ (h : p < most_nodes) (z : length x ≡ index_size) where
    pub placed_first : first_of (placed_at x p d) p ≡ d.last
    placed_first =
        get_or-set_other z₂ (end_at + p) (first_at + p) _ 0 (λ q. omega (arith, q)) ∙ get_or-set_other z₁ (mid_at + p) (first_at + p) d.start 0
        (λ q. omega (arith, q))
        ∙ get_or-set_same x (first_at + p) d.last 0 (omega arith)

    pub placed-mid : mid_of (placed_at x p d) p ≡ d.start
    placed-mid = get_or-set_other z₂ (end_at + p) (mid_at + p) _ 0 (λ q. omega (arith, q)) ∙ get_or-set_same z₁ (mid_at + p) d.start 0
        (simp length-set (omega arith))

    pub placed_end : end_of (placed_at x p d) p ≡ d.start + mid_of x p
    placed_end = get_or-set_same z₂ (end_at + p) _ 0 (simp length-set (omega arith))

-- ---- a node is passed

module _ (t x : List ℕ) (d : Descent) (p : ℕ) where
  sunk-bare : get_or x (4 * p) 0 ≡ 0 → sunk t x d p ≡ sunk t x d (suc p)
  unfolding sunk passed descended
  sunk-bare e = rw (eq-eqb (get_or x (4 * p) 0) 0 e)

  -- a marked node has its places, is loaded, and has marked its operands'
  abbrev pub loaded : List ℕ
  loaded = stored (placed_at x p d) p (node_at t p)

  abbrev pub marking : List ℕ
  marking = mark_all loaded (operands (node_at t p))

  pub passed-node : Wanted x p → (count_node marking (node_at t p) ≡ passed t x d p) × (met_at x d p ≡ descended x d p)
  unfolding passed descended
  passed-node w =
      let e = ne_eqb (get_or x (4 * p) 0) 0 (λ q. omega (arith, q, w)) in
      (rw e, rw e)

  module _ (few : p < most_nodes) (z : length x ≡ index_size) (a : All (λ l. l / 2 < p) (operands (node_at t p))) where
    low : All (λ l. l / 2 < most_nodes) (operands (node_at t p))
    low = all_imply (λ l. l / 2 < p) (λ l. l / 2 < most_nodes) (λ l h. omega (arith, h)) (operands (node_at t p)) a

    loaded-size : length loaded ≡ index_size
    loaded-size = stored_size (placed_at x p d) p (node_at t p) ∙ placed_size x p d ∙ z

    pub marking-size : length marking ≡ index_size
    marking-size = marks_size loaded (operands (node_at t p)) ∙ loaded-size

    pub loaded-node : 0 < (node_at t p).kind → index_node loaded p ≡ node_at t p
    loaded-node = stored-node (placed_at x p d) p (node_at t p) (omega (arith, few, placed_size x p d, z))

    -- what its operands are, once it is loaded
    pub loaded-low : 0 < (node_at t p).kind → All (λ l. l / 2 < most_nodes) (operands (index_node loaded p))
    loaded-low k = rw (loaded-node k) low

    -- from the node on nothing is marked, up to the flags
    marking-behind : (i : ℕ) → 4 * p ≤ i → i < codes_at → get_or marking i 0 ≡ get_or loaded i 0
    marking-behind i h b = marks_other loaded (operands (node_at t p)) i b
        (all_imply (λ l. l / 2 < p) _ (λ l b q. omega (arith, q, b)) (operands (node_at t p)) a)

    pub marking-node : 0 < (node_at t p).kind → index_node marking p ≡ node_at t p
    unfolding index_node
    marking-node k =
        let kept : (i : ℕ) → i < 4 → get_or marking (4 * p + i) 0 ≡ get_or loaded (4 * p + i) 0 = λ i h. marking-behind (4 * p + i) (omega arith)
        (omega arith) in
        let first : get_or marking (4 * p) 0 ≡ get_or loaded (4 * p) 0 = marking-behind (4 * p) (omega arith) (omega arith) in
        let e : index_node marking p ≡ index_node loaded p = rw (first, kept 1 (omega arith), kept 2 (omega arith), kept 3 (omega arith)) in
        e ∙ loaded-node k

    -- the places and the counts stay
    pub marking-places : (i : ℕ) → first_at ≤ i → i < codes_at → get_or marking i 0 ≡ get_or (placed_at x p d) i 0
    marking-places i h b = marking-behind i (omega arith) b ∙ stored_other (placed_at x p d) p (node_at t p) i (λ b c. omega arith)

    -- there is room to count its edges
    pub marking-room : Fits (p + 1) d x → Room p (node_at t p) marking
    marking-room f = record {
      size = marking-size;
      few = omega arith;
      known = a;
      pairs = λ m h. omega (
        arith,
        marking-places (mid_at + m) (omega arith) (omega arith),
        placed_other x p d (mid_at + m) (λ q. omega (arith, q)) (λ q. omega (arith, q)) (λ q. omega (arith, q)),
        one m h,
        brings_four (node_at t p) m,
      );
      threes = λ m h. omega (
        arith,
        marking-places (end_at + m) (omega arith) (omega arith),
        placed_other x p d (end_at + m) (λ q. omega (arith, q)) (λ q. omega (arith, q)) (λ q. omega (arith, q)),
        one m h,
        brings_four (node_at t p) m,
      );
    }
      where
        one : (m : ℕ) → m < p → mid_of x m + end_of x m + 4 ≤ most_edges
        one m h = omega (arith, f.0, sum-part (λ i. mid_of x i + end_of x i) m (p + 1) (omega arith))

pub sunk_more : (t x : List ℕ) (d : Descent) (p : ℕ) → sunk t (passed t x d p) (descended x d p) p ≡ sunk t x d (suc p)
unfolding sunk
sunk_more t x d p = refl

pub sunk-none : (t x : List ℕ) (d : Descent) → sunk t x d 0 ≡ (x, d)
unfolding sunk
sunk-none t x d = refl

-- nodes that are not marked are passed over
pub sunk-over : (t x : List ℕ) (d : Descent) (r e : ℕ) → r ≤ e → Unmarked r e x → sunk t x d r ≡ sunk t x d e
sunk-over t x d r zero h n =
    let z : r ≡ 0 = omega (arith, h) in
    ap (sunk t x d) z
sunk-over t x d r (suc e) h n = go (λ l. sunk-over t x d r e l (λ m a b. n m a (omega arith))) (ℕ_discrete r (suc e))
  where
    go : (r ≤ e → sunk t x d r ≡ sunk t x d e) → Dec (r ≡ suc e) → sunk t x d r ≡ sunk t x d (suc e)
    go f (yes q) = ap (sunk t x d) q
    go f (no q) = f (omega (arith, h, q)) ∙ sunk-bare t x d e (n e (omega (arith, h, q)) (omega arith))

-- of the nodes of a block that is not flagged none is marked
pub unflagged : (x : List ℕ) (j e : ℕ) → e ≤ 63 * j + 63 → Flagged e x → get_or x (codes_at + j) 0 ≡ 0 → Unmarked (63 * j) e x
unflagged x j e h f z m a b = go (ℕ_discrete (get_or x (4 * m) 0) 0)
  where
    same : m / 63 ≡ j
    same = omega (arith, a, b, h)

    go : Dec (get_or x (4 * m) 0 ≡ 0) → get_or x (4 * m) 0 ≡ 0
    go (yes q) = q
    go (no q) = absurd (omega (arith, z, rw same at (f m b (omega (arith, q)))))

-- ---- on the way down, before node p - 1: the nodes from p on are loaded, or are not wanted; the others may be marked

-- a literal's node is marked, or loaded
pub record Met (t : List ℕ) (p : ℕ) (x : List ℕ) (l : ℕ) : Type 0 where
  pub low : l / 2 < most_nodes
  pub before : l / 2 < p → 0 < get_or x (4 * (l / 2)) 0
  pub behind : p ≤ l / 2 → index_node x (l / 2) ≡ node_at t (l / 2)

pub record Sinking (t ls : List ℕ) (n p : ℕ) (x : List ℕ) : Type 0 where
  pub size : length x ≡ index_size
  pub nodes : (m : ℕ) → p ≤ m → m < n → (index_node x m ≡ node_at t m) ⊎ (index_node x m ≡ bare)
  pub closed : (m : ℕ) → p ≤ m → m < n → index_node x m ≡ node_at t m → All (Met t p x) (operands (index_node x m))
  pub literals : All (Met t p x) ls
  pub cells : (i : ℕ) → i < 4 * p → (i % 4 ≡ 0 → ⊥) → get_or x i 0 ≡ 0

-- which are numbers before the places
sinking_same : {t ls : List ℕ} {n p : ℕ} (x x' : List ℕ) → n ≤ most_nodes → p ≤ most_nodes → length x' ≡ index_size → Same first_at x x'
    → Sinking t ls n p x → Sinking t ls n p x'
sinking_same {t} {ls} {n} {p} x x' few low size same S = record {
  size = size;
  nodes = λ m a h. rw (node m (omega arith)) (S.nodes m a h);
  closed = λ m a h. rw (node m (omega arith)) (λ q. all_imply (Met t p x) (Met t p x') met (operands (index_node x m)) (S.closed m a h q));
  literals = all_imply (Met t p x) (Met t p x') met ls S.literals;
  cells = λ i h d. same i (omega arith) ∙ S.cells i h d;
}
  where
    node : (m : ℕ) → m < most_nodes → index_node x' m ≡ index_node x m
    node m h = node_same x x' most_nodes m (λ i b. same i (omega arith)) h

    met : (l : ℕ) → Met t p x l → Met t p x' l
    met l k = record {
      low = k.low;
      before = λ h. rw (same (4 * (l / 2)) (omega (arith, k.low))) (k.before h);
      behind = λ h. node (l / 2) k.low ∙ k.behind h;
    }

-- the literals are marked
pub sinks_none : (t ls : List ℕ) (n : ℕ) (x : List ℕ) → n ≤ most_nodes → Below n ls → length x ≡ index_size → Unfilled x → Sinking t ls n n (mark_all x ls)
sinks_none t ls n x few b z none = record {
  size = marks_size x ls ∙ z;
  nodes = λ m a h. absurd (omega arith);
  closed = λ m a h. absurd (omega arith);
  literals = go ls b (marks_stand x ls z low);
  cells = λ i h d. marks_other x ls i (omega arith) (all_imply (λ l. l / 2 < most_nodes) _ (λ l h q. d (omega (arith, q))) ls low) ∙ none i (omega arith);
}
  where
    low : All (λ l. l / 2 < most_nodes) ls
    low = all_imply (λ l. l < 2 * n) (λ l. l / 2 < most_nodes) (λ l h. omega arith) ls b

    go : (ks : List ℕ) → Below n ks → All (λ l. 0 < get_or (mark_all x ls) (4 * (l / 2)) 0) ks → All (Met t n (mark_all x ls)) ks
    go [] b m = tt
    go (k ∷ ks) b m = (record { low = omega (arith, b.0); before = λ h. m.0; behind = λ h. absurd (omega (arith, b.0)) }, go ks b.1 m.1)

-- one node more, of x what is before and behind it stays
module _ (t ls : List ℕ) (n p : ℕ) (x x' : List ℕ) (S : Sinking t ls n (suc p) x) (size : length x' ≡ index_size) (most : n ≤ most_nodes) (few : p < most_nodes)
    (kept : (i : ℕ) → i < 4 * p → 0 < get_or x i 0 → 0 < get_or x' i 0)
    (cells : (i : ℕ) → i < 4 * p → (i % 4 ≡ 0 → ⊥) → get_or x' i 0 ≡ get_or x i 0)
    (same : (i : ℕ) → 4 * p + 4 ≤ i → i < codes_at → get_or x' i 0 ≡ get_or x i 0)
    (known : 0 < get_or x (4 * p) 0 → index_node x' p ≡ node_at t p)
    (node : (index_node x' p ≡ node_at t p) ⊎ (index_node x' p ≡ bare)) where
  node_stays : (m : ℕ) → p < m → m < most_nodes → index_node x' m ≡ index_node x m
  unfolding index_node
  node_stays m h few = rw (
    same (4 * m) (omega arith) (omega arith),
    same (4 * m + 1) (omega arith) (omega arith),
    same (4 * m + 2) (omega arith) (omega arith),
    same (4 * m + 3) (omega arith) (omega arith),
  )

  met_kept : (l : ℕ) → Met t (suc p) x l → Met t p x' l
  met_kept l k = record {
    low = k.low;
    before = λ h. kept (4 * (l / 2)) (omega arith) (k.before (omega arith));
    behind = λ h. go h (ℕ_discrete (l / 2) p);
  }
    where
      go : p ≤ l / 2 → Dec (l / 2 ≡ p) → index_node x' (l / 2) ≡ node_at t (l / 2)
      go h (yes e) = rw e (known (rw e at (k.before (omega arith))))
      go h (no d) = node_stays (l / 2) (omega arith) k.low ∙ k.behind (omega arith)

  sinks_one : (index_node x' p ≡ node_at t p → All (Met t p x') (operands (index_node x' p))) → Sinking t ls n p x'
  sinks_one new = record {
    size = size;
    nodes = λ m a h. nodes m a h (ℕ_discrete m p);
    closed = λ m a h. closed m a h (ℕ_discrete m p);
    literals = all_imply (Met t (suc p) x) (Met t p x') met_kept ls S.literals;
    cells = λ i h d. cells i h d ∙ S.cells i (omega arith) d;
  }
    where
      nodes : (m : ℕ) → p ≤ m → m < n → Dec (m ≡ p) → (index_node x' m ≡ node_at t m) ⊎ (index_node x' m ≡ bare)
      nodes m a h (yes e) = rw e node
      nodes m a h (no d) = rw (node_stays m (omega arith) (omega arith)) (S.nodes m (omega arith) h)

      closed : (m : ℕ) → p ≤ m → m < n → Dec (m ≡ p) → index_node x' m ≡ node_at t m → All (Met t p x') (operands (index_node x' m))
      closed m a h (yes e) = rw e new
      closed m a h (no d) = rw (node_stays m (omega arith) (omega arith))
          (λ q. all_imply (Met t (suc p) x) (Met t p x') met_kept (operands (index_node x m)) (S.closed m (omega arith) h q))

module _ (t ls : List ℕ) (n p : ℕ) (x : List ℕ) (S : Sinking t ls n (suc p) x) (most : n ≤ most_nodes) (few : p < most_nodes) where
  -- a node that is not marked
  sinks_bare : get_or x (4 * p) 0 ≡ 0 → Sinking t ls n p x
  unfolding index_node
  sinks_bare e =
      sinks_one t ls n p x x S S.size most few (λ i h a. a) (λ i h d. refl) (λ i h b. refl) (λ a. absurd (omega (arith, e))) (inr is)
      (λ q. rw (is, operands-none bare (omega arith)) tt)
    where
      cell : (i : ℕ) → i < 4 * p + 4 → 4 * p < i → get_or x i 0 ≡ 0
      cell i h a = S.cells i (omega arith) (λ q. omega arith)

      is : index_node x p ≡ bare
      is = rw (e, cell (4 * p + 1) (omega arith) (omega arith), cell (4 * p + 2) (omega arith) (omega arith), cell (4 * p + 3) (omega arith) (omega arith))

  -- a marked node
  sinks_node : All (λ l. l / 2 < p) (operands (node_at t p)) → 0 < (node_at t p).kind → Sinking t ls n p
      (mark_all (stored x p (node_at t p)) (operands (node_at t p)))
  unfolding index_node
  sinks_node a k =
      sinks_one t ls n p x x' S size most few
      (λ i h m. marks_kept y os i z low (rw (stored_other x p (node_at t p) i (λ b c. omega arith)) m))
      (λ i h d. marks_other y os i (omega arith) (all_imply (λ l. l / 2 < p) _ (λ l b q. d (omega (arith, q))) os a)
      ∙ stored_other x p (node_at t p) i (λ b c. omega arith))
      (λ i h b. behind i (omega arith) b ∙ stored_other x p (node_at t p) i (λ b c. omega arith))
      (λ m. is) (inl is) (λ q. rw is (go os a (marks_stand y os z low)))
    where
      os : List ℕ
      os = operands (node_at t p)

      y : List ℕ
      y = stored x p (node_at t p)

      x' : List ℕ
      x' = mark_all y os

      z : length y ≡ index_size
      z = stored_size x p (node_at t p) ∙ S.size

      size : length x' ≡ index_size
      size = marks_size y os ∙ z

      low : All (λ l. l / 2 < most_nodes) os
      low = all_imply (λ l. l / 2 < p) (λ l. l / 2 < most_nodes) (λ l h. omega (arith, h)) os a

      behind : (i : ℕ) → 4 * p ≤ i → i < codes_at → get_or x' i 0 ≡ get_or y i 0
      behind i h b = marks_other y os i b (all_imply (λ l. l / 2 < p) _ (λ l b q. omega (arith, q, b)) os a)

      is : index_node x' p ≡ node_at t p
      is =
          let s : index_node x' p ≡ index_node y p = rw (
            behind (4 * p) (omega arith) (omega arith),
            behind (4 * p + 1) (omega arith) (omega arith),
            behind (4 * p + 2) (omega arith) (omega arith),
            behind (4 * p + 3) (omega arith) (omega arith),
          ) in
          s ∙ stored-node x p (node_at t p) (omega (arith, few, S.size)) k

      go : (ks : List ℕ) → All (λ l. l / 2 < p) ks → All (λ l. 0 < get_or x' (4 * (l / 2)) 0) ks → All (Met t p x') ks
      go [] b m = tt
      go (k ∷ ks) b m =
          (record { low = omega (arith, b.0); before = λ h. m.0; behind = λ h. absurd (omega (arith, b.0)) }, go ks b.1 m.1)

module _ (t ls : List ℕ) (n p : ℕ) (d : Descent) (x : List ℕ) (S : Sinking t ls n (suc p) x) (few : n ≤ most_nodes) (h : p < n)
    (a : All (λ l. l / 2 < p) (operands (node_at t p))) (k : 0 < (node_at t p).kind) where
  low_p : p < most_nodes
  low_p = omega arith

  pub sinks_passed : Sinking t ls n p (passed t x d p)
  unfolding passed
  sinks_passed = go (ℕ_discrete (get_or x (4 * p) 0) 0)
    where
      go : Dec (get_or x (4 * p) 0 ≡ 0) → Sinking t ls n p (passed t x d p)
      go (yes e) = rw (eq-eqb (get_or x (4 * p) 0) 0 e) (sinks_bare t ls n p x S few low_p e)
      go (no e) = rw (ne_eqb (get_or x (4 * p) 0) 0 e)
          (sinking_same (marking t x d p) (count_node (marking t x d p) (node_at t p)) few (omega arith)
          (count_size (marking t x d p) (node_at t p) ∙ marking-size t x d p low_p S.size a)
          (λ i b. count_same (marking t x d p) (node_at t p) i (omega arith))
          (sinks_node t ls n p (placed_at x p d)
          (sinking_same x (placed_at x p d) few (omega arith) (placed_size x p d ∙ S.size) (placed_same x p d) S) few low_p a k))

-- ---- the index

module _ (t ls : List ℕ) (n : ℕ) (x x₁ x₂ x₃ : List ℕ) (few : n ≤ most_nodes) (S : Sinking t ls n 0 x) (e : Linked n x x₁) (c : Copied codes_size x₁ x₂)
    (d : Classified classes_size x₂ x₃) where
  kept : (m : ℕ) → m < most_nodes → index_node x₃ m ≡ index_node x m
  kept = node_kept n x x₁ x₂ x₃ few e c d

  alike : (l : ℕ) → Met t 0 x l → Alike (index_node x₃) (node_at t) l
  alike l k = kept (l / 2) k.low ∙ k.behind (omega arith)

  pub pruned : Pruned t ls n x₃
  pruned = record {
    nodes = λ m h. rw (kept m (omega arith)) (S.nodes m (omega arith) h);
    closed = λ i h. rw (kept i (omega arith))
        (λ q. all_imply (Met t 0 x) (Alike (index_node x₃) (node_at t)) alike (operands (index_node x i)) (S.closed i (omega arith) h q));
    literals = all_imply (Met t 0 x) (Alike (index_node x₃) (node_at t)) alike ls S.literals;
    edges = edges_kept n x x₁ x₂ x₃ few e c d;
    codes = codes-kept n x x₁ x₂ x₃ few e c d;
    classes = d.classes;
  }
