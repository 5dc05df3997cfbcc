-- The edges of all nodes: what counting, placing and filling come to, node by node. Assumes nothing.
use mathlib.Core.Path.{◌≡◌, refl, sym, ap, ◌∙◌, subst}
use mathlib.Core.Logic.{◌⊎◌, inl, inr}
use mathlib.Core.List.{List, [], ◌∷◌, map}
use Prim.Native.Nat.{ℕ, zero, suc, ◌+◌, ◌-◌, ◌*◌, ◌/◌, ◌%◌, ◌<◌, ◌≤◌}
use native.Mathlib.Omega.{arith}
use native.Mathlib.Decide.{dec_lt}
use lib.ListN.{length, get_or, set, length-set}
use lib.Seq.{get_or-set_same, get_or-set_other}
use borrow.Author.Count.{below_more}
use borrow.Author.Tests.{lt-ltb, le-ltb}
use Rattle.scope.specs.declared.Node.{Node}
use Rattle.scope.specs.Table.{operands, node_at}
use Rattle.scope.proofs.Operands.{operands-none, operands-two, operands-three}
use Rattle.calculus.specs.Model.{All}
use Rattle.index.specs.Codes.{codes_size, classes_size}
use Rattle.index.specs.Index.{index_size, most_nodes, most_edges, first_at, mid_at, end_at, edges_at, codes_at, none, op_node, index_node, Codes}
use Rattle.index.specs.Edges.{first_of, mid_of, end_of, edge_at, parent_of, type_of, other_of, operand_of, Pair, Triple, Parent, PairAt, ThreeAt, Edges, Names}
use Rattle.index.specs.Built.{Same, Early, Agree, sum, pairs_in, threes_in, pairs_to, threes_to, start_of, Counted, Placed, put_pair, put_three, put_two, put_all, put_node, Room, Linked, Loaded, Copied, Classified, Built}
use Rattle.index.proofs.Nodes.{node_same}
use Rattle.index.proofs.Sums.{is_own, sum_next, pairs_part, threes_part, brings_none, brings_two, brings_three, early_known}
use Rattle.index.proofs.Counts.{agree_same}
use Rattle.index.proofs.Fills.{Has, Filled, filled_as, filled-pair, filled-three}

-- ---- placing: the first b nodes have their places, and the others' edges are counted

pub record Place (t : ℕ → Node) (n b : ℕ) (x : List ℕ) : Type 0 where
  pub size : length x ≡ index_size
  pub nodes : Agree t n x
  pub first : (m : ℕ) → m < b → first_of x m ≡ m + 1
  pub mid : (m : ℕ) → m < b → mid_of x m ≡ start_of t n m
  pub end : (m : ℕ) → m < b → end_of x m ≡ start_of t n m + pairs_to t n m
  pub rest_mid : (m : ℕ) → b ≤ m → m < n → mid_of x m ≡ pairs_to t n m
  pub rest_end : (m : ℕ) → b ≤ m → m < n → end_of x m ≡ threes_to t n m

pub start_none : (t : ℕ → Node) (n : ℕ) → 0 ≡ start_of t n 0
unfolding sum
start_none t n = refl

pub place_none : {t : ℕ → Node} {n : ℕ} {x : List ℕ} → Counted t n (pairs_to t n) (threes_to t n) x → Place t n 0 x
place_none c = record {
  size = c.size;
  nodes = c.nodes;
  first = λ m h. absurd (omega (arith, h));
  mid = λ m h. absurd (omega (arith, h));
  end = λ m h. absurd (omega (arith, h));
  rest_mid = λ m b h. c.mid m h;
  rest_end = λ m b h. c.end m h;
}

module _ {t : ℕ → Node} {n b : ℕ} {x : List ℕ} (few : n ≤ most_nodes) (h : b < n) (P : Place t n b x) (s e : ℕ) (s-is : s ≡ start_of t n b)
    (e-is : e ≡ start_of t n b + pairs_to t n b) where
  abbrev y₁ : List ℕ
  y₁ = set x (first_at + b) (b + 1)

  abbrev y₂ : List ℕ
  y₂ = set y₁ (mid_at + b) s

  abbrev y₃ : List ℕ
  y₃ = set y₂ (end_at + b) e

  unplaced : (i : ℕ) → (i ≡ first_at + b → ⊥) → (i ≡ mid_at + b → ⊥) → (i ≡ end_at + b → ⊥) → get_or y₃ i 0 ≡ get_or x i 0
  unplaced i a c d = get_or-set_other y₂ (end_at + b) i e 0 d ∙ get_or-set_other y₁ (mid_at + b) i s 0 c ∙ get_or-set_other x (first_at + b) i (b + 1) 0 a

  -- another node's places
  first-kept : (m : ℕ) → m < n → (m ≡ b → ⊥) → first_of y₃ m ≡ first_of x m
  first-kept m l d = unplaced (first_at + m) (λ q. d (omega (arith, q))) (λ q. omega (arith, q)) (λ q. omega (arith, q))

  mid_kept : (m : ℕ) → m < n → (m ≡ b → ⊥) → mid_of y₃ m ≡ mid_of x m
  mid_kept m l d = unplaced (mid_at + m) (λ q. omega (arith, q)) (λ q. d (omega (arith, q))) (λ q. omega (arith, q))

  end_kept : (m : ℕ) → m < n → (m ≡ b → ⊥) → end_of y₃ m ≡ end_of x m
  end_kept m l d = unplaced (end_at + m) (λ q. omega (arith, q)) (λ q. omega (arith, q)) (λ q. d (omega (arith, q)))

  size₁ : length y₁ ≡ index_size
  size₁ = length-set x (first_at + b) (b + 1) ∙ P.size

  size₂ : length y₂ ≡ index_size
  size₂ = length-set y₁ (mid_at + b) s ∙ size₁

  pub place_same : Same first_at x y₃
  place_same i l = unplaced i (λ q. omega (arith, q)) (λ q. omega (arith, q)) (λ q. omega (arith, q))

  pub place_more : Place t n (b + 1) y₃
  place_more = record {
    size = length-set y₂ (end_at + b) e ∙ size₂;
    nodes = agree_same x y₃ few place_same P.nodes;
    first =
        below_more _ b (λ m l. first-kept m (omega arith) (λ q. omega (arith, q)) ∙ P.first m l)
        (get_or-set_other y₂ (end_at + b) (first_at + b) e 0 (λ q. omega (arith, q)) ∙ get_or-set_other y₁ (mid_at + b) (first_at + b) s 0
        (λ q. omega (arith, q))
        ∙ get_or-set_same x (first_at + b) (b + 1) 0 (omega (arith, P.size)));
    mid =
        below_more _ b (λ m l. mid_kept m (omega arith) (λ q. omega (arith, q)) ∙ P.mid m l)
        (get_or-set_other y₂ (end_at + b) (mid_at + b) e 0 (λ q. omega (arith, q)) ∙ get_or-set_same y₁ (mid_at + b) s 0 (omega (arith, size₁)) ∙ s-is);
    end =
        below_more _ b (λ m l. end_kept m (omega arith) (λ q. omega (arith, q)) ∙ P.end m l)
        (get_or-set_same y₂ (end_at + b) e 0 (omega (arith, size₂)) ∙ e-is);
    rest_mid = λ m l a. mid_kept m a (λ q. omega (arith, q, l)) ∙ P.rest_mid m (omega (arith, l)) a;
    rest_end = λ m l a. end_kept m a (λ q. omega (arith, q, l)) ∙ P.rest_end m (omega (arith, l)) a;
  }

-- ---- filling, node by node

-- the edges from the first b nodes stand
abbrev pub FilledTo : (ℕ → Node) → ℕ → (ℕ → ℕ) → ℕ → List ℕ → Type 0
FilledTo t n S b x = Filled t n S (pairs_to t b) (threes_to t b) (Names t b) x

pub filled_none : {t : ℕ → Node} {n head : ℕ} {x : List ℕ} → Placed t n head x → FilledTo t n (mid_of x) 0 x
unfolding sum
filled_none P = record {
  size = P.size;
  nodes = P.nodes;
  starts = P.starts;
  even = λ m. refl;
  pairs_few = λ m h. omega arith;
  threes_few = λ m h. omega arith;
  mid = λ m h. omega arith;
  end = λ m h. omega (arith, P.end m h);
  pairs = λ m j h c. absurd (omega (arith, c));
  threes = λ m j h c. absurd (omega (arith, c));
  has = λ m q h d. absurd (omega (arith, d.1));
}

-- the operands of the next node are its own, or none
cell_at : (t : ℕ → Node) (s p : ℕ) (ls : List ℕ) → s / 4 ≡ p → operands (t p) ≡ ls → op_node t s ≡ get_or (none ∷ map (◌/ 2) ls) (s % 4) none
unfolding op_node
cell_at t s p ls e o = rw (e, o)

module _ (t : ℕ → Node) (n p : ℕ) (few : n ≤ most_nodes) (m q : ℕ) (h : m < n) (E : Type 0) (old : Names t p m q → E) (ls : List ℕ) (o : operands (t p) ≡ ls)
    (new : (i : ℕ) → i < 4 → q ≡ p → get_or (none ∷ map (◌/ 2) ls) i none ≡ m → E) where
  named_more : Names t (p + 1) m q → E
  named_more (s, l, a, b) = go (dec_lt s (4 * p))
    where
      go : Dec (s < 4 * p) → E
      go (yes c) = old (s, c, a, b)
      go (no c) =
          let d : s / 4 ≡ p = omega (arith, l, c) in
          new (s % 4) (omega arith) (sym b ∙ d) (sym (cell_at t s p ls d o) ∙ a)

module _ {t : ℕ → Node} {n p : ℕ} {S : ℕ → ℕ} {x : List ℕ} (few : n ≤ most_nodes) (early : Early t n) (h : p < n)
    (F : FilledTo t n S p x) where
  known : All (λ l. l / 2 < n) (operands (t p))
  known = early_known t n early p h

  pub fill_room : Room n (index_node x p) x
  fill_room = rw (F.nodes p h) record {
    size = F.size;
    few = few;
    known = known;
    pairs = λ m b. omega (arith, F.mid m b, pairs_part t n p m h, F.starts.low m b);
    threes = λ m b. omega (arith, F.end m b, threes_part t n p m h, F.starts.low m b);
  }

  abbrev After : List ℕ → Type 0
  After x' = FilledTo t n S (p + 1) x'

  -- what is put is what the node brings
  after_as : {u v : ℕ → ℕ} {D : ℕ → ℕ → Type 0} {x' : List ℕ} → ((m : ℕ) → u m ≡ pairs_to t p m + pairs_in (t p) m)
      → ((m : ℕ) → v m ≡ threes_to t p m + threes_in (t p) m) → ((m q : ℕ) → m < n → Names t (p + 1) m q → D m q) → Filled t n S u v D x' → After x'
  after_as e f g = filled_as (λ m. e m ∙ sym (sum_next (λ q. pairs_in (t q) m) p)) (λ m. f m ∙ sym (sum_next (λ q. threes_in (t q) m) p)) g

  pub after_none : (t p).kind < 3 → After x
  after_none k =
      after_as (λ m. omega (arith, (brings_none (t p) m k).0)) (λ m. omega (arith, (brings_none (t p) m k).1))
      (λ m q b. named_more t n p few m q b (Names t p m q) (λ d. d) [] (operands-none (t p) k) (λ i l c e. absurd (omega (arith, sym (bare i) ∙ e, b, few)))) F
    where
      bare : (i : ℕ) → get_or (none ∷ []) i none ≡ none
      bare zero = refl
      bare (suc i) = refl

  module _ (k : 2 < (t p).kind) (k' : (t p).kind < 7) where
    two : operands (t p) ≡ (t p).a ∷ (t p).b ∷ []
    two = operands-two (t p) k k'

    a-low : (t p).a / 2 < n
    a-low = (rw two at known).0

    b-low : (t p).b / 2 < n
    b-low = (rw two at known).1.0

    side-a : operand_of t p 0 ≡ (t p).a
    side-a = ap (λ (ls : List ℕ). get_or ls 0 0) two

    side-b : operand_of t p 1 ≡ (t p).b
    side-b = ap (λ (ls : List ℕ). get_or ls 1 0) two

    first-pair : Pair t n ((t p).a / 2) p (3 * ((t p).kind - 3) + (t p).a % 2) (t p).b
    first-pair = record {
      low = h;
      kind = (k, k');
      side = 0;
      side_low = omega arith;
      mine = ap (◌/ 2) side-a;
      type = omega (arith, side-a);
      other = sym side-b;
      other_low = omega (arith, b-low);
    }

    second-pair : Pair t n ((t p).b / 2) p (3 * ((t p).kind + 1) + (t p).b % 2) (t p).a
    second-pair = record {
      low = h;
      kind = (k, k');
      side = 1;
      side_low = omega arith;
      mine = ap (◌/ 2) side-b;
      type = omega (arith, side-b);
      other = sym side-a;
      other_low = omega (arith, a-low);
    }

    after_two : After (put_two x p (t p).kind (t p).a (t p).b)
    after_two =
        after_as (λ m. omega (arith, (brings_two (t p) m k k').0)) (λ m. omega (arith, (brings_two (t p) m k k').1))
        (λ m q l. named_more t n p few m q l _ (λ d. inl (inl d)) _ two (cases m q l))
        (filled-pair few
        (filled-pair few F p (t p).a a-low (t p).b (3 * ((t p).kind - 3))
        (omega (arith, pairs_part t n p ((t p).a / 2) h, (brings_two (t p) ((t p).a / 2) k k').0, is_own (t p).a)) h first-pair)
        p (t p).b b-low (t p).a (3 * ((t p).kind + 1))
        (omega (arith, pairs_part t n p ((t p).b / 2) h, (brings_two (t p) ((t p).b / 2) k k').0, is_own (t p).b)) h second-pair)
      where
        cases : (m q : ℕ) → m < n → (i : ℕ) → i < 4 → q ≡ p → get_or (none ∷ (t p).a / 2 ∷ (t p).b / 2 ∷ []) i none ≡ m
            → (Names t p m q ⊎ ((m ≡ (t p).a / 2) × (q ≡ p))) ⊎ ((m ≡ (t p).b / 2) × (q ≡ p))
        cases m q l zero c d e = absurd (omega (arith, e, l, few))
        cases m q l (suc zero) c d e = inl (inr (sym e, d))
        cases m q l (suc (suc zero)) c d e = inr (sym e, d)
        cases m q l (suc (suc (suc i))) c d e = absurd (omega (arith, e, l, few))

  module _ (k : 7 ≤ (t p).kind) where
    three : operands (t p) ≡ (t p).a ∷ (t p).b ∷ (t p).c ∷ []
    three = operands-three (t p) k

    abbrev fits : ℕ → Type 0
    fits l = l / 2 < n

    low-a : fits (t p).a
    low-a = (rw three at known).0

    low-b : fits (t p).b
    low-b = (rw three at known).1.0

    low-c : fits (t p).c
    low-c = (rw three at known).1.1.0

    new : Triple t n p
    new = record { low = h; kind = k }

    after-three : After (put_all x p (t p).a (t p).b (t p).c)
    after-three =
        after_as (λ m. omega (arith, (brings_three (t p) m k).0)) (λ m. omega (arith, (brings_three (t p) m k).1))
        (λ m q l. named_more t n p few m q l _ (λ d. inl (inl (inl d))) _ three (cases m q l))
        (filled-three few
        (filled-three few
        (filled-three few F p (t p).a low-a (omega (arith, threes_part t n p ((t p).a / 2) h, (brings_three (t p) ((t p).a / 2) k).1, is_own (t p).a)) new)
        p (t p).b low-b (omega (arith, threes_part t n p ((t p).b / 2) h, (brings_three (t p) ((t p).b / 2) k).1, is_own (t p).b)) new)
        p (t p).c low-c (omega (arith, threes_part t n p ((t p).c / 2) h, (brings_three (t p) ((t p).c / 2) k).1, is_own (t p).c)) new)
      where
        cases : (m q : ℕ) → m < n → (i : ℕ) → i < 4 → q ≡ p → get_or (none ∷ (t p).a / 2 ∷ (t p).b / 2 ∷ (t p).c / 2 ∷ []) i none ≡ m
            → ((Names t p m q ⊎ ((m ≡ (t p).a / 2) × (q ≡ p))) ⊎ ((m ≡ (t p).b / 2) × (q ≡ p))) ⊎ ((m ≡ (t p).c / 2) × (q ≡ p))
        cases m q l zero c d e = absurd (omega (arith, e, l, few))
        cases m q l (suc zero) c d e = inl (inl (inr (sym e, d)))
        cases m q l (suc (suc zero)) c d e = inl (inr (sym e, d))
        cases m q l (suc (suc (suc zero))) c d e = inr (sym e, d)
        cases m q l (suc (suc (suc (suc i)))) c d e = absurd (omega (arith, e, l, few))

  after-node : After (put_node x p (t p))
  unfolding put_node
  after-node = go (dec_lt (t p).kind 3) (dec_lt (t p).kind 7)
    where
      go : Dec ((t p).kind < 3) → Dec ((t p).kind < 7) → After (put_node x p (t p))
      go (yes a) b = rw (lt-ltb (t p).kind 3 a) (after_none a)
      go (no a) (yes b) = rw (le-ltb (t p).kind 3 (omega (arith, a)), lt-ltb (t p).kind 7 b) (after_two (omega (arith, a)) b)
      go (no a) (no b) = rw (le-ltb (t p).kind 3 (omega (arith, a)), le-ltb (t p).kind 7 (omega (arith, b))) (after-three (omega (arith, b)))

  pub filled_more : After (put_node x p (index_node x p))
  filled_more = rw (F.nodes p h) after-node

-- ---- the edges

-- what a cell names goes by its own node alone
op_as : (t t' : ℕ → Node) (s : ℕ) → t' (s / 4) ≡ t (s / 4) → op_node t' s ≡ op_node t s
unfolding op_node
op_as t t' s e = rw e

-- an edge goes by its own parent alone
pair_as : {t t' : ℕ → Node} {n m p y o : ℕ} → t' p ≡ t p → Pair t n m p y o → Pair t' n m p y o
pair_as e P = record {
  low = P.low;
  kind = rw e P.kind;
  side = P.side;
  side_low = P.side_low;
  mine = rw e P.mine;
  type = rw e P.type;
  other = rw e P.other;
  other_low = P.other_low;
}

triple_as : {t t' : ℕ → Node} {n p : ℕ} → t' p ≡ t p → Triple t n p → Triple t' n p
triple_as e P = record { low = P.low; kind = rw e P.kind }

module _ {t : ℕ → Node} {n : ℕ} {S : ℕ → ℕ} {x : List ℕ} (few : n ≤ most_nodes) (F : FilledTo t n S n x)
    (first : (m : ℕ) → m < n → first_of x m ≡ S m) where
  pub edges_of : Edges (index_node x) n x
  edges_of = record {
    order = λ m h. (omega (arith, first m h, F.mid m h), omega (arith, F.mid m h, F.end m h), omega (arith, F.end m h, F.starts.low m h));
    even = λ m h. omega (arith, first m h, F.mid m h, F.even m);
    pairs = λ m k h c.
        let j : ℕ = (k - S m) / 2 in
        let z : S m + 2 * j ≡ k = omega (arith, first m h, c.0, c.2) in
        let P = F.pairs m j h (omega (arith, z, F.mid m h, c.1)) in
        subst (λ (i : ℕ). Pair (index_node x) n m (parent_of x i) (type_of x i) (other_of x i)) z (pair_as (F.nodes _ P.low) P);
    threes = λ m k h c.
        let j : ℕ = k - (S m + pairs_to t n m) in
        let z : S m + (pairs_to t n m + j) ≡ k = omega (arith, F.mid m h, c.0) in
        let P = F.threes m j h (omega (arith, z, F.end m h, c.1)) in
        subst (λ (i : ℕ). Triple (index_node x) n (edge_at x i)) z (triple_as (F.nodes _ P.low) P);
    complete = λ s l b.
        let o : op_node (index_node x) s ≡ op_node t s = op_as t (index_node x) s (F.nodes (s / 4) (omega arith)) in
        rw o (found (op_node t s) (s / 4) (rw o at b) (F.has (op_node t s) (s / 4) (rw o at b) (s, l, refl, refl)));
  }
    where
      found : (m q : ℕ) → m < n → Has t n S (pairs_to t n) (threes_to t n) x m q → Parent x m q
      found m q h (inl (j, c, z)) = inl (S m + 2 * j, (omega (arith, first m h), omega (arith, c, F.mid m h), omega (arith, first m h)), z)
      found m q h (inr (j, c, z)) = inr (S m + (pairs_to t n m + j), (omega (arith, F.mid m h), omega (arith, c, F.end m h)), z)

-- what is before the second places is not changed
pub put_same : (x : List ℕ) (p : ℕ) (y : Node) → Same mid_at x (put_node x p y)
unfolding put_node
put_same x p y = go (dec_lt y.kind 3) (dec_lt y.kind 7)
  where
    pair_same : (w : List ℕ) (l o z : ℕ) → Same mid_at w (put_pair w p l o z)
    pair_same w l o z i b =
        let k : ℕ = mid_of w (l / 2) in
        let e : ℕ = p + 2048 * (z + l % 2) in
        let w₁ : List ℕ = set w (mid_at + l / 2) (k + 2) in
        get_or-set_other (set w₁ (edges_at + k) e) (edges_at + (k + 1)) i o 0 (λ q. omega (arith, q))
        ∙ get_or-set_other w₁ (edges_at + k) i e 0 (λ q. omega (arith, q))
        ∙ get_or-set_other w (mid_at + l / 2) i (k + 2) 0 (λ q. omega (arith, q))

    three-same : (w : List ℕ) (l : ℕ) → Same mid_at w (put_three w p l)
    three-same w l i b =
        let k : ℕ = end_of w (l / 2) in
        get_or-set_other (set w (end_at + l / 2) (k + 1)) (edges_at + k) i p 0 (λ q. omega (arith, q))
        ∙ get_or-set_other w (end_at + l / 2) i (k + 1) 0 (λ q. omega (arith, q))

    go : Dec (y.kind < 3) → Dec (y.kind < 7) → Same mid_at x (put_node x p y)
    go (yes a) b = rw (lt-ltb y.kind 3 a) (λ i k. refl)
    go (no a) (yes b) = rw (le-ltb y.kind 3 (omega (arith, a)), lt-ltb y.kind 7 b) (λ i k.
        pair_same (put_pair x p y.a y.b (3 * (y.kind - 3))) y.b y.a (3 * (y.kind + 1)) i k ∙ pair_same x y.a y.b (3 * (y.kind - 3)) i k)
    go (no a) (no b) = rw (le-ltb y.kind 3 (omega (arith, a)), le-ltb y.kind 7 (omega (arith, b))) (λ i k.
        three-same (put_three (put_three x p y.a) p y.b) y.c i k ∙ three-same (put_three x p y.a) y.b i k ∙ three-same x y.a i k)

-- ---- the whole index

pub linked_on : {n : ℕ} (x x₁ x₂ x₃ : List ℕ) → Same first_at x x₁ → Same first_at x₁ x₂ → Linked n x₂ x₃ → Linked n x x₃
linked_on x x₁ x₂ x₃ a b l = record { size = l.size; nodes = λ i h. l.nodes i h ∙ b i h ∙ a i h; edges = l.edges }

edges_same : {t t' : ℕ → Node} {n : ℕ} (x x' : List ℕ) → n ≤ most_nodes → ((m : ℕ) → m < n → t' m ≡ t m)
    → ((i : ℕ) → first_at ≤ i → i < codes_at → get_or x' i 0 ≡ get_or x i 0)
    → Edges t n x → Edges t' n x'
edges_same {t} {t'} {n} x x' few e s E = record {
  order = λ m h. rw (first m h, mid m h, end m h) (E.order m h);
  even = λ m h. rw (first m h, mid m h) (E.even m h);
  pairs = λ m k h c.
      let c' = pair-at m k h c in
      let b = E.order m h in
      let P = E.pairs m k h c' in
      rw (edge k (omega (arith, c'.1, b.1, b.2)), edge (k + 1) (omega (arith, c', b, E.even m h))) (pair_as (e _ P.low) P);
  threes = λ m k h c.
      let c' = three-at m k h c in
      let P = E.threes m k h c' in
      rw (edge k (omega (arith, c'.1, (E.order m h).2))) (triple_as (e _ P.low) P);
  complete = λ a l b.
      let o : op_node t' a ≡ op_node t a = op_as t t' a (e (a / 4) (omega arith)) in
      rw o (found (op_node t a) (a / 4) (rw o at b) (E.complete a l (rw o at b)));
}
  where
    first : (m : ℕ) → m < n → first_of x' m ≡ first_of x m
    first m h = s (first_at + m) (omega arith) (omega arith)

    mid : (m : ℕ) → m < n → mid_of x' m ≡ mid_of x m
    mid m h = s (mid_at + m) (omega arith) (omega arith)

    end : (m : ℕ) → m < n → end_of x' m ≡ end_of x m
    end m h = s (end_at + m) (omega arith) (omega arith)

    edge : (k : ℕ) → k < most_edges → edge_at x' k ≡ edge_at x k
    edge k h = s (edges_at + k) (omega arith) (omega arith)

    pair-at : (m k : ℕ) → m < n → PairAt x' m k → PairAt x m k
    pair-at m k h c = (omega (arith, c.0, first m h), omega (arith, c.1, mid m h), omega (arith, c.2, first m h))

    three-at : (m k : ℕ) → m < n → ThreeAt x' m k → ThreeAt x m k
    three-at m k h c = (omega (arith, c.0, mid m h), omega (arith, c.1, end m h))

    found : (m q : ℕ) → m < n → Parent x m q → Parent x' m q
    found m q h (inl (k, c, z)) =
        inl (
          k,
          (omega (arith, c.0, first m h), omega (arith, c.1, mid m h), omega (arith, c.2, first m h)),
          ap (◌% 2048) (edge k (omega (arith, c.1, E.order m h))) ∙ z,
        )
    found m q h (inr (k, c, z)) = inr (k, (omega (arith, c.0, mid m h), omega (arith, c.1, end m h)), edge k (omega (arith, c.1, (E.order m h).2)) ∙ z)

-- operands are of earlier nodes, where the table's are
pub loaded_early : (t : List ℕ) (n : ℕ) (x : List ℕ) → Loaded t n x → Early (node_at t) n → Early (index_node x) n
loaded_early t n x l k m h = rw (l.nodes m h) (k m h)

module _ (n : ℕ) (x x₁ x₂ x₃ : List ℕ) (few : n ≤ most_nodes) (e : Linked n x x₁) (c : Copied codes_size x₁ x₂) (d : Classified classes_size x₂ x₃) where
  same : (i : ℕ) → i < codes_at → get_or x₃ i 0 ≡ get_or x₁ i 0
  same i h = d.before i (omega arith) ∙ c.before i h

  pub node_kept : (m : ℕ) → m < most_nodes → index_node x₃ m ≡ index_node x m
  node_kept m h = node_same x x₃ most_nodes m (λ i b. same i (omega arith) ∙ e.nodes i b) h

  pub edges_kept : Edges (index_node x₃) n x₃
  edges_kept = edges_same x₁ x₃ few (λ m h. node_same x₁ x₃ most_nodes m (λ i b. same i (omega arith)) (omega arith)) (λ i a b. same i b) e.edges

  pub codes-kept : Codes x₃
  codes-kept i h = d.before (codes_at + i) (omega arith) ∙ c.codes i h

  pub built : (t : List ℕ) → Loaded t n x → Built t n x₃
  built t l = record { nodes = λ m h. node_kept m (omega arith) ∙ l.nodes m h; edges = edges_kept; codes = codes-kept; classes = d.classes }
