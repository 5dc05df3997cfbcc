-- Laws of counting the edges and placing them. Assumes nothing.
use mathlib.Core.Path.{◌≡◌, refl, sym, ap, ◌∙◌, subst}
use mathlib.Core.Bool.{Bool, true, false, cond}
use mathlib.Core.List.{List, [], ◌∷◌}
use Prim.Native.Nat.{ℕ, ◌+◌, ◌*◌, ◌/◌, ◌<◌, ◌≤◌}
use native.Mathlib.Omega.{arith}
use native.Mathlib.Decide.{ℕ_discrete, dec_lt}
use lib.Dec.{ltb}
use lib.ListN.{length, get_or, length-set}
use lib.Seq.{get_or-set_same, get_or-set_other}
use borrow.Author.Tests.{lt-ltb, le-ltb}
use Rattle.scope.specs.declared.Node.{Node}
use Rattle.scope.specs.Table.{operands}
use Rattle.scope.proofs.Operands.{operands-two, operands-three}
use Rattle.calculus.specs.Model.{All}
use Rattle.index.specs.Index.{index_size, most_nodes, first_at, mid_at, end_at, index_node}
use Rattle.index.specs.Edges.{mid_of, end_of}
use Rattle.index.specs.Built.{Same, Early, Agree, sum, is, pairs_in, threes_in, pairs_to, threes_to, Counted, raised, count_two, count_three, count_node, Room, Blank}
use Rattle.index.proofs.Nodes.{node_same}
use Rattle.index.proofs.Sums.{sum_next, is_own, is_other, total_low, pairs_part, threes_part, brings_none, brings_two, brings_three, early_known}

-- the nodes stay where what is before the places does
pub agree_same : {t : ℕ → Node} {n : ℕ} (x x' : List ℕ) → n ≤ most_nodes → Same first_at x x' → Agree t n x → Agree t n x'
agree_same x x' few s a m h = node_same x x' most_nodes m s (omega arith) ∙ a m h

-- ---- a count is raised

-- what holds of l's node and of the others, by what they are raised by
pub each : (l : ℕ) (P : ℕ → ℕ → Type 0) → P (l / 2) 1 → ((m : ℕ) → (l / 2 ≡ m → ⊥) → P m 0) → (m : ℕ) → P m (is l m)
each l P a b m = go (ℕ_discrete (l / 2) m)
  where
    go : Dec (l / 2 ≡ m) → P m (is l m)
    go (yes e) = subst (λ (k : ℕ). P k (is l k)) e (rw is_own a)
    go (no e) = rw (is_other l m e) (b m e)

module _ {t : ℕ → Node} {n : ℕ} {u v : ℕ → ℕ} {x : List ℕ} (few : n ≤ most_nodes) (c : Counted t n u v x) (l : ℕ) (h : l / 2 < n) where
  counted_pair : Counted t n (λ m. u m + 2 * is l m) v (raised x (mid_at + l / 2) 2)
  counted_pair = record {
    size = length-set x (mid_at + l / 2) _ ∙ c.size;
    nodes = agree_same x _ few (λ i b. get_or-set_other x (mid_at + l / 2) i _ 0 (λ q. omega (arith, q))) c.nodes;
    mid =
        each l (λ m w. m < n → mid_of (raised x (mid_at + l / 2) 2) m ≡ u m + 2 * w)
        (λ b. get_or-set_same x (mid_at + l / 2) _ 0 (omega (arith, c.size)) ∙ ap (◌+ 2) (c.mid (l / 2) h))
        (λ m d b. get_or-set_other x (mid_at + l / 2) (mid_at + m) _ 0 (λ q. d (omega (arith, q))) ∙ omega (arith, c.mid m b));
    end = λ m b. get_or-set_other x (mid_at + l / 2) (end_at + m) _ 0 (λ q. omega (arith, q)) ∙ c.end m b;
  }

  counted-three : Counted t n u (λ m. v m + is l m) (raised x (end_at + l / 2) 1)
  counted-three = record {
    size = length-set x (end_at + l / 2) _ ∙ c.size;
    nodes = agree_same x _ few (λ i b. get_or-set_other x (end_at + l / 2) i _ 0 (λ q. omega (arith, q))) c.nodes;
    mid = λ m b. get_or-set_other x (end_at + l / 2) (mid_at + m) _ 0 (λ q. omega (arith, q)) ∙ c.mid m b;
    end =
        each l (λ m w. m < n → end_of (raised x (end_at + l / 2) 1) m ≡ v m + w)
        (λ b. get_or-set_same x (end_at + l / 2) _ 0 (omega (arith, c.size)) ∙ ap (◌+ 1) (c.end (l / 2) h))
        (λ m d b. get_or-set_other x (end_at + l / 2) (end_at + m) _ 0 (λ q. d (omega (arith, q))) ∙ omega (arith, c.end m b));
  }

-- ---- a node's edges are counted

-- the same said otherwise
counted_as : {t : ℕ → Node} {n : ℕ} {u v u' v' : ℕ → ℕ} {x : List ℕ} → ((m : ℕ) → u m ≡ u' m) → ((m : ℕ) → v m ≡ v' m) → Counted t n u v x → Counted t n u' v' x
counted_as e f c = record { size = c.size; nodes = c.nodes; mid = λ m b. c.mid m b ∙ e m; end = λ m b. c.end m b ∙ f m }

-- as many more as the node brings
pub counted-by : {t : ℕ → Node} {n : ℕ} {u v : ℕ → ℕ} {x : List ℕ} → n ≤ most_nodes → Counted t n u v x → (y : Node) → All (λ l. l / 2 < n) (operands y)
    → Counted t n (λ m. u m + pairs_in y m) (λ m. v m + threes_in y m) (count_node x y)
unfolding count_node
counted-by {t} {n} {u} {v} {x} few c y known = go (dec_lt y.kind 3) (dec_lt y.kind 7)
  where
    go : Dec (y.kind < 3) → Dec (y.kind < 7) → Counted t n (λ m. u m + pairs_in y m) (λ m. v m + threes_in y m) (count_node x y)
    go (yes a) b =
        rw (lt-ltb y.kind 3 a)
        (counted_as (λ m. omega (arith, (brings_none y m a).0)) (λ m. omega (arith, (brings_none y m a).1)) c)
    go (no a) (yes b) =
        let k : 2 < y.kind = omega (arith, a) in
        let o = rw (operands-two y k b) at known in
        rw (le-ltb y.kind 3 (omega (arith, a)), lt-ltb y.kind 7 b)
        (counted_as (λ m. omega (arith, (brings_two y m k b).0)) (λ m. omega (arith, (brings_two y m k b).1))
        (counted_pair few (counted_pair few c y.a o.0) y.b o.1.0))
    go (no a) (no b) =
        let k : 7 ≤ y.kind = omega (arith, b) in
        let o = rw (operands-three y k) at known in
        rw (le-ltb y.kind 3 (omega (arith, a)), le-ltb y.kind 7 k)
        (counted_as (λ m. omega (arith, (brings_three y m k).0)) (λ m. omega (arith, (brings_three y m k).1))
        (counted-three few (counted-three few (counted-three few c y.a o.0) y.b o.1.0) y.c o.1.1.0))

module _ {t : ℕ → Node} {n p : ℕ} {x : List ℕ} (few : n ≤ most_nodes) (early : Early t n) (h : p < n)
    (c : Counted t n (pairs_to t p) (threes_to t p) x) where
  pub count_room : Room n (index_node x p) x
  count_room = rw (c.nodes p h) record {
    size = c.size;
    few = few;
    known = early_known t n early p h;
    pairs = λ m b. omega (arith, c.mid m b, pairs_part t n p m h, total_low t n few m b);
    threes = λ m b. omega (arith, c.end m b, threes_part t n p m h, total_low t n few m b);
  }

  pub counted_more : Counted t n (pairs_to t (p + 1)) (threes_to t (p + 1)) (count_node x (index_node x p))
  counted_more =
      rw (c.nodes p h)
      (counted_as (λ m. sym (sum_next (λ q. pairs_in (t q) m) p)) (λ m. sym (sum_next (λ q. threes_in (t q) m) p))
      (counted-by few c (t p) (early_known t n early p h)))

-- what is none of the counts is not changed
pub count_other : (x : List ℕ) (y : Node) (i : ℕ) → All (λ l. (i ≡ mid_at + l / 2 → ⊥) × (i ≡ end_at + l / 2 → ⊥)) (operands y)
    → get_or (count_node x y) i 0 ≡ get_or x i 0
unfolding count_node
count_other x y i o = go (dec_lt y.kind 3) (dec_lt y.kind 7)
  where
    go : Dec (y.kind < 3) → Dec (y.kind < 7) → get_or (count_node x y) i 0 ≡ get_or x i 0
    go (yes a) b = rw (lt-ltb y.kind 3 a)
    go (no a) (yes b) =
        let n = rw (operands-two y (omega (arith, a)) b) at o in
        rw (le-ltb y.kind 3 (omega (arith, a)), lt-ltb y.kind 7 b)
        (get_or-set_other (raised x (mid_at + y.a / 2) 2) (mid_at + y.b / 2) i _ 0 n.1.0.0 ∙ get_or-set_other x (mid_at + y.a / 2) i _ 0 n.0.0)
    go (no a) (no b) =
        let n = rw (operands-three y (omega (arith, b))) at o in
        rw (le-ltb y.kind 3 (omega (arith, a)), le-ltb y.kind 7 (omega (arith, b)))
        (get_or-set_other (raised (raised x (end_at + y.a / 2) 1) (end_at + y.b / 2) 1) (end_at + y.c / 2) i _ 0 n.1.1.0.1
        ∙ get_or-set_other (raised x (end_at + y.a / 2) 1) (end_at + y.b / 2) i _ 0 n.1.0.1 ∙ get_or-set_other x (end_at + y.a / 2) i _ 0 n.0.1)

-- .. as what is before them
pub count_same : (x : List ℕ) (y : Node) → Same mid_at x (count_node x y)
count_same x y i h = count_other x y i (go (operands y))
  where
    go : (ls : List ℕ) → All (λ l. (i ≡ mid_at + l / 2 → ⊥) × (i ≡ end_at + l / 2 → ⊥)) ls
    go [] = tt
    go (l ∷ ls) = ((λ q. omega (arith, q), λ q. omega (arith, q)), go ls)

pub count_size : (x : List ℕ) (y : Node) → length (count_node x y) ≡ length x
unfolding count_node
count_size x y = go (ltb y.kind 3) (ltb y.kind 7)
  where
    go : (a b : Bool) → length (cond a x (cond b (count_two x y.a y.b) (count_three x y.a y.b y.c))) ≡ length x
    go true b = refl
    go false true = simp length-set refl
    go false false = simp length-set refl

pub counted_none : (n : ℕ) (x : List ℕ) → length x ≡ index_size → Blank n x
    → Counted (index_node x) n (pairs_to (index_node x) 0) (threes_to (index_node x) 0) x
unfolding sum
counted_none n x z b = record { size = z; nodes = λ m h. refl; mid = λ m h. (b m h).0; end = λ m h. (b m h).1 }
