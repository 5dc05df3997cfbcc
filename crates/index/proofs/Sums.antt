-- Laws of how many numbers the edges of each node take. Assumes nothing.
use mathlib.Core.Path.{◌≡◌, refl}
use mathlib.Core.Bool.{Bool, true, false, cond}
use mathlib.Core.List.{List, [], ◌∷◌}
use Prim.Native.Nat.{ℕ, zero, suc, ◌+◌, ◌*◌, ◌/◌, ◌<◌, ◌≤◌}
use native.Mathlib.Numerals.{add-one}
use native.Mathlib.Omega.{arith}
use native.Mathlib.Decide.{ℕ_discrete, dec_lt}
use lib.Dec.{eqb, ltb}
use lib.ListN.{length}
use borrow.Author.Tests.{eq-eqb, ne_eqb, ltb-true, lt-ltb, le-ltb}
use Rattle.scope.specs.declared.Node.{Node}
use Rattle.scope.specs.Table.{operands}
use Rattle.scope.proofs.Operands.{arity_pair, arity_most, operands-length, operands-none, operands-two, operands-three}
use Rattle.calculus.specs.Model.{All}
use Rattle.calculus.proofs.Lists.{all_imply}
use Rattle.index.specs.Index.{most_nodes, most_edges}
use Rattle.index.specs.Built.{Early, sum, is, times, pairs_in, threes_in, pairs_to, threes_to, start_of}

-- ---- sums

module _ (f : ℕ → ℕ) where
  pub sum_next : (k : ℕ) → sum f (k + 1) ≡ sum f k + f k
  unfolding sum
  sum_next k = rw add-one

  -- each part lies before the later ones
  pub sum-part : (i k : ℕ) → i < k → sum f i + f i ≤ sum f k
  unfolding sum
  sum-part i zero h = absurd (omega (arith, h))
  sum-part i (suc k) h = go (ℕ_discrete i k) (sum-part i k)
    where
      go : Dec (i ≡ k) → (i < k → sum f i + f i ≤ sum f k) → sum f i + f i ≤ sum f k + f k
      go (yes e) r = rw e (omega arith)
      go (no e) r = omega (arith, r (omega (arith, e)))

  pub sum-zero : ((i : ℕ) → f i ≡ 0) → (k : ℕ) → sum f k ≡ 0
  unfolding sum
  sum-zero e zero = refl
  sum-zero e (suc k) = omega (arith, e k, sum-zero e k)

pub sum_same : (f g : ℕ → ℕ) (k : ℕ) → ((i : ℕ) → i < k → f i ≡ g i) → sum f k ≡ sum g k
unfolding sum
sum_same f g zero e = refl
sum_same f g (suc k) e = omega (arith, sum_same f g k (λ i h. e i (omega arith)), e k (omega arith))

pub sum_plus : (f g h : ℕ → ℕ) → ((i : ℕ) → f i ≡ g i + h i) → (k : ℕ) → sum f k ≡ sum g k + sum h k
unfolding sum
sum_plus f g h e zero = refl
sum_plus f g h e (suc k) = omega (arith, e k, sum_plus f g h e k)

-- ---- a literal is of one node

is_low : (l m : ℕ) → is l m ≤ 1
is_low l m = go (eqb (l / 2) m)
  where
    go : (b : Bool) → cond b 1 0 ≤ 1
    go true = omega arith
    go false = omega arith

pub is_own : (l : ℕ) → is l (l / 2) ≡ 1
is_own l = rw (eq-eqb (l / 2) (l / 2) refl)

pub is_other : (l m : ℕ) → (l / 2 ≡ m → ⊥) → is l m ≡ 0
is_other l m d = rw (ne_eqb (l / 2) m d)

sum_below : (l k : ℕ) → k ≤ l / 2 → sum (is l) k ≡ 0
unfolding sum
sum_below l zero h = refl
sum_below l (suc k) h = omega (arith, sum_below l k (omega arith), is_other l k (λ e. omega (arith, e)))

sum_once : (l k : ℕ) → sum (is l) k ≤ 1
unfolding sum
sum_once l zero = omega arith
sum_once l (suc k) = go (ℕ_discrete (l / 2) k) (sum_once l k)
  where
    go : Dec (l / 2 ≡ k) → sum (is l) k ≤ 1 → sum (is l) k + is l k ≤ 1
    go (yes e) r = omega (arith, sum_below l k (omega (arith, e)), is_low l k)
    go (no e) r = omega (arith, is_other l k e)

sum-times : (ls : List ℕ) (k : ℕ) → sum (λ m. times m ls) k ≤ length ls
unfolding times
sum-times [] k = omega (arith, sum-zero (λ m. 0) (λ i. refl) k)
sum-times (l ∷ ls) k =
    omega (arith, sum_plus (λ m. is l m + times m ls) (is l) (λ m. times m ls) (λ i. refl) k, sum_once l k, sum-times ls k)

-- ---- a node has at most four numbers

pub node-four : (y : Node) (k : ℕ) → sum (λ m. pairs_in y m + threes_in y m) k ≤ 4
unfolding pairs_in threes_in
node-four y k = go (ltb y.kind 7) refl
  where
    go : (b : Bool) → ltb y.kind 7 ≡ b → sum (λ m. cond b (2 * times m (operands y)) 0 + cond b 0 (times m (operands y))) k ≤ 4
    go true e =
        omega (
          arith,
          sum_plus (λ m. 2 * times m (operands y) + 0) (λ m. times m (operands y)) (λ m. times m (operands y)) (λ i. omega arith) k,
          sum-times (operands y) k,
          operands-length y,
          arity_pair y.kind (ltb-true y.kind 7 e),
        )
    go false e = omega (
      arith,
      sum_plus (λ m. 0 + times m (operands y)) (λ m. 0) (λ m. times m (operands y)) (λ i. refl) k,
      sum-zero (λ m. 0) (λ i. refl) k,
      sum-times (operands y) k,
      operands-length y,
      arity_most y.kind,
    )

-- so the edges from b nodes fit
pub sum-four : (t : ℕ → Node) (b k : ℕ) → sum (λ i. pairs_to t b i + threes_to t b i) k ≤ 4 * b
unfolding sum
sum-four t zero k = omega (arith, sum-zero (λ i. 0) (λ i. refl) k)
sum-four t (suc b) k =
    omega (
      arith,
      sum_plus (λ i. pairs_to t (suc b) i + threes_to t (suc b) i) (λ i. pairs_to t b i + threes_to t b i)
          (λ i. pairs_in (t b) i + threes_in (t b) i) (λ i. omega arith) k,
      sum-four t b k,
      node-four (t b) k,
    )

-- ---- the edges of node m, in the region of all

module _ (t : ℕ → Node) (n : ℕ) (few : n ≤ most_nodes) where
  pub total_low : (m : ℕ) → m < n → start_of t n m + (pairs_to t n m + threes_to t n m) ≤ most_edges
  total_low m h = omega (arith, sum-part (λ i. pairs_to t n i + threes_to t n i) m n h, sum-four t n n)

  -- those of another node stand elsewhere
  pub apart : (m d k e : ℕ) → (m ≡ k → ⊥) → d < pairs_to t n m + threes_to t n m → e < pairs_to t n k + threes_to t n k
      → start_of t n m + d ≡ start_of t n k + e → ⊥
  apart m d k e c h b q = go (dec_lt m k)
    where
      go : Dec (m < k) → ⊥
      go (yes l) = omega (arith, sum-part (λ i. pairs_to t n i + threes_to t n i) m k l)
      go (no l) = omega (arith, sum-part (λ i. pairs_to t n i + threes_to t n i) k m (omega (arith, l, c)))

-- what the next node brings is within what all bring
pub pairs_part : (t : ℕ → Node) (n p m : ℕ) → p < n → pairs_to t p m + pairs_in (t p) m ≤ pairs_to t n m
pairs_part t n p m h = sum-part (λ q. pairs_in (t q) m) p n h

pub threes_part : (t : ℕ → Node) (n p m : ℕ) → p < n → threes_to t p m + threes_in (t p) m ≤ threes_to t n m
threes_part t n p m h = sum-part (λ q. threes_in (t q) m) p n h

-- ---- what a node brings, by its kind

module _ (y : Node) (m : ℕ) where
  pub brings_none : y.kind < 3 → (pairs_in y m ≡ 0) × (threes_in y m ≡ 0)
  unfolding pairs_in threes_in times
  brings_none h = (rw (lt-ltb y.kind 7 (omega arith), operands-none y h), rw (lt-ltb y.kind 7 (omega arith)))

  pub brings_two : 2 < y.kind → y.kind < 7 → (pairs_in y m ≡ 2 * is y.a m + 2 * is y.b m) × (threes_in y m ≡ 0)
  unfolding pairs_in threes_in times
  brings_two h k = (rw (lt-ltb y.kind 7 k, operands-two y h k) (omega arith), rw (lt-ltb y.kind 7 k))

  pub brings_three : 7 ≤ y.kind → (pairs_in y m ≡ 0) × (threes_in y m ≡ is y.a m + is y.b m + is y.c m)
  unfolding pairs_in threes_in times
  brings_three h = (rw (le-ltb y.kind 7 h), rw (le-ltb y.kind 7 h, operands-three y h) (omega arith))

-- .. and by the nodes of its operands

pub times_none : (m : ℕ) (ls : List ℕ) → All (λ l. l / 2 ≡ m → ⊥) ls → times m ls ≡ 0
unfolding times
times_none m [] a = refl
times_none m (l ∷ ls) a = omega (arith, is_other l m a.0, times_none m ls a.1)

pub brings_nothing : (y : Node) (m : ℕ) → All (λ l. l / 2 ≡ m → ⊥) (operands y) → (pairs_in y m ≡ 0) × (threes_in y m ≡ 0)
unfolding pairs_in threes_in
brings_nothing y m a = go (ltb y.kind 7) (times_none m (operands y) a)
  where
    go : (b : Bool) → times m (operands y) ≡ 0 → (cond b (2 * times m (operands y)) 0 ≡ 0) × (cond b 0 (times m (operands y)) ≡ 0)
    go true e = (omega (arith, e), refl)
    go false e = (refl, e)

pub brings_four : (y : Node) (m : ℕ) → pairs_in y m + threes_in y m ≤ 4
brings_four y m = omega (arith, sum_next (λ i. pairs_in y i + threes_in y i) m, node-four y (m + 1))

-- where operands are of earlier nodes, node p has no edges from the nodes up to itself
pub early_none : (u : ℕ → Node) (n : ℕ) → Early u n → (p k : ℕ) → k ≤ n → k ≤ p + 1 → (pairs_to u k p ≡ 0) × (threes_to u k p ≡ 0)
unfolding sum
early_none u n a p zero h b = (refl, refl)
early_none u n a p (suc k) h b =
    let r = early_none u n a p k (omega arith) (omega arith) in
    let z = brings_nothing (u k) p (all_imply (λ l. l / 2 < k) (λ l. l / 2 ≡ p → ⊥) (λ l c e. omega (arith, c, e)) (operands (u k)) (a k (omega arith))) in
    (omega (arith, r.0, z.0), omega (arith, r.1, z.1))

-- .. and so they are of nodes that are there
pub early_known : (u : ℕ → Node) (n : ℕ) → Early u n → (p : ℕ) → p < n → All (λ l. l / 2 < n) (operands (u p))
early_known u n a p h = all_imply (λ l. l / 2 < p) (λ l. l / 2 < n) (λ l b. omega (arith, b, h)) (operands (u p)) (a p h)
