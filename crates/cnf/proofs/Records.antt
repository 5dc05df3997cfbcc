-- The records that the reader adds: each reads, with its operands in order of their nodes. Assumes nothing.
use mathlib.Core.Path.{◌≡◌, ◌∙◌, refl}
use mathlib.Core.Bool.{true, false, cond}
use Prim.Native.Nat.{ℕ, ◌/◌, ◌<◌}
use native.Mathlib.Omega.{arith}
use lib.Dec.{eqb, ltb}
use borrow.Author.Tests.{lt-ltb, ltb-true, ltb-false, ne_eqb}
use Rattle.scope.specs.declared.Node.{Node}
use Rattle.scope.specs.Outcome.{answer}
use Rattle.scope.specs.Table.{node_bytes, arity, operands, form_ok, range_ok, order_ok, read_record}
use Rattle.scope.specs.Calls.{normalized}
use Rattle.scope.proofs.Operands.{operands-two}
use Rattle.codec.proofs.Rows.{by_test}
use Rattle.codec.proofs.Records.{node_of_bytes, reading}
use Rattle.codec.proofs.Normal.{normalized_bytes, turned_other, ordered-none, ordered-two}
use Rattle.cnf.specs.Fold.{node}

-- a node that reads at n, in its own bytes
reads_own : (x : Node) (n : ℕ) → form_ok x 0 ≡ true → range_ok x n ≡ true → order_ok x ≡ true → read_record (node_bytes x) n ≡ answer x
unfolding node_bytes
reads_own x n form range order =
    reading (node_bytes x) n (record { node = node_of_bytes x; form = form; range = range; order = order })

-- kinds without operands are looked up as they are given
as_given : (x : Node) → x.kind < 3 → normalized (node_bytes x) ≡ node_bytes x
as_given x h = normalized_bytes x ∙ rw (turned_other x (λ q. omega arith), ordered-none x h)

-- 'TRUE'
pub true-reads : (n : ℕ) → read_record (normalized (node_bytes (node 1 0 0))) n ≡ answer (node 1 0 0)
unfolding form_ok range_ok order_ok arity operands
true-reads n = rw (as_given (node 1 0 0) (omega arith)) (reads_own (node 1 0 0) n refl refl refl)

-- a point's ATOM
pub point_reads : (p n : ℕ) → p < 1024 → read_record (normalized (node_bytes (node 2 p 0))) n ≡ answer (node 2 p 0)
unfolding form_ok range_ok order_ok arity operands
point_reads p n h = rw (as_given (node 2 p 0) (omega arith)) (reads_own (node 2 p 0) n refl (lt-ltb p 1024 h) refl)

-- AND or OR of two literals: that of the lower node stands first
unfoldable pub ordered : ℕ → ℕ → ℕ → Node
ordered kind a b = cond (ltb (b / 2) (a / 2)) (node kind b a) (node kind a b)

module _ (kind : ℕ) (above : 2 < kind) (below : kind < 5) where
  -- such a record reads in order
  in_order : (a b n : ℕ) → a / 2 < b / 2 → b / 2 < n → read_record (node_bytes (node kind a b)) n ≡ answer (node kind a b)
  unfolding form_ok range_ok order_ok
  in_order a b n h i =
      let one : eqb kind 1 ≡ false = ne_eqb kind 1 (λ q. omega arith) in
      let two : eqb kind 2 ≡ false = ne_eqb kind 2 (λ q. omega arith) in
      let five : eqb kind 5 ≡ false = ne_eqb kind 5 (λ q. omega arith) in
      reads_own (node kind a b) n
      (rw (one, two, lt-ltb 2 kind above, lt-ltb kind 7 (omega arith)))
      (rw (two, operands-two (node kind a b) above (omega arith), lt-ltb (a / 2) n (omega arith), lt-ltb (b / 2) n i))
      (rw (five, operands-two (node kind a b) above (omega arith), lt-ltb (a / 2) (b / 2) h))

  sorts : (a b : ℕ) → normalized (node_bytes (node kind a b)) ≡ node_bytes (ordered kind a b)
  unfolding ordered
  sorts a b =
      normalized_bytes (node kind a b)
      ∙ rw (turned_other (node kind a b) (λ q. omega arith), ordered-two (node kind a b) above (omega arith))

  pub join-reads : (a b n : ℕ) → a / 2 < n → b / 2 < n → (a / 2 ≡ b / 2 → ⊥)
      → read_record (normalized (node_bytes (node kind a b))) n ≡ answer (ordered kind a b)
  unfolding ordered
  join-reads a b n h i apart =
      rw (sorts a b)
      (by_test (ltb (b / 2) (a / 2))
      (λ e. rw e (in_order b a n (ltb-true (b / 2) (a / 2) e) h))
      (λ e. rw e (in_order a b n (omega (arith, ltb-false (b / 2) (a / 2) e, apart)) i)))
