-- The rows of AND and OR of two literals, in order of their nodes. Assumes nothing.
use mathlib.Core.Path.{◌≡◌, ◌∙◌, ap}
use mathlib.Core.Bool.{true, false, ◌&&◌}
use Prim.Native.Nat.{ℕ, ◌+◌, ◌/◌, ◌%◌, ◌<◌, ◌≤◌}
use native.Mathlib.Omega.{arith}
use lib.Dec.{eqb, ltb}
use borrow.Author.Tests.{lt-ltb, le-ltb, ltb-true, ltb-false, eq-eqb, ne_eqb}
use Rattle.scope.specs.Outcome.{answer, refused}
use Rattle.scope.specs.Table.{node_bytes, form_ok, range_ok, read_record}
use Rattle.scope.specs.Calls.{normalized}
use Rattle.scope.proofs.Operands.{operands-two}
use Rattle.scope.proofs.Tests.{by_test}
use Rattle.codec.specs.Given.{among, apart, read_given}
use Rattle.codec.proofs.Records.{node_of_bytes}
use Rattle.codec.proofs.Normal.{given-rows}
use Rattle.growing.specs.Growing.{node_in, key_of}
use Rattle.cnf.specs.Fold.{node}
use Rattle.cnf.proofs.Records.{ordered, join-reads}
use Rattle.cnffold.specs.declared.Pair.{Pair}
use Rattle.cnffold.specs.Built.{InOrder}

-- the node of a number
pub key_node : (kind a b : ℕ) → a < 4096 → b < 4096 → node_in (key_of kind a b) ≡ node kind a b
unfolding node_in
key_node kind a b h k =
    let first : key_of kind a b / 4096 / 4096 ≡ kind = omega arith in
    let second : key_of kind a b % 4096 ≡ a = omega arith in
    let third : key_of kind a b / 4096 % 4096 ≡ b = omega arith in
    rw (first, second, third)

pub point_node : (p : ℕ) → p < 1024 → node_in (33554432 + p) ≡ node 2 p 0
unfolding node_in
point_node p h =
    let first : (33554432 + p) / 4096 / 4096 ≡ 2 = omega arith in
    let second : (33554432 + p) % 4096 ≡ p = omega arith in
    let third : (33554432 + p) / 4096 % 4096 ≡ 0 = omega arith in
    rw (first, second, third)

-- what holds of both holds in order
pub order_low : {a b : ℕ} {r : Pair} → InOrder a b r → a < 4032 → b < 4032 → (r.low < 4032) × (r.high < 4032)
order_low {a} {b} o h k =
    by_test (ltb (b / 2) (a / 2))
    (λ e. let l = ltb-true (b / 2) (a / 2) e in (omega (arith, (o.exchanged l).0), omega (arith, (o.exchanged l).1)))
    (λ e. let l = ltb-false (b / 2) (a / 2) e in (omega (arith, (o.given l).0), omega (arith, (o.given l).1)))

module _ (kind : ℕ) (above : 2 < kind) (below : kind < 5) (a b n : ℕ) where
  two : eqb kind 2 ≡ false
  two = ne_eqb kind 2 (λ q. omega arith)

  form : form_ok (node kind a b) 0 ≡ true
  unfolding form_ok
  form = rw (ne_eqb kind 1 (λ q. omega arith), two, lt-ltb 2 kind above, lt-ltb kind 7 (omega arith))

  range : range_ok (node kind a b) n ≡ (ltb (a / 2) n && (ltb (b / 2) n && true))
  unfolding range_ok
  range = rw (two, operands-two (node kind a b) above (omega arith))

  rows_15 : (ltb (a / 2) n && (ltb (b / 2) n && true)) ≡ false → read_record (normalized (node_bytes (node kind a b))) n ≡ refused 15 n
  unfolding read_given node_bytes
  rows_15 e = given-rows (node_bytes (node kind a b)) n ∙ rw (node_of_bytes (node kind a b), form, range, e)

  rows_16 : (ltb (a / 2) n && (ltb (b / 2) n && true)) ≡ true → a / 2 ≡ b / 2 → read_record (normalized (node_bytes (node kind a b))) n ≡ refused 16 n
  unfolding read_given node_bytes apart among
  rows_16 e q =
      given-rows (node_bytes (node kind a b)) n
      ∙ rw (node_of_bytes (node kind a b), form, range, e, operands-two (node kind a b) above (omega arith), eq-eqb (a / 2) (b / 2) q)

  module _ {r : Pair} (o : InOrder a b r) where
    -- by the order given
    by_order : {P : Type 0} → (b / 2 < a / 2 → r.low ≡ b → r.high ≡ a → P) → (a / 2 ≤ b / 2 → r.low ≡ a → r.high ≡ b → P) → P
    by_order f g =
        by_test (ltb (b / 2) (a / 2))
        (λ e. let h = ltb-true (b / 2) (a / 2) e in f h (o.exchanged h).0 (o.exchanged h).1)
        (λ e. let h = ltb-false (b / 2) (a / 2) e in g h (o.given h).0 (o.given h).1)

    within : r.high / 2 < n → (a / 2 < n) × (b / 2 < n)
    within h = by_order (λ l p q. (omega arith, omega arith)) (λ l p q. (omega arith, omega arith))

    pub pair-15 : n ≤ r.high / 2 → read_record (normalized (node_bytes (node kind a b))) n ≡ refused 15 n
    pair-15 h =
        rows_15
        (by_order
        (λ l p q. rw (le-ltb (a / 2) n (omega arith)))
        (λ l p q. by_test (ltb (a / 2) n) (λ e. rw (e, le-ltb (b / 2) n (omega arith))) (λ e. rw e)))

    pub pair-16 : r.high / 2 < n → r.low / 2 ≡ r.high / 2 → read_record (normalized (node_bytes (node kind a b))) n ≡ refused 16 n
    pair-16 h e =
        let w = within h in
        rows_16 (rw (lt-ltb (a / 2) n w.0, lt-ltb (b / 2) n w.1)) (by_order (λ l p q. omega arith) (λ l p q. omega arith))

    pair-node : ordered kind a b ≡ node kind r.low r.high
    unfolding ordered
    pair-node =
        by_order
        (λ l p q. rw (lt-ltb (b / 2) (a / 2) l, p, q))
        (λ l p q. rw (le-ltb (b / 2) (a / 2) l, p, q))

    pub pair_reads : r.high / 2 < n → (r.low / 2 ≡ r.high / 2 → ⊥) → read_record (normalized (node_bytes (node kind a b))) n ≡ answer (node kind r.low r.high)
    pair_reads h d =
        let w = within h in
        join-reads kind above below a b n w.0 w.1 (λ q. d (by_order (λ l p s. omega arith) (λ l p s. omega arith))) ∙ ap answer pair-node
