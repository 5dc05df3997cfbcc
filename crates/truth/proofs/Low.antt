-- A node whose record reads is one that evaluation can take. Assumes nothing.
use mathlib.Core.Path.{◌≡◌, ◌∙◌, sym}
use mathlib.Core.List.{List, [], ◌∷◌}
use mathlib.Core.Bool.{true, false, cond, ◌&&◌, false≢true, and-false}
use mathlib.Core.Logic.{⊎_elim}
use Prim.Native.Nat.{ℕ, ◌/◌, ◌<◌, ◌≤◌}
use native.Mathlib.Nat.{eq-zero-or-pos}
use native.Mathlib.Omega.{arith}
use lib.Dec.{eqb, ltb}
use lib.ListN.{length, get_or}
use borrow.Author.Tests.{eqb-true, ltb-true, ltb-false, lt-ltb, ne_eqb}
use Rattle.scope.specs.declared.Node.{Node}
use Rattle.scope.specs.Outcome.{answer}
use Rattle.scope.specs.Table.{node_bytes, operands, every, form_ok, range_ok, read_record, decode}
use Rattle.scope.specs.Calls.{no_node}
use Rattle.scope.proofs.Tests.{by_test}
use Rattle.scope.proofs.Operands.{operands-none, operands-three, operands-some}
use Rattle.codec.specs.Valid.{Bytes}
use Rattle.codec.proofs.Rows.{both}
use Rattle.codec.proofs.Records.{reads, every_mono}
use Rattle.codec.proofs.Tables.{read_valid}
use Rattle.truth.specs.Evaluated.{Low}

-- the fields of an operation: two, and of kinds 7 and 8 three
module _ {x : Node} {n : ℕ} (l : Low x n) where
  some_below : 2 < x.kind → (ltb (x.a / 2) n && (ltb (x.b / 2) n && every (λ l. ltb (l / 2) n) (cond (ltb x.kind 7) [] (x.c ∷ [])))) ≡ true
  some_below k = rw (operands-some x k) at l.below

  pub low_left : 2 < x.kind → x.a / 2 < n
  low_left k = ltb-true (x.a / 2) n (both (ltb (x.a / 2) n) _ (some_below k)).0

  pub low_right : 2 < x.kind → x.b / 2 < n
  low_right k = ltb-true (x.b / 2) n (both (ltb (x.b / 2) n) _ (both (ltb (x.a / 2) n) _ (some_below k)).1).0

  pub low_third : 7 ≤ x.kind → x.c / 2 < n
  low_third k =
      let all : (ltb (x.a / 2) n && (ltb (x.b / 2) n && (ltb (x.c / 2) n && true))) ≡ true = rw (operands-three x k) at l.below in
      let last = (both (ltb (x.b / 2) n) _ (both (ltb (x.a / 2) n) _ all).1).1 in
      ltb-true (x.c / 2) n (both (ltb (x.c / 2) n) true last).0

-- kind 0 is not known, nor is one above 8
zero_unknown : (x : Node) (one : ℕ) → x.kind ≡ 0 → form_ok x one ≡ false
unfolding form_ok
zero_unknown x one k = simp (k, and-false)

not-zero : (x : Node) (one : ℕ) → form_ok x one ≡ true → 0 < x.kind
not-zero x one e = ⊎_elim (λ k. absurd (false≢true (sym (zero_unknown x one k) ∙ e))) (λ h. h) (eq-zero-or-pos x.kind)

below_nine : (x : Node) (one : ℕ) → form_ok x one ≡ true → x.kind < 9
unfolding form_ok
below_nine x one e =
    by_test (ltb x.kind 7)
    (λ l. omega (arith, ltb-true x.kind 7 l))
    (λ l.
    let high = ltb-false x.kind 7 l in
    ltb-true x.kind 9 (rw (ne_eqb x.kind 1 (λ q. omega arith), ne_eqb x.kind 2 (λ q. omega arith), l) at (both (eqb one 0) _ e).1))

-- a record that reads
in_range : (x : Node) (one n : ℕ) → form_ok x one ≡ true → range_ok x n ≡ true → Low x n
unfolding range_ok
in_range x one n f e = record {
  kinds = not-zero x one f;
  known = below_nine x one f;
  point = λ q. ltb-true x.a 1024 (rw q at e);
  below =
      by_test (eqb x.kind 2)
      (λ t. rw (operands-none x (omega (arith, eqb-true x.kind 2 t))))
      (λ t. rw t at e);
}

pub reads_low : (r : List ℕ) (n : ℕ) (x : Node) → read_record r n ≡ answer x → Low x n
reads_low r n x e =
    let p = reads r n e in
    in_range x (get_or r 1 0) n p.form p.range

-- so is every node of a readable table: what `node-joins` asks of operands holds there
pub readable_low : (t : List ℕ) (rs : List Node) (n : ℕ) → Bytes t → decode t ≡ answer rs → n < length rs → Low (get_or rs n no_node) n
readable_low t rs n all e h = reads_low (node_bytes (get_or rs n no_node)) n (get_or rs n no_node) ((read_valid t rs all e).each n h)

-- operands of nodes below n are of nodes below any m from n on
pub low_up : {x : Node} {n m : ℕ} → n ≤ m → Low x n → Low x m
low_up {x} {n} {m} h l = record {
  kinds = l.kinds;
  known = l.known;
  point = l.point;
  below = every_mono (λ l. ltb (l / 2) n) (λ l. ltb (l / 2) m) (λ k q. lt-ltb (k / 2) m (omega (arith, ltb-true (k / 2) n q))) (operands x) l.below;
}
