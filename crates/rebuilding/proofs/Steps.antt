-- One record of a rebuild, added: of the rows 14 to 16 only 16 can refuse it, where two operands have become one node
-- (`add-mapped`). Assumes nothing.
use mathlib.Core.Path.{◌≡◌, ◌∙◌, sym, refl}
use mathlib.Core.List.{List, [], ◌∷◌, map}
use mathlib.Core.Bool.{Bool, true, false}
use Prim.Native.Nat.{ℕ, ◌/◌, ◌%◌, ◌<◌, ◌≤◌}
use native.Mathlib.Omega.{arith}
use lib.Dec.{eqb, ltb}
use lib.ListN.{length, get_or, take}
use borrow.Author.Tests.{eqb-true, ne_eqb, ltb-true, lt-ltb, le-ltb, le-leb}
use Rattle.scope.specs.declared.Node.{Node}
use Rattle.scope.specs.Outcome.{Outcome, answer, require, ◌>>◌, ◌>>=◌}
use Rattle.scope.specs.Table.{node_bytes, neg, operands, with_operands, every, form_ok, range_ok, read_record}
use Rattle.scope.specs.Calls.{decode_used, ordered, turned, normal, normalized, add_node, add}
use Rattle.scope.proofs.Tests.{by_test, and_both}
use Rattle.scope.proofs.Operands.{operands-two}
use Rattle.codec.specs.Valid.{Bytes}
use Rattle.codec.specs.Given.{apart, read_given}
use Rattle.codec.proofs.Rows.{both}
use Rattle.codec.proofs.Records.{node_of_bytes, fields_small, bytes_node}
use Rattle.codec.proofs.Sorted.{every-sorted}
use Rattle.codec.proofs.Normal.{by-five, by-arity, turned-five, turned_other, ordered_kind, ordered-none, ordered-operands, given-rows}
use Rattle.truth.specs.Evaluated.{Low}
use Rattle.rebuilding.specs.Rebuild.{rebuilt, mapped}
use Rattle.rebuilding.proofs.Means.{mapped-operands, mapped_kind, mapped-none}

-- ---- nodes whose operands are of earlier nodes

-- .. are in range
low_range : (x : Node) (n : ℕ) → Low x n → range_ok x n ≡ true
unfolding range_ok
low_range x n l =
    by_test (eqb x.kind 2)
    (λ e. rw e (lt-ltb x.a 1024 (l.point (eqb-true x.kind 2 e))))
    (λ e. rw e l.below)

-- .. and stay so: turned, ordered, with their operands replaced
turned_low : (x : Node) (n : ℕ) → Low x n → Low (turned x) n
turned_low x n l =
    by-five x
    (λ f.
    let same : neg x.a / 2 ≡ x.a / 2 = omega arith in
    let y : Node = record { kind = 4; a = neg x.a; b = x.b; c = x.c } in
    rw (turned-five x f)
    (record {
      kinds = omega arith;
      known = omega arith;
      point = λ q. absurd (omega arith);
      below = rw (operands-two y (omega arith) (omega arith), same) (rw (operands-two x (omega arith) (omega arith)) at l.below);
    }))
    (λ f. rw (turned_other x f) l)

ordered_low : (x : Node) (n : ℕ) → Low x n → Low (ordered x) n
ordered_low x n l = record {
  kinds = rw (ordered_kind x) l.kinds;
  known = rw (ordered_kind x) l.known;
  point = λ q.
      let two : x.kind ≡ 2 = sym (ordered_kind x) ∙ q in
      rw (ordered-none x (omega arith)) (l.point two);
  below = rw (ordered-operands x) (every-sorted (λ l. ltb (l / 2) n) (operands x) ∙ l.below);
}

pub rebuilt-node : (m : List ℕ) (l : ℕ) → rebuilt m l / 2 ≡ get_or m (l / 2) 0 / 2
unfolding rebuilt
rebuilt-node m l = by_test (eqb (l % 2) 0) (λ e. rw e) (λ e. rw e (omega arith))

-- literals that are replaced by literals of nodes below n
every-mapped : (m : List ℕ) (k n : ℕ) → ((j : ℕ) → j < k → get_or m j 0 / 2 < n) → (ls : List ℕ)
    → every (λ l. ltb (l / 2) k) ls ≡ true → every (λ l. ltb (l / 2) n) (map (rebuilt m) ls) ≡ true
every-mapped m k n inside [] e = refl
every-mapped m k n inside (l ∷ ls) e =
    let d = both (ltb (l / 2) k) (every (λ l. ltb (l / 2) k) ls) e in
    let low : rebuilt m l / 2 < n = rw (rebuilt-node m l) (inside (l / 2) (ltb-true (l / 2) k d.0)) in
    and_both (ltb (rebuilt m l / 2) n) (every (λ l. ltb (l / 2) n) (map (rebuilt m) ls)) (lt-ltb (rebuilt m l / 2) n low) (every-mapped m k n inside ls d.1)

module _ (m : List ℕ) (x : Node) (k n : ℕ) (l : Low x k) (inside : (j : ℕ) → j < k → get_or m j 0 / 2 < n) where
  mapped_low : Low (mapped m x) n
  mapped_low = record {
    kinds = rw (mapped_kind m x) l.kinds;
    known = rw (mapped_kind m x) l.known;
    point = λ q.
        let two : x.kind ≡ 2 = sym (mapped_kind m x) ∙ q in
        rw (mapped-none m x (omega arith)) (l.point two);
    below = rw (mapped-operands m x) (every-mapped m k n inside (operands x) l.below);
  }

  pub looked_up_low : Low (normal (mapped m x)) n
  looked_up_low = ordered_low (turned (mapped m x)) n (turned_low (mapped m x) n mapped_low)

  mapped_c : 2 < x.kind → x.kind < 7 → (mapped m x).c ≡ x.c
  unfolding mapped with_operands
  mapped_c h i = rw (operands-two x h i)

  mapped_form : form_ok (mapped m x) 0 ≡ form_ok x 0
  unfolding form_ok
  mapped_form =
      by-arity x
      (λ h. rw (mapped-none m x h))
      (λ h i. rw (mapped_kind m x, mapped_c h i, ne_eqb x.kind 1 (λ q. omega arith), ne_eqb x.kind 2 (λ q. omega arith), lt-ltb x.kind 7 i))
      (λ h. rw (mapped_kind m x, ne_eqb x.kind 1 (λ q. omega arith), ne_eqb x.kind 2 (λ q. omega arith), le-ltb x.kind 7 h))

  -- rows 14 and 15 do not refuse its record
  module _ (form : form_ok x 0 ≡ true) where
    pub mapped-reads : read_record (normalized (node_bytes (mapped m x))) n ≡ (require (apart (operands (mapped m x))) 16 n >> answer (normal (mapped m x)))
    unfolding read_given node_bytes
    mapped-reads =
        given-rows (node_bytes (mapped m x)) n ∙ rw (node_of_bytes (mapped m x), mapped_form ∙ form, low_range (mapped m x) n mapped_low)

    -- its fields are small
    pub mapped-small : n ≤ 2016 → Bytes (node_bytes (mapped m x))
    mapped-small few =
        bytes_node (mapped m x) (fields_small (mapped m x) 0 n few (mapped_form ∙ form) (low_range (mapped m x) n mapped_low))

-- a row before what is only handed on
row_then : {A B : Type 0} (t : Bool) (number place : ℕ) (a : A) (next : A → Outcome B)
    → ((require t number place >> answer a) >>= next) ≡ (require t number place >> next a)
row_then true number place a next = refl
row_then false number place a next = refl

-- so add goes on to look its node up, or says 16
module _ (m : List ℕ) (x : Node) (k : ℕ) (qs : List Node) (l : Low x k) (form : form_ok x 0 ≡ true) (inside : (j : ℕ) → j < k → get_or m j 0 / 2 < length qs) where
  pub add-mapped : (buf : List ℕ) (used : ℕ) → used ≤ length buf → decode_used (take used buf) ≡ answer qs
      → add buf used (node_bytes (mapped m x)) ≡ (require (apart (operands (mapped m x))) 16 (length qs) >> add_node buf used qs (normal (mapped m x)))
  unfolding add
  add-mapped buf used h d =
      rw (le-leb used (length buf) h, d, mapped-reads m x k (length qs) l inside form)
      (row_then (apart (operands (mapped m x))) 16 (length qs) (normal (mapped m x)) (add_node buf used qs))
