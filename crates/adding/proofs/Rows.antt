-- The rows of add, as its code meets them. Assumes nothing.
use mathlib.Core.Path.{◌≡◌, ◌∙◌, ap, sym, refl}
use mathlib.Core.Bool.{true}
use mathlib.Core.List.{List, []}
use Prim.Native.Nat.{ℕ, ◌<◌, ◌≤◌}
use native.Mathlib.Nat.{zero-add}
use native.Mathlib.Omega.{arith}
use lib.Dec.{eqb, ltb}
use lib.ListN.{length, get_or, take}
use borrow.Author.Tests.{lt-leb, le-leb, ltb-true, ltb-false}
use Rattle.std.specs.Prelude.{Result}
use Rattle.scope.specs.declared.Node.{Node}
use Rattle.scope.specs.declared.Refusal.{Refusal}
use Rattle.scope.specs.Outcome.{Outcome, answer, refused, ◌>>=◌}
use Rattle.scope.specs.Block.{records_in}
use Rattle.scope.specs.Table.{tables, node_bytes, range_ok, node_at, read_record, list_from}
use Rattle.scope.specs.Calls.{no_node, decode_used, normalized, add_node, add, bytes_after}
use Rattle.scope.proofs.Tests.{bound, passed_on}
use Rattle.scope.proofs.Lists.{length_list_from, get_d_list_from}
use Rattle.codec.specs.Valid.{Bytes, Valid}
use Rattle.codec.proofs.Rows.{by_test}
use Rattle.codec.proofs.Records.{reads}
use Rattle.codec.proofs.Tables.{answers}
use Rattle.codec.proofs.Used.{used_encodes}
use Rattle.adding.specs.declared.Mark.{Mark}
use Rattle.adding.specs.Added.{added_of, marked, used_count, used_nodes, Ready}

module _ (buf : List ℕ) (used : ℕ) (r : List ℕ) where
  -- the answer and the bytes are those of add
  abbrev Answers : Result Mark Refusal → List ℕ → Type 0
  Answers v after = (added_of v ≡ marked (add buf used r)) × (after ≡ bytes_after buf (add buf used r))

  pub refuses : {number place : ℕ} (v : Result Mark Refusal) → added_of v ≡ refused number place → add buf used r ≡ refused number place → Answers v buf
  refuses v p e = (p ∙ sym (ap marked e), sym (ap (bytes_after buf) e))

  -- row 9
  pub row_9 : length buf < used → add buf used r ≡ refused 9 0
  unfolding add
  row_9 h = rw (lt-leb used (length buf) h)

  module _ (within : used ≤ length buf) where
    -- the rows of the used part
    pub used-rows : {number place : ℕ} → used_count (take used buf) ≡ refused number place → add buf used r ≡ refused number place
    unfolding add
    used-rows e =
        rw (le-leb used (length buf) within)
        (passed_on (decode_used (take used buf)) length (λ rs. read_record (normalized r) (length rs) >>= λ x. add_node buf used rs x) e)

    -- the used part reads
    module _ (rs : List Node) (d : decode_used (take used buf) ≡ answer rs) where
      -- rows 14 to 16 of the record given
      pub record-rows : {number place : ℕ} → read_record (normalized r) (length rs) ≡ refused number place → add buf used r ≡ refused number place
      unfolding add
      record-rows e = rw (le-leb used (length buf) within, d, e)

      pub add_is : {x : Node} → read_record (normalized r) (length rs) ≡ answer x → add buf used r ≡ add_node buf used rs x
      unfolding add
      add_is e = rw (le-leb used (length buf) within, d, e)

-- the nodes of a used part whose count was answered
module _ (buf : List ℕ) (used n : ℕ) (e : used_count (take used buf) ≡ answer n) where
  read : (rs : List Node) × (decode_used (take used buf) ≡ answer rs) × (◌≡◌ {A = Outcome ℕ} (answer (length rs)) (answer n))
  read = bound (decode_used (take used buf)) (λ rs. answer (length rs)) e

  count : length read.0 ≡ n
  count = cc read.2

  nodes : read.0 ≡ used_nodes buf used n
  unfolding decode_used list_from
  nodes =
      by_test (eqb (length (take used buf)) 0)
      (λ t.
      let q : ◌≡◌ {A = Outcome (List Node)} (answer []) (answer read.0) = rw t at read.1 in
      let none : [] ≡ read.0 = cc in
      let zero : 0 ≡ n = ap length none ∙ count in
      sym none ∙ rw (← zero) refl)
      (λ t.
      let a = answers (take used buf) read.0 (rw t at read.1) in
      let same : records_in tables (take used buf) ≡ n =
      sym (length_list_from (node_at (take used buf)) (records_in tables (take used buf)) 0) ∙ ap length (sym a.1) ∙ count in
      a.1 ∙ ap (list_from (node_at (take used buf)) 0) same)

  pub used_nodes_lem : decode_used (take used buf) ≡ answer (used_nodes buf used n)
  used_nodes_lem = read.1 ∙ ap answer nodes

  pub used_count_lem : length (used_nodes buf used n) ≡ n
  used_count_lem = length_list_from (node_at (take used buf)) n 0

  -- each node's operands are of earlier ones
  low : (0 < length (used_nodes buf used n) → Valid (used_nodes buf used n)) → (m : ℕ) → m < n → range_ok (node_at (take used buf) m) m ≡ true
  low valid m h =
      let here : get_or (used_nodes buf used n) m no_node ≡ node_at (take used buf) m =
      rw zero-add at (get_d_list_from (node_at (take used buf)) n 0 m no_node h) in
      let y : Node = get_or (used_nodes buf used n) m no_node in
      let e = (reads (node_bytes y) m ((valid (omega (arith, used_count_lem))).each m (omega (arith, used_count_lem)))).range in
      rw here at e

  pub ready : used ≤ length buf → Bytes (take used buf) → Ready buf used n
  ready h all =
      let u = used_encodes (take used buf) (used_nodes buf used n) all used_nodes_lem in
      let most : n ≤ 2016 =
      by_test (ltb 0 n)
      (λ t. omega (arith, (u.1 (omega (arith, ltb-true 0 n t, used_count_lem))).few, used_count_lem))
      (λ t. omega (arith, ltb-false 0 n t)) in
      record { within = h; few = most; table = u.0; low = low u.1 }
