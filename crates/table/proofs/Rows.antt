-- The rows of a table as its loops meet them: a record's, a block's, then the answers of the calls. Assumes nothing.
use mathlib.Core.Path.{◌≡◌, ◌∙◌, ap, sym, refl}
use mathlib.Core.List.{List}
use mathlib.Core.Bool.{true, false, not}
use Rattle.std.specs.Prelude.{Result}
use Prim.Native.Nat.{ℕ, suc, ◌+◌, ◌-◌, ◌*◌, ◌/◌, ◌<◌, ◌≤◌}
use native.Mathlib.Nat.{add-sub_cancel_left, zero-add}
use native.Mathlib.Omega.{arith}
use lib.Dec.{eqb, ltb, lit<, lit≤}
use lib.ListN.{length, get_or}
use borrow.Author.Tests.{ne_eqb, eqb-true, lt-ltb, le-ltb}
use Rattle.scope.specs.declared.Format.{Format}
use Rattle.scope.specs.declared.Node.{Node}
use Rattle.scope.specs.declared.Refusal.{Refusal}
use Rattle.scope.specs.Outcome.{Outcome, answer, refused, fine, verdict_of, first, require, ◌>>◌}
use Rattle.scope.specs.Block.{block_test, block_at, record_at, records_in}
use Rattle.scope.specs.Table.{tables, node_at, form_ok, read_record, repeats, record_test, length_ok, block_rows, table_test, list_from, decode}
use Rattle.scope.specs.Calls.{table_count, table_record, no_node}
use Rattle.scope.proofs.Tests.{refused_no, then_first, bound, passed_on}
use Rattle.scope.proofs.Lists.{length_list_from, get_d_list_from}
use Rattle.scope.proofs.Records.{count_at}
use Rattle.block.specs.Format.{Fitting}
use Rattle.codec.specs.Valid.{Bytes}
use Rattle.codec.proofs.Rows.{both}
use Rattle.codec.proofs.Records.{reads, reading}
use Rattle.codec.proofs.Blocks.{passed}
use Rattle.codec.proofs.Tables.{answers, length_ok_lem, block_of_lem}
use Rattle.record.specs.Place.{place_of}
use Rattle.record.specs.Halves.{double_at, Passes}
use Rattle.repeats.specs.Chains.{Plain, Chains}
use Rattle.repeats.proofs.Keys.{byte_at, halves_node_lem, halves_one}
use Rattle.table.specs.Counted.{Tested}
use Rattle.table.specs.Own.{own_rows}

-- a refusal is the verdict of the tests, and nothing is said of the chains
pub refuses : (t c : List ℕ) (v : Result (Unit {0}) Refusal) (tests : Outcome (Unit {0})) (n : ℕ) {number place : ℕ}
    → verdict_of v ≡ refused number place → tests ≡ refused number place → Tested t c v tests n
refuses t c v tests n e q = record { verdict = e ∙ sym q; entered = λ z. refused_no (sym e ∙ z) }

-- the rows of record n: its refusal; 17; none
module _ (t : List ℕ) (n : ℕ) where
  pub row_refused : {number place : ℕ} → own_rows t n ≡ refused number place → record_test t n ≡ refused number place
  unfolding record_test
  row_refused e = go (read_record (record_at tables t n) n) e
    where
      go : {number place : ℕ} (o : Outcome Node) → (o >> fine) ≡ refused number place → (o >> require (not (repeats t n)) 17 n) ≡ refused number place
      go (answer x) e = refused_no (sym e)
      go (refused number place) e = cc

  -- a record that reads is a node
  pub reads_own : own_rows t n ≡ fine → (x : Node) × (read_record (record_at tables t n) n ≡ answer x)
  reads_own e = go (read_record (record_at tables t n) n) e
    where
      go : (o : Outcome Node) → (o >> fine) ≡ fine → (x : Node) × (o ≡ answer x)
      go (answer x) e = (x, refl)
      go (refused number place) e = refused_no e

  pub row_repeat : own_rows t n ≡ fine → repeats t n ≡ true → record_test t n ≡ refused 17 n
  unfolding record_test
  row_repeat e q = rw ((reads_own e).1, q)

  pub row_fine : own_rows t n ≡ fine → repeats t n ≡ false → record_test t n ≡ fine
  unfolding record_test
  row_fine e q = rw ((reads_own e).1, q)

  -- byte 1 of a record that reads is 0
  pub own_plain : own_rows t n ≡ fine → Plain t n
  unfolding form_ok
  own_plain e =
      let r = record_at tables t n in
      let p = reads r n (reads_own e).1 in
      sym (byte_at t n 1 (lit< tt)) ∙ eqb-true (get_or r 1 0) 0 (both (eqb (get_or r 1 0) 0) _ p.form).0

  -- the quick test lets only records pass that read
  pub own_passes : Bytes t → Passes (double_at t (place_of n)) (double_at t (place_of n + 4)) n → fine ≡ own_rows t n
  own_passes b p =
      let r = record_at tables t n in
      let x = halves_node_lem t n b in
      let e : read_record r n ≡ answer (node_at t n) =
      reading r n (record { node = refl; form = rw (x, halves_one t n b) at p.form; range = rw x at p.range; order = rw x at p.order }) in
      rw e

pub fitting : (F : Format) → F ≡ tables → Fitting F
fitting F e = rw e (record { room = lit≤ tt; numbered = lit< tt })

-- block j: its test
module _ (t : List ℕ) (j : ℕ) where
  abbrev pub BlockTest : Outcome (Unit {0})
  BlockTest = block_test tables (block_at t j) j (eqb (suc j) (length t / 512))

  -- how large the count is that the block states
  pub count_most : BlockTest ≡ fine → get_or t (512 * j + 1) 0 ≤ 63
  count_most e = rw count_at at (passed tables (block_at t j) j (eqb (suc j) (length t / 512)) e).most

  -- every block but the last is full
  pub count_full : BlockTest ≡ fine → suc j < length t / 512 → get_or (block_at t j) 1 0 ≡ 63
  count_full e h =
      let q : eqb (suc j) (length t / 512) ≡ false = ne_eqb (suc j) (length t / 512) (λ z. omega arith) in
      eqb-true (get_or (block_at t j) 1 0) 63 (rw q at (passed tables (block_at t j) j (eqb (suc j) (length t / 512)) e).full)

  -- the records of a block lie within the table
  pub within : (n : ℕ) → 512 * j + 512 ≤ length t → n < 63 * j + 63 → place_of n + 8 ≤ length t
  within n h l = omega arith

  -- the block's own refusal, or what its records say
  pub block_refused : {number place : ℕ} → BlockTest ≡ refused number place → block_rows t j ≡ refused number place
  unfolding block_rows
  block_refused e = rw e

  pub block_fine : BlockTest ≡ fine → block_rows t j ≡ first (record_test t) (63 * j) (get_or (block_at t j) 1 0)
  unfolding block_rows
  block_fine e = rw e

  pub block_entered : (c : List ℕ) (v : Result (Unit {0}) Refusal) (k : ℕ) → BlockTest ≡ fine → k ≡ get_or t (512 * j + 1) 0
      → Tested t c v (first (record_test t) (63 * j) (63 * j + k - 63 * j)) (63 * j + k)
      → Tested t c v (block_rows t j) (63 * j + get_or (block_at t j) 1 0)
  block_entered c v k e q h =
      let s : get_or (block_at t j) 1 0 ≡ k = count_at t j ∙ sym q in
      rw (block_fine e, s) (simp add-sub_cancel_left at h)

  -- the nodes of a full block are those before the next one
  pub next_block : (c : List ℕ) → block_rows t j ≡ fine → Chains t c (63 * j + get_or (block_at t j) 1 0) → j + 1 < length t / 512
      → Chains t c (63 * (j + 1))
  unfolding block_rows
  next_block c e h l =
      let q : 63 * j + get_or (block_at t j) 1 0 ≡ 63 * (j + 1) = omega (arith, count_full (then_first BlockTest _ e) (omega arith)) in
      rw q at h

-- the whole table: row 10, or what its blocks say
module _ (t : List ℕ) where
  pub table_refused : length_ok (length t) ≡ false → table_test t ≡ refused 10 0
  unfolding table_test
  table_refused e = rw e

  pub table_rows : length_ok (length t) ≡ true → table_test t ≡ first (block_rows t) 0 (length t / 512)
  unfolding table_test
  table_rows e = rw e

-- what the calls answer
module _ (t : List ℕ) where
  pub count_refused : {number place : ℕ} → table_test t ≡ refused number place → table_count t ≡ refused number place
  unfolding table_count decode
  count_refused e = rw e

  pub count-fine : table_test t ≡ fine → table_count t ≡ answer (records_in tables t)
  unfolding table_count decode
  count-fine e = rw e (ap answer (length_list_from (node_at t) (records_in tables t) 0))

  -- a count that was answered is that of a table that reads
  pub counted : {n : ℕ} → table_count t ≡ answer n → (table_test t ≡ fine) × (n ≡ records_in tables t)
  unfolding table_count
  counted {n} e =
      let b = bound (decode t) (λ rs. answer (length rs)) e in
      let a = answers t b.0 b.1 in
      let same : length b.0 ≡ n = cc b.2 in
      (a.0, sym same ∙ ap length a.1 ∙ length_list_from (node_at t) (records_in tables t) 0)

  -- the record of a literal: a refusal of the count; 20; the record
  module _ (l : ℕ) where
    pub literal_refused : {number place : ℕ} → table_count t ≡ refused number place → table_record t l ≡ refused number place
    unfolding table_record table_count
    literal_refused e = passed_on (decode t) length (λ rs. require (ltb l (2 * length rs)) 20 0 >> answer (get_or rs (l / 2) no_node)) e

    -- the nodes of a table that reads
    nodes : table_test t ≡ fine → decode t ≡ answer (list_from (node_at t) 0 (records_in tables t))
    unfolding decode
    nodes e = rw e

    pub literal-over : table_test t ≡ fine → 2 * records_in tables t ≤ l → table_record t l ≡ refused 20 0
    unfolding table_record
    literal-over e h = rw (nodes e, length_list_from (node_at t) (records_in tables t) 0, le-ltb l (2 * records_in tables t) h)

    pub literal_node : table_test t ≡ fine → l < 2 * records_in tables t → table_record t l ≡ answer (node_at t (l / 2))
    unfolding table_record
    literal_node e h =
        rw (nodes e, length_list_from (node_at t) (records_in tables t) 0, lt-ltb l (2 * records_in tables t) h)
        (ap answer (get_d_list_from (node_at t) (records_in tables t) 0 (l / 2) no_node (omega arith) ∙ ap (λ (n : ℕ). node_at t n) (zero-add (l / 2))))

  -- a record of a table that reads lies within it
  pub record_within : Bytes t → table_test t ≡ fine → (n : ℕ) → n < records_in tables t → place_of n + 8 ≤ length t
  record_within all e n h = omega (arith, (length_ok_lem t all e).1, (block_of_lem t all e n h).0)
