-- Tables: a readable table is `encode` of its nodes, which are valid (`read_encodes`), and `encode` of valid nodes reads as them
-- (`encode-reads`). So a valid list has one table (`encode_one`). Assumes nothing.
use mathlib.Core.Path.{◌≡◌, ◌∙◌, ap, sym, refl}
use mathlib.Core.List.{List}
use mathlib.Core.Bool.{Bool, true, false, not}
use Prim.Native.Nat.{ℕ, zero, suc, ◌+◌, ◌-◌, ◌*◌, ◌/◌, ◌%◌, ◌<◌, ◌≤◌}
use native.Mathlib.Nat.{zero-add}
use native.Mathlib.Omega.{arith}
use lib.Dec.{eqb, lit<}
use lib.ListN.{length, get_or, drop, length-take, length-drop}
use borrow.Author.Tests.{not-true, eq-eqb, ne_eqb, le-leb}
use Rattle.scope.specs.declared.Node.{Node}
use Rattle.scope.specs.Outcome.{answer, fine, require, first, ◌>>◌}
use Rattle.scope.specs.Block.{block_test, block_at, record_at, records_in}
use Rattle.scope.specs.Table.{tables, node_bytes, node_of, order_ok, read_record, node_at, same_node, any_below, repeats, record_test, length_ok, block_rows, table_test, list_from, decode, encode}
use Rattle.scope.specs.Calls.{no_node}
use Rattle.scope.proofs.First.{all_fine, fine_each}
use Rattle.scope.proofs.Lists.{length_list_from, get_d_list_from, list_from_same}
use Rattle.scope.proofs.Tests.{and_both, or_left, or_right, then_first, then_next, required, met}
use Rattle.codec.specs.Valid.{Bytes, Fits, Valid}
use Rattle.codec.proofs.Rows.{row, passed_on}
use Rattle.codec.proofs.Bytes.{listed_all, bytes_take, bytes_drop}
use Rattle.codec.proofs.Blocks.{Passed}
use Rattle.codec.proofs.Files.{by_last, whole_length, file_is, tested, records-are, block_of_lem as record-block, length-file_of, file-blocks, file-count, file-passes, file-records, file-record, file-bytes}
use Rattle.codec.proofs.Records.{length-node_bytes, node_of_bytes, reads, record_bytes, small, bytes_node}

pub fits : Fits tables
fits = record { some = lit< tt; room = refl }

-- no number below n passes a test
module _ (p : ℕ → Bool) where
  none_below : (n m : ℕ) → any_below p n ≡ false → m < n → p m ≡ false
  unfolding any_below
  none_below zero m e h = absurd (omega arith)
  none_below (suc n) m e h =
      by_last m (suc n) h
      (λ q. let same : m ≡ n = omega arith in rw same (or_left (p n) (any_below p n) e))
      (λ l. none_below n m (or_right (p n) (any_below p n) e) (omega arith))

  below_none : (n : ℕ) → ((m : ℕ) → m < n → p m ≡ false) → any_below p n ≡ false
  unfolding any_below
  below_none zero h = refl
  below_none (suc n) h = rw (h n (omega arith)) (below_none n (λ m l. h m (omega arith)))

-- a length that passes row 10 is that of 1 to 32 whole blocks
pub whole-blocks : (n : ℕ) → length_ok n ≡ true → (0 < n / 512) × (n ≡ 512 * (n / 512)) × (n / 512 ≤ 32)
unfolding length_ok
whole-blocks = whole_length 32

-- a table that reads
module _ (t : List ℕ) (all : Bytes t) (test : table_test t ≡ fine) where
  pub length_ok_lem : (0 < length t / 512) × (length t ≡ 512 * (length t / 512)) × (length t / 512 ≤ 32)
  unfolding table_test
  length_ok_lem = whole-blocks (length t) (row (length_ok (length t)) 10 0 (first (block_rows t) 0 (length t / 512)) test).0

  pub rows : (j : ℕ) → j < length t / 512 → block_rows t j ≡ fine
  unfolding table_test
  rows j h = fine_each (block_rows t) (length t / 512) 0 (row (length_ok (length t)) 10 0 (first (block_rows t) 0 (length t / 512)) test).1 j (omega arith) (omega arith)

  pub pass : (j : ℕ) → j < length t / 512 → block_test tables (block_at t j) j (eqb (suc j) (length t / 512)) ≡ fine
  unfolding block_rows
  pass j h =
      then_first (block_test tables (block_at t j) j (eqb (suc j) (length t / 512))) (first (record_test t) (63 * j) (get_or (block_at t j) 1 0)) (rows j h)

  records : (j : ℕ) → j < length t / 512 → first (record_test t) (63 * j) (get_or (block_at t j) 1 0) ≡ fine
  unfolding block_rows
  records j h =
      then_next (block_test tables (block_at t j) j (eqb (suc j) (length t / 512))) (first (record_test t) (63 * j) (get_or (block_at t j) 1 0)) (rows j h)

  total : records_in tables t ≡ 63 * (length t / 512 - 1) + get_or (block_at t (length t / 512 - 1)) 1 0
  total = records-are tables fits t (length t / 512) length_ok_lem.1 length_ok_lem.0 pass

  last_tested : Passed tables (block_at t (length t / 512 - 1)) (length t / 512 - 1) (eqb (suc (length t / 512 - 1)) (length t / 512))
  last_tested = tested tables fits t (length t / 512) length_ok_lem.1 length_ok_lem.0 pass (length t / 512 - 1) (omega (arith, length_ok_lem.0))

  -- 1 to 2,016 records
  pub some-records : 0 < records_in tables t
  some-records = omega (arith, total, last_tested.some)

  pub few-records : records_in tables t ≤ 2016
  few-records = omega (arith, total, last_tested.most, length_ok_lem.2)

  -- the block of a record, and the record's place in it
  pub block_of_lem : (n : ℕ) → n < records_in tables t → (n / 63 < length t / 512) × (n < 63 * (n / 63) + get_or (block_at t (n / 63)) 1 0)
  block_of_lem = record-block tables fits t (length t / 512) length_ok_lem.1 length_ok_lem.0 pass

  -- every record was tested
  pub record_ok : (n : ℕ) → n < records_in tables t → record_test t n ≡ fine
  record_ok n h =
      let b = block_of_lem n h in
      fine_each (record_test t) (get_or (block_at t (n / 63)) 1 0) (63 * (n / 63)) (records (n / 63) b.0) n (omega arith) b.1

  pub record_reads : (n : ℕ) → n < records_in tables t → read_record (record_at tables t n) n ≡ answer (node_at t n)
  unfolding record_test
  record_reads n h =
      let p = passed_on (read_record (record_at tables t n) n) (require (not (repeats t n)) 17 n) (record_ok n h) in
      rw (reads (record_at tables t n) n p.1).node p.1

  pub no_repeat : (n : ℕ) → n < records_in tables t → (m : ℕ) → m < n → same_node (node_at t m) (node_at t n) ≡ false
  unfolding record_test repeats
  no_repeat n h m l =
      let p = passed_on (read_record (record_at tables t n) n) (require (not (repeats t n)) 17 n) (record_ok n h) in
      none_below (λ k. same_node (node_at t k) (node_at t n)) n m (not-true (repeats t n) (required (not (repeats t n)) 17 n p.2)) l

  -- and is the bytes of its node
  pub node_bytes_lem : (n : ℕ) → n < records_in tables t → node_bytes (node_at t n) ≡ record_at tables t n
  unfolding record_at
  node_bytes_lem n h =
      let size : length (record_at tables t n) ≡ 8 = simp (length-take, length-drop) (omega (arith, (block_of_lem n h).0, length_ok_lem.1)) in
      let place : ℕ = 512 * (n / 63) + (4 + 8 * (n % 63)) in
      sym (record_bytes (record_at tables t n) n size (bytes_take 8 (drop place t) (bytes_drop place t all)) (reads (record_at tables t n) n (record_reads n h)))

-- what a readable table answers
pub answers : (t : List ℕ) (rs : List Node) → decode t ≡ answer rs → (table_test t ≡ fine) × (rs ≡ list_from (node_at t) 0 (records_in tables t))
unfolding decode
answers t rs e =
    let nodes = then_next (table_test t) (answer (list_from (node_at t) 0 (records_in tables t))) e in
    (then_first (table_test t) (answer (list_from (node_at t) 0 (records_in tables t))) e, cc)

module _ (t : List ℕ) (rs : List Node) (all : Bytes t) (e : decode t ≡ answer rs) where
  -- a readable table is the encoding of its nodes
  pub read_encodes : t ≡ encode rs
  read_encodes =
      let a = answers t rs e in
      let ok = length_ok_lem t all a.0 in
      rw a.1 (file_is tables fits t (length t / 512) ok.1 ok.0 (pass t all a.0) all node_bytes (node_at t) (node_bytes_lem t all a.0))

  pub read_length : length rs ≡ records_in tables t
  read_length = rw (answers t rs e).1 (length_list_from (node_at t) (records_in tables t) 0)

  pub read-node : (n : ℕ) → n < length rs → get_or rs n no_node ≡ node_at t n
  read-node n h =
      rw (answers t rs e).1
      (get_d_list_from (node_at t) (records_in tables t) 0 n no_node (omega (arith, read_length)) ∙ ap (λ (k : ℕ). node_at t k) (zero-add n))

  -- .. which are valid
  pub read_valid : Valid rs
  read_valid =
      let test = (answers t rs e).0 in
      let n-in : (n : ℕ) → n < length rs → n < records_in tables t = λ n h. omega (arith, read_length) in
      record {
        some = rw read_length (some-records t all test);
        few = rw read_length (few-records t all test);
        each = λ n h. rw (read-node n h, node_bytes_lem t all test n (n-in n h)) (record_reads t all test n (n-in n h));
        once = λ m n l h. rw (read-node n h, read-node m (omega arith)) (no_repeat t all test n (n-in n h) m l);
      }

pub length-encode : (rs : List Node) → length (encode rs) ≡ 512 * ((length rs + 62) / 63)
length-encode rs = length-file_of tables fits node_bytes length-node_bytes rs

-- valid nodes
module _ (rs : List Node) (valid : Valid rs) where
  record_is : (n : ℕ) → n < length rs → record_at tables (encode rs) n ≡ node_bytes (get_or rs n no_node)
  record_is n h = file-record tables fits node_bytes length-node_bytes rs n no_node h

  node-is : (n : ℕ) → n < length rs → node_at (encode rs) n ≡ get_or rs n no_node
  node-is n h = ap node_of (record_is n h) ∙ node_of_bytes (get_or rs n no_node)

  record_fine : (n : ℕ) → n < length rs → record_test (encode rs) n ≡ fine
  unfolding record_test repeats
  record_fine n h =
      let none : repeats (encode rs) n ≡ false =
      below_none (λ m. same_node (node_at (encode rs) m) (node_at (encode rs) n)) n
      (λ m l. rw (node-is n h, node-is m (omega arith)) (valid.once m n l h)) in
      ap (◌>> require (not (repeats (encode rs) n)) 17 n) (ap (λ (r : List ℕ). read_record r n) (record_is n h) ∙ valid.each n h)
      ∙ met (not (repeats (encode rs) n)) 17 n (ap not none)

  rows-fine : (j : ℕ) → j < (length rs + 62) / 63 → block_rows (encode rs) j ≡ fine
  unfolding block_rows
  rows-fine j h =
      let count = file-count tables fits node_bytes length-node_bytes rs j h in
      rw (file-blocks tables fits node_bytes length-node_bytes rs, file-passes tables fits node_bytes length-node_bytes rs j h)
      (all_fine (record_test (encode rs)) (get_or (block_at (encode rs) j) 1 0) (63 * j)
      (λ k a b. record_fine k (omega (arith, simp (length-take, length-drop) at count))))

  length-fine : length_ok (length (encode rs)) ≡ true
  unfolding length_ok
  length-fine =
      let some = valid.some in
      let few = valid.few in
      let l = length-encode rs in
      and_both _ _ (ap not (ne_eqb (length (encode rs)) 0 (λ q. omega arith)))
      (and_both _ _ (eq-eqb (length (encode rs) % 512) 0 (omega arith)) (le-leb (length (encode rs)) 16384 (omega arith)))

  test_fine : table_test (encode rs) ≡ fine
  unfolding table_test
  test_fine =
      rw (length-fine, file-blocks tables fits node_bytes length-node_bytes rs)
      (all_fine (block_rows (encode rs)) ((length rs + 62) / 63) 0 (λ j a b. rows-fine j (omega arith)))

  -- their encoding reads as them
  pub encode-reads : decode (encode rs) ≡ answer rs
  unfolding decode
  encode-reads =
      let nodes : list_from (node_at (encode rs)) 0 (length rs) ≡ rs =
      list_from_same (node_at (encode rs)) (λ i. get_or rs i no_node) (length rs) 0 (λ k a b. node-is k (omega arith)) ∙ sym (listed_all no_node rs) in
      rw (test_fine, file-records tables fits node_bytes length-node_bytes rs valid.some) (ap answer nodes)

  -- every node has its operands in the fixed order
  pub valid_ordered : (n : ℕ) → n < length rs → order_ok (get_or rs n no_node) ≡ true
  valid_ordered n h = (reads (node_bytes (get_or rs n no_node)) n (valid.each n h)).order

  -- the encoding is bytes
  pub encode_bytes : Bytes (encode rs)
  encode_bytes =
      let few = valid.few in
      file-bytes tables fits node_bytes length-node_bytes (lit< tt) (lit< tt) no_node rs (omega arith)
      (λ n h. bytes_node (get_or rs n no_node) (small (node_bytes (get_or rs n no_node)) n (omega arith) (reads (node_bytes (get_or rs n no_node)) n (valid.each n h))))

-- a valid list has one table
pub encode_one : (rs qs : List Node) → Valid rs → Valid qs → encode rs ≡ encode qs → rs ≡ qs
encode_one rs qs v w e =
    let p : decode (encode rs) ≡ answer rs = encode-reads rs v in
    let q : decode (encode qs) ≡ answer qs = encode-reads qs w in
    let r : decode (encode rs) ≡ decode (encode qs) = ap decode e in
    let s : answer rs ≡ answer qs = sym p ∙ r ∙ q in
    cc
