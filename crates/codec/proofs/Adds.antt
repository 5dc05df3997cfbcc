-- Add: the table reads back with the node in it (`add-reads_back`), so does a list of adds (`adds_read_back`), the same record again
-- answers the same (`add_again`), and the records of a readable table without kind 5, added in turn, rebuild it byte for byte, node n answering 2n
-- (`rebuilds`). Assumes nothing.
use mathlib.Core.Path.{◌≡◌, ◌∙◌, ap, sym, refl, subst}
use mathlib.Core.List.{List, [], ◌∷◌, ◌++◌, append_assoc, append-nil, map}
use mathlib.Core.Bool.{true}
use Prim.Native.Nat.{ℕ, suc, ◌+◌, ◌*◌, ◌/◌, ◌<◌, ◌≤◌}
use native.Mathlib.Omega.{arith}
use lib.Dec.{leb, ltb}
use lib.ListN.{length, get_or, take, drop, length-append, drop_of_length-le, get_or-append}
use lib.Seq.{get_or-append_seam}
use borrow.Author.Tests.{leb-true, ltb-true, ltb-false, le-leb, lt-ltb, le-ltb}
use Rattle.scope.specs.declared.Node.{Node}
use Rattle.scope.specs.Outcome.{Outcome, answer, require, ◌>>◌, ◌>>=◌}
use Rattle.scope.specs.Table.{node_bytes, node_of, read_record, order_ok, list_from, decode, encode}
use Rattle.scope.specs.Calls.{no_node, decode_used, normal, normalized, index_of, Added, written, add_new, add_node, add}
use Rattle.scope.proofs.Tests.{bound}
use Rattle.codec.specs.Valid.{Bytes, Valid, with_node, ReadsBack, Built, and_then, add_all, Records, NoImp, node_given, with_all, AllBack}
use Rattle.codec.proofs.Rows.{row, by_test}
use Rattle.codec.proofs.Bytes.{bytes_append, bytes_drop, bytes_take}
use Rattle.codec.proofs.Records.{reads, record_bytes, later}
use Rattle.codec.proofs.Tables.{read_encodes, read_valid, length-encode, encode-reads, encode_bytes}
use Rattle.codec.proofs.Nodes.{index_none, index_last, index_at, valid_more, valid_front, with_found, with_more, with_in, all_keep}
use Rattle.codec.proofs.Used.{encode-none, used_reads, table_used, used_encodes, encode_used, written_used, written_beyond, written-length, written_over}
use Rattle.codec.proofs.Normal.{normal_kind, normal_same, normalized-length, normalized-node, normalized_bytes, bytes_normalized}

-- the node that add answers has its operands in the fixed order
pub add-ordered : (r : List ℕ) (n : ℕ) {x : Node} → read_record (normalized r) n ≡ answer x → order_ok x ≡ true
add-ordered r n e = (reads (normalized r) n e).order

-- what an add that answers has met
record Met (buf : List ℕ) (used : ℕ) (r : List ℕ) (rs : List Node) (out : Added) : Type 0 where
  inside : used ≤ length buf
  x : Node
  node : read_record (normalized r) (length rs) ≡ answer x
  done : add_node buf used rs x ≡ answer out

met : (buf : List ℕ) (used : ℕ) (r : List ℕ) (rs : List Node) (out : Added)
    → decode_used (take used buf) ≡ answer rs → add buf used r ≡ answer out → Met buf used r rs out
unfolding add
met buf used r rs out d e =
    let a = row (leb used (length buf)) 9 0 (decode_used (take used buf) >>= λ rs. read_record (normalized r) (length rs) >>= λ x. add_node buf used rs x) e in
    let b = bound (read_record (normalized r) (length rs)) (λ x. add_node buf used rs x) (rw d at a.1) in
    record { inside = leb-true used (length buf) a.0; x = b.0; node = b.1; done = b.2 }

-- .. and before that the used part was read
pub nodes_of : (buf : List ℕ) (used : ℕ) (r : List ℕ) (out : Added) → add buf used r ≡ answer out → (rs : List Node) × (decode_used (take used buf) ≡ answer rs)
unfolding add
nodes_of buf used r out e =
    let next : List Node → Outcome Added = λ rs. read_record (normalized r) (length rs) >>= λ x. add_node buf used rs x in
    let a = row (leb used (length buf)) 9 0 (decode_used (take used buf) >>= next) e in
    let b = bound (decode_used (take used buf)) next a.1 in
    (b.0, b.1)

-- the two answers of add
abbrev pub found : List ℕ → ℕ → List Node → Node → Added
found buf used rs x = record { literal = 2 * index_of x rs; used = used; bytes = buf }

abbrev pub more : List ℕ → List Node → Node → Added
more buf rs x =
    record { literal = 2 * length rs; used = length (encode (rs ++ x ∷ [])); bytes = written (encode (rs ++ x ∷ [])) buf }

-- a proof by the two answers
pub by-add : {P : Type 0} (buf : List ℕ) (used : ℕ) (rs : List Node) (x : Node) (out : Added) → add_node buf used rs x ≡ answer out
    → (index_of x rs < length rs → found buf used rs x ≡ out → P)
    → (length rs ≤ index_of x rs → length rs < 2016 → length (encode (rs ++ x ∷ [])) ≤ length buf → more buf rs x ≡ out → P)
    → P
unfolding add_node add_new
by-add buf used rs x out e f g =
    by_test (ltb (index_of x rs) (length rs))
    (λ t.
    let q : ◌≡◌ {A = Outcome Added} (answer (found buf used rs x)) (answer out) = rw t at e in
    f (ltb-true (index_of x rs) (length rs) t) (cc))
    (λ t.
    let fits = row (leb (length (encode (rs ++ x ∷ []))) (length buf)) 52 (length rs) (answer (more buf rs x)) in
    let few = row (ltb (length rs) 2016) 51 (length rs) (require (leb (length (encode (rs ++ x ∷ []))) (length buf)) 52 (length rs) >> answer (more buf rs x)) (rw t at e) in
    let q : ◌≡◌ {A = Outcome Added} (answer (more buf rs x)) (answer out) = (fits few.1).1 in
    g (ltb-false (index_of x rs) (length rs) t) (ltb-true (length rs) 2016 few.0) (leb-true (length (encode (rs ++ x ∷ []))) (length buf) (fits few.1).0) (cc))

-- add, where the used part reads as rs and the record as x
module _ (buf : List ℕ) (used : ℕ) (r : List ℕ) (rs : List Node) (x : Node)
    (inside : used ≤ length buf) (d : decode_used (take used buf) ≡ answer rs) (e : read_record (normalized r) (length rs) ≡ answer x) where
  pub add_found : index_of x rs < length rs → add buf used r ≡ answer (found buf used rs x)
  unfolding add add_node
  add_found here = rw (le-leb used (length buf) inside, d, e, lt-ltb (index_of x rs) (length rs) here)

  pub add_more : length rs ≤ index_of x rs → length rs < 2016 → length (encode (rs ++ x ∷ [])) ≤ length buf → add buf used r ≡ answer (more buf rs x)
  unfolding add add_node add_new
  add_more new few fits =
      rw (le-leb used (length buf) inside, d, e, le-ltb (index_of x rs) (length rs) new, lt-ltb (length rs) 2016 few, le-leb (length (encode (rs ++ x ∷ []))) (length buf) fits)

-- the node of a literal
node_of_lem : (n : ℕ) → 2 * n / 2 ≡ n
node_of_lem n = omega arith

module _ (buf : List ℕ) (used : ℕ) (r : List ℕ) (all : Bytes buf) (eight : length r ≡ 8) (bytes : Bytes r) where
  -- the record that is added is the bytes of its node
  new_node : (n : ℕ) {x : Node} → read_record (normalized r) n ≡ answer x → read_record (node_bytes x) n ≡ answer x
  new_node n {x} e =
      rw (record_bytes (normalized r) n (normalized-length r) (bytes_normalized r bytes) (reads (normalized r) n e)) at e

  held : (rs : List Node) → decode_used (take used buf) ≡ answer rs → 0 < length rs → Valid rs
  held rs d = (used_encodes (take used buf) rs (bytes_take used buf all) d).1

  -- the nodes, after a new one
  more_valid : (rs : List Node) {x : Node} → decode_used (take used buf) ≡ answer rs → read_record (normalized r) (length rs) ≡ answer x
      → length rs ≤ index_of x rs → length rs < 2016 → Valid (rs ++ x ∷ [])
  more_valid rs {x} d e new few = valid_more rs x (held rs d) few (new_node (length rs) e) new

  -- the table reads back, with the node
  back : (rs : List Node) (x : Node) (out : Added) → decode_used (take used buf) ≡ answer rs → read_record (normalized r) (length rs) ≡ answer x
      → add_node buf used rs x ≡ answer out → ReadsBack buf rs x out
  back rs x out d n e =
      by-add buf used rs x out e
      (λ here q.
      let table = (used_encodes (take used buf) rs (bytes_take used buf all) d).0 in
      let some : 0 < length (take used buf) = rw table (omega (arith, length-encode rs)) in
      rw (← q)
      (record {
        table = rw (with_found rs x here) (sym (used_reads (take used buf) some) ∙ d);
        literal = rw (with_found rs x here);
        node = rw (with_found rs x here, node_of_lem) (index_at x rs here);
        beyond = refl;
      }))
      (λ new few fits q.
      rw (← q)
      (record {
        table = rw (with_more rs x new, written_used (encode (rs ++ x ∷ [])) buf) (encode-reads (rs ++ x ∷ []) (more_valid rs d n new few));
        literal = rw (with_more rs x new, index_last x rs new);
        node = rw (with_more rs x new, node_of_lem) (get_or-append_seam rs x [] no_node);
        beyond = written_beyond (encode (rs ++ x ∷ [])) buf;
      }))

  pub add-reads_back : (rs : List Node) (out : Added) → decode_used (take used buf) ≡ answer rs → add buf used r ≡ answer out
      → (x : Node) × (read_record (normalized r) (length rs) ≡ answer x) × ReadsBack buf rs x out
  add-reads_back rs out d e =
      let p = met buf used r rs out d e in
      (p.x, p.node, back rs p.x out d p.node p.done)

  -- 'the record added is then that OR, and an old kind 5 record is not found again': the literal is of the node that is looked up for
  -- the record given, which is of another kind
  pub add_retired : (rs qs : List Node) (out : Added) → decode_used (take used buf) ≡ answer rs → add buf used r ≡ answer out
      → decode (take out.used out.bytes) ≡ answer qs → (get_or qs (out.literal / 2) no_node ≡ node_given r) × ((node_given r).kind ≡ 5 → ⊥)
  add_retired rs qs out d e now =
      let (x, node, back) = add-reads_back rs out d e in
      let is : node_given r ≡ x = sym (normalized-node r) ∙ (reads (normalized r) (length rs) node).node in
      let same : with_node rs x ≡ qs = (let q : answer (with_node rs x) ≡ answer qs = sym back.table ∙ now in cc) in
      (rw (← same, is) back.node, normal_kind (node_of r))

  -- the buffer still holds bytes
  pub add_bytes : (out : Added) → add buf used r ≡ answer out → Bytes out.bytes
  add_bytes out e =
      let (rs, d) = nodes_of buf used r out e in
      let p = met buf used r rs out d e in
      let t : List ℕ = encode (rs ++ p.x ∷ []) in
      by-add buf used rs p.x out p.done
      (λ here q. subst (λ (o : Added). Bytes o.bytes) q all)
      (λ new few fits q.
      subst (λ (o : Added). Bytes o.bytes) q
      (bytes_append t (drop (length t) buf) (encode_bytes (rs ++ p.x ∷ []) (more_valid rs d p.node new few)) (bytes_drop (length t) buf all)))

  -- the same record again: the same answer, and no byte changes
  pub add_again : (out : Added) → add buf used r ≡ answer out → add out.bytes out.used r ≡ answer out
  add_again out e =
      let (rs, d) = nodes_of buf used r out e in
      let p = met buf used r rs out d e in
      let x : Node = p.x in
      let t : List ℕ = encode (rs ++ x ∷ []) in
      by-add buf used rs x out p.done
      (λ here q. rw (← q) (e ∙ ap answer (sym q)))
      (λ new few fits q.
      let size : length (rs ++ x ∷ []) ≡ length rs + 1 = length-append rs (x ∷ []) in
      let reads-again : decode_used (take (length t) (written t buf)) ≡ answer (rs ++ x ∷ []) =
      rw (written_used t buf) (encode_used (rs ++ x ∷ []) (λ some. more_valid rs d p.node new few)) in
      rw (← q)
      (add_found (written t buf) (length t) r (rs ++ x ∷ []) x
      (omega (arith, written-length t buf fits))
      reads-again
      (later (normalized r) (length rs) (length (rs ++ x ∷ [])) (omega arith) p.node)
      (omega (arith, index_last x rs new))
      ∙ rw (index_last x rs new)))

-- a list of adds: the table reads back with their nodes, each once, and every answer is the literal of its node
pub adds_read_back : (given : List (List ℕ)) (buf : List ℕ) (used : ℕ) (rs : List Node) (b : Built) → Bytes buf → Records given
    → decode_used (take used buf) ≡ answer rs → add_all buf used given ≡ answer b → AllBack rs given b
unfolding add_all with_all
adds_read_back [] buf used rs b all eight d e =
    let q : record { literals = []; used = used; bytes = buf } ≡ b = cc in
    rw (← q) (record { table = d; literals = refl })
adds_read_back (r ∷ given) buf used rs b all eight d e =
    let (out, a, rest) = bound (add buf used r) (λ out. add_all out.bytes out.used given >>= λ b. answer (and_then out b)) e in
    let (last, ls, q) = bound (add_all out.bytes out.used given) (λ b. answer (and_then out b)) rest in
    let (x, node, back) = add-reads_back buf used r all eight.0 eight.1 rs out d a in
    let is : node_given r ≡ x = sym (normalized-node r) ∙ (reads (normalized r) (length rs) node).node in
    let bytes = add_bytes buf used r all eight.0 eight.1 out a in
    let now : decode_used (take out.used out.bytes) ≡ answer (with_node rs (node_given r)) =
    rw is (table_used (take out.used out.bytes) (with_node rs x) (bytes_take out.used out.bytes bytes) back.table) in
    let more = adds_read_back given out.bytes out.used (with_node rs (node_given r)) last bytes eight.2 now ls in
    let stays = all_keep given (with_node rs (node_given r)) (node_given r) (with_in rs (node_given r)) in
    let first : out.literal ≡ 2 * index_of (node_given r) (with_all (with_node rs (node_given r)) given) = rw (stays, is) back.literal in
    let p : and_then out last ≡ b = cc in
    rw (← p) (record { table = more.table; literals = λ i. first i ∷ more.literals i })

-- rebuilding
module _ (o : List ℕ) where
  -- one record of valid nodes, added to those before it
  add_next : (ps : List Node) (q : Node) (qs : List Node) → Valid (ps ++ q ∷ qs) → (q.kind ≡ 5 → ⊥) → length (encode (ps ++ q ∷ [])) ≤ length o
      → add (written (encode ps) o) (length (encode ps)) (node_bytes q) ≡ answer (more (written (encode ps) o) ps q)
  add_next ps q qs valid other fits =
      let here : get_or (ps ++ q ∷ qs) (length ps) no_node ≡ q = get_or-append_seam ps q qs no_node in
      let size : length (ps ++ q ∷ qs) ≡ length ps + suc (length qs) = length-append ps (q ∷ qs) in
      let few = valid.few in
      let node : read_record (node_bytes q) (length ps) ≡ answer q = rw here at (valid.each (length ps) (omega arith)) in
      let same : normal q ≡ q = normal_same q other (reads (node_bytes q) (length ps) node).order in
      let new : index_of q ps ≡ length ps =
      index_none q ps (λ m l. rw (here, get_or-append ps (q ∷ qs) no_node m l) at (valid.once m (length ps) l (omega arith))) in
      let less : length (encode ps) ≤ length o = omega (arith, length-encode ps, length-encode (ps ++ q ∷ []), length-append ps (q ∷ [])) in
      add_more (written (encode ps) o) (length (encode ps)) (node_bytes q) ps q
      (omega (arith, written-length (encode ps) o less))
      (rw (written_used (encode ps) o) (encode_used ps (valid_front ps (q ∷ qs) valid)))
      (rw (normalized_bytes q, same) node)
      (omega arith)
      (omega arith)
      (omega (arith, written-length (encode ps) o less))

  rebuild : (qs ps : List Node) → Valid (ps ++ qs) → NoImp qs → length (encode (ps ++ qs)) ≤ length o
      → add_all (written (encode ps) o) (length (encode ps)) (map node_bytes qs) ≡ answer (record {
        literals = list_from (λ n. 2 * n) (length ps) (length qs);
        used = length (encode (ps ++ qs));
        bytes = written (encode (ps ++ qs)) o;
      })
  unfolding add_all list_from
  rebuild [] ps valid other fits = rw append-nil
  rebuild (q ∷ qs) ps valid other fits =
      let whole : ps ++ q ∷ qs ≡ ps ++ q ∷ [] ++ qs = sym (append_assoc ps (q ∷ []) qs) in
      let less : length (encode (ps ++ q ∷ [])) ≤ length o =
      omega (arith, length-encode (ps ++ q ∷ []), length-encode (ps ++ q ∷ qs), length-append ps (q ∷ []), length-append ps (q ∷ qs)) in
      let over : written (encode (ps ++ q ∷ [])) (written (encode ps) o) ≡ written (encode (ps ++ q ∷ [])) o =
      written_over (encode ps) (encode (ps ++ q ∷ [])) o (omega (arith, length-encode ps, length-encode (ps ++ q ∷ []), length-append ps (q ∷ []))) in
      let size : length (ps ++ q ∷ []) ≡ suc (length ps) = omega (arith, length-append ps (q ∷ [])) in
      rw (add_next ps q qs valid (other 0 (omega arith)) less, over, whole, rebuild qs (ps ++ q ∷ []) (rw whole at valid) (λ n h. other (suc n) (omega arith)) (rw whole at fits), size)

  pub rebuilds : (t : List ℕ) (rs : List Node) → Bytes t → decode t ≡ answer rs → NoImp rs → length t ≤ length o
      → add_all o 0 (map node_bytes rs) ≡ answer (record { literals = list_from (λ n. 2 * n) 0 (length rs); used = length t; bytes = written t o })
  rebuilds t rs all e other fits =
      let table : t ≡ encode rs = read_encodes t rs all e in
      rw table (rw encode-none at (rebuild rs [] (read_valid t rs all e) other (rw table at fits)))

  -- into a buffer of the table's length: the table itself
  pub rebuilds_table : (t : List ℕ) (rs : List Node) → Bytes t → decode t ≡ answer rs → NoImp rs → length o ≡ length t
      → add_all o 0 (map node_bytes rs) ≡ answer (record { literals = list_from (λ n. 2 * n) 0 (length rs); used = length t; bytes = t })
  rebuilds_table t rs all e other same =
      let none : drop (length t) o ≡ [] = drop_of_length-le o {i = length t} (omega arith) in
      rebuilds t rs all e other (omega arith) ∙ rw (none, append-nil)
