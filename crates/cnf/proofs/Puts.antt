-- One record more: what the table holds afterwards, and that only 51 and 52 refuse. Assumes nothing.
use mathlib.Core.Path.{◌≡◌, ◌∙◌, ap, sym, subst}
use mathlib.Core.List.{List, [], ◌∷◌, ◌++◌}
use mathlib.Core.Logic.{◌⊎◌, inl, inr}
use mathlib.Core.Bool.{Bool, true, false, cond}
use Prim.Native.Nat.{ℕ, ◌+◌, ◌*◌, ◌/◌, ◌<◌, ◌≤◌}
use native.Mathlib.Omega.{arith}
use lib.Dec.{leb, ltb}
use lib.ListN.{length, get_or, take, length-append}
use lib.Seq.{take-length, take-append_seam, take-take, get_or-take}
use borrow.Author.Tests.{ltb-true, ltb-false}
use Rattle.scope.specs.declared.Node.{Node}
use Rattle.scope.specs.Outcome.{Outcome, answer, refused, require, ◌>>◌}
use Rattle.scope.specs.Table.{node_bytes, read_record, decode, encode}
use Rattle.scope.specs.Truth.{truths_from, lit_truth, truth_in, classical, truth}
use Rattle.scope.specs.Calls.{no_node, decode_used, normalized, index_of, Added, add_new, add_node, add}
use Rattle.scope.proofs.Tests.{refused_no}
use Rattle.codec.specs.Valid.{Bytes, Valid, with_node, ReadsBack}
use Rattle.codec.proofs.Rows.{by_test}
use Rattle.codec.proofs.Bytes.{bytes_take}
use Rattle.codec.proofs.Records.{length-node_bytes}
use Rattle.codec.proofs.Nodes.{with_found, with_more, index_last}
use Rattle.codec.proofs.Used.{used_encodes, used_reads, written-length}
use Rattle.codec.proofs.Tables.{length-encode, read_encodes, read_valid}
use Rattle.codec.proofs.Adds.{found, more, by-add, add-reads_back, add_bytes}
use Rattle.truth.specs.Evaluated.{Low}
use Rattle.truth.proofs.Truths.{lit_prefix}
use Rattle.truth.proofs.Low.{reads_low}
use Rattle.adding.proofs.Rows.{add_is}
use Rattle.cnf.specs.Fold.{node}
use Rattle.cnf.proofs.Outcomes.{Ends, ends}

-- the used part of a buffer reads as rs, which start with the points below vars
pub record Holds (vars used : ℕ) (bytes : List ℕ) (rs : List Node) : Type 0 where
  pub bytes_of : Bytes bytes
  pub within : used ≤ length bytes
  pub nodes : decode_used (take used bytes) ≡ answer rs
  pub wide : vars ≤ length rs
  pub points : (p : ℕ) → p < vars → get_or rs p no_node ≡ node 2 p 0

-- rs' are rs, with nodes behind them
pub record Extends (rs rs' : List Node) : Type 0 where
  pub more : length rs ≤ length rs'
  pub first : take (length rs) rs' ≡ rs

pub extends_same : (rs : List Node) → Extends rs rs
extends_same rs = record { more = omega arith; first = take-length rs }

pub extends_more : (rs : List Node) (x : Node) → Extends rs (rs ++ x ∷ [])
extends_more rs x = record { more = omega (arith, length-append rs (x ∷ [])); first = take-append_seam rs (x ∷ []) }

pub extends_on : {qs rs ss : List Node} → Extends qs rs → Extends rs ss → Extends qs ss
extends_on {qs} {rs} {ss} e f = record {
  more = omega (arith, e.more, f.more);
  first = sym (take-take (length qs) (length rs) ss e.more) ∙ ap (take (length qs)) f.first ∙ e.first;
}

-- what refuses a table on the way: 'new, and 2,016 nodes', or 'new block over the buffer'
abbrev pub Full : ℕ → ℕ → Type 0
Full number place = (number ≡ 51) ⊎ (number ≡ 52)

abbrev pub Runs : (Added → Type 0) → Outcome Added → Type 0
Runs P o = Ends Full P o

-- the nodes of a table are valid, if there are some, and at most 2,016
module _ {vars used : ℕ} {bytes : List ℕ} {rs : List Node} (h : Holds vars used bytes rs) where
  pub valid : 0 < length rs → Valid rs
  valid = (used_encodes (take used bytes) rs (bytes_take used bytes h.bytes_of) h.nodes).1

  pub most : length rs ≤ 2016
  most =
      by_test (ltb 0 (length rs))
      (λ t. (valid (ltb-true 0 (length rs) t)).few)
      (λ t. omega (arith, ltb-false 0 (length rs) t))

  -- operands are of earlier nodes
  pub low : (n : ℕ) → n < length rs → Low (get_or rs n no_node) n
  low n i = reads_low (node_bytes (get_or rs n no_node)) n (get_or rs n no_node) ((valid (omega arith)).each n i)

-- node n of more nodes
pub extends_node : {rs rs' : List Node} (n : ℕ) → Extends rs rs' → n < length rs → get_or rs' n no_node ≡ get_or rs n no_node
extends_node {rs} {rs'} n e h = sym (get_or-take (length rs) rs' n no_node h) ∙ ap (λ (l : List Node). get_or l n no_node) e.first

-- a literal's truth stays
pub extends_truth : {rs rs' : List Node} (s : List ℕ) (l : ℕ) → Extends rs rs' → l / 2 < length rs → truth s rs' l ≡ truth s rs l
unfolding truth_in
extends_truth {rs} {rs'} s l e h =
    lit_prefix classical s rs' (length rs) l e.more h ∙ ap (λ (qs : List Node). lit_truth classical (truths_from classical s [] qs) l) e.first

-- after the node x was added to rs: it stands at the literal that was answered
pub record PutAt (vars : ℕ) (rs : List Node) (x : Node) (u : Added) : Type 0 where
  pub rs' : List Node
  pub holds : Holds vars u.used u.bytes rs'
  pub extends : Extends rs rs'
  pub one : length rs' ≤ length rs + 1
  pub inside : u.literal / 2 < length rs'
  pub even : u.literal ≡ 2 * (u.literal / 2)
  pub node : get_or rs' (u.literal / 2) no_node ≡ x

-- a table that reads is not empty
table_some : (t : List ℕ) (rs : List Node) → Bytes t → decode t ≡ answer rs → 0 < length t
table_some t rs all e =
    let n = length-encode rs in
    let some = (read_valid t rs all e).some in
    omega (arith, ap length (read_encodes t rs all e))

-- which numbers refuse a node
only_two : {A : Type 0} (found few fits : Bool) (n : ℕ) (a b : A) {number place : ℕ}
    → cond found (answer a) (require few 51 n >> (require fits 52 n >> answer b)) ≡ refused number place → (number ≡ 51) ⊎ (number ≡ 52)
only_two true few fits n a b e = refused_no (sym e)
only_two false false fits n a b e = inl (cc)
only_two false true false n a b e = inr (cc)
only_two false true true n a b e = refused_no (sym e)

module _ {vars used : ℕ} {bytes : List ℕ} {rs : List Node} (h : Holds vars used bytes rs) (x y : Node) (small : Bytes (node_bytes x))
    (e : read_record (normalized (node_bytes x)) (length rs) ≡ answer y) where
  adds : add bytes used (node_bytes x) ≡ add_node bytes used rs y
  adds = add_is bytes used (node_bytes x) h.within rs h.nodes e

  -- the nodes afterwards
  after : Extends rs (with_node rs y)
  after =
      by_test (ltb (index_of y rs) (length rs))
      (λ t. rw (with_found rs y (ltb-true (index_of y rs) (length rs) t)) (extends_same rs))
      (λ t. rw (with_more rs y (ltb-false (index_of y rs) (length rs) t)) (extends_more rs y))

  one_more : length (with_node rs y) ≤ length rs + 1
  one_more =
      by_test (ltb (index_of y rs) (length rs))
      (λ t. rw (with_found rs y (ltb-true (index_of y rs) (length rs) t)) (omega arith))
      (λ t. rw (with_more rs y (ltb-false (index_of y rs) (length rs) t)) (omega (arith, length-append rs (y ∷ []))))

  -- it stands there
  stands : index_of y (with_node rs y) < length (with_node rs y)
  stands =
      by_test (ltb (index_of y rs) (length rs))
      (λ t.
      let here = ltb-true (index_of y rs) (length rs) t in
      rw (with_found rs y here) here)
      (λ t.
      let new = ltb-false (index_of y rs) (length rs) t in
      rw (with_more rs y new, index_last y rs new) (omega (arith, length-append rs (y ∷ []))))

  within_after : (u : Added) → add_node bytes used rs y ≡ answer u → u.used ≤ length u.bytes
  within_after u q =
      by-add bytes used rs y u q
      (λ here p. rw (← p) h.within)
      (λ new few fits p. rw (← p) (omega (arith, written-length (encode (rs ++ y ∷ [])) bytes fits)))

  pub put-answered : (u : Added) → add bytes used (node_bytes x) ≡ answer u → PutAt vars rs y u
  put-answered u q =
      let (z, ez, back) = add-reads_back bytes used (node_bytes x) h.bytes_of (length-node_bytes x) small rs u h.nodes q in
      let same : z ≡ y = (let p : answer z ≡ answer y = sym ez ∙ e in cc) in
      let reads : ReadsBack bytes rs y u = subst (λ (n : Node). ReadsBack bytes rs n u) same back in
      let all : Bytes u.bytes = add_bytes bytes used (node_bytes x) h.bytes_of (length-node_bytes x) small u q in
      let some = table_some (take u.used u.bytes) (with_node rs y) (bytes_take u.used u.bytes all) reads.table in
      let table : Holds vars u.used u.bytes (with_node rs y) = record {
        bytes_of = all;
        within = within_after u (sym adds ∙ q);
        nodes = used_reads (take u.used u.bytes) some ∙ reads.table;
        wide = omega (arith, h.wide, after.more);
        points = λ p i. extends_node p after (omega (arith, h.wide)) ∙ h.points p i;
      } in
      record {
        rs' = with_node rs y;
        holds = table;
        extends = after;
        one = one_more;
        inside = omega (arith, reads.literal, stands);
        even = omega (arith, reads.literal);
        node = reads.node;
      }

  pub put-runs : Runs (PutAt vars rs y) (add bytes used (node_bytes x))
  unfolding add_node add_new
  put-runs =
      ends Full (PutAt vars rs y) (add bytes used (node_bytes x)) put-answered
      (λ number place q.
      only_two (ltb (index_of y rs) (length rs)) (ltb (length rs) 2016) (leb (length (encode (rs ++ y ∷ []))) (length bytes)) (length rs)
      (found bytes used rs y) (more bytes rs y) (sym adds ∙ q))
