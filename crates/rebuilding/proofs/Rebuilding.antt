-- The rebuild of a readable table on its bytes: what the rebuilt literals mean (`rebuild_means`), which refusals there are and what the
-- literals before one mean (`rebuild_refused`), what it leaves in a buffer as long as the table (`rebuild-whole`), and that without kind 5 it is the table byte
-- for byte (`rebuild-plain`). Assumes nothing.
use mathlib.Core.Path.{◌≡◌, refl, sym, ap, ◌∙◌, subst}
use mathlib.Core.List.{List, [], ◌∷◌, ◌++◌, append_assoc, append-nil, map}
use mathlib.Core.Logic.{◌⊎◌, inl, inr}
use mathlib.Core.Bool.{Bool, true, false, cond, false≢true}
use Prim.Native.Nat.{ℕ, suc, ◌+◌, ◌*◌, ◌/◌, ◌%◌, ◌<◌, ◌≤◌}
use native.Mathlib.Nat.{add-zero, zero-add}
use native.Mathlib.Omega.{arith}
use lib.Dec.{eqb, ltb, leb}
use lib.ListN.{length, get_or, take, length-append, get_or-append}
use lib.Seq.{get_or-append_seam, get_or-take, length-take-le, take-length}
use borrow.Author.Tests.{eqb-true, eqb-false, ltb-true, le-leb, lt-ltb, le-ltb}
use Rattle.scope.specs.declared.Node.{Node}
use Rattle.scope.specs.Outcome.{Outcome, answer, refused, require, ◌>>◌, ◌>>=◌}
use Rattle.scope.specs.Table.{node_bytes, operands, every, form_ok, read_record, list_from, decode, encode}
use Rattle.scope.specs.Truth.{Logic, truths_from, truth_in, classical}
use Rattle.scope.specs.Kleene.{kleene}
use Rattle.scope.specs.Calls.{no_node, decode_used, evaluate, normal, index_of, Added, written, add_node, add_new, add}
use Rattle.scope.proofs.Tests.{by_test, bound, refused_no}
use Rattle.scope.proofs.Lists.{list_from_more, get_d_list_from}
use Rattle.codec.specs.Valid.{Bytes, Valid, NoImp, with_node, Built}
use Rattle.codec.specs.Given.{apart}
use Rattle.codec.proofs.Rows.{both, row}
use Rattle.codec.proofs.Bytes.{bytes_take}
use Rattle.codec.proofs.Records.{length-node_bytes, reads}
use Rattle.codec.proofs.Tables.{read_encodes, read_valid, length-encode}
use Rattle.codec.proofs.Nodes.{index_none, index_last, valid_more, with_found, with_more}
use Rattle.codec.proofs.Used.{encode-none, table_used, encode_used, written_used, written-length, written_over}
use Rattle.codec.proofs.Normal.{with_operands_lem, normalized_bytes, normal_same, normal_order}
use Rattle.codec.proofs.Adds.{add-reads_back, add_bytes, found, more, by-add}
use Rattle.truth.specs.Evaluated.{Low}
use Rattle.truth.proofs.Low.{reads_low}
use Rattle.truth.proofs.Truths.{length-truths, lit_prefix}
use Rattle.rebuilding.specs.Rebuild.{rebuilt, mapped, rebuild_from, rebuild, Rebuilt, following, nodes_from}
use Rattle.rebuilding.specs.Promised.{Even, Rebuilds, Ends}
use Rattle.rebuilding.proofs.Logics.{classical_even, kleene_even}
use Rattle.rebuilding.proofs.Means.{rebuilt-means}
use Rattle.rebuilding.proofs.Steps.{rebuilt-node, mapped-reads, mapped-small, add-mapped}
use Rattle.rebuilding.proofs.Kept.{by_found, Sound, sound_none, sound_more, Kept, kept_all}

-- records from k on: of known form, with operands of earlier nodes
pub record Records (k : ℕ) (xs : List Node) : Type 0 where
  pub low : (i : ℕ) → i < length xs → Low (get_or xs i no_node) (k + i)
  pub form : (i : ℕ) → i < length xs → form_ok (get_or xs i no_node) 0 ≡ true

first_record : {k : ℕ} {x : Node} {xs : List Node} → Records k (x ∷ xs) → Low x k × (form_ok x 0 ≡ true)
first_record {k} g = (rw (add-zero k) at (g.low 0 (omega arith)), g.form 0 (omega arith))

rest-records : {k : ℕ} {x : Node} {xs : List Node} → Records k (x ∷ xs) → Records (suc k) xs
rest-records {k} g = record {
  low = λ i h.
      let z : suc k + i ≡ k + suc i = omega arith in
      rw z (g.low (suc i) (omega arith));
  form = λ i h. g.form (suc i) (omega arith);
}

-- those of a readable table are such
form_of : (x : Node) (n : ℕ) → read_record (node_bytes x) n ≡ answer x → form_ok x 0 ≡ true
unfolding node_bytes
form_of x n e = (reads (node_bytes x) n e).form

table_records : (rs : List Node) → Valid rs → Records 0 rs
table_records rs valid = record {
  low = λ i h. rw (zero-add i) (reads_low (node_bytes (get_or rs i no_node)) i (get_or rs i no_node) (valid.each i h));
  form = λ i h. form_of (get_or rs i no_node) i (valid.each i h);
}

-- ---- what the bytes read as, where a rebuild answers

pub record Read (m : List ℕ) (qs xs : List Node) (b : Built) : Type 0 where
  pub out : Rebuilt
  pub run : nodes_from m qs xs ≡ answer out
  pub table : decode_used (take b.used b.bytes) ≡ answer out.nodes
  pub literals : b.literals ≡ out.literals
  pub bytes : Bytes b.bytes
  pub within : b.used ≤ length b.bytes

-- the used part stays within the buffer
within_after : (buf : List ℕ) (used : ℕ) (qs : List Node) (y : Node) (out : Added) → used ≤ length buf
    → add_node buf used qs y ≡ answer out → out.used ≤ length out.bytes
within_after buf used qs y out h e =
    by-add buf used qs y out e
    (λ here q. rw (← q) h)
    (λ new few fits q. rw (← q) (omega (arith, written-length (encode (qs ++ y ∷ [])) buf fits)))

-- one record further
module _ (m : List ℕ) (buf : List ℕ) (used k : ℕ) (qs : List Node) (x : Node) (out : Added) (all : Bytes buf)
    (d : decode_used (take used buf) ≡ answer qs) (sound : Sound k qs m) (few : k < 2016) (l : Low x k) (form : form_ok x 0 ≡ true)
    (a : add buf used (node_bytes (mapped m x)) ≡ answer out) where
  small : Bytes (node_bytes (mapped m x))
  small = mapped-small m x k (length qs) l sound.inside form (omega (arith, sound.fewer))

  bytes_after : Bytes out.bytes
  bytes_after = add_bytes buf used (node_bytes (mapped m x)) all (length-node_bytes (mapped m x)) small out a

  after : (apart (operands (mapped m x)) ≡ true) × (decode_used (take out.used out.bytes) ≡ answer (following m qs x).nodes)
      × (m ++ out.literal ∷ [] ≡ (following m qs x).literals)
  after =
      let (y, e, back) = add-reads_back buf used (node_bytes (mapped m x)) all (length-node_bytes (mapped m x)) small qs out d a in
      let r = row (apart (operands (mapped m x))) 16 (length qs) (answer (normal (mapped m x))) (sym (mapped-reads m x k (length qs) l sound.inside form) ∙ e) in
      let is : normal (mapped m x) ≡ y = (let q = r.1 in cc) in (
        r.0,
        rw is (table_used (take out.used out.bytes) (with_node qs y) (bytes_take out.used out.bytes bytes_after) back.table),
        rw is (ap (λ (a : ℕ). m ++ a ∷ []) back.literal),
      )

  within : used ≤ length buf → out.used ≤ length out.bytes
  within h =
      let is = add-mapped m x k qs l form sound.inside buf used h d in
      within_after buf used qs (normal (mapped m x)) out h
      (row (apart (operands (mapped m x))) 16 (length qs) (add_node buf used qs (normal (mapped m x))) (sym is ∙ a)).1

read_all : (xs : List Node) (m : List ℕ) (buf : List ℕ) (used k : ℕ) (qs : List Node) (b : Built) → Bytes buf → used ≤ length buf
    → decode_used (take used buf) ≡ answer qs → Sound k qs m → k + length xs ≤ 2016 → Records k xs
    → rebuild_from m buf used xs ≡ answer b → Read m qs xs b
unfolding rebuild_from nodes_from
read_all [] m buf used k qs b all h d sound few g e =
    let p : record { literals = m; used = used; bytes = buf } ≡ b = cc in
    rw (← p) (record { out = record { nodes = qs; literals = m }; run = refl; table = d; literals = refl; bytes = all; within = h })
read_all (x ∷ xs) m buf used k qs b all h d sound few g e =
    let (out, a, rest) = bound (add buf used (node_bytes (mapped m x))) (λ out. rebuild_from (m ++ out.literal ∷ []) out.bytes out.used xs) e in
    let (l, form) = first_record g in
    let t = after m buf used k qs x out all d sound (omega arith) l form a in
    let more = read_all xs (following m qs x).literals out.bytes out.used (suc k) (following m qs x).nodes b
    (bytes_after m buf used k qs x out all d sound (omega arith) l form a) (within m buf used k qs x out all d sound (omega arith) l form a h) t.1
    (sound_more k qs m x sound l) (omega arith) (rest-records g) (rw t.2 at rest) in
    record { out = more.out; run = rw t.0 more.run; table = more.table; literals = more.literals; bytes = more.bytes; within = more.within }

-- ---- which refusals there are

-- what is not found is refused where the buffer is too short, or the nodes are full
only_short : {A : Type 0} (found few fits : Bool) (n : ℕ) (a b : A) {number place : ℕ} → few ≡ true
    → cond found (answer a) (require few 51 n >> (require fits 52 n >> answer b)) ≡ refused number place → (number ≡ 52) × (place ≡ n)
only_short true few fits n a b h e = refused_no (sym e)
only_short false true false n a b h e = (cc, cc)
only_short false true true n a b h e = refused_no (sym e)
only_short false false fits n a b h e = absurd (false≢true h)

-- a row, and what comes after it: the row's refusal, or that of what comes after
by_row : {A : Type 0} {P : Type 0} (t : Bool) (number place : ℕ) (next : Outcome A) {number' place' : ℕ}
    → (require t number place >> next) ≡ refused number' place' → (t ≡ false → number' ≡ number → place' ≡ place → P) → (next ≡ refused number' place' → P) → P
by_row true number place next e f g = g e
by_row false number place next e f g = f refl (cc) (cc)

by_bind : {A B : Type 0} {P : Type 0} (x : Outcome A) (next : A → Outcome B) {number place : ℕ}
    → (x >>= next) ≡ refused number place → (x ≡ refused number place → P) → ((a : A) → x ≡ answer a → next a ≡ refused number place → P) → P
by_bind (answer a) next e f g = g a refl e
by_bind (refused number place) next e f g = f (cc)

-- of one record: 16, where two operands have become one node, or 52; both at the nodes so far
module _ (m : List ℕ) (buf : List ℕ) (used k : ℕ) (qs : List Node) (x : Node) (h : used ≤ length buf)
    (d : decode_used (take used buf) ≡ answer qs) (sound : Sound k qs m) (few : k < 2016) (l : Low x k) (form : form_ok x 0 ≡ true) where
  only_two : {number place : ℕ} → add buf used (node_bytes (mapped m x)) ≡ refused number place
      → (((number ≡ 16) × (apart (operands (mapped m x)) ≡ false)) ⊎ (number ≡ 52)) × (place ≡ length qs)
  unfolding add_node add_new
  only_two q =
      let y : Node = normal (mapped m x) in
      by_row (apart (operands (mapped m x))) 16 (length qs) (add_node buf used qs y) (sym (add-mapped m x k qs l form sound.inside buf used h d) ∙ q)
      (λ one n p. (inl (n, one), p))
      (λ next.
      let r = only_short (ltb (index_of y qs) (length qs)) (ltb (length qs) 2016) (leb (length (encode (qs ++ y ∷ []))) (length buf)) (length qs)
      (found buf used qs y) (more buf qs y) (lt-ltb (length qs) 2016 (omega (arith, sound.fewer))) next in
      (inr r.0, r.1))

-- the record that add refuses, and what stood before it
record Stop (m buf : List ℕ) (used : ℕ) (xs : List Node) (number place : ℕ) : Type 0 where
  done : ℕ
  few : done < length xs
  built : Built
  before : rebuild_from m buf used (take done xs) ≡ answer built
  refuses : add built.bytes built.used (node_bytes (mapped built.literals (get_or xs done no_node))) ≡ refused number place

stops : (xs : List Node) (m : List ℕ) (buf : List ℕ) (used : ℕ) {number place : ℕ} → rebuild_from m buf used xs ≡ refused number place
    → Stop m buf used xs number place
unfolding rebuild_from
stops [] m buf used e = refused_no (sym e)
stops (x ∷ xs) m buf used e =
    by_bind (add buf used (node_bytes (mapped m x))) (λ out. rebuild_from (m ++ out.literal ∷ []) out.bytes out.used xs) e
    (λ q. record { done = 0; few = omega arith; built = record { literals = m; used = used; bytes = buf }; before = refl; refuses = q })
    (λ out a rest.
    let s = stops xs (m ++ out.literal ∷ []) out.bytes out.used rest in
    record { done = suc s.done; few = omega (arith, s.few); built = s.built; before = rw a s.before; refuses = s.refuses })

-- ---- into a buffer as long as the table

-- nodes written to the start of a buffer
abbrev pub built_of : List ℕ → Rebuilt → Built
built_of o out = record { literals = out.literals; used = length (encode out.nodes); bytes = written (encode out.nodes) o }

-- a node that is found, or for which there is room
module _ (o : List ℕ) (qs : List Node) (y : Node) (few : length qs < 2016) (fits : length (encode (qs ++ y ∷ [])) ≤ length o) where
  short : length (encode qs) ≤ length (encode (qs ++ y ∷ []))
  short = omega (arith, length-encode qs, length-encode (qs ++ y ∷ []), length-append qs (y ∷ []))

  pub adds : add_node (written (encode qs) o) (length (encode qs)) qs y
      ≡ answer (record { literal = 2 * index_of y (with_node qs y); used = length (encode (with_node qs y)); bytes = written (encode (with_node qs y)) o })
  unfolding add_node add_new
  adds =
      by_found qs y
      (λ h. rw (with_found qs y h, lt-ltb (index_of y qs) (length qs) h))
      (λ h.
      let long : length (written (encode qs) o) ≡ length o = written-length (encode qs) o (omega (arith, short)) in
      let over = written_over (encode qs) (encode (qs ++ y ∷ [])) o short in
      rw (
        with_more qs y h,
        le-ltb (index_of y qs) (length qs) h,
        lt-ltb (length qs) 2016 few,
        le-leb (length (encode (qs ++ y ∷ []))) (length (written (encode qs) o)) (omega (arith, long, fits)),
        over,
        index_last y qs h,
      ))

  pub valid_with : (0 < length qs → Valid qs) → read_record (node_bytes y) (length qs) ≡ answer y → 0 < length (with_node qs y) → Valid (with_node qs y)
  valid_with held reads_y some =
      by_found qs y
      (λ h. rw (with_found qs y h) (held (omega arith)))
      (λ h. rw (with_more qs y h) (valid_more qs y held few reads_y h))

room : (o : List ℕ) (xs : List Node) (m : List ℕ) (qs : List Node) (k : ℕ) → (0 < length qs → Valid qs) → Sound k qs m → Records k xs
    → k + length xs ≤ 2016 → 512 * ((k + length xs + 62) / 63) ≤ length o
    → rebuild_from m (written (encode qs) o) (length (encode qs)) xs ≡ (nodes_from m qs xs >>= λ out. answer (built_of o out))
unfolding rebuild_from nodes_from
room o [] m qs k held sound g few fits = refl
room o (x ∷ xs) m qs k held sound g few fits =
    let (l, form) = first_record g in
    let y : Node = normal (mapped m x) in
    let used : ℕ = length (encode qs) in
    let size = length-encode qs in
    let more = length-encode (qs ++ y ∷ []) in
    let one = length-append qs (y ∷ []) in
    let less = sound.fewer in
    let within : used ≤ length (written (encode qs) o) = omega (arith, written-length (encode qs) o (omega arith)) in
    let is = add-mapped m x k qs l form sound.inside (written (encode qs) o) used within
    (rw (written_used (encode qs) o) (encode_used qs held)) in
    by_test (apart (operands (mapped m x)))
    (λ a.
    let reads_y : read_record (node_bytes y) (length qs) ≡ answer y =
    rw (← normalized_bytes (mapped m x)) (mapped-reads m x k (length qs) l sound.inside form ∙ rw a) in
    rw (is, a, adds o qs y (omega arith) (omega arith))
    (room o xs (following m qs x).literals (following m qs x).nodes (suc k)
    (valid_with o qs y (omega arith) (omega arith) held reads_y) (sound_more k qs m x sound l) (rest-records g) (omega arith) (omega arith)))
    (λ a. rw (is, a))

-- ---- without kind 5

-- each record keeps its literal
abbrev pub doubles : ℕ → List ℕ
doubles n = list_from (λ i. 2 * i) 0 n

literal_same : (n l : ℕ) → l / 2 < n → rebuilt (doubles n) l ≡ l
unfolding rebuilt
literal_same n l h =
    let at : get_or (doubles n) (l / 2) 0 ≡ 2 * (l / 2) = get_d_list_from (λ i. 2 * i) n 0 (l / 2) 0 h ∙ ap (2 *◌) (zero-add (l / 2)) in
    by_test (eqb (l % 2) 0)
    (λ e. rw (e, at) (omega (arith, eqb-true (l % 2) 0 e)))
    (λ e. rw (e, at) (omega (arith, eqb-false (l % 2) 0 e)))

literals_same : (n : ℕ) (ls : List ℕ) → every (λ l. ltb (l / 2) n) ls ≡ true → map (rebuilt (doubles n)) ls ≡ ls
literals_same n [] e = refl
literals_same n (l ∷ ls) e =
    let d = both (ltb (l / 2) n) (every (λ l. ltb (l / 2) n) ls) e in
    rw (literal_same n l (ltb-true (l / 2) n d.0), literals_same n ls d.1)

mapped_same : (n : ℕ) (x : Node) → Low x n → mapped (doubles n) x ≡ x
unfolding mapped
mapped_same n x l = rw (literals_same n (operands x) l.below) (with_operands_lem x)

plain : (xs ps : List Node) → Valid (ps ++ xs) → NoImp xs
    → nodes_from (doubles (length ps)) ps xs ≡ answer (record { nodes = ps ++ xs; literals = doubles (length (ps ++ xs)) })
unfolding nodes_from
plain [] ps valid other = rw append-nil
plain (x ∷ xs) ps valid other =
    let whole : ps ++ x ∷ xs ≡ ps ++ x ∷ [] ++ xs = sym (append_assoc ps (x ∷ []) xs) in
    let size : length (ps ++ x ∷ xs) ≡ length ps + suc (length xs) = length-append ps (x ∷ xs) in
    let here : get_or (ps ++ x ∷ xs) (length ps) no_node ≡ x = get_or-append_seam ps x xs no_node in
    let node : read_record (node_bytes x) (length ps) ≡ answer x = rw here at (valid.each (length ps) (omega arith)) in
    let order = (reads (node_bytes x) (length ps) node).order in
    let same : mapped (doubles (length ps)) x ≡ x = mapped_same (length ps) x (reads_low (node_bytes x) (length ps) x node) in
    let normal-x : normal x ≡ x = normal_same x (other 0 (omega arith)) order in
    let distinct : apart (operands x) ≡ true = sym (normal_order x) ∙ rw normal-x order in
    let new : index_of x ps ≡ length ps =
    index_none x ps (λ m l. rw (here, get_or-append ps (x ∷ xs) no_node m l) at (valid.once m (length ps) l (omega arith))) in
    let with-x : with_node ps x ≡ ps ++ x ∷ [] = with_more ps x (omega arith) in
    let last : index_of x (ps ++ x ∷ []) ≡ length ps = index_last x ps (omega arith) in
    let count : length (ps ++ x ∷ []) ≡ suc (length ps) = simp length-append (omega arith) in
    let more : doubles (length ps) ++ 2 * length ps ∷ [] ≡ doubles (length (ps ++ x ∷ [])) = rw count (sym (rw zero-add at (list_from_more (λ i. 2 * i) (length ps) 0))) in
    rw (same, normal-x, distinct, with-x, last, more, whole) (plain xs (ps ++ x ∷ []) (rw whole at valid) (λ n h. other (suc n) (omega arith)))

nothing_used : (buf : List ℕ) → decode_used (take 0 buf) ≡ answer []
unfolding decode_used
nothing_used buf = refl

module _ (t buf : List ℕ) (rs : List Node) (all : Bytes t) (e : decode t ≡ answer rs) where
  valid : Valid rs
  valid = read_valid t rs all e

  records : Records 0 rs
  records = table_records rs valid

  run_is : rebuild t buf ≡ rebuild_from [] buf 0 rs
  unfolding rebuild
  run_is = rw e

  -- ---- what the rebuilt literals of the first k records mean

  module _ (some : Bytes buf) (k : ℕ) (most : k ≤ length rs) (b : Built) (run : rebuild_from [] buf 0 (take k rs) ≡ answer b) where
    abbrev firsts : List Node
    firsts = take k rs

    size : length firsts ≡ k
    size = length-take-le k rs most

    first-records : Records 0 firsts
    first-records = record {
      low = λ i h. rw (get_or-take k rs i no_node (omega (arith, size))) (records.low i (omega (arith, size)));
      form = λ i h. rw (get_or-take k rs i no_node (omega (arith, size))) (records.form i (omega (arith, size)));
    }

    ended : Read [] [] firsts b
    ended =
        read_all firsts [] buf 0 0 [] b some (omega arith) (nothing_used buf) sound_none (omega (arith, size, valid.few)) first-records run

    kept : {A : Type 0} (L : Logic A) (even : Even L) (s : List ℕ) → Kept L even s (truths_from L s [] firsts) ended.out.nodes b.literals
    kept L even s =
        subst (λ (m : List ℕ). Kept L even s (truths_from L s [] firsts) ended.out.nodes m) (sym ended.literals)
        (kept_all L even s firsts [] [] [] ended.out
        (record { sound = sound_none; means = λ j h. absurd (omega arith) }) first-records.low ended.run)

    truths : {A : Type 0} (L : Logic A) (s : List ℕ) → length (truths_from L s [] firsts) ≡ k
    truths L s = length-truths L s firsts [] ∙ zero-add (length firsts) ∙ size

    sound : Sound k ended.out.nodes b.literals
    sound = rw (truths classical []) at (kept classical classical_even []).sound

    inside : (l : ℕ) → l < 2 * k → rebuilt b.literals l < 2 * length ended.out.nodes
    inside l h = omega (arith, rebuilt-node b.literals l, sound.inside (l / 2) (omega arith))

    means : {A : Type 0} (L : Logic A) → Even L → (s : List ℕ) (l : ℕ) → l < 2 * k
        → truth_in L s ended.out.nodes (rebuilt b.literals l) ≡ truth_in L s rs l
    unfolding truth_in
    means L even s l h =
        rebuilt-means L even s (truths_from L s [] firsts) (truths_from L s [] ended.out.nodes) b.literals l
        ((kept L even s).means (l / 2) (omega (arith, truths L s)))
        ∙ sym (lit_prefix L s rs k l most (omega arith))

    -- where there was a record, the rebuilt table is not empty
    table_reads : 0 < k → decode (take b.used b.bytes) ≡ answer ended.out.nodes
    unfolding decode_used
    table_reads one =
        by_test (eqb (length (take b.used b.bytes)) 0)
        (λ q.
        let none : ◌≡◌ {A = Outcome (List Node)} (answer []) (answer ended.out.nodes) = rw q at ended.table in
        let nil : [] ≡ ended.out.nodes = cc in
        absurd (omega (arith, ap length nil, sound.inside 0 one)))
        (λ q. rw q at ended.table)

    evaluates : (s : List ℕ) (l : ℕ) → l < 2 * k → evaluate (take b.used b.bytes) (rebuilt b.literals l) s ≡ evaluate t l s
    unfolding evaluate
    evaluates s l h =
        rw (
          table_reads (omega arith),
          e,
          lt-ltb (rebuilt b.literals l) (2 * length ended.out.nodes) (inside l h),
          lt-ltb l (2 * length rs) (omega arith),
          means kleene kleene_even s l h,
        )

    rebuilds : Rebuilds t rs k b
    rebuilds = record {
      nodes = ended.out.nodes;
      table = ended.table;
      retired = sound.retired;
      inside = inside;
      means = means;
      evaluates = evaluates;
    }

  -- where it comes to its end, those of all
  pub rebuild_means : Bytes buf → (b : Built) → rebuild t buf ≡ answer b → Rebuilds t rs (length rs) b
  rebuild_means some b run = rebuilds some (length rs) (omega arith) b (rw (take-length rs) (sym run_is ∙ run))

  -- .. else those before the record that add refuses
  pub rebuild_refused : Bytes buf → {number place : ℕ} → rebuild t buf ≡ refused number place → Ends t rs buf number place
  unfolding rebuilds
  rebuild_refused some q =
      let s = stops rs [] buf 0 (sym run_is ∙ q) in
      let most : s.done ≤ length rs = omega (arith, s.few) in
      let r = ended some s.done most s.built s.before in
      let only = only_two s.built.literals s.built.bytes s.built.used s.done r.out.nodes (get_or rs s.done no_node) r.within r.table
      (sound some s.done most s.built s.before) (omega (arith, s.few, valid.few)) (rw zero-add at (records.low s.done s.few)) (records.form s.done s.few) s.refuses in
      record {
        done = s.done;
        few = s.few;
        built = s.built;
        before = s.before;
        refuses = s.refuses;
        rebuilds = rebuilds some s.done most s.built s.before;
        which = only.0;
        at = only.1;
      }

  module _ (fits : length t ≤ length buf) where
    -- all of it: the nodes written to the buffer's start, or 16
    pub rebuild-whole : rebuild t buf ≡ (nodes_from [] [] rs >>= λ out. answer (built_of buf out))
    rebuild-whole =
        let table : t ≡ encode rs = read_encodes t rs all e in
        let long : 512 * ((length rs + 62) / 63) ≤ length buf = omega (arith, ap length table, length-encode rs) in
        run_is
        ∙ rw encode-none at (room buf rs [] [] 0 (λ none. absurd (omega arith)) sound_none records (rw zero-add valid.few) (rw zero-add long))

    -- 'Rebuilding byte for byte is from now on promised for tables without kind 5'
    pub rebuild-plain : NoImp rs → rebuild t buf ≡ answer (record { literals = doubles (length rs); used = length t; bytes = written t buf })
    unfolding list_from
    rebuild-plain other =
        let table : t ≡ encode rs = read_encodes t rs all e in
        rebuild-whole ∙ rw (plain rs [] valid other, table)
