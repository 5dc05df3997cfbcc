-- The record that add looks up: what must be zero and what is refused is as in the record given (`given-rows`, `turned_rows`), it is
-- never of kind 5 (`normal_kind`), and a record in order that is not of kind 5 is its own (`normal_same`). Assumes nothing.
use mathlib.Core.Path.{◌≡◌, ◌∙◌, ap, sym, refl}
use mathlib.Core.List.{List, [], ◌∷◌, ◌++◌}
use mathlib.Core.Bool.{Bool, true, false, cond, and-true, or-false}
use Prim.Native.Nat.{ℕ, zero, suc, ◌+◌, ◌/◌, ◌<◌, ◌≤◌}
use native.Mathlib.Omega.{arith}
use lib.Dec.{eqb, ltb}
use lib.ListN.{length, get_or, take}
use borrow.Author.Tests.{eqb-true, eqb-false, ltb-true, ltb-false, eq-eqb, ne_eqb, lt-ltb, le-ltb}
use Rattle.scope.specs.declared.Node.{Node}
use Rattle.scope.specs.Outcome.{answer, require, ◌>>◌, ◌>>=◌}
use Rattle.scope.specs.Block.{word_at, word_bytes}
use Rattle.scope.specs.Table.{node_bytes, node_of, neg, arity, operands, with_operands, every, form_ok, range_ok, order_ok, read_record}
use Rattle.scope.specs.Calls.{placed, sorted, ordered, turned, normal, normalized}
use Rattle.scope.proofs.Operands.{arity_most, operands-none, operands-two, operands-three, operands-length}
use Rattle.codec.specs.Valid.{Bytes}
use Rattle.codec.specs.Given.{among, apart, read_given}
use Rattle.codec.proofs.Rows.{by_test}
use Rattle.codec.proofs.Bytes.{of_word, bytes_cons, bytes_append, bytes_word}
use Rattle.codec.proofs.Records.{node_of_bytes, every-at}
use Rattle.codec.proofs.Sorted.{every-sorted, up_sorted, length-sorted, sorted_same}

-- ---- a node's operands replaced

fields_taken : (ls : List ℕ) (a b c : ℕ) → length ls ≤ 3 → take (length ls) (get_or ls 0 a ∷ get_or ls 1 b ∷ get_or ls 2 c ∷ []) ≡ ls
fields_taken [] a b c h = refl
fields_taken (p ∷ []) a b c h = refl
fields_taken (p ∷ q ∷ []) a b c h = refl
fields_taken (p ∷ q ∷ r ∷ []) a b c h = refl
fields_taken (p ∷ q ∷ r ∷ s ∷ ls) a b c h = absurd (omega arith)

module _ (x : Node) where
  pub operands_with : (ls : List ℕ) → length ls ≡ arity x.kind → operands (with_operands x ls) ≡ ls
  unfolding operands with_operands
  operands_with ls e = rw (← e) (fields_taken ls x.a x.b x.c (omega (arith, arity_most x.kind)))

  pub with_operands_lem : with_operands x (operands x) ≡ x
  unfolding operands with_operands
  with_operands_lem = go (arity x.kind)
    where
      go : (k : ℕ) → with_operands x (take k (x.a ∷ x.b ∷ x.c ∷ [])) ≡ x
      go zero = refl
      go (suc zero) = refl
      go (suc (suc zero)) = refl
      go (suc (suc (suc k))) = refl

-- ---- turned and ordered

pub by-five : {P : Type 0} (x : Node) → (x.kind ≡ 5 → P) → ((x.kind ≡ 5 → ⊥) → P) → P
by-five x f g = by_test (eqb x.kind 5) (λ e. f (eqb-true x.kind 5 e)) (λ e. g (eqb-false x.kind 5 e))

-- a proof by how many operands a kind has
pub by-arity : {P : Type 0} (x : Node) → (x.kind < 3 → P) → (2 < x.kind → x.kind < 7 → P) → (7 ≤ x.kind → P) → P
by-arity x f g h =
    by_test (ltb x.kind 3)
    (λ l. f (ltb-true x.kind 3 l))
    (λ l. by_test (ltb x.kind 7)
    (λ m. g (omega (arith, ltb-false x.kind 3 l)) (ltb-true x.kind 7 m))
    (λ m. h (ltb-false x.kind 7 m)))

module _ (x : Node) where
  -- kind 5 is turned, others are not
  pub turned-five : x.kind ≡ 5 → turned x ≡ record { kind = 4; a = neg x.a; b = x.b; c = x.c }
  unfolding turned
  turned-five k = rw (eq-eqb x.kind 5 k)

  pub turned_other : (x.kind ≡ 5 → ⊥) → turned x ≡ x
  unfolding turned
  turned_other k = rw (ne_eqb x.kind 5 k)

  pub ordered_kind : (ordered x).kind ≡ x.kind
  unfolding ordered with_operands
  ordered_kind = refl

  -- the operands of a node in order are those that it has, sorted
  pub ordered-operands : operands (ordered x) ≡ sorted (operands x)
  unfolding ordered
  ordered-operands = operands_with x (sorted (operands x)) (length-sorted (operands x) ∙ operands-length x)

  -- none, two or three operands in order
  pub ordered-none : x.kind < 3 → ordered x ≡ x
  unfolding ordered with_operands sorted
  ordered-none k = rw (operands-none x k)

  pub ordered-two : 2 < x.kind → x.kind < 7
      → ordered x ≡ cond (ltb (x.b / 2) (x.a / 2)) (record { kind = x.kind; a = x.b; b = x.a; c = x.c }) x
  unfolding ordered with_operands sorted placed
  ordered-two k l = rw (operands-two x k l) (by_test (ltb (x.b / 2) (x.a / 2)) (λ e. rw e) (λ e. rw e))

  pub ordered-three : 7 ≤ x.kind → ordered x ≡ with_operands x (placed x.a (placed x.b (x.c ∷ [])))
  unfolding ordered sorted placed
  ordered-three k = ap (λ (ls : List ℕ). with_operands x (sorted ls)) (operands-three x k)

  -- .. in two steps, as code has them: b and c, then a among them
  pub ordered_steps : 7 ≤ x.kind → (y : Node) → y ≡ with_operands x (x.a ∷ placed x.b (x.c ∷ []))
      → ordered x ≡ with_operands y (placed y.a (y.b ∷ y.c ∷ []))
  unfolding placed with_operands
  ordered_steps k y e =
      ordered-three k
      ∙ rw e
      (by_test (ltb (x.c / 2) (x.b / 2))
      (λ p. rw p (by_test (ltb (x.c / 2) (x.a / 2)) (λ q. rw q (by_test (ltb (x.b / 2) (x.a / 2)) (λ r. rw r) (λ r. rw r))) (λ q. rw q)))
      (λ p. rw p (by_test (ltb (x.b / 2) (x.a / 2)) (λ q. rw q (by_test (ltb (x.c / 2) (x.a / 2)) (λ r. rw r) (λ r. rw r))) (λ q. rw q))))

-- the kind that is looked up is never 5
pub turned_kind : (x : Node) → (turned x).kind ≡ 5 → ⊥
turned_kind x = by-five x (λ f. rw (turned-five x f) (λ q. omega arith)) (λ f. rw (turned_other x f) f)

pub normal_kind : (x : Node) → (normal x).kind ≡ 5 → ⊥
normal_kind x e = turned_kind x (sym (ordered_kind (turned x)) ∙ e)

-- a node in order, of another kind, is looked up as it is
pub normal_same : (x : Node) → (x.kind ≡ 5 → ⊥) → order_ok x ≡ true → normal x ≡ x
unfolding order_ok ordered
normal_same x f o =
    let rises = rw (ne_eqb x.kind 5 f) at o in
    rw (turned_other x f, sorted_same (operands x) rises) (with_operands_lem x)

-- ---- its bytes

pub normalized-length : (r : List ℕ) → length (normalized r) ≡ 8
unfolding normalized
normalized-length r = refl

pub normalized-node : (r : List ℕ) → node_of (normalized r) ≡ normal (node_of r)
unfolding normalized node_of
normalized-node r = simp of_word

pub normalized_bytes : (x : Node) → normalized (node_bytes x) ≡ node_bytes (normal x)
unfolding normalized node_bytes
normalized_bytes x = rw (node_of_bytes x)

-- operands that are words stay words
record Words (x : Node) : Type 0 where
  kind : x.kind < 256
  a : x.a < 65536
  b : x.b < 65536
  c : x.c < 65536

word : ℕ → Bool
word l = ltb l 65536

is_word : (l : ℕ) → l < 65536 → word l ≡ true
unfolding word
is_word l h = lt-ltb l 65536 h

of_is_word : (l : ℕ) → word l ≡ true → l < 65536
unfolding word
of_is_word l h = ltb-true l 65536 h

every_taken : (k : ℕ) (x : Node) → Words x → every word (take k (x.a ∷ x.b ∷ x.c ∷ [])) ≡ true
every_taken zero x w = refl
every_taken (suc zero) x w = rw (is_word x.a w.a)
every_taken (suc (suc zero)) x w = rw (is_word x.a w.a, is_word x.b w.b)
every_taken (suc (suc (suc k))) x w = rw (is_word x.a w.a, is_word x.b w.b, is_word x.c w.c) (go k)
  where
    go : (k : ℕ) → every word (take k []) ≡ true
    go zero = refl
    go (suc k) = refl

ordered_words : (x : Node) → Words x → Words (ordered x)
unfolding ordered with_operands operands
ordered_words x w =
    let all : every word (sorted (operands x)) ≡ true = every-sorted word (operands x) ∙ every_taken (arity x.kind) x w in
    let at : (i d : ℕ) → d < 65536 → get_or (sorted (operands x)) i d < 65536 =
    λ i d h. of_is_word (get_or (sorted (operands x)) i d) (every-at word (sorted (operands x)) i d all (is_word d h)) in
    record { kind = w.kind; a = at 0 x.a w.a; b = at 1 x.b w.b; c = at 2 x.c w.c }

turned-words : (x : Node) → Words x → Words (turned x)
turned-words x w =
    by-five x
    (λ f. rw (turned-five x f) (record { kind = omega arith; a = omega (arith, w.a); b = w.b; c = w.c }))
    (λ f. rw (turned_other x f) w)

pub bytes_normalized : (r : List ℕ) → Bytes r → Bytes (normalized r)
unfolding normalized node_of
bytes_normalized r b =
    let small : (i : ℕ) → word_at r i < 65536 = λ i. omega (arith, b i, b (i + 1)) in
    let w = ordered_words (turned (node_of r)) (turned-words (node_of r) (record { kind = b 0; a = small 2; b = small 4; c = small 6 })) in
    let y : Node = normal (node_of r) in
    bytes_cons y.kind (get_or r 1 0 ∷ word_bytes y.a ++ (word_bytes y.b ++ word_bytes y.c)) w.kind
    (bytes_cons (get_or r 1 0) (word_bytes y.a ++ (word_bytes y.b ++ word_bytes y.c)) (b 1)
    (bytes_append (word_bytes y.a) (word_bytes y.b ++ word_bytes y.c) (bytes_word y.a w.a)
    (bytes_append (word_bytes y.b) (word_bytes y.c) (bytes_word y.b w.b) (bytes_word y.c w.c))))

-- ---- 14 to 16 are those of the record given

-- turning and ordering keep the form
turned_form : (x : Node) (one : ℕ) → form_ok (turned x) one ≡ form_ok x one
unfolding form_ok
turned_form x one = by-five x (λ f. rw (turned-five x f, f)) (λ f. rw (turned_other x f))

ordered_c : (x : Node) → 2 < x.kind → x.kind < 7 → (ordered x).c ≡ x.c
ordered_c x k l = rw (ordered-two x k l) (by_test (ltb (x.b / 2) (x.a / 2)) (λ e. rw e) (λ e. rw e))

pub ordered_form : (x : Node) (one : ℕ) → form_ok (ordered x) one ≡ form_ok x one
unfolding form_ok
ordered_form x one =
    by-arity x
    (λ k. rw (ordered-none x k))
    (λ k l. rw (ordered_kind x, ordered_c x k l, ne_eqb x.kind 1 (λ q. omega arith), ne_eqb x.kind 2 (λ q. omega arith), lt-ltb x.kind 7 l))
    (λ k. rw (ordered_kind x, ne_eqb x.kind 1 (λ q. omega arith), ne_eqb x.kind 2 (λ q. omega arith), le-ltb x.kind 7 k))

-- .. and whether the operands are of earlier nodes
turned_range : (x : Node) (n : ℕ) → range_ok (turned x) n ≡ range_ok x n
unfolding range_ok
turned_range x n =
    by-five x
    (λ f.
    let same : neg x.a / 2 ≡ x.a / 2 = omega arith in
    let y : Node = record { kind = 4; a = neg x.a; b = x.b; c = x.c } in
    rw (turned-five x f, operands-two y (omega arith) (omega arith), operands-two x (omega arith) (omega arith), same, ne_eqb x.kind 2 (λ q. omega arith)))
    (λ f. rw (turned_other x f))

ordered_range : (x : Node) (n : ℕ) → range_ok (ordered x) n ≡ range_ok x n
unfolding range_ok
ordered_range x n =
    by_test (eqb x.kind 2)
    (λ e. rw (ordered-none x (omega (arith, eqb-true x.kind 2 e))))
    (λ e. rw (ordered-operands x, every-sorted (λ l. ltb (l / 2) n) (operands x), ordered_kind x, e))

-- the order is made, and fails only where one node stands twice
turned_apart : (x : Node) → apart (operands (turned x)) ≡ apart (operands x)
unfolding apart among
turned_apart x =
    by-five x
    (λ f.
    let same : neg x.a / 2 ≡ x.a / 2 = omega arith in
    let y : Node = record { kind = 4; a = neg x.a; b = x.b; c = x.c } in
    rw (turned-five x f, operands-two y (omega arith) (omega arith), operands-two x (omega arith) (omega arith), same))
    (λ f. rw (turned_other x f))

ordered_order : (x : Node) → (x.kind ≡ 5 → ⊥) → order_ok (ordered x) ≡ apart (operands x)
unfolding order_ok
ordered_order x f = rw (ordered-operands x, ordered_kind x, ne_eqb x.kind 5 f) (up_sorted (operands x))

pub normal_order : (x : Node) → order_ok (normal x) ≡ apart (operands x)
normal_order x = ordered_order (turned x) (turned_kind x) ∙ turned_apart x

-- byte 1 is as it was given
first_byte : (r : List ℕ) → get_or (normalized r) 1 0 ≡ get_or r 1 0
unfolding normalized
first_byte r = refl

pub given-rows : (r : List ℕ) (n : ℕ) → read_record (normalized r) n ≡ read_given r n
unfolding read_record read_given
given-rows r n =
    let x : Node = node_of r in
    let form = ordered_form (turned x) (get_or r 1 0) ∙ turned_form x (get_or r 1 0) in
    let range = ordered_range (turned x) n ∙ turned_range x n in
    rw (normalized-node r, first_byte r, form, range, normal_order x)

-- an implication: the rows of reading it
five_order : (x : Node) → x.kind ≡ 5 → order_ok x ≡ apart (operands x)
unfolding order_ok apart among
five_order x f = rw (operands-two x (omega arith) (omega arith), f, or-false, and-true)

rows_then : (form range order : Bool) (n : ℕ) (x : Node)
    → ((require form 14 n >> (require range 15 n >> (require order 16 n >> answer x))) >>= λ y. answer (normal y))
    ≡ (require form 14 n >> (require range 15 n >> (require order 16 n >> answer (normal x))))
rows_then true true true n x = refl
rows_then true true false n x = refl
rows_then true false order n x = refl
rows_then false range order n x = refl

pub turned_rows : (r : List ℕ) (n : ℕ) → (node_of r).kind ≡ 5 → read_record (normalized r) n ≡ (read_record r n >>= λ x. answer (normal x))
unfolding read_record read_given
turned_rows r n k =
    let x : Node = node_of r in
    given-rows r n
    ∙ sym (rw (rows_then (form_ok x (get_or r 1 0)) (range_ok x n) (order_ok x) n x, five_order x k))
