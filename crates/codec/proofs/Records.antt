-- Records: what reads is the bytes of the node that it reads as, and it reads at every later place too.
-- Assumes nothing.
use mathlib.Core.Path.{◌≡◌, ◌∙◌, ap, refl}
use mathlib.Core.List.{List, [], ◌∷◌, ◌++◌, map}
use mathlib.Core.Bool.{Bool, true, cond, ◌&&◌, false≢true}
use Prim.Native.Nat.{ℕ, zero, suc, ◌/◌, ◌<◌, ◌≤◌}
use native.Mathlib.Omega.{arith}
use lib.Dec.{eqb, ltb, lit<}
use lib.ListN.{length, get_or}
use borrow.Author.Tests.{eqb-true, eqb-false, eq-eqb, ne_eqb, lt-ltb, le-ltb, ltb-true, ltb-false}
use Rattle.scope.specs.declared.Node.{Node}
use Rattle.scope.specs.Outcome.{answer, require, ◌>>◌}
use Rattle.scope.specs.Block.{word_bytes}
use Rattle.scope.specs.Table.{node_bytes, node_of, arity, operands, every, form_ok, range_ok, order_ok, read_record, same_node, list_from}
use Rattle.scope.proofs.Tests.{and_both}
use Rattle.scope.proofs.Operands.{arity-two, arity-three, operand_at}
use Rattle.codec.specs.Valid.{Bytes}
use Rattle.codec.proofs.Rows.{both, row, by_test, cond_mono}
use Rattle.codec.proofs.Bytes.{listed_all, low_byte, high_byte, of_word, bytes_cons, bytes_append, bytes_word}

pub length-node_bytes : (x : Node) → length (node_bytes x) ≡ 8
unfolding node_bytes
length-node_bytes x = refl

pub node_of_bytes : (x : Node) → node_of (node_bytes x) ≡ x
unfolding node_bytes node_of
node_of_bytes x = λ i. record { kind = x.kind; a = of_word x.a i; b = of_word x.b i; c = of_word x.c i }

-- what a record that reads as x at place n fulfils
pub record Reads (r : List ℕ) (n : ℕ) (x : Node) : Type 0 where
  pub node : node_of r ≡ x
  pub form : form_ok x (get_or r 1 0) ≡ true
  pub range : range_ok x n ≡ true
  pub order : order_ok x ≡ true

module _ (r : List ℕ) (n : ℕ) {x : Node} where
  pub reads : read_record r n ≡ answer x → Reads r n x
  unfolding read_record
  reads e =
      let form = row (form_ok (node_of r) (get_or r 1 0)) 14 n (require (range_ok (node_of r) n) 15 n >> (require (order_ok (node_of r)) 16 n >> answer (node_of r))) e in
      let range = row (range_ok (node_of r) n) 15 n (require (order_ok (node_of r)) 16 n >> answer (node_of r)) form.1 in
      let order = row (order_ok (node_of r)) 16 n (answer (node_of r)) range.1 in
      let node : node_of r ≡ x = (let q = order.1 in cc) in
      record { node = node; form = rw node at form.0; range = rw node at range.0; order = rw node at order.0 }

  pub reading : Reads r n x → read_record r n ≡ answer x
  unfolding read_record
  reading p = rw (p.node, p.form, p.range, p.order)

  -- the bytes of a record that reads are those of its node
  pub record_bytes : length r ≡ 8 → Bytes r → Reads r n x → r ≡ node_bytes x
  unfolding node_bytes node_of form_ok list_from
  record_bytes l b p =
      let one : get_or r 1 0 ≡ 0 = eqb-true (get_or r 1 0) 0 (both (eqb (get_or r 1 0) 0) _ p.form).0 in
      let eight : r ≡ get_or r 0 0 ∷ get_or r 1 0 ∷ get_or r 2 0 ∷ get_or r 3 0 ∷ get_or r 4 0 ∷ get_or r 5 0 ∷ get_or r 6 0 ∷ get_or r 7 0 ∷ [] =
      listed_all 0 r ∙ ap (list_from (λ i. get_or r i 0) 0) l in
      eight
      ∙ rw (one, ← p.node)
      (rw (
        low_byte (get_or r 2 0) (get_or r 3 0) (b 2),
        high_byte (get_or r 2 0) (get_or r 3 0) (b 2),
        low_byte (get_or r 4 0) (get_or r 5 0) (b 4),
        high_byte (get_or r 4 0) (get_or r 5 0) (b 4),
        low_byte (get_or r 6 0) (get_or r 7 0) (b 6),
        high_byte (get_or r 6 0) (get_or r 7 0) (b 6),
      ))

-- a test of all that follows from another, and what it says of each
pub every_mono : (p q : ℕ → Bool) → ((l : ℕ) → p l ≡ true → q l ≡ true) → (ls : List ℕ) → every p ls ≡ true → every q ls ≡ true
every_mono p q h [] e = refl
every_mono p q h (l ∷ ls) e =
    let d = both (p l) (every p ls) e in
    and_both (q l) (every q ls) (h l d.0) (every_mono p q h ls d.1)

pub every-at : (p : ℕ → Bool) (ls : List ℕ) (i d : ℕ) → every p ls ≡ true → p d ≡ true → p (get_or ls i d) ≡ true
every-at p [] i d e h = h
every-at p (l ∷ ls) zero d e h = (both (p l) (every p ls) e).0
every-at p (l ∷ ls) (suc i) d e h = every-at p ls i d (both (p l) (every p ls) e).1 h

-- two functions that agree on what passes
pub map-every : {A : Type 0} (p : ℕ → Bool) (f g : ℕ → A) → ((l : ℕ) → p l ≡ true → f l ≡ g l) → (ls : List ℕ) → every p ls ≡ true → map f ls ≡ map g ls
map-every p f g h [] e = refl
map-every p f g h (l ∷ ls) e =
    let d = both (p l) (every p ls) e in
    rw (h l d.0, map-every p f g h ls d.1)

-- what reads at one place reads at every later one
pub later : (r : List ℕ) (n n' : ℕ) {x : Node} → n ≤ n' → read_record r n ≡ answer x → read_record r n' ≡ answer x
unfolding range_ok
later r n n' {x} h e =
    let p = reads r n e in
    let below : (l : ℕ) → ltb (l / 2) n ≡ true → ltb (l / 2) n' ≡ true = λ l q. lt-ltb (l / 2) n' (omega (arith, ltb-true (l / 2) n q)) in
    let range : range_ok x n' ≡ true = cond_mono (eqb x.kind 2) (λ q. q) (every_mono (λ l. ltb (l / 2) n) (λ l. ltb (l / 2) n') below (operands x)) p.range in
    reading r n' (record { node = p.node; form = p.form; range = range; order = p.order })

-- the fields of a node that reads are small
pub record Small (x : Node) : Type 0 where
  pub kind : x.kind < 9
  pub a : x.a < 4032
  pub b : x.b < 4032
  pub c : x.c < 4032

module _ (x : Node) (one n : ℕ) (h : n ≤ 2016) (f : form_ok x one ≡ true) (range : range_ok x n ≡ true) where
  form : cond (eqb x.kind 1) (eqb x.a 0 && (eqb x.b 0 && eqb x.c 0))
      (cond (eqb x.kind 2) (eqb x.b 0 && eqb x.c 0)
      (cond (ltb x.kind 7) (ltb 2 x.kind && eqb x.c 0) (ltb x.kind 9)))
      ≡ true
  unfolding form_ok
  form = (both (eqb one 0) _ f).1

  -- a literal of a node below n
  small_operand : 2 < x.kind → (i : ℕ) → i < arity x.kind → get_or (x.a ∷ x.b ∷ x.c ∷ []) i 0 < 4032
  unfolding range_ok
  small_operand k i l =
      let all : every (λ l. ltb (l / 2) n) (operands x) ≡ true = rw (ne_eqb x.kind 2 (λ q. omega arith)) at range in
      let each : (m : ℕ) → ltb (m / 2) n ≡ true → ltb m 4032 ≡ true = λ m q. lt-ltb m 4032 (omega (arith, ltb-true (m / 2) n q)) in
      let at = every-at (λ m. ltb m 4032) (operands x) i 0 (every_mono (λ l. ltb (l / 2) n) (λ m. ltb m 4032) each (operands x) all) refl in
      ltb-true (get_or (x.a ∷ x.b ∷ x.c ∷ []) i 0) 4032 (rw (operand_at x i 0 l) at at)

  small_three : 7 ≤ x.kind → Small x
  small_three k =
      let some : 2 < x.kind = omega arith in
      let three = arity-three x.kind k in
      let kinds : ltb x.kind 9 ≡ true = rw (ne_eqb x.kind 1 (λ q. omega arith), ne_eqb x.kind 2 (λ q. omega arith), le-ltb x.kind 7 k) at form in
      record {
        kind = ltb-true x.kind 9 kinds;
        a = small_operand some 0 (omega arith);
        b = small_operand some 1 (omega arith);
        c = small_operand some 2 (omega arith);
      }

  small_two : 2 < x.kind → x.kind < 7 → Small x
  small_two some k =
      let two = arity-two x.kind some k in
      let zero = rw (ne_eqb x.kind 1 (λ q. omega arith), ne_eqb x.kind 2 (λ q. omega arith), lt-ltb x.kind 7 k) at form in
      record {
        kind = omega arith;
        a = small_operand some 0 (omega arith);
        b = small_operand some 1 (omega arith);
        c = omega (arith, eqb-true x.c 0 (both (ltb 2 x.kind) (eqb x.c 0) zero).1);
      }

  small_atom : x.kind ≡ 2 → Small x
  unfolding range_ok
  small_atom k =
      let zero = both (eqb x.b 0) (eqb x.c 0) (rw k at form) in
      record {
        kind = omega arith;
        a = omega (arith, ltb-true x.a 1024 (rw k at range));
        b = omega (arith, eqb-true x.b 0 zero.0);
        c = omega (arith, eqb-true x.c 0 zero.1);
      }

  small_true : x.kind ≡ 1 → Small x
  small_true k =
      let zero = both (eqb x.a 0) _ (rw k at form) in
      let more = both (eqb x.b 0) (eqb x.c 0) zero.1 in
      record {
        kind = omega arith;
        a = omega (arith, eqb-true x.a 0 zero.0);
        b = omega (arith, eqb-true x.b 0 more.0);
        c = omega (arith, eqb-true x.c 0 more.1);
      }

  -- kind 0 is not known
  not-zero : x.kind ≡ 0 → ⊥
  not-zero k = false≢true (rw k at form)

  pub fields_small : Small x
  fields_small =
      by_test (ltb x.kind 7)
      (λ l. by_test (ltb x.kind 3)
      (λ m. by_test (eqb x.kind 2)
      (λ e. small_atom (eqb-true x.kind 2 e))
      (λ e. by_test (eqb x.kind 1)
      (λ o. small_true (eqb-true x.kind 1 o))
      (λ o. absurd (not-zero (omega (arith, ltb-true x.kind 3 m, eqb-false x.kind 2 e, eqb-false x.kind 1 o))))))
      (λ m. small_two (omega (arith, ltb-false x.kind 3 m)) (ltb-true x.kind 7 l)))
      (λ l. small_three (ltb-false x.kind 7 l))

pub small : (r : List ℕ) (n : ℕ) {x : Node} → n ≤ 2016 → Reads r n x → Small x
small r n {x} h p = fields_small x (get_or r 1 0) n h p.form p.range

pub bytes_node : (x : Node) → Small x → Bytes (node_bytes x)
unfolding node_bytes
bytes_node x s =
    bytes_cons x.kind (0 ∷ word_bytes x.a ++ (word_bytes x.b ++ word_bytes x.c)) (omega (arith, s.kind))
    (bytes_cons 0 (word_bytes x.a ++ (word_bytes x.b ++ word_bytes x.c)) (lit< tt)
    (bytes_append (word_bytes x.a) (word_bytes x.b ++ word_bytes x.c) (bytes_word x.a (omega (arith, s.a)))
    (bytes_append (word_bytes x.b) (word_bytes x.c) (bytes_word x.b (omega (arith, s.b))) (bytes_word x.c (omega (arith, s.c))))))

-- two nodes are the same exactly where the test says so
pub same_is : (x y : Node) → same_node x y ≡ true → x ≡ y
same_is x y e =
    let k = both (eqb x.kind y.kind) _ e in
    let a = both (eqb x.a y.a) _ k.1 in
    let b = both (eqb x.b y.b) _ a.1 in
    λ i. record {
      kind = eqb-true x.kind y.kind k.0 i;
      a = eqb-true x.a y.a a.0 i;
      b = eqb-true x.b y.b b.0 i;
      c = eqb-true x.c y.c b.1 i;
    }

pub same_self : (x : Node) → same_node x x ≡ true
same_self x = rw (eq-eqb x.kind x.kind refl, eq-eqb x.a x.a refl, eq-eqb x.b x.b refl, eq-eqb x.c x.c refl)
