-- Laws of places and keys: later records stand later; what a record's two numbers hold; and two records of bytes are the same where their
-- keys are. Assumes nothing.
use mathlib.Core.Path.{◌≡◌, ◌∙◌, ap, sym, refl}
use mathlib.Core.List.{List}
use mathlib.Core.Bool.{Bool, true, false}
use Prim.Native.Nat.{ℕ, zero, suc, ◌+◌, ◌*◌, ◌/◌, ◌%◌, ◌≤◌, ◌<◌}
use native.Mathlib.Omega.{arith}
use lib.Dec.{eqb, lit<}
use lib.ListN.{get_or, drop}
use lib.Seq.{get_or-take, get_or-drop}
use borrow.Author.Tests.{eq-eqb, ne_eqb, eqb-true}
use Rattle.scope.specs.declared.Node.{Node}
use Rattle.scope.specs.Block.{word_at, record_at}
use Rattle.scope.specs.Table.{tables, node_of, node_at, same_node, any_below, repeats}
use Rattle.codec.specs.Valid.{Bytes}
use Rattle.codec.proofs.Records.{same_is}
use Rattle.record.specs.Place.{place_of}
use Rattle.record.specs.Halves.{double_at, halves_node}
use Rattle.repeats.specs.Chains.{joint, key_at, hash_of, Plain}

-- later records stand later
pub place_mono : (m n : ℕ) → m ≤ n → place_of m ≤ place_of n
place_mono m n h = omega arith

-- whether node m has the key k
abbrev pub has_key : List ℕ → ℕ → ℕ → Bool
has_key t k m = eqb (key_at t m) k

-- a byte of a record in its table
pub byte_at : (t : List ℕ) (n i : ℕ) → i < 8 → get_or (record_at tables t n) i 0 ≡ get_or t (place_of n + i) 0
unfolding record_at
byte_at t n i h = get_or-take 8 (drop (place_of n) t) i 0 h ∙ get_or-drop (place_of n) t i 0

-- a number of 16 bits of a record
word_at_lem : (t : List ℕ) (n i : ℕ) → i + 1 < 8 → word_at (record_at tables t n) i ≡ word_at t (place_of n + i)
word_at_lem t n i h =
    let high : get_or (record_at tables t n) (i + 1) 0 ≡ get_or t (place_of n + i + 1) 0 =
    byte_at t n (i + 1) h ∙ ap (λ (j : ℕ). get_or t j 0) (omega arith) in
    rw (byte_at t n i (omega arith), high)

-- where the fields of a node stand
record Parts (t : List ℕ) (n : ℕ) : Type 0 where
  kind_at : (node_at t n).kind ≡ get_or t (place_of n) 0
  a_at : (node_at t n).a ≡ word_at t (place_of n + 2)
  b_at : (node_at t n).b ≡ word_at t (place_of n + 4)
  c_at : (node_at t n).c ≡ word_at t (place_of n + 4 + 2)

parts : (t : List ℕ) (n : ℕ) → Parts t n
unfolding node_of
parts t n = record {
  kind_at = byte_at t n 0 (lit< tt) ∙ ap (λ (i : ℕ). get_or t i 0) (omega arith);
  a_at = word_at_lem t n 2 (lit< tt);
  b_at = word_at_lem t n 4 (lit< tt);
  c_at = word_at_lem t n 6 (lit< tt) ∙ ap (word_at t) (omega arith);
}

-- a byte and words: a key keeps such fields apart
record Small (x : Node) : Type 0 where
  kind_small : x.kind < 256
  a_small : x.a < 65536
  b_small : x.b < 65536
  c_small : x.c < 65536

node_small : (t : List ℕ) (n : ℕ) → Bytes t → Small (node_at t n)
node_small t n b =
    let p = parts t n in
    record {
      kind_small = rw p.kind_at (b (place_of n));
      a_small = omega (arith, p.a_at, b (place_of n + 2), b (place_of n + 2 + 1));
      b_small = omega (arith, p.b_at, b (place_of n + 4), b (place_of n + 4 + 1));
      c_small = omega (arith, p.c_at, b (place_of n + 4 + 2), b (place_of n + 4 + 2 + 1));
    }

-- the fields as one number: the key, where byte 1 is 0
abbrev key_of : Node → ℕ
key_of x = x.kind + 65536 * x.a + 4294967296 * x.b + 281474976710656 * x.c

key_node : (t : List ℕ) (n : ℕ) → Plain t n → key_at t n ≡ key_of (node_at t n)
key_node t n z = let p = parts t n in omega (arith, p.kind_at, p.a_at, p.b_at, p.c_at, z)

-- the two numbers of a record hold its fields and byte 1
module _ (t : List ℕ) (n : ℕ) (b : Bytes t) where
  pub halves_node_lem : halves_node (double_at t (place_of n)) (double_at t (place_of n + 4)) ≡ node_at t n
  halves_node_lem =
      let p = parts t n in
      let s = node_small t n b in
      let kind : double_at t (place_of n) % 256 ≡ (node_at t n).kind = omega (arith, p.kind_at, s.kind_small) in
      let first : double_at t (place_of n) / 65536 ≡ (node_at t n).a = omega (arith, p.a_at, b (place_of n), b (place_of n + 1)) in
      let second : double_at t (place_of n + 4) % 65536 ≡ (node_at t n).b = omega (arith, p.b_at, s.b_small) in
      let third : double_at t (place_of n + 4) / 65536 ≡ (node_at t n).c = omega (arith, p.c_at, p.b_at, s.b_small) in
      λ i. record { kind = kind i; a = first i; b = second i; c = third i }

  pub halves_one : double_at t (place_of n) / 256 % 256 ≡ get_or (record_at tables t n) 1 0
  halves_one = omega (arith, byte_at t n 1 (lit< tt), b (place_of n), b (place_of n + 1))

-- two tests that imply each other
agree : (p q : Bool) → (p ≡ true → q ≡ true) → (q ≡ true → p ≡ true) → p ≡ q
agree true q f g = sym (f refl)
agree false true f g = g refl
agree false false f g = refl

-- two nodes whose fields are small are the same where their keys are
module _ (x y : Node) (sx : Small x) (sy : Small y) where
  same_key : same_node x y ≡ true → key_of x ≡ key_of y
  same_key e = ap key_of (same_is x y e)

  key_same : key_of x ≡ key_of y → same_node x y ≡ true
  key_same e =
      simp (
        eq-eqb x.kind y.kind (omega arith),
        eq-eqb x.a y.a (omega arith),
        eq-eqb x.b y.b (omega arith),
        eq-eqb x.c y.c (omega arith),
      )

  by_key : same_node x y ≡ eqb (key_of x) (key_of y)
  by_key =
      agree (same_node x y) (eqb (key_of x) (key_of y))
      (λ e. eq-eqb (key_of x) (key_of y) (same_key e))
      (λ e. key_same (eqb-true (key_of x) (key_of y) e))

-- tests that agree pass or fail together
any_same : (p q : ℕ → Bool) (n : ℕ) → ((m : ℕ) → m < n → p m ≡ q m) → any_below p n ≡ any_below q n
unfolding any_below
any_same p q zero h = refl
any_same p q (suc n) h = rw (h n (omega arith), any_same p q n (λ m l. h m (omega arith)))

-- a record repeats an earlier one where an earlier one has its key
pub repeats_key : (t : List ℕ) (n : ℕ) → Bytes t → ((m : ℕ) → m < n → Plain t m) → Plain t n → repeats t n ≡ any_below (has_key t (key_at t n)) n
unfolding repeats
repeats_key t n b z y =
    any_same _ _ n
    (λ m l. rw (key_node t m (z m l), key_node t n y) (by_key (node_at t m) (node_at t n) (node_small t m b) (node_small t n b)))

-- two numbers of 32 bits joined are told apart
joint_low : (low high low' high' : ℕ) → low < 4294967296 → low' < 4294967296 → joint low high ≡ joint low' high' → low ≡ low'
joint_low low high low' high' l l' e = omega arith

joint_high : (low high low' high' : ℕ) → low ≡ low' → eqb (joint low high) (joint low' high') ≡ eqb high high'
joint_high low high low' high' e =
    agree (eqb (joint low high) (joint low' high')) (eqb high high')
    (λ q. eq-eqb high high' (let j = eqb-true (joint low high) (joint low' high') q in omega arith))
    (λ q. eq-eqb (joint low high) (joint low' high') (let j = eqb-true high high' q in omega arith))

-- the record of node m is these two numbers or not, by the first that differs
module _ (t : List ℕ) (m low high : ℕ) {at first : ℕ} (p : at ≡ place_of m) (e : first ≡ double_at t at) where
  pub other_low : Bytes t → low < 4294967296 → (first ≡ low → ⊥) → eqb first low ≡ eqb (key_at t m) (joint low high)
  other_low b l d =
      let small : double_at t (place_of m) < 4294967296 = omega (arith, b (place_of m), b (place_of m + 1), b (place_of m + 2), b (place_of m + 2 + 1)) in
      ne_eqb first low d ∙ sym (ne_eqb (key_at t m) (joint low high) (λ q. d (e ∙ ap (double_at t) p ∙ joint_low _ _ _ _ small l q)))

  pub by_high : {second : ℕ} → second ≡ double_at t (at + 4) → first ≡ low → eqb second high ≡ eqb (key_at t m) (joint low high)
  by_high f l =
      ap (λ (z : ℕ). eqb z high) (f ∙ ap (λ (z : ℕ). double_at t (z + 4)) p)
      ∙ sym (joint_high _ _ low high (sym (e ∙ ap (double_at t) p) ∙ l))

-- the hash of two numbers
pub hash_joint : (low high : ℕ) → low < 4294967296 → (3266489917 * low + 668265263 * high) / 1048576 % 4096 ≡ hash_of (joint low high)
unfolding hash_of
hash_joint low high l =
    let first : joint low high % 4294967296 ≡ low = omega arith in
    let second : joint low high / 4294967296 ≡ high = omega arith in
    rw (first, second)
