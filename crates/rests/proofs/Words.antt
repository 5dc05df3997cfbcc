-- The operations on what literals rest on, as operations on words. Assumes nothing.
use mathlib.Core.Path.{◌≡◌, refl, sym, ap₂, ◌∙◌, fun_ext}
use mathlib.Core.List.{List}
use mathlib.Core.Bool.{true, false, not, ◌&&◌, ◌||◌, and-true, and-false}
use Prim.Native.Nat.{ℕ, zero, suc, ◌+◌, ◌-◌, ◌*◌, ◌/◌, ◌%◌, ◌^◌, ◌<◌, ◌≤◌}
use native.Mathlib.Nat.{one-mul}
use native.Mathlib.Omega.{arith}
use native.Mathlib.Decide.{ℕ_discrete, dec_lt}
use lib.Dec.{eqb, ltb}
use lib.ListN.{get_or, set, length-set}
use lib.Seq.{get_or-set_same, get_or-set_other}
use lib.Pow.{shl_exact}
use lib.Bits.{bit_or}
use borrow.Author.Tests.{eqb-true, eq-eqb, ne_eqb, lt-ltb, le-ltb}
use Rattle.calculus.specs.Jump.{Rests, both, only, less}
use Rattle.units.specs.Units.{bit}
use Rattle.units.proofs.Bits.{Turned, clear_bit, bit-none, bit_or_lem, one_bit}
use Rattle.rests.specs.Words.{rest_at, There, Put, word_of}

-- ---- a word of one bit

pub shifted_one : (d : ℕ) → 1 * 2 ^ (d % 64) % 18446744073709551616 ≡ 2 ^ (d % 64)
shifted_one d = shl_exact 1 (d % 64) 64 (omega arith) (omega arith) ∙ one-mul (2 ^ (d % 64))

pub word_here : (k d : ℕ) → d / 64 ≡ k → 2 ^ (d % 64) ≡ word_of k d
unfolding word_of
word_here k d e = rw (eq-eqb (d / 64) k e)

pub word_none : (k d : ℕ) → (d / 64 ≡ k → ⊥) → 0 ≡ word_of k d
unfolding word_of
word_none k d e = rw (ne_eqb (d / 64) k e)

-- its bits
word_bit : (k d i : ℕ) → i < 64 → eqb (bit (word_of k d) i) 1 ≡ eqb (64 * k + i) d
word_bit k d i b = go (ℕ_discrete (d / 64) k) (ℕ_discrete i (d % 64))
  where
    u : Turned 0 (2 ^ (d % 64)) (d % 64) 1
    u = one_bit (d % 64)

    go : Dec (d / 64 ≡ k) → Dec (i ≡ d % 64) → eqb (bit (word_of k d) i) 1 ≡ eqb (64 * k + i) d
    go (yes e) (yes z) = rw (← word_here k d e, eq-eqb (64 * k + i) d (omega arith), z, u.here)
    go (yes e) (no z) = rw (← word_here k d e, ne_eqb (64 * k + i) d (λ q. z (omega arith)), u.other i z, bit-none i)
    go (no e) z = rw (← word_none k d e, bit-none i, ne_eqb (64 * k + i) d (λ q. e (omega arith)))

-- a word that has it, less it
module _ (x k d : ℕ) (h : d / 64 ≡ k → bit x (d % 64) ≡ 1) where
  pub less_fits : word_of k d ≤ x
  less_fits = go (ℕ_discrete (d / 64) k)
    where
      go : Dec (d / 64 ≡ k) → word_of k d ≤ x
      go (yes e) = rw (← word_here k d e) (clear_bit x (d % 64) (h e)).0
      go (no e) = rw (← word_none k d e) (omega arith)

  less-bit : (i : ℕ) → i < 64 → eqb (bit (x - word_of k d) i) 1 ≡ (eqb (bit x i) 1 && not (eqb (64 * k + i) d))
  less-bit i b = go (ℕ_discrete (d / 64) k) (ℕ_discrete i (d % 64))
    where
      go : Dec (d / 64 ≡ k) → Dec (i ≡ d % 64) → eqb (bit (x - word_of k d) i) 1 ≡ (eqb (bit x i) 1 && not (eqb (64 * k + i) d))
      go (yes e) (yes z) =
          rw (← word_here k d e, eq-eqb (64 * k + i) d (omega arith), z, (clear_bit x (d % 64) (h e)).1.here) (sym (and-false (eqb (bit x (d % 64)) 1)))
      go (yes e) (no z) =
          rw (← word_here k d e, ne_eqb (64 * k + i) d (λ q. z (omega arith)), (clear_bit x (d % 64) (h e)).1.other i z) (sym (and-true (eqb (bit x i) 1)))
      go (no e) z =
          let y : x - 0 ≡ x = omega arith in
          rw (← word_none k d e, y, ne_eqb (64 * k + i) d (λ q. e (omega arith))) (sym (and-true (eqb (bit x i) 1)))

-- ---- the set at a slot, by its words

module _ (m : List ℕ) (q i : ℕ) where
  rest-first : i < 64 → rest_at m q i ≡ eqb (bit (get_or m (2 * q) 0) i) 1
  unfolding rest_at
  rest-first h =
      let e : 2 * q + i / 64 ≡ 2 * q = omega arith in
      let f : i % 64 ≡ i = omega arith in
      rw (lt-ltb i 128 (omega arith), e, f)

  rest_second : 64 ≤ i → i < 128 → rest_at m q i ≡ eqb (bit (get_or m (2 * q + 1) 0) (i - 64)) 1
  unfolding rest_at
  rest_second h b =
      let e : 2 * q + i / 64 ≡ 2 * q + 1 = omega arith in
      let f : i % 64 ≡ i - 64 = omega arith in
      rw (lt-ltb i 128 b, e, f)

  rest_past : 128 ≤ i → rest_at m q i ≡ false
  unfolding rest_at
  rest_past h = rw (le-ltb i 128 h)

-- two sets are equal by their words
rest_same : (s r : Rests) → ((i : ℕ) → i < 64 → s i ≡ r i) → ((i : ℕ) → 64 ≤ i → i < 128 → s i ≡ r i) → ((i : ℕ) → 128 ≤ i → s i ≡ r i) → s ≡ r
rest_same s r f g h = fun_ext (λ i. go i (dec_lt i 64) (dec_lt i 128))
  where
    go : (i : ℕ) → Dec (i < 64) → Dec (i < 128) → s i ≡ r i
    go i (yes a) b = f i a
    go i (no a) (yes b) = g i (omega arith) b
    go i (no a) (no b) = h i (omega arith)

-- both words are stored
abbrev pub store_two : List ℕ → ℕ → ℕ → ℕ → List ℕ
store_two m q x y = set (set m (2 * q) x) (2 * q + 1) y

module _ (m : List ℕ) (q x y : ℕ) (h : There m q) where
  abbrev stored : List ℕ
  stored = store_two m q x y

  stored-first : get_or stored (2 * q) 0 ≡ x
  stored-first = get_or-set_other (set m (2 * q) x) (2 * q + 1) (2 * q) y 0 (λ e. omega arith) ∙ get_or-set_same m (2 * q) x 0 (omega arith)

  stored_second : get_or stored (2 * q + 1) 0 ≡ y
  stored_second = get_or-set_same (set m (2 * q) x) (2 * q + 1) y 0 (omega (arith, length-set m (2 * q) x))

  stored_other : (j : ℕ) → (j ≡ 2 * q → ⊥) → (j ≡ 2 * q + 1 → ⊥) → get_or stored j 0 ≡ get_or m j 0
  stored_other j a b = get_or-set_other (set m (2 * q) x) (2 * q + 1) j y 0 b ∙ get_or-set_other m (2 * q) j x 0 a

  put-stored : (s : Rests) → ((i : ℕ) → i < 64 → eqb (bit x i) 1 ≡ s i) → ((i : ℕ) → 64 ≤ i → i < 128 → eqb (bit y (i - 64)) 1 ≡ s i)
      → ((i : ℕ) → 128 ≤ i → s i ≡ false) → Put m q s stored
  put-stored s f g z = record {
    size = length-set (set m (2 * q) x) (2 * q + 1) y ∙ length-set m (2 * q) x;
    here = rest_same (rest_at stored q) s (λ i b. rest-first stored q i b ∙ rw stored-first (f i b))
        (λ i a b. rest_second stored q i a b ∙ rw stored_second (g i a b)) (λ i a. rest_past stored q i a ∙ sym (z i a));
    other = λ p n. rest_same (rest_at stored p) (rest_at m p)
        (λ i b. rest-first stored p i b ∙ rw (stored_other (2 * p) (λ e. n (omega arith)) (λ e. omega arith)) (sym (rest-first m p i b)))
        (λ i a b. rest_second stored p i a b ∙ rw (stored_other (2 * p + 1) (λ e. omega arith) (λ e. n (omega arith))) (sym (rest_second m p i a b)))
        (λ i a. rest_past stored p i a ∙ sym (rest_past m p i a));
  }

-- ---- the sets of slots together

-- two words have the splits of a set
pub record Spells (x y : ℕ) (s : Rests) : Type 0 where
  pub first : (i : ℕ) → i < 64 → eqb (bit x i) 1 ≡ s i
  pub second : (i : ℕ) → 64 ≤ i → i < 128 → eqb (bit y (i - 64)) 1 ≡ s i
  pub past : (i : ℕ) → 128 ≤ i → s i ≡ false

-- those of a slot
pub slot_spells : (m : List ℕ) (p : ℕ) → Spells (get_or m (2 * p) 0) (get_or m (2 * p + 1) 0) (rest_at m p)
slot_spells m p = record {
  first = λ i b. sym (rest-first m p i b);
  second = λ i a b. sym (rest_second m p i a b);
  past = λ i a. rest_past m p i a;
}

pub or_spells : {x y x' y' : ℕ} {s s' : Rests} → Spells x y s → Spells x' y' s' → Spells (bit_or x x') (bit_or y y') (both s s')
or_spells {x} {y} {x'} {y'} h k = record {
  first = λ i b. bit_or_lem x x' i ∙ ap₂ ◌||◌ (h.first i b) (k.first i b);
  second = λ i a b. bit_or_lem y y' (i - 64) ∙ ap₂ ◌||◌ (h.second i a b) (k.second i a b);
  past = λ i a. rw (h.past i a, k.past i a);
}

pub put_spelled : (m : List ℕ) (q : ℕ) {x y : ℕ} {s : Rests} → There m q → Spells x y s → Put m q s (store_two m q x y)
put_spelled m q {x} {y} {s} h k = put-stored m q x y h s k.first k.second k.past

-- ---- what is put at slot q

module _ (m : List ℕ) (q : ℕ) (h : There m q) where
  -- a split that counts, or nothing
  pub put_only : (d : ℕ) → Put m q (only 128 d) (store_two m q (word_of 0 d) (word_of 1 d))
  put_only d =
      put-stored m q (word_of 0 d) (word_of 1 d) h (only 128 d)
      (λ i b. rw (word_bit 0 d i b) (counted (64 * 0 + i) i (omega arith) (omega arith)))
      (λ i a b. rw (word_bit 1 d (i - 64) (omega arith)) (counted (64 * 1 + (i - 64)) i (omega arith) b))
      (λ i a. past i a (ℕ_discrete i d))
    where
      counted : (j i : ℕ) → j ≡ i → i < 128 → eqb j d ≡ (eqb i d && ltb d 128)
      counted j i e b = rw e (go (ℕ_discrete i d))
        where
          go : Dec (i ≡ d) → eqb i d ≡ (eqb i d && ltb d 128)
          go (yes z) = rw (eq-eqb i d z) (sym (lt-ltb d 128 (omega arith)))
          go (no z) = rw (ne_eqb i d z)

      past : (i : ℕ) → 128 ≤ i → Dec (i ≡ d) → (eqb i d && ltb d 128) ≡ false
      past i a (yes z) = rw (eq-eqb i d z, le-ltb d 128 (omega arith))
      past i a (no z) = rw (ne_eqb i d z)

  module _ (p : ℕ) where
    -- the set of slot p less split d, which is in it if it counts
    module _ (d : ℕ) (e : d < 128 → rest_at m p d ≡ true) where
      first_bit : d / 64 ≡ 0 → bit (get_or m (2 * p) 0) (d % 64) ≡ 1
      first_bit z =
          let f : d % 64 ≡ d = omega arith in
          rw f (eqb-true (bit (get_or m (2 * p) 0) d) 1 (sym (rest-first m p d (omega arith)) ∙ e (omega arith)))

      second-bit : d / 64 ≡ 1 → bit (get_or m (2 * p + 1) 0) (d % 64) ≡ 1
      second-bit z =
          let f : d % 64 ≡ d - 64 = omega arith in
          rw f (eqb-true (bit (get_or m (2 * p + 1) 0) (d - 64)) 1 (sym (rest_second m p d (omega arith) (omega arith)) ∙ e (omega arith)))

      pub first_fits : word_of 0 d ≤ get_or m (2 * p) 0
      first_fits = less_fits (get_or m (2 * p) 0) 0 d first_bit

      pub second_fits : word_of 1 d ≤ get_or m (2 * p + 1) 0
      second_fits = less_fits (get_or m (2 * p + 1) 0) 1 d second-bit

      pub put-less : Put m q (less d (rest_at m p)) (store_two m q (get_or m (2 * p) 0 - word_of 0 d) (get_or m (2 * p + 1) 0 - word_of 1 d))
      put-less =
          put-stored m q (get_or m (2 * p) 0 - word_of 0 d) (get_or m (2 * p + 1) 0 - word_of 1 d) h (less d (rest_at m p))
          (λ i b.
          let f : 64 * 0 + i ≡ i = omega arith in
          rw f at (less-bit (get_or m (2 * p) 0) 0 d first_bit i b) ∙ rw (rest-first m p i b))
          (λ i a b.
          let f : 64 * 1 + (i - 64) ≡ i = omega arith in
          rw f at (less-bit (get_or m (2 * p + 1) 0) 1 d second-bit (i - 64) (omega arith)) ∙ rw (rest_second m p i a b))
          (λ i a. rw (rest_past m p i a))

-- ---- a split that counts and is not in the set of slot q

pub without_past : (m : List ℕ) (q d : ℕ) → 128 ≤ d → false ≡ (ltb d 128 && not (rest_at m q d))
without_past m q d h = rw (le-ltb d 128 h)

digit_not : (x : ℕ) → x < 2 → eqb x 0 ≡ not (eqb x 1)
digit_not zero h = refl
digit_not (suc zero) h = refl
digit_not (suc (suc x)) h = absurd (omega arith)

pub without_bit : (m : List ℕ) (q d : ℕ) → d < 128 → eqb (get_or m (2 * q + d / 64) 0 / 2 ^ (d % 64) % 2) 0 ≡ (ltb d 128 && not (rest_at m q d))
unfolding rest_at bit
without_bit m q d h = rw (lt-ltb d 128 h) (digit_not (get_or m (2 * q + d / 64) 0 / 2 ^ (d % 64) % 2) (omega arith))
