-- Numbers of 1 to 9 digits, read digit by digit, and what words say. Assumes nothing.
use mathlib.Core.Path.{◌≡◌, ◌∙◌, ap, sym}
use mathlib.Core.List.{List, []}
use mathlib.Core.Bool.{Bool, true, false, ◌&&◌, and-false, and-true}
use Prim.Native.Nat.{ℕ, ◌+◌, ◌-◌, ◌*◌, ◌^◌, ◌<◌, ◌≤◌}
use native.Mathlib.Nat.{pow-succ'}
use native.Mathlib.Numerals.{add-one}
use native.Mathlib.Omega.{arith}
use lib.Dec.{eqb, leb}
use lib.ListN.{length, get_or, take, drop, length-drop, drop_of_length-le}
use lib.Seq.{take_all, drop-cons}
use borrow.Author.Tests.{eqb-true, eqb-false, leb-true, le-ltb, lt-ltb, eq-eqb, ne_eqb}
use Rattle.codec.proofs.Rows.{both, by_test}
use Rattle.cnf.specs.Text.{digit, few, value_from, all_digits, positive, negative, word_of}
use Rattle.std.specs.Prelude.{Some, None}
use Rattle.cnfwords.specs.Words.{number_of, said}

-- too short or too long
pub none_said : (w : List ℕ) → length w ≡ 0 → None ≡ number_of w
unfolding number_of
none_said w e = rw e

pub long_said : (w : List ℕ) → 9 < length w → None ≡ number_of w
unfolding number_of
long_said w h = rw (le-ltb (length w) 10 h, and-false)

-- one byte more
module _ (w : List ℕ) (i n : ℕ) (h : i < length w) where
  digits_next : all_digits (drop i w) ≡ (digit (get_or w i 0) && all_digits (drop (i + 1) w))
  unfolding all_digits
  digits_next = rw (drop-cons w i 0 h, add-one)

  pub digit_more : digit (get_or w i 0) ≡ true → all_digits (drop i w) ≡ all_digits (drop (i + 1) w)
  digit_more e = digits_next ∙ rw e

  pub value_more : value_from n (drop i w) ≡ value_from (10 * n + (get_or w i 0 - 48)) (drop (i + 1) w)
  unfolding value_from
  value_more = rw (drop-cons w i 0 h, add-one)

  pub other_said : digit (get_or w i 0) ≡ false → all_digits (drop i w) ≡ all_digits w → None ≡ number_of w
  unfolding number_of
  other_said e q = rw (← q, digits_next, e, and-false)

-- all bytes read
pub all_said : (w : List ℕ) (i n : ℕ) → 0 < length w → length w ≤ 9 → length w ≤ i → all_digits (drop i w) ≡ all_digits w
    → value_from n (drop i w) ≡ value_from 0 w → Some n ≡ number_of w
unfolding number_of all_digits value_from
all_said w i n some short done d v =
    let none : drop i w ≡ [] = drop_of_length-le w {i = i} done in
    let all : true ≡ all_digits w = rw none at d in
    let value : n ≡ value_from 0 w = rw none at v in
    rw (lt-ltb 0 (length w) some, lt-ltb (length w) 10 (omega arith), ← all) (ap Some value)

-- what an answer says of the bytes
pub value_said : (w : List ℕ) (v : ℕ) → number_of w ≡ Some v → (few w ≡ true) × (value_from 0 w ≡ v)
unfolding number_of
value_said w v e =
    by_test (few w && all_digits w)
    (λ t. let q : Some (value_from 0 w) ≡ Some v = rw t at e in ((both (few w) (all_digits w) t).0, cc))
    (λ t. absurd (let q : None ≡ Some v = rw t at e in let z : ◌≡◌ {A = ℕ} 0 1 = cc in omega arith))

pub no_value : (w : List ℕ) → all_digits w ≡ true → number_of w ≡ None → few w ≡ false
unfolding number_of
no_value w all e =
    by_test (few w)
    (λ t. absurd (let q : Some (value_from 0 w) ≡ None = rw (t, all) at e in let z : ◌≡◌ {A = ℕ} 0 1 = cc in omega arith))
    (λ t. t)

-- a digit's value
pub digit_range : (b : ℕ) → digit b ≡ true → (48 ≤ b) × (b ≤ 57)
digit_range b e = let p = both (leb 48 b) (leb b 57) e in (leb-true 48 b p.0, leb-true b 57 p.1)

-- a number that is none
not-said : (w : List ℕ) (rest : Bool) → (few w && all_digits w) ≡ false → (few w && (all_digits w && rest)) ≡ false
not-said w rest e = by_test (few w) (λ f. let d : all_digits w ≡ false = rw f at e in rw (f, d)) (λ f. rw f)

-- a word's sign and number
minus_said : (vars : ℕ) (w : List ℕ) → negative vars w ≡ said (number_of w) true vars
unfolding negative number_of
minus_said vars w =
    let v : ℕ = value_from 0 w in
    by_test (few w && all_digits w)
    (λ e.
    let p = both (few w) (all_digits w) e in
    by_test (eqb v 0)
    (λ z. rw (e, p.0, p.1, z, le-ltb 0 v (omega (arith, eqb-true v 0 z)), and-false) (by_test (leb v vars) (λ m. rw m) (λ m. rw m)))
    (λ z. rw (e, p.0, p.1, z, lt-ltb 0 v (omega (arith, eqb-false v 0 z)), and-true)))
    (λ e. rw (e, not-said w (leb v vars) e))

plus_said : (vars : ℕ) (w : List ℕ) → positive vars w ≡ said (number_of w) false vars
unfolding positive number_of
plus_said vars w =
    by_test (few w && all_digits w)
    (λ e. let p = both (few w) (all_digits w) e in rw (e, p.0, p.1))
    (λ e. rw (e, not-said w (leb (value_from 0 w) vars) e))

module _ (vars : ℕ) (w : List ℕ) where
  pub minus_word : get_or w 0 0 ≡ 45 → said (number_of (drop 1 w)) true vars ≡ word_of vars w
  unfolding word_of
  minus_word e = rw (eq-eqb (get_or w 0 0) 45 e) (sym (minus_said vars (drop 1 w)))

  pub plus_word : (get_or w 0 0 ≡ 45 → ⊥) → said (number_of w) false vars ≡ word_of vars w
  unfolding word_of
  plus_word e = rw (ne_eqb (get_or w 0 0) 45 e) (sym (plus_said vars w))

-- the bytes behind a sign
pub behind_sign : (w : List ℕ) → take (length w - 1) (drop 1 w) ≡ drop 1 w
behind_sign w = take_all (length w - 1) (drop 1 w) (omega (arith, length-drop 1 w))

-- digits below 10^i, and one more
pub ten_more : (n i d : ℕ) → n < 10 ^ i → d < 10 → 10 * n + d < 10 ^ (i + 1)
ten_more n i d h l = rw (add-one, pow-succ') (omega arith)
