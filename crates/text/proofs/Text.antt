-- Laws of text in a buffer, of decimal numbers, and of reading them. Assumes nothing.
use mathlib.Core.Path.{◌≡◌, ◌∙◌, refl, ap, sym}
use mathlib.Core.List.{List, [], ◌∷◌, ◌++◌, append_assoc}
use mathlib.Core.Logic.{◌⊎◌, inl, inr}
use mathlib.Core.Bool.{Bool, true, false, cond, ◌&&◌}
use Prim.Native.Nat.{ℕ, zero, suc, ◌+◌, ◌-◌, ◌*◌, ◌/◌, ◌%◌, ◌^◌, ◌<◌, ◌≤◌}
use native.Mathlib.Nat.{add-zero, one-le-pow, pow-succ', pow-le-pow_right}
use native.Mathlib.Numerals.{add-one}
use native.Mathlib.Omega.{arith}
use lib.Dec.{eqb, leb, ltb, lit<}
use lib.ListN.{length, take, drop, length-append, take-append-drop, get_or, drop_of_length-le}
use lib.Seq.{length-take-le, take_at, drop_at, drop-drop, drop-cons}
use borrow.Rule.Slice.PartMut.{put_mid, same_len_mid, mid_len, Post-is}
use borrow.Author.Tests.{le-leb, lt-leb, lt-ltb, le-ltb, leb-true, leb-false}
use Rattle.text.specs.Counts.{IsPrefixLen}
use Rattle.text.specs.Digits.{hex_digit_ascii, last_digits, IsDigitCount}
use Rattle.text.specs.Text.{digits_of, decimal, over, Put, number, none, read_from, read_number}

-- a part that was lent, and came back as the text
pub copied : (out : List ℕ) (at : ℕ) (s : List ℕ) {part : List ℕ} → at + length s ≤ length out → part ≡ s
    → Put out at s (put_mid at (at + length s - at) out part) (at + length s)
copied out at s {part} room e =
    let all : put_mid at (at + length s - at) out part ≡ over out at s = rw (e, Post-is at (at + length s) out (omega arith)) in
    record {
      bytes = all;
      ends = refl;
      size = same_len_mid at (at + length s - at) out part (ap length e ∙ sym (mid_len at (at + length s) out room ∙ (omega arith)));
    }

-- no text
pub nothing : (out : List ℕ) (at : ℕ) → Put out at [] out at
nothing out at = record { bytes = rw add-zero (sym (take-append-drop at out)); ends = omega arith; size = refl }

-- ---- one text behind another

length_over : (out : List ℕ) (at : ℕ) (s : List ℕ) → at ≤ length out → length (take at out ++ s) ≡ at + length s
length_over out at s h = length-append (take at out) s ∙ ap (◌+ length s) (length-take-le at out h)

pub behind : {out out₁ out₂ s t : List ℕ} {a b c : ℕ} → a ≤ length out → Put out a s out₁ b → Put out₁ b t out₂ c → Put out a (s ++ t) out₂ c
behind {out} {out₁} {out₂} {s} {t} {a} {b} {c} h p q =
    let rest : List ℕ = drop (a + length s) out in
    let sum : a + length s + length t ≡ a + length (s ++ t) = simp length-append (omega arith) in
    let size : length (take a out ++ s) ≡ b = length_over out a s h ∙ sym p.ends in
    let first : out₁ ≡ (take a out ++ s) ++ rest = p.bytes ∙ sym (append_assoc (take a out) s rest) in
    let front : take b out₁ ≡ take a out ++ s = ap (take b) first ∙ take_at (take a out ++ s) rest b size in
    let behind-first : drop b out₁ ≡ rest = ap (drop b) first ∙ drop_at (take a out ++ s) rest b size in
    let back : drop (b + length t) out₁ ≡ drop (a + length (s ++ t)) out =
    sym (drop-drop (length t) b out₁) ∙ ap (drop (length t)) behind-first ∙ drop-drop (length t) (a + length s) out ∙ ap (λ (n : ℕ). drop n out) sum in
    record {
      bytes = q.bytes ∙ rw (front, back, append_assoc (take a out) s, append_assoc s t);
      ends = simp length-append (omega arith);
      size = q.size ∙ p.size;
    }

-- what was put lies within the buffer
pub within : {out out₁ s : List ℕ} {a b : ℕ} → a ≤ length out → Put out a s out₁ b → b ≤ length out
within {out} {out₁} {s} {a} {b} h p =
    let size : length out₁ ≡ a + (length s + length (drop (a + length s) out)) =
    ap length p.bytes ∙ length-append (take a out) (s ++ drop (a + length s) out)
    ∙ ap (◌+ length (s ++ drop (a + length s) out)) (length-take-le a out h) ∙ ap (a +◌) (length-append s (drop (a + length s) out)) in
    omega arith

-- .. so that it can be lent
pub counted : {out out₁ s : List ℕ} {a b : ℕ} → a ≤ length out → Put out a s out₁ b → IsPrefixLen b out₁
counted {out} {out₁} {s} {a} {b} h p =
    let inside : b ≤ length out₁ = omega (arith, within h p, p.size) in
    (inside, sym (length-take-le b out₁ inside))

-- ---- decimal numbers

-- a number below ten is one digit
one-digit : (n : ℕ) → n < 10 → hex_digit_ascii (n % 10) ≡ 48 + n
one-digit n h =
    let e : n % 10 ≡ n = omega arith in
    rw (e, lt-ltb n 10 h)

less : (j : ℕ) → suc j - 1 ≡ j
less j = omega arith

-- the fewest digits that hold a number are its decimal
spelled_by : (k f n : ℕ) → n ≤ f → IsDigitCount 10 1 n k → last_digits 10 k n ≡ digits_of f n
unfolding digits_of
spelled_by zero f n h w = absurd (omega (arith, w))
spelled_by (suc zero) zero n h w = ap (◌∷ []) (one-digit n w.1)
spelled_by (suc zero) (suc f) n h w = rw (lt-ltb n 10 w.1) (ap (◌∷ []) (one-digit n w.1))
spelled_by (suc (suc j)) zero n h w = absurd (omega (arith, one-le-pow (suc j) 10 (lit< tt), rw (less (suc j)) at (w.2 (omega arith))))
spelled_by (suc (suc j)) (suc f) n h w =
    let low : 10 * 10 ^ j ≤ n = rw (less (suc j), pow-succ') at (w.2 (omega arith)) in
    let high : n < 10 * 10 ^ suc j = rw pow-succ' at w.1 in
    let some : 1 ≤ 10 ^ j = one-le-pow j 10 (lit< tt) in
    let fewer : IsDigitCount 10 1 (n / 10) (suc j) = (omega arith, omega arith, λ l. rw (less j) (omega arith)) in
    let last : hex_digit_ascii (n % 10) ≡ 48 + n % 10 = rw (lt-ltb (n % 10) 10 (omega arith)) in
    rw (le-ltb n 10 (omega arith), last, spelled_by (suc j) f (n / 10) (omega arith) fewer)

pub spelled : (k n : ℕ) → IsDigitCount 10 1 n k → last_digits 10 k n ≡ decimal n
spelled k n w = spelled_by k n n (omega arith) w

-- a number of 64 bits has at most twenty digits
twenty_by : (b : Bool) (k n : ℕ) → leb k 20 ≡ b → n < 18446744073709551616 → IsDigitCount 10 1 n k → k ≤ 20
twenty_by true k n e h w = leb-true k 20 e
twenty_by false k n e h w =
    let many : 20 < k = leb-false k 20 e in
    absurd (omega (arith, pow-le-pow_right {n = 10} (lit< tt) {i = 20} {j = k - 1} (omega arith), w.2 (omega arith)))

pub twenty : (k n : ℕ) → n < 18446744073709551616 → IsDigitCount 10 1 n k → k ≤ 20
twenty k n h w = twenty_by (leb k 20) k n refl h w

-- ---- the number that a text says

module _ (s : List ℕ) (v i : ℕ) (h : i < length s) where
  abbrev here : ℕ
  here = get_or s i 0

  opened : read_from v (drop i s) ≡ cond (leb 48 here && (leb here 57 && ltb v 1000000000)) (read_from (10 * v + (here - 48)) (drop (suc i) s)) none
  unfolding read_from
  opened = rw (drop-cons s i 0 h)

  low_byte : here < 48 → read_from v (drop i s) ≡ none
  low_byte e = opened ∙ rw (lt-leb 48 here e)

  high_byte : 57 < here → read_from v (drop i s) ≡ none
  high_byte e = opened ∙ rw (le-leb 48 here (omega arith), lt-leb here 57 e)

  pub no_digit : (here < 48) ⊎ (57 < here) → read_from v (drop i s) ≡ none
  no_digit (inl e) = low_byte e
  no_digit (inr e) = high_byte e

  module _ (low : 48 ≤ here) (high : here ≤ 57) where
    pub too_long : 1000000000 ≤ v → read_from v (drop i s) ≡ none
    too_long e = opened ∙ rw (le-leb 48 here low, le-leb here 57 high, le-ltb v 1000000000 e)

    pub one_more : v < 1000000000 → read_from (10 * v + (here - 48)) (drop (i + 1) s) ≡ read_from v (drop i s)
    one_more e = sym (opened ∙ rw (le-leb 48 here low, le-leb here 57 high, lt-ltb v 1000000000 e, add-one i))

pub no_more : (s : List ℕ) (v i : ℕ) → length s ≤ i → read_from v (drop i s) ≡ number v
unfolding read_from
no_more s v i h = rw (drop_of_length-le s {i = i} h)

pub no-digits : (s : List ℕ) → eqb (length s) 0 ≡ true → read_number s ≡ none
unfolding read_number
no-digits s e = rw e

pub some-digits : (s : List ℕ) → eqb (length s) 0 ≡ false → read_from 0 s ≡ read_number s
unfolding read_number
some-digits s e = rw e
