-- A sign and a run of digits, read at once. Assumes nothing.
use mathlib.Core.Path.{◌≡◌, ◌∙◌, ap, sym, refl, subst}
use mathlib.Core.List.{List, [], ◌∷◌, ◌++◌}
use mathlib.Core.Bool.{true, false}
use Prim.Native.Nat.{ℕ, ◌+◌, ◌-◌, ◌*◌, ◌^◌, ◌<◌, ◌≤◌}
use native.Mathlib.Omega.{arith}
use lib.Dec.{eqb, ltb}
use lib.ListN.{length, get_or, take, drop, length-take, length-drop}
use lib.Seq.{drop-drop, get_or-take, get_or-drop}
use borrow.Author.Tests.{eqb-true, eqb-false, ne_eqb, lt-ltb, le-ltb}
use Rattle.codec.proofs.Rows.{both, by_test}
use Rattle.codec.proofs.Bytes.{drop-take}
use Rattle.cnf.specs.declared.Word.{Word}
use Rattle.cnf.specs.declared.Word.TheVariants.{Malformed, End, Literal}
use Rattle.cnf.specs.Text.{digit, value_from, separator, words_from, all_digits, word_of}
use Rattle.std.specs.Prelude.{Some}
use Rattle.cnfwords.specs.declared.Run.{Run}
use Rattle.cnfwords.specs.declared.Token.{Token}
use Rattle.cnfwords.specs.Words.{number_of, said, part, Skipped, Parted, Signed, Runs, Next, token_of, TokenAt}
use Rattle.cnfwords.proofs.Numbers.{digit_range, ten_more, minus_word, plus_word}
use Rattle.cnfwords.proofs.Words.{part_more, byte_joins, word_starts, next_word}

-- more digits behind others
digits_append : (w : List ℕ) (b : ℕ) → all_digits w ≡ true → digit b ≡ true → all_digits (w ++ b ∷ []) ≡ true
unfolding all_digits
digits_append [] b e d = rw d
digits_append (x ∷ w) b e d =
    let p = both (digit x) (all_digits w) e in
    rw p.0 (digits_append w b p.1 d)

value_append : (w : List ℕ) (n b : ℕ) → value_from n (w ++ b ∷ []) ≡ 10 * value_from n w + (b - 48)
unfolding value_from
value_append [] n b = refl
value_append (x ∷ w) n b = value_append w (10 * n + (x - 48)) b

-- what is a digit, or a minus, separates no words
apart : (b : ℕ) → (b ≡ 32 → ⊥) → (b ≡ 10 → ⊥) → separator b ≡ false
apart b h k = rw (ne_eqb b 32 h, ne_eqb b 10 k)

digit-apart : (b : ℕ) → digit b ≡ true → separator b ≡ false
digit-apart b e = let p = digit_range b e in apart b (λ q. omega arith) (λ q. omega arith)

-- a run so far
pub record Running (text : List ℕ) (at value i : ℕ) : Type 0 where
  pub later : at ≤ i
  pub within : i ≤ length text
  pub short : i ≤ at + 9
  pub low : value < 10 ^ (i - at)
  pub digits : all_digits (part text at i) ≡ true
  pub value_is : value_from 0 (part text at i) ≡ value
  pub joins : (from : ℕ) → from ≤ at → words_from (part text from i) (drop i text) ≡ words_from (part text from at) (drop at text)

none-part : (text : List ℕ) (at : ℕ) → part text at at ≡ []
none-part text at = let none : at - at ≡ 0 = omega arith in rw none

pub run_none : (text : List ℕ) (at : ℕ) → at ≤ length text → Running text at 0 at
unfolding all_digits value_from
run_none text at h =
    let none : at - at ≡ 0 = omega arith in
    record {
      later = omega arith;
      within = h;
      short = omega arith;
      low = rw none (omega arith);
      digits = rw (none-part text at);
      value_is = rw (none-part text at);
      joins = λ from l. refl;
    }

module _ {text : List ℕ} {at value i : ℕ} (r : Running text at value i) where
  pub run_more : i < length text → i < at + 9 → digit (get_or text i 0) ≡ true → Running text at (10 * value + (get_or text i 0 - 48)) (i + 1)
  run_more h short d =
      let more : part text at (i + 1) ≡ part text at i ++ get_or text i 0 ∷ [] = part_more text i h at r.later in
      let one : i + 1 - at ≡ i - at + 1 = omega (arith, r.later) in
      record {
        later = omega (arith, r.later);
        within = omega arith;
        short = omega arith;
        low = rw one (ten_more value (i - at) (get_or text i 0 - 48) r.low (omega (arith, digit_range (get_or text i 0) d)));
        digits = rw more (digits_append (part text at i) (get_or text i 0) r.digits d);
        value_is = rw more (value_append (part text at i) 0 (get_or text i 0) ∙ ap (λ (n : ℕ). 10 * n + (get_or text i 0 - 48)) r.value_is);
        joins = λ from l. sym (byte_joins text i h from (omega (arith, r.later)) (digit-apart (get_or text i 0) d)) ∙ r.joins from l;
      }

  pub run_done : Runs text at (record { value = value; end = i })
  run_done = record { later = r.later; within = r.within; short = r.short; digits = r.digits; value_is = r.value_is; joins = r.joins }

-- the number of a run
run_number : {text : List ℕ} {at : ℕ} {r : Run} → Runs text at r → at < r.end → number_of (part text at r.end) ≡ Some r.value
unfolding number_of
run_number {text} {at} {r} p h =
    let size : length (part text at r.end) ≡ r.end - at = simp (length-take, length-drop) (omega (arith, p.within)) in
    rw (lt-ltb 0 (length (part text at r.end)) (omega arith), lt-ltb (length (part text at r.end)) 10 (omega (arith, p.short)), p.digits, p.value_is)

-- the word of a sign and a run
module _ {text : List ℕ} {at from start : ℕ} {r : Run} (s : Skipped text at from) (some : from < length text) (g : Signed text from start) (p : Runs text start r) (h : start < r.end)
    (next : r.end < length text → separator (get_or text r.end 0) ≡ true) where
  first_byte : from < r.end → get_or (part text from r.end) 0 0 ≡ get_or text from 0
  first_byte l =
      let none : from + 0 ≡ from = omega arith in
      get_or-take (r.end - from) (drop from text) 0 0 (omega arith) ∙ get_or-drop from text 0 0 ∙ ap (λ (i : ℕ). get_or text i 0) none

  module _ (e : get_or text from 0 ≡ 45) where
    at_start : start ≡ from + 1
    at_start = g.minus e

    minus-parted : Parted text from r.end
    minus-parted = record {
      later = omega (arith, at_start);
      within = p.within;
      word =
          word_starts text from
          ∙ byte_joins text from some from (omega arith) (rw e refl)
          ∙ ap (λ (i : ℕ). words_from (part text from i) (drop i text)) (sym at_start)
          ∙ sym (p.joins from (omega (arith, at_start)));
      next = next;
    }

    behind : drop 1 (part text from r.end) ≡ part text start r.end
    behind =
        let q : r.end - from ≡ 1 + (r.end - start) = omega (arith, at_start) in
        ap (λ (i : ℕ). drop 1 (take i (drop from text))) q ∙ drop-take 1 (r.end - start) (drop from text)
        ∙ ap (take (r.end - start)) (drop-drop 1 from text ∙ ap (λ (i : ℕ). drop i text) (sym at_start))

    minus-says : (vars : ℕ) → word_of vars (part text from r.end) ≡ said (Some r.value) true vars
    minus-says vars =
        sym (minus_word vars (part text from r.end) (first_byte (omega (arith, at_start)) ∙ e))
        ∙ ap (λ x. said x true vars) (ap number_of behind ∙ run_number p h)

  module _ (e : get_or text from 0 ≡ 45 → ⊥) where
    here : start ≡ from
    here = g.none e

    plus-parted : Parted text from r.end
    plus-parted = record {
      later = omega (arith, here);
      within = p.within;
      word = word_starts text from ∙ ap (λ (i : ℕ). words_from (part text from i) (drop i text)) (sym here) ∙ sym (p.joins from (omega (arith, here)));
      next = next;
    }

    plus-says : (vars : ℕ) → word_of vars (part text from r.end) ≡ said (Some r.value) false vars
    plus-says vars =
        sym (plus_word vars (part text from r.end) (λ q. e (sym (first_byte (omega (arith, here))) ∙ q)))
        ∙ ap (λ x. said x false vars) (ap (λ (i : ℕ). number_of (part text i r.end)) (sym here) ∙ run_number p h)

  -- what it says, with the sign as the places tell it
  pub run_says : (vars : ℕ) → Next vars text at (said (Some r.value) (ltb from start) vars) r.end
  run_says vars =
      by_test (eqb (get_or text from 0) 45)
      (λ q.
      let e : get_or text from 0 ≡ 45 = eqb-true (get_or text from 0) 45 q in
      next_word s (minus-parted e) some vars _ (minus-says e vars ∙ rw (lt-ltb from start (omega (arith, at_start e)))))
      (λ q.
      let e : get_or text from 0 ≡ 45 → ⊥ = eqb-false (get_or text from 0) 45 q in
      next_word s (plus-parted e) some vars _ (plus-says e vars ∙ rw (le-ltb from start (omega (arith, here e)))))

-- the token of what the next word says
pub token_is : {vars : ℕ} {text : List ℕ} {at end : ℕ} (x : Word) → Next vars text at x end → TokenAt vars text at (token_of x end)
token_is {end = end} Malformed n = (end, n)
token_is End n = n
token_is (Literal l) n = n

-- behind a sign there is still a place
pub signed_within : {text : List ℕ} {at r : ℕ} → Signed text at r → at < length text → r ≤ length text
signed_within {text} {at} g h =
    by_test (eqb (get_or text at 0) 45)
    (λ q. omega (arith, g.minus (eqb-true (get_or text at 0) 45 q)))
    (λ q. omega (arith, g.none (eqb-false (get_or text at 0) 45 q)))

-- the token of a sign and a run
pub run_token : {text : List ℕ} {at from start : ℕ} {r : Run} {w : Word} {t : Token} → Skipped text at from → from < length text → Signed text from start
    → Runs text start r → start < r.end
    → (r.end < length text → separator (get_or text r.end 0) ≡ true) → (vars : ℕ) → w ≡ said (Some r.value) (ltb from start) vars → t ≡ token_of w r.end
    → TokenAt vars text at t
run_token {text} {at} {from} {start} {r} {w} {t} s some g p h next vars e q =
    subst (λ (x : Token). TokenAt vars text at x) (sym q)
    (token_is w (subst (λ (x : Word). Next vars text at x r.end) (sym e) (run_says s some g p h next vars)))
