-- The parts of a text, byte by byte: comments, bytes that must come next, digits. Assumes nothing.
use mathlib.Core.Path.{◌≡◌, ◌∙◌, ap, sym, refl}
use mathlib.Core.List.{List, [], ◌∷◌, ◌++◌, append_assoc, append-nil}
use mathlib.Core.Bool.{Bool, true, false, not, ◌&&◌}
use Prim.Native.Nat.{ℕ, ◌+◌, ◌-◌, ◌<◌, ◌≤◌}
use native.Mathlib.Numerals.{add-one}
use native.Mathlib.Omega.{arith}
use lib.Dec.{eqb}
use lib.ListN.{length, get_or, take, drop, length-drop, drop_of_length-le}
use lib.Seq.{drop-cons, take_all}
use borrow.Author.Tests.{eqb-true, eqb-false, eq-eqb, ne_eqb}
use Rattle.std.specs.List.{starts_with as starts_by}
use Rattle.scope.proofs.Tests.{and_both}
use Rattle.codec.proofs.Rows.{by_test}
use Rattle.cnf.specs.Text.{behind_comments, starts_with, digit, digits, all_digits}
use Rattle.cnfwords.specs.Words.{part}
use Rattle.cnfwords.proofs.Words.{part_more}

module _ (text : List ℕ) (i : ℕ) (h : i < length text) where
  -- a byte of a comment
  pub comment_byte : {inside inside' : Bool} → inside ≡ true → inside' ≡ not (eqb (get_or text i 0) 10)
      → behind_comments inside' (drop (i + 1) text) ≡ behind_comments inside (drop i text)
  unfolding behind_comments
  comment_byte p q = rw (p, q, drop-cons text i 0 h, add-one)

  -- a comment starts
  pub comment_starts : {inside inside' : Bool} → inside ≡ false → get_or text i 0 ≡ 99 → inside' ≡ true
      → behind_comments inside' (drop (i + 1) text) ≡ behind_comments inside (drop i text)
  unfolding behind_comments
  comment_starts p e q = rw (p, q, drop-cons text i 0 h, eq-eqb (get_or text i 0) 99 e, add-one)

  -- what is no comment
  pub no_comment : {inside : Bool} → inside ≡ false → (get_or text i 0 ≡ 99 → ⊥) → behind_comments inside (drop i text) ≡ drop i text
  unfolding behind_comments
  no_comment p e = rw (p, drop-cons text i 0 h, ne_eqb (get_or text i 0) 99 e)

  -- digits
  pub digit_next : (at : ℕ) → at ≤ i → digit (get_or text i 0) ≡ true
      → part text at i ++ digits (drop i text) ≡ part text at (i + 1) ++ digits (drop (i + 1) text)
  unfolding digits
  digit_next at l e = rw (part_more text i h at l, append_assoc) (ap (part text at i ++◌) (rw (drop-cons text i 0 h, e, add-one)))

  pub no_digit : digit (get_or text i 0) ≡ false → digits (drop i text) ≡ []
  unfolding digits
  no_digit e = rw (drop-cons text i 0 h, e)

-- at the end of the text
module _ (text : List ℕ) (i : ℕ) (h : length text ≤ i) where
  pub comments_done : (inside : Bool) → behind_comments inside (drop i text) ≡ drop i text
  unfolding behind_comments
  comments_done inside = rw (drop_of_length-le text {i = i} h)

  pub digits-done : digits (drop i text) ≡ []
  unfolding digits
  digits-done = rw (drop_of_length-le text {i = i} h)

-- none are left
pub no_more : (xs : List ℕ) {ys : List ℕ} → ys ≡ [] → xs ++ ys ≡ xs
no_more xs e = rw (e, append-nil)

pub digits_all : (t : List ℕ) → all_digits (digits t) ≡ true
unfolding digits all_digits
digits_all [] = refl
digits_all (b ∷ t) =
    by_test (digit b)
    (λ e. rw e (and_both (digit b) (all_digits (digits t)) e (digits_all t)))
    (λ e. rw e)

-- the library's test of what a text starts with
eqb_turned : (x b : ℕ) → eqb x b ≡ eqb b x
eqb_turned x b =
    by_test (eqb x b)
    (λ e. e ∙ sym (eq-eqb b x (sym (eqb-true x b e))))
    (λ e. e ∙ sym (ne_eqb b x (λ q. eqb-false x b e (sym q))))

pub starts_is : (xs t : List ℕ) → starts_by eqb t xs ≡ starts_with xs t
unfolding starts_with
starts_is [] t = refl
starts_is (x ∷ xs) [] = refl
starts_is (x ∷ xs) (b ∷ t) = rw (eqb_turned x b) (ap (eqb b x &&◌) (starts_is xs t))

pub all_left : (text : List ℕ) (at : ℕ) → take (length text - at) (drop at text) ≡ drop at text
all_left text at = take_all (length text - at) (drop at text) (omega (arith, length-drop at text))
