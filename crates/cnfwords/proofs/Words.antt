-- Words and what stands between them. Assumes nothing.
use mathlib.Core.Path.{◌≡◌, ◌∙◌, sym, refl, subst}
use mathlib.Core.List.{List, [], ◌∷◌, ◌++◌}
use mathlib.Core.Bool.{true, false, false≢true}
use Prim.Native.Nat.{ℕ, suc, ◌+◌, ◌-◌, ◌<◌, ◌≤◌}
use native.Mathlib.Numerals.{add-one}
use native.Mathlib.Omega.{arith}
use lib.Dec.{ltb}
use lib.ListN.{length, get_or, drop, length-take, length-drop, drop_of_length-le}
use lib.Seq.{drop-cons, take-suc, get_or-drop}
use borrow.Author.Tests.{ltb-true, ltb-false}
use Rattle.codec.proofs.Rows.{by_test}
use Rattle.cnf.specs.declared.Word.{Word}
use Rattle.cnf.specs.Text.{separator, ended, words_from, words, word_of}
use Rattle.cnfwords.specs.declared.Token.{Token}
use Rattle.cnfwords.specs.Words.{part, Skipped, Parted, Next, TokenAt}

module _ (text : List ℕ) (i : ℕ) (h : i < length text) where
  -- a separator is passed
  pub separator-passed : separator (get_or text i 0) ≡ true → words (drop (i + 1) text) ≡ words (drop i text)
  unfolding words_from
  separator-passed e = rw (drop-cons text i 0 h, e, add-one)

  -- a separator ends a word
  pub separator_ends : (w : List ℕ) → separator (get_or text i 0) ≡ true → words_from w (drop i text) ≡ ended w (words (drop i text))
  unfolding words_from
  separator_ends w e = rw (drop-cons text i 0 h, e)

  -- another byte joins it
  pub part_more : (at : ℕ) → at ≤ i → part text at (i + 1) ≡ part text at i ++ get_or text i 0 ∷ []
  part_more at l =
      let more : i + 1 - at ≡ suc (i - at) = omega arith in
      let inside : i - at < length (drop at text) = simp length-drop (omega arith) in
      let place : at + (i - at) ≡ i = omega arith in
      rw more (take-suc (drop at text) (i - at) 0 inside ∙ rw (get_or-drop, place))

  pub byte_joins : (at : ℕ) → at ≤ i → separator (get_or text i 0) ≡ false
      → words_from (part text at i) (drop i text) ≡ words_from (part text at (i + 1)) (drop (i + 1) text)
  unfolding words_from
  byte_joins at l e = rw (part_more at l) (rw (drop-cons text i 0 h, e, add-one))

-- a word starts
pub word_starts : (text : List ℕ) (at : ℕ) → words (drop at text) ≡ words_from (part text at at) (drop at text)
word_starts text at = let none : at - at ≡ 0 = omega arith in rw none

-- no byte is left: the word ends
pub text_ends : (text w : List ℕ) (i : ℕ) → length text ≤ i → words_from w (drop i text) ≡ ended w (words (drop i text))
unfolding words_from
text_ends text w i h = rw (drop_of_length-le text {i = i} h)

-- a word of some bytes stands first
pub ended_some : (w : List ℕ) (ws : List (List ℕ)) → 0 < length w → ended w ws ≡ w ∷ ws
ended_some [] ws h = absurd (omega arith)
ended_some (b ∷ w) ws h = refl

-- no byte, no word
pub no_words : (text : List ℕ) (i : ℕ) → length text ≤ i → words (drop i text) ≡ []
unfolding words_from
no_words text i h = rw (drop_of_length-le text {i = i} h)

-- the word between two places, and the words behind it
module _ {text : List ℕ} {at from end : ℕ} (s : Skipped text at from) (p : Parted text from end) (some : from < length text) where
  pub word_some : from < end
  word_some =
      by_test (ltb from end)
      (λ e. ltb-true from end e)
      (λ e.
      let same : end ≡ from = omega (arith, ltb-false from end e, p.later) in
      absurd (false≢true (sym (s.next some) ∙ rw same at (p.next (omega arith)))))

  ends : words_from (part text from end) (drop end text) ≡ ended (part text from end) (words (drop end text))
  ends =
      by_test (ltb end (length text))
      (λ e. separator_ends text end (ltb-true end (length text) e) (part text from end) (p.next (ltb-true end (length text) e)))
      (λ e. text_ends text (part text from end) end (ltb-false end (length text) e))

  pub part_length : length (part text from end) ≡ end - from
  part_length = simp (length-take, length-drop) (omega (arith, p.within))

  word_first : words (drop at text) ≡ part text from end ∷ words (drop end text)
  word_first =
      sym s.same ∙ p.word ∙ ends
      ∙ ended_some (part text from end) (words (drop end text)) (omega (arith, part_length, word_some))

  -- .. what it says
  pub next_word : (vars : ℕ) (x : Word) → word_of vars (part text from end) ≡ x → Next vars text at x end
  next_word vars x e = record {
    word = part text from end;
    first = word_first;
    says = e;
    later = omega (arith, s.later, word_some);
    within = p.within;
  }

-- what is known of a token whose case is known
pub token_told : (vars : ℕ) (text : List ℕ) (at : ℕ) {r x : Token} → r ≡ x → TokenAt vars text at r → TokenAt vars text at x
token_told vars text at e t = subst (λ (x : Token). TokenAt vars text at x) e t
