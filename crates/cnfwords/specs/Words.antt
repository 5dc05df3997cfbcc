-- Numbers, where words start and end, and what stands next in a body. Assumes nothing.
use Rattle.std.specs.Prelude.{◌≡◌, List, [], ◌∷◌, Bool, true, false, cond, ◌&&◌, ℕ, ◌+◌, ◌-◌, ◌*◌, ◌<◌, ◌≤◌, eqb, leb, length, get_or, take, drop, Option, Some, None}
use Rattle.cnf.specs.declared.Word.{Word}
use Rattle.cnf.specs.declared.Word.TheVariants.{Malformed, End, Literal}
use Rattle.cnf.specs.Text.{few, value_from, separator, words_from, words, all_digits, word_of}
use Rattle.cnfwords.specs.declared.Run.{Run}
use Rattle.cnfwords.specs.declared.Token.{Token}
use Rattle.cnfwords.specs.declared.Token.TheVariants.{Done, Malformed as Bad, End as Ended, Literal as Joins}

-- 'numbers have 1 to 9 digits'
unfoldable pub number_of : List ℕ → Option ℕ
number_of w = cond (few w && all_digits w) (Some (value_from 0 w)) None

-- what a number says with a sign, where there are so many variables
abbrev pub said : Option ℕ → Bool → ℕ → Word
said None negated vars = Malformed
said (Some v) negated vars =
    cond (leb v vars)
    (cond negated (cond (eqb v 0) Malformed (Literal (2 * (v - 1) + 1)))
    (cond (eqb v 0) End (Literal (2 * (v - 1)))))
    Malformed

-- the bytes from one place up to another
abbrev pub part : List ℕ → ℕ → ℕ → List ℕ
part text from end = take (end - from) (drop from text)

-- from a place on, separators were passed: the words are the same, and what stands next is none
pub record Skipped (text : List ℕ) (at r : ℕ) : Type 0 where
  pub later : at ≤ r
  pub within : r ≤ length text
  pub same : words (drop r text) ≡ words (drop at text)
  pub next : r < length text → separator (get_or text r 0) ≡ false

-- a word ends: what follows is a separator, or nothing
pub record Parted (text : List ℕ) (at r : ℕ) : Type 0 where
  pub later : at ≤ r
  pub within : r ≤ length text
  pub word : words (drop at text) ≡ words_from (part text at r) (drop r text)
  pub next : r < length text → separator (get_or text r 0) ≡ true

-- a minus is passed, if one stands there
pub record Signed (text : List ℕ) (at r : ℕ) : Type 0 where
  pub minus : get_or text at 0 ≡ 45 → r ≡ at + 1
  pub none : (get_or text at 0 ≡ 45 → ⊥) → r ≡ at

-- a run of at most nine digits: they join any word that started before them
pub record Runs (text : List ℕ) (at : ℕ) (r : Run) : Type 0 where
  pub later : at ≤ r.end
  pub within : r.end ≤ length text
  pub short : r.end ≤ at + 9
  pub digits : all_digits (part text at r.end) ≡ true
  pub value_is : value_from 0 (part text at r.end) ≡ r.value
  pub joins : (from : ℕ) → from ≤ at → words_from (part text from r.end) (drop r.end text) ≡ words_from (part text from at) (drop at text)

-- some bytes were passed, and what follows is a separator, or nothing
pub record Ends (text : List ℕ) (from end : ℕ) (r : Bool) : Type 0 where
  pub some : r ≡ true → from < end
  pub next : r ≡ true → end < length text → separator (get_or text end 0) ≡ true

-- the next word says x, and the text goes on at a later place
pub record Next (vars : ℕ) (text : List ℕ) (at : ℕ) (x : Word) (next : ℕ) : Type 0 where
  pub word : List ℕ
  pub first : words (drop at text) ≡ word ∷ words (drop next text)
  pub says : word_of vars word ≡ x
  pub later : at < next
  pub within : next ≤ length text

-- the token of what a word says, with the place behind it
abbrev pub token_of : Word → ℕ → Token
token_of Malformed end = Bad
token_of End end = Ended end
token_of (Literal l) end = Joins l end

-- what stands next in a body
abbrev pub TokenAt : ℕ → List ℕ → ℕ → Token → Type 0
TokenAt vars text at Done = words (drop at text) ≡ []
TokenAt vars text at Bad = (next : ℕ) × Next vars text at Malformed next
TokenAt vars text at (Ended next) = Next vars text at End next
TokenAt vars text at (Joins l next) = Next vars text at (Literal l) next
