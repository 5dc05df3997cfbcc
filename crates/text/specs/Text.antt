-- Text as bytes: ASCII, decimal numbers, and the line of a refusal. Assumes nothing.
use Rattle.std.specs.Prelude.{◌≡◌, List, [], ◌∷◌, ◌++◌, cond, ◌&&◌, ℕ, zero, suc, ◌+◌, ◌-◌, ◌*◌, ◌/◌, ◌%◌, eqb, leb, ltb, length, take, drop, Option, Some, None}
use Prim.Native.Char.{code}
use Prim.Native.String.{String, [] as end, ◌∷◌ as ◌then◌}

-- the bytes of a text
unfoldable pub ascii : String → List ℕ
ascii end = []
ascii (c then s) = code c ∷ ascii s

-- a number in base ten, the highest digit first and without leading zeros; n is more divisions than it takes
unfoldable pub digits_of : ℕ → ℕ → List ℕ
digits_of zero n = (48 + n) ∷ []
digits_of (suc fuel) n = cond (ltb n 10) ((48 + n) ∷ []) (digits_of fuel (n / 10) ++ (48 + n % 10) ∷ [])

abbrev pub decimal : ℕ → List ℕ
decimal n = digits_of n n

-- 'a refused table prints one line ..: `refused`, number, `at`, place, with single spaces between; every line ends in a line feed'
unfoldable pub refused_line : ℕ → ℕ → List ℕ
refused_line number place = ascii "refused " ++ (decimal number ++ (ascii " at " ++ (decimal place ++ ascii "\n")))

-- a buffer with text from a place on, and the place behind the text
abbrev pub over : List ℕ → ℕ → List ℕ → List ℕ
over out at s = take at out ++ (s ++ drop (at + length s) out)

pub record Put (out : List ℕ) (at : ℕ) (s out' : List ℕ) (end : ℕ) : Type 0 where
  pub bytes : out' ≡ over out at s
  pub ends : end ≡ at + length s
  pub size : length out' ≡ length out

-- what a text says as a number
pub data Reading : Type 0 where
  number : ℕ → Reading
  none : Reading

-- digits behind digits of value v, each of which leaves it below ten billion
unfoldable pub read_from : ℕ → List ℕ → Reading
read_from v [] = number v
read_from v (b ∷ s) = cond (leb 48 b && (leb b 57 && ltb v 1000000000)) (read_from (10 * v + (b - 48)) s) none

-- a number in base ten: one digit or more, up to ten
unfoldable pub read_number : List ℕ → Reading
read_number s = cond (eqb (length s) 0) none (read_from 0 s)

-- the number that is answered, or that none is
abbrev pub numeral_of : Option ℕ → Reading
numeral_of (Some n) = number n
numeral_of None = none
