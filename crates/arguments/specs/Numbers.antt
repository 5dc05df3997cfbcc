-- What an argument says as a number. Assumes nothing.
use Rattle.std.specs.Prelude.{◌≡◌, ℕ, ◌≤◌, List, length, Option}
use Rattle.text.specs.Text.{read_number, numeral_of}

-- the number that some text of at most 64 bytes says, or none where it says none: so one below ten billion
pub record Said (r : Option ℕ) : Type 0 where
  pub text : List ℕ
  pub short : length text ≤ 64
  pub says : numeral_of r ≡ read_number text
