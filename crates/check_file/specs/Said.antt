-- What the checking program prints of check's answer. Assumes nothing.
use Rattle.std.specs.Prelude.{List, ℕ, ◌≤◌, length}
use Rattle.scope.specs.Outcome.{Outcome, answer, refused}
use Rattle.rules.specs.Derive.{check}
use Rattle.text.specs.Text.{ascii, refused_line, Put}

-- `accepted`, or the line of the refusal
abbrev pub said_of : Outcome (Unit {0}) → List ℕ
said_of (answer u) = ascii "accepted\n"
said_of (refused number place) = refused_line number place

-- what is printed of a derivation, whatever work area of the right size stands behind it
abbrev pub Verified : List ℕ → List ℕ → List ℕ → List ℕ → List ℕ → ℕ → Type 0
Verified t goals d out out' end = (w : List ℕ) → 32768 ≤ length w → Put out 0 (said_of (check t goals w d)) out' end
