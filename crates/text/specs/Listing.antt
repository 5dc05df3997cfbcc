-- 01, 'Samples', last part: what the listing program prints. Assumes nothing.
use Rattle.std.specs.Prelude.{List, [], ◌∷◌, ◌++◌, ℕ, zero, suc, ◌+◌, ◌*◌, length}
use Rattle.scope.specs.declared.Node.{Node}
use Rattle.scope.specs.Outcome.{Outcome, answer, refused}
use Rattle.scope.specs.Table.{decode}
use Rattle.calculus.specs.Order.{Answer, possible, impossible, unfinished, answer_of}
use Rattle.calculus.specs.Decide.{search_of}
use Rattle.text.specs.Text.{ascii, decimal, refused_line}

-- the word for what a search ends on; one that was cut, which is never given, has none
abbrev pub word_for : Answer → List ℕ
word_for (possible G) = ascii "possible"
word_for impossible = ascii "impossible"
word_for unfinished = []

-- the answer for a literal
abbrev pub answer_word : List Node → ℕ → List ℕ
answer_word rs goal = word_for (answer_of (search_of rs (goal ∷ [])))

-- 'prints a heading and per node its number and the answers for both signs': `node yes no`, `0 possible impossible`
unfoldable pub heading : List ℕ
heading = ascii "node yes no\n"

unfoldable pub node_line : List Node → ℕ → List ℕ
node_line rs n = decimal n ++ (ascii " " ++ (answer_word rs (2 * n) ++ (ascii " " ++ (answer_word rs (2 * n + 1) ++ ascii "\n"))))

-- the lines of the first nodes
unfoldable pub node_lines : List Node → ℕ → List ℕ
node_lines rs zero = []
node_lines rs (suc n) = node_lines rs n ++ node_line rs n

-- 'a refused table prints one line and no heading'
abbrev pub listed : Outcome (List Node) → List ℕ
listed (answer rs) = heading ++ node_lines rs (length rs)
listed (refused number place) = refused_line number place

-- 'The listing program reads a table on standard input and prints ..'
abbrev pub listing : List ℕ → List ℕ
listing t = listed (decode t)
