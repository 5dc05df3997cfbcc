-- `clause::code` meets its contract: a place of the first ones is that of a row of two operands, any other that of three. Assumes nothing.
use Rattle.clause.proofs.Codes.{place_two}
use borrow.Author.Rules.{rules}
use Rattle.clause.proofs.code.Goals as goal

pub returns-then-i-lt-PAIR_CODES : goal.returns-then-i-lt-PAIR_CODES
returns-then-i-lt-PAIR_CODES c = search (rules, place_two)
