-- `listing::verdict` meets its contract: the goal put by itself. Assumes nothing.
use Rattle.rests.proofs.Held.{sets_blank}
use borrow.Author.Rules.{rules}
use Rattle.listing.proofs.Words.{judged}
use Rattle.listing.proofs.verdict.Goals as goal

pub solve-requires : goal.solve-requires
solve-requires c = record {
  indexed = c.requires.indexed;
  goals = search rules;
  ready = (c.blank.ensures.ready, sets_blank);
}

pub returns : goal.returns
returns c = judged c.literal-l.ensures c.solve.ensures.solved
