-- `rooms::spend_few` meets its contract: each search is taken up for its turn and put down, and then whose turn is next. Assumes nothing.
use mathlib.Core.Path.{◌∙◌}
use native.Mathlib.Omega.{arith}
use borrow.Author.Rules.{rules}
use Rattle.calculus.specs.Expansion.{expand}
use Rattle.index.specs.Index.{index_node}
use Rattle.rooms.proofs.Goes.{next_kept, few-low, went-few, reported-few}
use Rattle.rooms.proofs.spend_few.Goals as goal

pub overflow_cast-next : goal.overflow_cast-next
overflow_cast-next c = let q = c.args.questions.now in
    omega (arith, few-low q c.look.ensures c.next-up.ensures c.spend_few-next.ensures (search rules) c.requires.fit.few)

pub returns : goal.returns
returns c = let q = c.args.questions.now in
    let d = c.put_next.ensures in record {
      went = went-few q c.look.ensures c.next-up.ensures c.spend_few-next.ensures
          (next_kept (expand (index_node c.args.x.now)) q d) d.next c.spend_few-next.auto.settings;
      reported = reported-few q c.look.ensures c.next-up.ensures c.spend_few-next.ensures (c.spend_few-next.auto.turns
          ∙ c.requires.turns_len.0) (c.spend_few-next.auto.verdicts ∙ c.look.auto.verdicts ∙ c.requires.turns_len.1) c.requires.by_index_2;
    }
