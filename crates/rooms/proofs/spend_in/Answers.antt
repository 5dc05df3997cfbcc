-- `rooms::spend_in` meets its contract: the searches are taken up, turns are spent on them, and they are put down. Assumes nothing.
use mathlib.Core.Path.{refl, ◌∙◌}
use native.Mathlib.Omega.{arith}
use borrow.Author.Rules.{rules}
use Rattle.rooms.proofs.Goes.{up_low, went, reported}
use Rattle.rooms.proofs.spend_in.Goals as goal

pub overflow_cast-next : goal.overflow_cast-next
overflow_cast-next c = omega (arith, up_low c.next-first.ensures c.take_up_all.ensures c.spend-next.ensures.spent (search rules) c.requires.fit.few)

pub returns : goal.returns
returns c = let d = c.put_down.ensures in
    record {
      went = went c.next-first.ensures c.take_up_all.ensures c.spend-next.ensures.spent d (λ i. refl) c.spend-next.auto.settings;
      reported = reported c.next-first.ensures c.take_up_all.ensures c.spend-next.ensures.spent (c.spend-next.auto.turns
          ∙ c.requires.turns_len.0) (c.spend-next.auto.verdicts ∙ c.take_up_all.auto.verdicts ∙ c.requires.turns_len.1) c.requires.by_index_2;
    }
