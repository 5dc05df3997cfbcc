-- `replay::rule_c` meets its contract. Past the test of the rule's conditions the branch closes. Assumes nothing.
use mathlib.Core.Path.{sym, ◌∙◌}
use Rattle.index.specs.Index.{index_node}
use Rattle.replay.proofs.Told.{ranged_of}
use Rattle.replay.proofs.Rules.{c_refuses, c_turns}
use Rattle.replay.proofs.rule_c.Goals as goal

pub emptied-requires : goal.emptied-requires
emptied-requires c = ranged_of c.requires.indexed.few c.requires.held

pub returns-then-not-emptied : goal.returns-then-not-emptied
returns-then-not-emptied c = c_refuses (index_node c.args.x.now) c.args.n c.args.work.now c.requires.indexed.few c.args.k
    (sym c.emptied.ensures ∙ c.if-not-emptied.true)

pub returns : goal.returns
returns c = c_turns (index_node c.args.x.now) c.args.n c.args.work.now c.requires.indexed.few c.args.k c.turn.new.work c.turn.result
    (sym c.emptied.ensures ∙ c.if-not-emptied.false) c.turn.ensures
