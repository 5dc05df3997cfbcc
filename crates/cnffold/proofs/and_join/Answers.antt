-- `cnffold::and_join` meets its contract: each return is a case of the join. Assumes nothing.
use mathlib.Core.Path.{◌∙◌, sym, refl}
use Rattle.growing.proofs.Nodes.{answer_adds}
use Rattle.cnffold.proofs.Built.{grows_as, grows_answer}
use Rattle.cnffold.proofs.Folds.{and_same, and-opposite, and-put}
use native.Mathlib.Omega.{arith}
use Rattle.cnffold.proofs.and_join.Goals as goal

pub returns-then-goal-literal : goal.returns-then-goal-literal
returns-then-goal-literal c = record {
  grows = grows_answer c.requires.1 refl (λ buf q. and_same c.args.goal c.args.literal c.args.nodes.now buf c.if-goal-literal.true);
  adds = answer_adds refl;
}

pub returns-then-goal-opposite : goal.returns-then-goal-opposite
returns-then-goal-opposite c = record {
  grows = grows_as
      (λ buf q. sym (and-opposite c.args.goal c.args.literal c.args.nodes.now buf c.if-goal-literal.false (c.if-goal-opposite.true ∙ c.opposite.ensures)))
      c.add_false.ensures.grows;
  adds = c.add_false.ensures.adds;
}

pub add_pair-requires : goal.add_pair-requires
add_pair-requires c = (omega arith, omega arith, c.requires.0, c.requires.1)

pub returns : goal.returns
returns c = record {
  grows = grows_as
      (λ buf q. sym (and-put c.args.goal c.args.literal c.args.nodes.now buf c.if-goal-literal.false (λ z. c.if-goal-opposite.false (z ∙ sym c.opposite.ensures))))
      c.add_pair.ensures.grows;
  adds = c.add_pair.ensures.adds;
}
