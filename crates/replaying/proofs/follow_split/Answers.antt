-- `replaying::follow_split` meets its contract: by which of the two literals it is. Assumes nothing.
use mathlib.Core.Path.{◌∙◌, sym, ap}
use native.Mathlib.Omega.{arith}
use Rattle.calculus.proofs.Fresh.{split-fresh}
use Rattle.calculus.specs.declared.Move.TheVariants.{Split}
use Rattle.replaying.proofs.Standings.{good, joins-fresh, right_follows, went-left, went-right, strayed-split}
use Rattle.replaying.proofs.follow_split.Goals as goal

pub fork-requires : goal.fork-requires
fork-requires c = record {
  indexed = c.requires.indexed;
  goals = c.requires.goals;
  stands = c.requires.stands;
  work_value = c.requires.work_value ∙ ap Split c.if-s-l.true;
}

pub returns-then-s-l : goal.returns-then-s-l
returns-then-s-l c = went-left c.requires.stands c.requires.work_value c.if-s-l.true c.fork.ensures.stands_2 c.fork.ensures.work_after

pub negated-requires : goal.negated-requires
negated-requires c = omega (
  arith,
  (split-fresh _ _ _ c.requires.indexed.table c.requires.goals.below _ (good c.requires.stands) _ c.requires.work_value).0,
  c.requires.indexed.few,
)

pub returns-then-negated-l : goal.returns-then-negated-l
returns-then-negated-l c = strayed-split c.requires.stands c.requires.work_value c.if-s-l.false (λ e. c.if-negated-l.true (c.negated.ensures ∙ e))

pub assume-requires : goal.assume-requires
assume-requires c = let s = c.requires.stands in
    record {
      indexed = c.requires.indexed;
      goals = c.requires.goals;
      holds = s.holds;
      fresh = joins-fresh s c.requires.indexed.table c.requires.goals.below _
          (right_follows s c.requires.work_value (sym c.negated.ensures ∙ c.if-negated-l.false));
    }

pub returns : goal.returns
returns c = went-right c.requires.stands c.assume.ensures.holds_2 c.assume.ensures.work_after c.requires.work_value c.if-s-l.false (sym c.negated.ensures
    ∙ c.if-negated-l.false)
