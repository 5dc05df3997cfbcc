-- `area::only` meets its contract. A clause of two slots is asked at once, any other is counted. Assumes nothing.
use native.Mathlib.Omega.{arith}
use mathlib.Core.Path.{sym, ◌∙◌}
use Rattle.area.proofs.Remains.{only-not, only_two, only-falls, only-lacks, only-found}
use Rattle.area.proofs.only.Goals as goal

pub returns-then-work-k : goal.returns-then-work-k
returns-then-work-k c = only-not c.args.work.now c.args.k c.if-work-k.true

pub overflow_add-s : goal.overflow_add-s
overflow_add-s c = omega (arith, c.base-s.ensures, c.requires.ends c.args.k (omega (arith, c.if-work-k.false)))

pub one_of_two-requires : goal.one_of_two-requires
one_of_two-requires c = (c.requires.size, omega (arith, c.base.ensures, c.if-base-s.true, c.requires.ends c.args.k (omega (arith, c.if-work-k.false))))

pub returns-then-base-s : goal.returns-then-base-s
returns-then-base-s c = only_two c.args.work.now c.args.k (omega (arith, c.if-work-k.false)) c.base-s.ensures
    (sym c.base.ensures ∙ c.if-base-s.true) c.one_of_two.ensures

pub returns-then-not-stands : goal.returns-then-not-stands
returns-then-not-stands c = only-falls c.args.work.now c.args.k (omega (arith, c.if-work-k.false)) (sym c.stands.ensures ∙ c.if-not-stands.true)

pub returns-then-left-ne1 : goal.returns-then-left-ne1
returns-then-left-ne1 c = only-lacks c.args.work.now c.args.k (omega (arith, c.if-work-k.false))
    (sym c.stands.ensures ∙ c.if-not-stands.false) c.remaining-left.ensures c.if-left-ne1.true

pub returns : goal.returns
returns c = only-found c.args.work.now c.args.k (omega (arith, c.if-work-k.false))
    (sym c.stands.ensures ∙ c.if-not-stands.false) c.remaining-left.ensures c.if-left-ne1.false
