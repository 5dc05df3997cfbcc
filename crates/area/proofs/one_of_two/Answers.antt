-- `area::one_of_two` meets its contract. Each answer is by the two strikes. Assumes nothing.
use Rattle.area.proofs.Remains.{two-first, two_second, two-both, two-whole, two_none}
use Rattle.area.proofs.one_of_two.Goals as goal

pub returns-in-0-eq8192 : goal.returns-in-0-eq8192
returns-in-0-eq8192 c = two-first c.args.work.now c.args.s c.strike_in-first.ensures c.strike_in-second.ensures c.in-0-eq8192.is-0 c.in-0-eq8192.is-1

pub returns-in-8192-eq0 : goal.returns-in-8192-eq0
returns-in-8192-eq0 c = two_second c.args.work.now c.args.s c.strike_in-first.ensures c.strike_in-second.ensures c.in-8192-eq0.is-0 c.in-8192-eq0.is-1

pub returns-in_default : goal.returns-in_default
returns-in_default c = two-both c.args.work.now c.args.s c.strike_in-first.ensures c.strike_in-second.ensures c.in_default.is-0 c.in_default.is-1.1

pub returns-in_default-2 : goal.returns-in_default-2
returns-in_default-2 c = two_none c.args.work.now c.args.s c.strike_in-first.ensures c.strike_in-second.ensures c.in_default.is-0 c.in_default.is-1.1

pub returns-in_default-3 : goal.returns-in_default-3
returns-in_default-3 c = two-whole c.args.work.now c.args.s c.strike_in-first.ensures c.strike_in-second.ensures c.in_default.is-0.0.1 c.in_default.is-0.1
