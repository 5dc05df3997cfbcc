-- `replay::rule_u` meets its contract. Each test is one of the rule's conditions; past them the clause is struck and the literal joins. Assumes nothing.
use native.Mathlib.Omega.{arith}
use mathlib.Core.Path.{refl, sym, ap, ◌∙◌}
use Rattle.area.proofs.Remains.{only-some}
use Rattle.area.specs.Area.{found_of}
use Rattle.replay.proofs.Told.{size_of, trail_of, ranged_of, newest_of}
use Rattle.replay.proofs.Rules.{left_below, u_none, u-refuses, u-ready, u-runs}
use Rattle.replay.proofs.rule_u.Goals as goal

pub only-requires : goal.only-requires
only-requires c = ranged_of c.requires.indexed.few c.requires.held

pub returns-in_default : goal.returns-in_default
returns-in_default c = u_none _ _ _ c.requires.indexed.few c.args.k (sym (ap found_of c.in_default.is) ∙ c.only.ensures)

pub literal_in-l-requires : goal.literal_in-l-requires
literal_in-l-requires c = let o = only-some c.args.work.now c.args.k (sym (ap found_of c.in-Some.is) ∙ c.only.ensures) in
    (size_of c.requires.indexed.few c.requires.held, (left_below _ _ _ c.requires.indexed.few c.args.k o.0 o.1 c.requires.held c.requires.indexed.table refl).0)

pub value-requires : goal.value-requires
value-requires c = let o = only-some c.args.work.now c.args.k (sym (ap found_of c.in-Some.is) ∙ c.only.ensures) in
    let b = left_below _ _ _ c.requires.indexed.few c.args.k o.0 o.1 c.requires.held c.requires.indexed.table refl in
    record {
      area_size_in_bounds = (size_of c.requires.indexed.few c.requires.held, c.requires.indexed.few, omega (arith, c.literal_in-l.ensures, b.1));
      vals = (trail_of c.requires.indexed.few c.requires.held).vals;
    }

pub returns-then-value-ne0 : goal.returns-then-value-ne0
returns-then-value-ne0 c = let o = only-some c.args.work.now c.args.k (sym (ap found_of c.in-Some.is) ∙ c.only.ensures) in
    u-refuses _ _ _ c.requires.indexed.few c.args.k o.0 o.1 refl c.literal_in-l.ensures c.value.ensures c.if-value-ne0.true

pub strike-requires : goal.strike-requires
strike-requires c = let o = only-some c.args.work.now c.args.k (sym (ap found_of c.in-Some.is) ∙ c.only.ensures) in
    let b = left_below _ _ _ c.requires.indexed.few c.args.k o.0 o.1 c.requires.held c.requires.indexed.table refl in
    record {
      area_size_in_bounds = (size_of c.requires.indexed.few c.requires.held, b.0, newest_of c.requires.indexed.few c.requires.held, omega arith);
      notes_value = (omega arith, b.2);
    }

pub push-requires : goal.push-requires
push-requires c = let o = only-some c.args.work.now c.args.k (sym (ap found_of c.in-Some.is) ∙ c.only.ensures) in
    let r = u-ready _ _ _ c.requires.indexed.few c.args.k o.0 o.1 refl c.literal_in-l.ensures c.value.ensures c.if-value-ne0.false c.strike.ensures
    c.requires.held c.requires.indexed.table in
    record {
      indexed = c.requires.indexed;
      area_size_in_bounds = r.0;
      clause_room_bound = r.1.0;
      trail = r.1.1;
    }

pub returns : goal.returns
returns c = let o = only-some c.args.work.now c.args.k (sym (ap found_of c.in-Some.is) ∙ c.only.ensures) in
    u-runs _ _ _ c.requires.indexed.few c.args.k o.0 o.1 refl c.literal_in-l.ensures c.value.ensures c.if-value-ne0.false c.strike.ensures c.push.ensures
