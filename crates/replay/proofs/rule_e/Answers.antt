-- `replay::rule_e` meets its contract. Each test is one of the rule's conditions; past them the clause is struck. Assumes nothing.
use native.Mathlib.Omega.{arith}
use mathlib.Core.Path.{sym, ap, ◌∙◌}
use Rattle.area.specs.Area.{found_of}
use Rattle.replay.proofs.Told.{size_of, trail_of, ranged_of, newest_of, slot_literal, clause_within}
use Rattle.replay.proofs.Rules.{true_below, e-falls, e-lacks, e-runs}
use Rattle.replay.proofs.rule_e.Goals as goal

pub stands-requires : goal.stands-requires
stands-requires c = ranged_of c.requires.indexed.few c.requires.held

pub returns-then-not-stands : goal.returns-then-not-stands
returns-then-not-stands c = e-falls _ _ _ c.requires.indexed.few c.args.k (sym c.stands.ensures ∙ c.if-not-stands.true)

pub true_slot-requires : goal.true_slot-requires
true_slot-requires c = let st = sym c.stands.ensures ∙ c.if-not-stands.false in
    let num = (clause_within c.requires.indexed.few c.requires.held st).number in
    record {
      ranged = (ranged_of c.requires.indexed.few c.requires.held, num, c.requires.indexed.few);
      vals = (
        (trail_of c.requires.indexed.few c.requires.held).vals,
        slot_literal c.requires.indexed.few c.requires.held c.requires.indexed.table
            c.args.k num,
      );
    }

pub returns-in_default : goal.returns-in_default
returns-in_default c = let st = sym c.stands.ensures ∙ c.if-not-stands.false in
    e-lacks _ _ _ c.requires.indexed.few c.args.k st (sym (ap found_of c.in_default.is) ∙ c.true_slot.ensures)

pub strike-requires : goal.strike-requires
strike-requires c = let st = sym c.stands.ensures ∙ c.if-not-stands.false in
    let o = true_below _ _ _ c.requires.indexed.few c.args.k st (sym (ap found_of c.in-Some.is) ∙ c.true_slot.ensures) c.requires.held in
    record {
      area_size_in_bounds = (size_of c.requires.indexed.few c.requires.held, o.0, newest_of c.requires.indexed.few c.requires.held, omega arith);
      notes_value = (omega arith, o.1);
    }

pub returns : goal.returns
returns c = let st = sym c.stands.ensures ∙ c.if-not-stands.false in
    e-runs _ _ _ c.requires.indexed.few c.args.k st (sym (ap found_of c.in-Some.is) ∙ c.true_slot.ensures) c.strike.ensures
