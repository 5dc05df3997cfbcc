-- `replay::unit_two` meets its contract. The clause's state is the rule's condition; past it the literal joins. Assumes nothing.
use mathlib.Core.Path.{refl, sym, ap, ◌∙◌}
use Rattle.seen.specs.Seen.{seen_of}
use Rattle.replay.proofs.Told.{trail_of, ranged_of, slot_literal}
use Rattle.replay.proofs.Two.{unit-out, unit-fails, unit-ready, unit_runs, not_one}
use Rattle.replay.proofs.unit_two.Goals as goal

pub returns-then-work-k : goal.returns-then-work-k
returns-then-work-k c = unit-out _ _ _ c.requires.indexed.few c.args.k c.if-work-k.true

pub clause_state-requires : goal.clause_state-requires
clause_state-requires c = let num = c.if-work-k.false in
    record {
      ranged = (ranged_of c.requires.indexed.few c.requires.held, num, c.requires.indexed.few);
      vals = (
        (trail_of c.requires.indexed.few c.requires.held).vals,
        λ i b.
            slot_literal c.requires.indexed.few c.requires.held c.requires.indexed.table c.args.k num i b,
      );
    }

pub push-requires : goal.push-requires
push-requires c = let r = unit-ready _ _ _ c.requires.indexed.few c.args.k c.if-work-k.false
    (sym (ap seen_of c.in-One.is) ∙ c.clause_state.ensures) refl c.requires.held c.requires.indexed.table in
    record {
      indexed = c.requires.indexed;
      area_size_in_bounds = r.0;
      clause_room_bound = r.1.0;
      trail = r.1.1;
    }

pub returns-in_default : goal.returns-in_default
returns-in_default c = unit-fails _ _ _ c.requires.indexed.few c.args.k c.if-work-k.false c.clause_state.ensures (not_one _ c.in_default.not-One)

pub returns : goal.returns
returns c = unit_runs _ _ _ c.requires.indexed.few c.args.k c.if-work-k.false (sym (ap seen_of c.in-One.is) ∙ c.clause_state.ensures) refl c.push.ensures
