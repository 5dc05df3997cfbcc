-- `replay::conflict_two` meets its contract. The clause's state is the rule's condition; past it the branch closes. Assumes nothing.
use mathlib.Core.Path.{refl, sym, ap, ◌∙◌}
use Rattle.seen.specs.Seen.{seen_of}
use Rattle.replay.proofs.Told.{trail_of, ranged_of, slot_literal}
use Rattle.replay.proofs.Two.{conflict-out, conflict-fails, conflict-turns, not_empty}
use Rattle.replay.proofs.conflict_two.Goals as goal

pub returns-then-work-k : goal.returns-then-work-k
returns-then-work-k c = conflict-out _ _ _ c.requires.indexed.few c.args.k c.if-work-k.true

pub clause_state-requires : goal.clause_state-requires
clause_state-requires c = let num = c.if-work-k.false in
    record {
      ranged = (ranged_of c.requires.indexed.few c.requires.held, num, c.requires.indexed.few);
      vals = (
        (trail_of c.requires.indexed.few c.requires.held).vals,
        λ i b.
            slot_literal c.requires.indexed.few c.requires.held c.requires.indexed.table c.args.k num i b,
      );
    }

pub returns-in_default : goal.returns-in_default
returns-in_default c = conflict-fails _ _ _ c.requires.indexed.few c.args.k c.if-work-k.false c.clause_state.ensures (not_empty _ c.in_default.not-Empty)

pub returns : goal.returns
returns c = conflict-turns _ _ _ c.requires.indexed.few c.args.k c.if-work-k.false
    (sym (ap seen_of c.in-Empty.is) ∙ c.clause_state.ensures) c.turn.new.work c.turn.result refl c.turn.ensures
