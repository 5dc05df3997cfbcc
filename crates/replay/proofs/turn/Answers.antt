-- `replay::turn` meets its contract. With no split open the derivation is complete; else the newest has its old state again and
-- the negation joins. Assumes nothing.
use native.Mathlib.Omega.{arith}
use mathlib.Core.Path.{sym, subst}
use Prim.Native.Nat.{ℕ}
use Rattle.calculus.specs.Model.{Fresh}
use Rattle.area.specs.Area.{g_of}
use Rattle.branch.proofs.Turns.{opened}
use Rattle.replay.proofs.Told.{push_ready}
use Rattle.replay.proofs.Ruled.{turn_ends, turn_ready, turn-runs}
use Rattle.replay.proofs.turn.Goals as goal

pub returns-then-work-eq0 : goal.returns-then-work-eq0
returns-then-work-eq0 c = turn_ends _ _ _ c.requires.indexed.few c.if-work-eq0.true

pub negated-requires : goal.negated-requires
negated-requires c = (turn_ready _ _ _ c.requires.indexed.few
    (opened _ _ _ c.requires.indexed.few c.requires.held (omega (arith, c.if-work-eq0.false))) c.restore-l.ensures).2

pub push-requires : goal.push-requires
push-requires c =
    let split = opened _ _ _ c.requires.indexed.few c.requires.held (omega (arith, c.if-work-eq0.false)) in
    let ready = turn_ready _ _ _ c.requires.indexed.few split c.restore-l.ensures in
    let r = push_ready c.requires.indexed.few ready.0 (subst (λ (m : ℕ). Fresh c.args.n (g_of c.restore-l.new.work) m) (sym c.negated.ensures) ready.1) in
    record {
      indexed = c.requires.indexed;
      area_size_in_bounds = r.0;
      clause_room_bound = r.1.0;
      trail = r.1.1;
    }

pub returns : goal.returns
returns c = turn-runs _ _ _ c.requires.indexed.few c.if-work-eq0.false c.restore-l.ensures c.negated.ensures c.push.ensures
