-- `replay::rule_s` meets its contract. Each test is one of the rule's conditions; past them the split is saved and the literal joins. Assumes nothing.
use native.Mathlib.Omega.{arith}
use Rattle.area.specs.Area.{g_of}
use Rattle.replay.proofs.Told.{free_is}
use Rattle.replay.proofs.Ruled.{save-ready, split-ready}
use Rattle.replay.proofs.Rules.{s_past, s-refuses, s-runs}
use Rattle.replay.proofs.rule_s.Goals as goal

pub returns-then-n-l : goal.returns-then-n-l
returns-then-n-l c = s_past _ _ _ c.requires.indexed.few c.args.l c.if-n-l.true

pub returns-then-value-ne0 : goal.returns-then-value-ne0
returns-then-value-ne0 c = s-refuses _ _ _ c.requires.indexed.few c.args.l (omega (arith, c.if-n-l.false)) c.value.ensures c.if-value-ne0.true

pub save_split-requires : goal.save_split-requires
save_split-requires c = save-ready _ _ _ c.requires.indexed.few c.args.l c.requires.held
    (free_is c.args.n c.args.l (g_of c.args.work.now) (omega (arith, c.if-n-l.false)) c.value.ensures c.if-value-ne0.false)

pub push-requires : goal.push-requires
push-requires c = let r = split-ready _ _ _ c.requires.indexed.few c.args.l c.requires.held
    (free_is c.args.n c.args.l (g_of c.args.work.now) (omega (arith, c.if-n-l.false)) c.value.ensures c.if-value-ne0.false) c.save_split.ensures in
    record {
      indexed = c.requires.indexed;
      area_size_in_bounds = r.0;
      clause_room_bound = r.1.0;
      trail = r.1.1;
    }

pub returns : goal.returns
returns c = s-runs _ _ _ c.requires.indexed.few c.args.l (omega (arith, c.if-n-l.false)) c.value.ensures c.requires.held c.if-value-ne0.false
    c.save_split.ensures c.push.ensures
