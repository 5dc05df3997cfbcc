-- `cnffold::add_points` meets its contract: the points from p on are left to add. Assumes nothing.
use mathlib.Core.Path.{◌∙◌, ap, sym, refl}
use native.Mathlib.Nat.{sub-zero}
use Rattle.scope.specs.Calls.{Added}
use Rattle.growing.proofs.Nodes.{answer_adds}
use Rattle.cnf.specs.Fold.{points}
use Rattle.cnffold.proofs.Built.{grows_as, grows_in, grows_answer, grows_next, stops_adds, grows_stops, none-state}
use Rattle.cnffold.proofs.Folds.{point_next, points-done}
use native.Mathlib.Omega.{arith}
use Rattle.cnffold.proofs.add_points.Goals as goal

pub loop-p-init : goal.loop-p-init
loop-p-init c = (omega arith, refl, λ buf q. rw sub-zero (ap (λ (t : Added). points t 0 c.args.vars) (none-state c.args.nodes.now buf c.requires.0)))

pub add_point-requires : goal.add_point-requires
add_point-requires c = omega (arith, c.loop-p-test.true, c.requires.1)

pub returns-in_err-literal : goal.returns-in_err-literal
returns-in_err-literal c = let inv = c.loop-p.invariant in
    record {
      grows = grows_as (λ buf q. sym (inv.2 buf q) ∙ point_next _ _ _ c.loop-p-test.true)
          (grows_stops (grows_in inv.1 c.add_point.ensures.grows) (λ buf u. points u _ _) c.in_err-literal.was c.from_residual.ensures.1);
      adds = stops_adds c.add_point.ensures.adds c.in_err-literal.was c.from_residual.ensures.1;
    }

pub loop-p-preserved : goal.loop-p-preserved
loop-p-preserved c = let inv = c.loop-p.invariant in
    let g = grows_in inv.1 c.add_point.ensures.grows in
    let told = c.in_ok-literal.was in (
      g.low _ told,
      g.room_is,
      λ buf q. sym (grows_next g (λ u. points u _ _) told buf q) ∙ sym (point_next _ _ _ c.loop-p-test.true) ∙ inv.2 buf q,
    )

pub returns : goal.returns
returns c = let inv = c.loop-p.invariant in
    record { grows = grows_answer inv.0 inv.1 (λ buf q. sym (inv.2 buf q) ∙ points-done _ _ _ c.loop-p-test.false); adds = answer_adds refl }
