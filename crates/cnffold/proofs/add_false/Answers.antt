-- `cnffold::add_false` meets its contract: the other sign of TRUE. Assumes nothing.
use mathlib.Core.Path.{refl}
use Rattle.scope.specs.Outcome.{answer}
use Rattle.growing.proofs.Nodes.{answer_adds}
use Rattle.cnf.specs.Fold.{at, opposite}
use Rattle.cnffold.proofs.Built.{grows_as, stops_adds, grows_stops, grows_false}
use Rattle.cnffold.proofs.Folds.{false-is}
use Rattle.cnffold.proofs.add_false.Goals as goal

pub returns-in_err-l : goal.returns-in_err-l
returns-in_err-l c = record {
  grows = grows_as (λ buf q. false-is c.args.nodes.now buf)
      (grows_stops c.add_true.ensures.grows (λ buf u. answer (at u (opposite u.literal))) c.in_err-l.was c.from_residual.ensures.1);
  adds = stops_adds c.add_true.ensures.adds c.in_err-l.was c.from_residual.ensures.1;
}

pub opposite-requires : goal.opposite-requires
opposite-requires c = c.add_true.ensures.grows.low _ c.in_ok-l.was

pub returns : goal.returns
returns c = record { grows = grows_false c.args.nodes.now c.add_true.ensures.grows c.in_ok-l.was c.opposite.ensures; adds = answer_adds refl }
