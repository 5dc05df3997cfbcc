-- `cnfread::grow_table` meets its contract: the points, then the body. Assumes nothing.
use Prim.Native.Nat.{ℕ}
use lib.ListN.{replicate, length-replicate}
use Rattle.cnffold.proofs.Built.{stops_adds}
use Rattle.cnfread.proofs.Keeping.{kept-none}
use Rattle.cnfread.proofs.Joining.{adds_refuses, points_refused, points-folded}
use Rattle.cnfread.proofs.grow_table.Goals as goal

pub add_points-requires : goal.add_points-requires
add_points-requires c = (c.requires.1, c.requires.0.few)

pub returns-in_err-literal : goal.returns-in_err-literal
returns-in_err-literal c = record {
  folds = points_refused c.args.h c.add_points.ensures.grows c.in_err-literal.was c.from_residual.ensures.1;
  refuses = adds_refuses (stops_adds c.add_points.ensures.adds c.in_err-literal.was c.from_residual.ensures.1);
}

pub fold_body-requires : goal.fold_body-requires
fold_body-requires c = record {
  at_in_bounds = (c.requires.0.within, c.requires.0.few, kept-none (replicate 2048 0) (length-replicate {A = ℕ} 2048 0));
  lt_literal = c.add_points.ensures.grows.low _ c.in_ok-literal.was;
}

pub returns : goal.returns
returns c = record { folds = points-folded c.args.h c.add_points.ensures.grows c.in_ok-literal.was c.fold_body.ensures.folds; refuses = c.fold_body.ensures.refuses }
