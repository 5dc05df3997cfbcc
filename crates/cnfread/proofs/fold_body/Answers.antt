-- `cnfread::fold_body` meets its contract: k clauses have been joined. Assumes nothing.
use mathlib.Core.Path.{ap, refl}
use Rattle.std.specs.Prelude.{Ok}
use Rattle.cnffold.proofs.Built.{stops_adds}
use Rattle.cnfread.proofs.Joining.{handed, folds_unread, unread_refuses, adds_refuses, folding_none, folding_bad, folding-other, folding-all, folding-refused, folding-next}
use native.Mathlib.Omega.{arith}
use Rattle.cnfread.proofs.fold_body.Goals as goal

pub loop-c-init : goal.loop-c-init
loop-c-init c = (folding_none c.requires.at_in_bounds.0 c.requires.lt_literal, c.requires.at_in_bounds.2)

pub gather-requires : goal.gather-requires
gather-requires c = (c.loop-c.invariant.0.within, c.requires.at_in_bounds.1, c.loop-c.invariant.1)

pub returns-in_err-c : goal.returns-in_err-c
returns-in_err-c c = let bad = folding_bad c.loop-c.invariant.0 c.args.clauses (c.gather.ensures.bad _ c.in_err-c.was) in
    record { folds = folds_unread (handed c.from_residual.ensures.1) c.loop-c.invariant.0.room_is bad; refuses = unread_refuses bad }

pub returns-then-k-clauses : goal.returns-then-k-clauses
returns-then-k-clauses c =
    let other = folding-other c.loop-c.invariant.0 c.args.clauses (c.in_ok-c.ensures.ended (ap Ok c.in_default.is)) c.if-k-clauses.true in
    record { folds = folds_unread refl c.loop-c.invariant.0.room_is other; refuses = unread_refuses other }

pub end_body-requires : goal.end_body-requires
end_body-requires c = c.loop-c.invariant.0.low

pub returns-in_default : goal.returns-in_default
returns-in_default c = record {
  folds = folding-all c.loop-c.invariant.0 c.args.clauses (c.in_ok-c.ensures.ended (ap Ok c.in_default.is)) c.if-k-clauses.false c.end_body.ensures.grows;
  refuses = adds_refuses c.end_body.ensures.adds;
}

pub clear-requires : goal.clear-requires
clear-requires c = (c.in_ok-c.ensures.clause c.in-Some.c (ap Ok c.in-Some.is)).keeps

pub join_clause-requires : goal.join_clause-requires
join_clause-requires c = let r = c.in_ok-c.ensures.clause c.in-Some.c (ap Ok c.in-Some.is) in
    (r.keeps.small, c.loop-c.invariant.0.low)

pub returns-in_err-goal : goal.returns-in_err-goal
returns-in_err-goal c = let r = c.in_ok-c.ensures.clause c.in-Some.c (ap Ok c.in-Some.is) in
    let h = c.from_residual-in_err-goal.ensures.1 in
    record {
      folds = folding-refused c.loop-c.invariant.0 r c.join_clause.ensures.grows c.args.clauses c.in_err-goal.was h;
      refuses = adds_refuses (stops_adds c.join_clause.ensures.adds c.in_err-goal.was h);
    }

pub overflow_add-k : goal.overflow_add-k
overflow_add-k c = let f = c.loop-c.invariant.0 in
    let r = c.in_ok-c.ensures.clause c.in-Some.c (ap Ok c.in-Some.is) in
    omega (arith, c.well_formed, f.slow, r.later, r.within)

pub loop-c-smaller : goal.loop-c-smaller
loop-c-smaller c = let r = c.in_ok-c.ensures.clause c.in-Some.c (ap Ok c.in-Some.is) in
    omega (arith, r.later, r.within)

pub loop-c-preserved : goal.loop-c-preserved
loop-c-preserved c = let r = c.in_ok-c.ensures.clause c.in-Some.c (ap Ok c.in-Some.is) in
    (folding-next c.loop-c.invariant.0 r c.join_clause.ensures.grows c.in_ok-goal.was, c.clear.ensures)
