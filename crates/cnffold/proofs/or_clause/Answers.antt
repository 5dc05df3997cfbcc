-- `cnffold::or_clause` meets its contract: the literals from i on are left to join. Assumes nothing.
use mathlib.Core.Path.{◌∙◌, sym, refl}
use Prim.Native.Nat.{◌<◌}
use Rattle.growing.proofs.Nodes.{answer_adds}
use Rattle.cnf.specs.Fold.{or_all}
use Rattle.cnffold.proofs.Built.{grows_as, grows_in, grows_answer, grows_next, stops_adds, grows_stops}
use Rattle.cnffold.proofs.Folds.{or_none, or_first, or_next, ors_done}
use native.Mathlib.Omega.{arith}
use Rattle.cnffold.proofs.or_clause.Goals as goal

pub returns-then-count-eq0 : goal.returns-then-count-eq0
returns-then-count-eq0 c = record {
  grows = grows_as (λ buf q. sym (or_none c.args.held.now c.args.count c.args.nodes.now buf c.if-count-eq0.true)) c.add_false.ensures.grows;
  adds = c.add_false.ensures.adds;
}

pub bounds-held-0 : goal.bounds-held-0
bounds-held-0 c = omega (arith, c.requires.within, c.if-count-eq0.false)

pub overflow_cast-literal : goal.overflow_cast-literal
overflow_cast-literal c = omega (arith, c.requires.each 0 (omega (arith, c.if-count-eq0.false)))

pub loop-i-init : goal.loop-i-init
loop-i-init c = let some : 0 < c.args.count = omega (arith, c.if-count-eq0.false) in
    (omega (arith, c.requires.each 0 some), refl, λ buf q. sym (or_first c.args.held.now c.args.count c.args.nodes.now buf c.requires.within some))

pub bounds-held-i : goal.bounds-held-i
bounds-held-i c = omega (arith, c.requires.within, c.loop-i-test.true)

pub overflow_cast-held : goal.overflow_cast-held
overflow_cast-held c = omega (arith, c.requires.each _ c.loop-i-test.true)

pub add_pair-requires : goal.add_pair-requires
add_pair-requires c = (omega arith, omega arith, c.loop-i.invariant.0, omega (arith, c.requires.each _ c.loop-i-test.true))

pub returns-in_err-literal : goal.returns-in_err-literal
returns-in_err-literal c = let inv = c.loop-i.invariant in
    record {
      grows = grows_as (λ buf q. sym (inv.2 buf q) ∙ or_next c.args.held.now c.args.count _ c.requires.within _ c.loop-i-test.true)
          (grows_stops (grows_in inv.1 c.add_pair.ensures.grows) (λ buf u. or_all u _) c.in_err-literal.was c.from_residual.ensures.1);
      adds = stops_adds c.add_pair.ensures.adds c.in_err-literal.was c.from_residual.ensures.1;
    }

pub loop-i-preserved : goal.loop-i-preserved
loop-i-preserved c = let inv = c.loop-i.invariant in
    let g = grows_in inv.1 c.add_pair.ensures.grows in
    let told = c.in_ok-literal.was in (
      g.low _ told,
      g.room_is,
      λ buf q. sym (grows_next g (λ u. or_all u _) told buf q) ∙ sym (or_next c.args.held.now c.args.count _ c.requires.within _ c.loop-i-test.true)
          ∙ inv.2 buf q,
    )

pub returns : goal.returns
returns c = let inv = c.loop-i.invariant in
    record {
      grows = grows_answer inv.0 inv.1 (λ buf q. sym (inv.2 buf q) ∙ ors_done c.args.held.now c.args.count _ c.requires.within _ c.loop-i-test.false);
      adds = answer_adds refl;
    }
