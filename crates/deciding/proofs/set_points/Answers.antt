-- `deciding::set_points` meets its contract: before each turn the setting is that of the literals passed. Assumes nothing.
use mathlib.Core.Path.{◌≡◌, ap, ◌∙◌}
use mathlib.Core.List.{List, ◌++◌}
use Prim.Native.Nat.{ℕ, ◌<◌}
use native.Mathlib.Omega.{arith}
use lib.ListN.{length}
use Rattle.scope.specs.Table.{list_from}
use Rattle.calculus.specs.Order.{setting_of}
use Rattle.index.specs.Index.{index_node}
use Rattle.state.specs.Work.{tail, g_of, trail}
use Rattle.deciding.proofs.Settings.{filled_none, filled_all, held-count, held-few, next_low, filled_next}
use Rattle.deciding.proofs.set_points.Goals as goal

pub clear-requires : goal.clear-requires
clear-requires c = c.requires.room

pub count-held-requires : goal.count-held-requires
count-held-requires c = c.requires.ready.size

pub loop-q-init : goal.loop-q-init
unfolding trail
loop-q-init c = (omega arith, filled_none _ c.clear.ensures)

pub literal-l-requires : goal.literal-l-requires
literal-l-requires c = (c.requires.ready.size, omega (arith, c.loop-q-test.true, c.count-held.ensures, held-few c.requires))

pub set_point-requires : goal.set_point-requires
set_point-requires c = let p = c.requires in
    let h : c.loop-q.q < length (g_of c.args.work.now) = omega (arith, c.loop-q-test.true, c.count-held.ensures) in
    let b = next_low p h c.literal-l.ensures in
    record {
      x_len = (c.requires.indexed.size, omega (arith, b, c.requires.indexed.few));
      l_in_bounds = λ k. omega (arith, c.requires.points _ b k, c.requires.room, c.clear.auto, c.loop-q.invariant.1.size);
    }

pub loop-q-preserved : goal.loop-q-preserved
loop-q-preserved c = let p = c.requires in
    let h : c.loop-q.q < length (g_of c.args.work.now) = omega (arith, c.loop-q-test.true, c.count-held.ensures) in
    (omega (arith, c.loop-q-test.true), rw c.set_point.ensures (filled_next p h c.literal-l.ensures (omega (arith, c.requires.room, c.clear.auto)) c.loop-q.invariant.1))

pub shape_of-settings : goal.shape_of-settings
shape_of-settings c = omega (arith, c.clear.auto, c.loop-q.invariant.1.size)

pub returns : goal.returns
returns c = let e : c.loop-q.q ≡ tail c.args.work.now 0 = omega (arith, c.loop-q-test.false, c.loop-q.invariant.0, c.count-held.ensures, held-count c.requires) in
    filled_all (omega (arith, c.requires.room, c.clear.auto)) (rw e at c.loop-q.invariant.1)
    ∙ ap (λ (r : List ℕ). setting_of (list_from (index_node c.args.x.now) 0 c.args.n) (g_of c.args.work.now) ++ r) c.clear.ensures.beyond
