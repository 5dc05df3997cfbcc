-- `solver::touch_pairs` meets its contract. The loop goes from edge to edge; the measure is how far the last is. Assumes nothing.
use mathlib.Core.Path.{ap, ◌∙◌}
use mathlib.Core.List.{List}
use Prim.Native.Nat.{ℕ, ◌+◌, ◌*◌, ◌%◌}
use Rattle.calculus.specs.Order.{value_of}
use Rattle.index.specs.Edges.{PairAt}
use Rattle.solver.proofs.Marks.{still_ready, still_list}
use Rattle.solver.proofs.Walks.{pairs_start, pairs_go, pairs_end}
use native.Mathlib.Omega.{arith}
use Rattle.solver.proofs.touch_pairs.Goals as goal

pub loop-k-init : goal.loop-k-init
loop-k-init c = let (f, e) = c.requires.first_value in
    let o = (c.requires.indexed.edges.order c.args.node c.requires.node_lt_n.0).0 in (
      pairs_start c.requires.indexed c.requires.ready c.requires.node_lt_n.0 f c.requires.touchable,
      omega (arith, f),
      omega (arith, f, e, o),
      ap
          (◌% 2) f,
      λ A. A,
    )

pub look-b-requires : goal.look-b-requires
look-b-requires c = let inv = c.loop-k.invariant in
    let on = ap (λ (G : List ℕ). value_of G (2 * c.args.node + c.args.sign)) (still_list c.requires.indexed.few c.requires.ready inv.0.beside) ∙
    c.requires.node_lt_n.2 in
    let at : PairAt c.args.x.now c.args.node c.loop-k.k =
    (inv.1, omega (arith, c.loop-k-test.true, c.requires.first_value.1), inv.3) in
    record {
      indexed = c.requires.indexed;
      ready = (still_ready c.requires.indexed.few c.requires.ready inv.0.beside, inv.0.units);
      node_lt_n = (c.requires.node_lt_n.0, at, c.requires.node_lt_n.1);
      sign_value = on;
    }

pub loop-k-preserved : goal.loop-k-preserved
loop-k-preserved c = let inv = c.loop-k.invariant in
    let t = c.loop-k-test.true in
    let e = c.requires.first_value.1 in (
      pairs_go c.requires.indexed c.requires.ready c.requires.node_lt_n.0 (inv.1, omega (arith, t, e), inv.3) inv.0 c.look-b.ensures.visited,
      omega (arith, inv.1),
      omega (arith, inv.3, t, e, c.requires.indexed.edges.even c.args.node c.requires.node_lt_n.0),
      omega (arith, inv.3),
      λ A. c.look-b.ensures.onward (inv.4 A),
    )

pub returns-clause-walk : goal.returns-clause-walk
returns-clause-walk c = let inv = c.loop-k.invariant in
    pairs_end c.requires.indexed c.requires.ready c.requires.node_lt_n.0 c.requires.first_value.1 c.loop-k-test.false inv.0
