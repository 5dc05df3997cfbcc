-- `solver::touch_threes` meets its contract. The loop goes from edge to edge. Assumes nothing.
use mathlib.Core.Path.{refl}
use Rattle.solver.proofs.Marks.{still_ready}
use Rattle.solver.proofs.Walks.{threes_start, threes_seen, threes_end}
use Rattle.solver.proofs.touch_threes.Goals as goal

pub loop-k-init : goal.loop-k-init
loop-k-init c = (threes_start c.requires.indexed c.requires.ready c.requires.node_lt_n.0 c.requires.node_lt_n.1 c.requires.walk, refl, λ A. A)

pub visit-b-requires-clause-ready : goal.visit-b-requires-clause-ready
visit-b-requires-clause-ready c = let inv = c.loop-k.invariant in
    (still_ready c.requires.indexed.few c.requires.ready inv.0.beside, inv.0.units)

pub loop-k-preserved : goal.loop-k-preserved
loop-k-preserved c = let inv = c.loop-k.invariant in
    let seen = threes_seen c.requires.indexed c.requires.ready c.requires.node_lt_n.0 inv.0 c.parent_of_three-p.ensures.0 in
    (seen c.visit-b.ensures.visited, inv.1, λ A. c.visit-b.ensures.onward (inv.2 A))

pub returns-clause-touched : goal.returns-clause-touched
returns-clause-touched c = let inv = c.loop-k.invariant in
    threes_end c.requires.indexed c.requires.ready c.requires.node_lt_n.0 inv.1 c.loop-k-test.false inv.0
