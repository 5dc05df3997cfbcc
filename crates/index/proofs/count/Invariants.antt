use Rattle.index.specs.Index.{first_at, index_node}
use Rattle.index.specs.Built.{Same, pairs_to, threes_to, Counted}
use Rattle.index.proofs.count.Given as goal

abbrev pub invariant-loop-p : goal.invariant-loop-p
invariant-loop-p l = Counted (index_node l.initial.x) l.n (pairs_to (index_node l.initial.x) l.p) (threes_to (index_node l.initial.x) l.p) l.x
    × Same first_at l.initial.x l.x
