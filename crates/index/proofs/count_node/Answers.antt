-- `index::count_node` meets its contract: as many edges are counted as the node's kind has operands. Assumes nothing.
use Rattle.index.specs.Index.{index_node}
use Rattle.index.proofs.Rooms.{count_none, count-first, count-second, counted-two, count-three-first, count-three-second, count-three-third, counted-all}
use Rattle.index.proofs.count_node.Goals as goal

pub returns-then-kind-lt-PAIRS : goal.returns-then-kind-lt-PAIRS
unfolding index_node
returns-then-kind-lt-PAIRS c = count_none c.requires.1 c.if-kind-lt-PAIRS.true

pub raise-requires : goal.raise-requires
unfolding index_node
raise-requires c = count-first c.requires.1 c.if-kind-lt-PAIRS.false c.if-kind-lt-THREES.true

pub raise-requires-then-kind-lt-THREES : goal.raise-requires-then-kind-lt-THREES
unfolding index_node
raise-requires-then-kind-lt-THREES c = count-second c.requires.1 c.if-kind-lt-PAIRS.false c.if-kind-lt-THREES.true c.raise.ensures.0

pub returns-then-kind-lt-THREES : goal.returns-then-kind-lt-THREES
unfolding index_node
returns-then-kind-lt-THREES c = counted-two c.requires.1 c.if-kind-lt-PAIRS.false c.if-kind-lt-THREES.true c.raise.ensures.0
    c.raise-then-kind-lt-THREES.ensures.0

pub raise-requires-2 : goal.raise-requires-2
unfolding index_node
raise-requires-2 c = count-three-first c.requires.1 c.if-kind-lt-THREES.false

pub raise-requires-3 : goal.raise-requires-3
unfolding index_node
raise-requires-3 c = count-three-second c.requires.1 c.if-kind-lt-THREES.false c.raise-2.ensures.0

pub raise-requires-4 : goal.raise-requires-4
unfolding index_node
raise-requires-4 c = count-three-third c.requires.1 c.if-kind-lt-THREES.false c.raise-2.ensures.0 c.raise-3.ensures.0

pub returns : goal.returns
unfolding index_node
returns c = counted-all c.requires.1 c.if-kind-lt-THREES.false c.raise-2.ensures.0 c.raise-3.ensures.0 c.raise-4.ensures.0
