-- `index::put_node` meets its contract: as many edges are put as the node's kind has operands. Assumes nothing.
use Rattle.index.specs.Index.{index_node}
use Rattle.index.proofs.Rooms.{put-none, put_first, put_second, put_two, put-three-first, put-three-second, put-three-third, put_all}
use Rattle.index.proofs.put_node.Goals as goal

pub returns-then-kind-lt-PAIRS : goal.returns-then-kind-lt-PAIRS
unfolding index_node
returns-then-kind-lt-PAIRS c = put-none c.requires.1 c.if-kind-lt-PAIRS.true c.args.p

pub put_pair-requires : goal.put_pair-requires
unfolding index_node
put_pair-requires c = put_first c.requires.1 c.if-kind-lt-PAIRS.false c.if-kind-lt-THREES.true c.args.p c.requires.0

pub put_pair-requires-then-kind-lt-THREES : goal.put_pair-requires-then-kind-lt-THREES
unfolding index_node
put_pair-requires-then-kind-lt-THREES c =
    put_second c.requires.1 c.if-kind-lt-PAIRS.false c.if-kind-lt-THREES.true c.requires.0 c.put_pair.ensures

pub returns-then-kind-lt-THREES : goal.returns-then-kind-lt-THREES
unfolding index_node
returns-then-kind-lt-THREES c =
    put_two c.requires.1 c.if-kind-lt-PAIRS.false c.if-kind-lt-THREES.true c.requires.0 c.put_pair.ensures c.put_pair-then-kind-lt-THREES.ensures

pub put_three-requires : goal.put_three-requires
unfolding index_node
put_three-requires c = put-three-first c.requires.1 c.if-kind-lt-THREES.false c.args.p c.requires.0

pub put_three-requires-2 : goal.put_three-requires-2
unfolding index_node
put_three-requires-2 c = put-three-second c.requires.1 c.if-kind-lt-THREES.false c.requires.0 c.put_three.ensures

pub put_three-requires-3 : goal.put_three-requires-3
unfolding index_node
put_three-requires-3 c = put-three-third c.requires.1 c.if-kind-lt-THREES.false c.requires.0 c.put_three.ensures c.put_three-2.ensures

pub returns : goal.returns
unfolding index_node
returns c = put_all c.requires.1 c.if-kind-lt-THREES.false c.requires.0 c.put_three.ensures c.put_three-2.ensures c.put_three-3.ensures
