-- `grounds::put_all` meets its contract, by how many operands the kind has. Assumes nothing.
use Prim.Native.Nat.{◌+◌}
use Rattle.index.specs.Index.{index_node}
use Rattle.grounds.proofs.Puts.{held_there, slot_there, first_below, second_below, third_below, put-none, put-pair, put-triple}
use native.Mathlib.Omega.{arith}
use Rattle.grounds.proofs.put_all.Goals as goal

pub returns-then-kind-lt-PAIRS : goal.returns-then-kind-lt-PAIRS
unfolding index_node
returns-then-kind-lt-PAIRS c = put-none c.requires.indexed c.requires.room c.requires.q_bound.1 c.args.q c.if-kind-lt-PAIRS.true c.put_both.ensures

pub slot-a-requires : goal.slot-a-requires
unfolding index_node
slot-a-requires c = (c.requires.ready.size, c.requires.indexed.few, first_below c.requires.indexed c.args.node c.requires.q_bound.1 c.if-kind-lt-PAIRS.false)

pub slot-b-requires : goal.slot-b-requires
unfolding index_node
slot-b-requires c = (c.requires.ready.size, c.requires.indexed.few, second_below c.requires.indexed c.args.node c.requires.q_bound.1 c.if-kind-lt-PAIRS.false)

pub put_three-requires : goal.put_three-requires
unfolding index_node
put_three-requires c = (
  c.requires.room.there,
  slot_there c.requires.room c.requires.ready (first_below c.requires.indexed c.args.node c.requires.q_bound.1 c.if-kind-lt-PAIRS.false) c.slot-a.ensures,
  slot_there c.requires.room c.requires.ready (second_below c.requires.indexed c.args.node c.requires.q_bound.1 c.if-kind-lt-PAIRS.false) c.slot-b.ensures,
  held_there c.requires.room (c.args.q + 1) (omega (arith, c.requires.q_bound.0)),
)

pub returns-then-kind-lt-THREES : goal.returns-then-kind-lt-THREES
unfolding index_node
returns-then-kind-lt-THREES c = put-pair c.requires.indexed c.requires.room c.requires.q_bound.1 c.args.q c.slot-a.ensures c.slot-b.ensures
    c.if-kind-lt-PAIRS.false c.if-kind-lt-THREES.true
    c.put_three.ensures

pub slot-c-requires : goal.slot-c-requires
unfolding index_node
slot-c-requires c = (c.requires.ready.size, c.requires.indexed.few, third_below c.requires.indexed c.args.node c.requires.q_bound.1 c.if-kind-lt-THREES.false)

pub put_four-requires : goal.put_four-requires
unfolding index_node
put_four-requires c = (
  c.requires.room.there,
  slot_there c.requires.room c.requires.ready (first_below c.requires.indexed c.args.node c.requires.q_bound.1 c.if-kind-lt-PAIRS.false) c.slot-a.ensures,
  slot_there c.requires.room c.requires.ready (second_below c.requires.indexed c.args.node c.requires.q_bound.1 c.if-kind-lt-PAIRS.false) c.slot-b.ensures,
  slot_there c.requires.room c.requires.ready (third_below c.requires.indexed c.args.node c.requires.q_bound.1 c.if-kind-lt-THREES.false) c.slot-c.ensures,
  held_there c.requires.room (c.args.q + 1) (omega (arith, c.requires.q_bound.0)),
)

pub returns : goal.returns
unfolding index_node
returns c = put-triple c.requires.indexed c.requires.room c.requires.q_bound.1 c.args.q c.slot-a.ensures c.slot-b.ensures c.if-kind-lt-THREES.false
    c.slot-c.ensures
    c.put_four.ensures
