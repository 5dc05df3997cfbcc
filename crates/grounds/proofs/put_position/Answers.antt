-- `grounds::put_position` meets its contract: the row tells whether the clause has one operand or all. Assumes nothing.
use Prim.Native.Nat.{◌+◌, ◌*◌, ◌/◌, ◌<◌}
use lib.ListN.{get_or}
use Rattle.index.specs.Index.{index_node}
use Rattle.grounds.proofs.Puts.{held_there, slot_there, cell_below, literal_node, literal_kind, column_few, single-low, put-single, put_others}
use Rattle.state.proofs.Areas.{count_most}
use native.Mathlib.Omega.{arith}
use Rattle.grounds.proofs.put_position.Goals as goal

pub literal-l-requires : goal.literal-l-requires
literal-l-requires c = (c.requires.ready.size, omega (arith, c.requires.q_bound.0, count_most c.requires.ready, c.requires.indexed.few))

pub bounds-x-node : goal.bounds-x-node
bounds-x-node c = let e = c.literal-l.ensures in
    let d : c.literal-l.result / 2 < c.args.n = rw e (literal_node c.requires.indexed c.requires.ready c.requires.room c.args.q c.args.j
    c.requires.q_bound.0) in
    omega (arith, d, c.requires.indexed.size, c.requires.indexed.few)

pub overflow_shr-row : goal.overflow_shr-row
unfolding index_node
overflow_shr-row c = let e = c.literal-l.ensures in
    let k : get_or c.args.x.now (4 * (c.literal-l.result / 2)) 0 + 1 < 9 = rw e
    (literal_kind c.requires.indexed c.requires.ready c.requires.room c.args.q c.args.j c.requires.q_bound.0) in
    omega (arith, k)

pub overflow_add-j : goal.overflow_add-j
overflow_add-j c = omega (arith, column_few c.requires.indexed c.requires.ready c.requires.room c.args.q c.args.j c.requires.q_bound.0 c.requires.q_bound.1)

pub overflow_add-node : goal.overflow_add-node
overflow_add-node c = let e = c.literal-l.ensures in
    let d : c.literal-l.result / 2 < c.args.n = rw e (literal_node c.requires.indexed c.requires.ready c.requires.room c.args.q c.args.j
    c.requires.q_bound.0) in
    omega (
      arith,
      d,
      c.requires.indexed.few,
      column_few c.requires.indexed c.requires.ready c.requires.room c.args.q c.args.j c.requires.q_bound.0
          c.requires.q_bound.1,
    )

pub offset_bounds-x-node-then-row-eq1 : goal.offset_bounds-x-node-then-row-eq1
offset_bounds-x-node-then-row-eq1 c = let e = c.literal-l.ensures in
    let d : c.literal-l.result / 2 < c.args.n = rw e (literal_node c.requires.indexed c.requires.ready c.requires.room c.args.q c.args.j
    c.requires.q_bound.0) in
    omega (
      arith,
      d,
      c.requires.indexed.few,
      column_few c.requires.indexed c.requires.ready c.requires.room c.args.q c.args.j c.requires.q_bound.0
          c.requires.q_bound.1,
    )

pub bounds-x-node-then-row-eq1 : goal.bounds-x-node-then-row-eq1
bounds-x-node-then-row-eq1 c = let e = c.literal-l.ensures in
    let d : c.literal-l.result / 2 < c.args.n = rw e (literal_node c.requires.indexed c.requires.ready c.requires.room c.args.q c.args.j
    c.requires.q_bound.0) in
    omega (
      arith,
      d,
      c.requires.indexed.size,
      c.requires.indexed.few,
      column_few c.requires.indexed c.requires.ready c.requires.room c.args.q c.args.j
          c.requires.q_bound.0 c.requires.q_bound.1,
    )

pub slot-a-requires : goal.slot-a-requires
unfolding index_node
slot-a-requires c = let e = c.literal-l.ensures in
    let low = single-low c.requires.indexed c.requires.ready c.requires.room c.args.q c.args.j c.requires.q_bound.0 (rw e at c.if-row-eq1.true)
    c.requires.q_bound.1 in
    let node = literal_node c.requires.indexed c.requires.ready c.requires.room c.args.q c.args.j c.requires.q_bound.0 in
    (c.requires.ready.size, c.requires.indexed.few, rw e (cell_below c.requires.indexed _ node c.args.j low))

pub put_both-requires : goal.put_both-requires
unfolding index_node
put_both-requires c = let e = c.literal-l.ensures in
    let low = single-low c.requires.indexed c.requires.ready c.requires.room c.args.q c.args.j c.requires.q_bound.0 (rw e at c.if-row-eq1.true)
    c.requires.q_bound.1 in
    let node = literal_node c.requires.indexed c.requires.ready c.requires.room c.args.q c.args.j c.requires.q_bound.0 in (
      c.requires.room.there,
      slot_there c.requires.room c.requires.ready (cell_below c.requires.indexed _ node c.args.j low) (rw e at c.slot-a.ensures),
      held_there c.requires.room (c.args.q + 1) (omega (arith, c.requires.q_bound.0)),
    )

pub returns-then-row-eq1 : goal.returns-then-row-eq1
unfolding index_node
returns-then-row-eq1 c = let e = c.literal-l.ensures in
    put-single c.requires.indexed c.requires.ready c.requires.room c.args.q c.args.j c.requires.q_bound.0 (rw e at c.if-row-eq1.true) c.requires.q_bound.1
    (rw e at c.slot-a.ensures) c.put_both.ensures

pub put_all-requires-clause-q_bound : goal.put_all-requires-clause-q_bound
put_all-requires-clause-q_bound c = let e = c.literal-l.ensures in
    (c.requires.q_bound.0, rw e (literal_node c.requires.indexed c.requires.ready c.requires.room c.args.q c.args.j c.requires.q_bound.0))

pub returns : goal.returns
unfolding index_node
returns c = let e = c.literal-l.ensures in
    put_others c.requires.indexed c.requires.ready c.requires.room c.args.q c.args.j c.requires.q_bound.0 (rw e at c.if-row-eq1.false)
    (rw e at c.put_all.ensures)
