-- `truth::block_levels` meets its contract: before each turn the array has the levels of the nodes passed. Assumes nothing.
use mathlib.Core.Path.{◌≡◌, ◌∙◌, ap}
use mathlib.Core.List.{List}
use Prim.Native.Nat.{ℕ, ◌≤◌, ◌<◌, ◌+◌, ◌-◌, ◌*◌}
use native.Mathlib.Omega.{arith}
use native.Mathlib.Nat.{add-zero}
use lib.ListN.{length, take, drop, length-set}
use Rattle.scope.specs.declared.Node.{Node}
use Rattle.scope.specs.Table.{tables, node_of, node_at}
use Rattle.scope.specs.Truth.{node_truth}
use Rattle.scope.specs.Kleene.{kleene}
use Rattle.scope.proofs.Records.{part_record}
use Rattle.codec.specs.Valid.{Bytes}
use Rattle.truth.specs.Evaluated.{level, Low, Evaluable, Filled, NodeLevel}
use Rattle.truth.proofs.Levels.{at_most}
use Rattle.truth.proofs.Low.{low_up}
use Rattle.truth.proofs.Filling.{truths, truths_size, filled_more, nodes_few, place_is, node_within, node_low}
use Rattle.truth.proofs.block_levels.Goals as goal

-- record i of block j lies within the table
within : (t s v : List ℕ) (j i count : ℕ) → Bytes t → Evaluable t s v (63 * j + count) → count ≤ 63 → i < count
    → 512 * j + 4 + 8 * i + 8 ≤ length t
within t s v j i count b e most h = omega (arith, place_is j i (omega arith), node_within b e (63 * j + i) (omega arith))

-- .. and is that of node 63 j + i
node-is : (t : List ℕ) (j i : ℕ) {x : Node} → i < 63 → x ≡ node_of (take (512 * j + 4 + 8 * i + 8 - (512 * j + 4 + 8 * i)) (drop (512 * j + 4 + 8 * i) t))
    → x ≡ node_at t (63 * j + i)
node-is t j i h e = e ∙ ap node_of (part_record tables t (63 * j + i) (512 * j + 4 + 8 * i) (place_is j i h))

-- a node's level, by those of the nodes before it
level-is : (t s v : List ℕ) (n : ℕ) {x : Node} {r : ℕ} → x ≡ node_at t n → Low (node_at t n) n → Filled t s n v → NodeLevel s v x r
    → r ≡ level (node_truth kleene s (truths t s v n) x)
level-is t s v n e low f l = l.under (truths t s v n) (rw (truths_size t s v n, e) low) f.says

pub overflow_mul-from : goal.overflow_mul-from
overflow_mul-from c = omega (arith, nodes_few (λ i. (c.type_inv.t i).fits) c.requires.evaluable.0)

pub overflow_add-from : goal.overflow_add-from
overflow_add-from c = omega (arith, nodes_few (λ i. (c.type_inv.t i).fits) c.requires.evaluable.0)

pub loop-i-init : goal.loop-i-init
loop-i-init c = rw add-zero c.requires.filled

pub overflow_mul-at : goal.overflow_mul-at
overflow_mul-at c = omega (arith, c.requires.evaluable.1, c.loop-i-test.true)

pub overflow_add-at-in-loop-i : goal.overflow_add-at-in-loop-i
overflow_add-at-in-loop-i c = omega (arith, nodes_few (λ i. (c.type_inv.t i).fits) c.requires.evaluable.0, c.requires.evaluable.1, c.loop-i-test.true)

pub overflow_add-at : goal.overflow_add-at
overflow_add-at c = omega (arith, nodes_few (λ i. (c.type_inv.t i).fits) c.requires.evaluable.0, c.requires.evaluable.1, c.loop-i-test.true)

pub slice_bounds-fields-end : goal.slice_bounds-fields-end
slice_bounds-fields-end c =
    let p = c.requires.evaluable in
    let most = within c.args.t.now c.args.s.now c.args.v.now c.args.j c.loop-i.i c.args.count (λ i. (c.type_inv.t i).fits) p.0 p.1 c.loop-i-test.true in
    omega (arith, most)

pub node_level-r-requires : goal.node_level-r-requires
node_level-r-requires c =
    let e = c.requires.evaluable.0 in
    let n = 63 * c.args.j + c.loop-i.i in
    let is = node-is c.args.t.now c.args.j c.loop-i.i (omega (arith, c.requires.evaluable.1, c.loop-i-test.true)) c.fields-x.ensures in
    let low = node_low (λ i. (c.type_inv.t i).fits) e n (omega (arith, c.loop-i-test.true)) in
    record {
      joins_value = c.requires.joins_value;
      in_bounds = (e.points, rw is (low_up (omega (arith, e.room, c.loop-i.auto.v, c.loop-i-test.true)) low), c.loop-i.invariant.levels);
    }

pub overflow_mul-l : goal.overflow_mul-l
overflow_mul-l c = omega (arith, nodes_few (λ i. (c.type_inv.t i).fits) c.requires.evaluable.0)

pub overflow_add-l : goal.overflow_add-l
overflow_add-l c = omega (arith, nodes_few (λ i. (c.type_inv.t i).fits) c.requires.evaluable.0, c.loop-i-test.true)

pub overflow_mul-l-in-loop-i : goal.overflow_mul-l-in-loop-i
overflow_mul-l-in-loop-i c = omega (arith, nodes_few (λ i. (c.type_inv.t i).fits) c.requires.evaluable.0, c.loop-i-test.true)

pub bounds-v-l : goal.bounds-v-l
bounds-v-l c = omega (arith, c.requires.evaluable.0.room, c.loop-i.auto.v, c.loop-i-test.true)

pub overflow_sub-v : goal.overflow_sub-v
overflow_sub-v c =
    let n = 63 * c.args.j + c.loop-i.i in
    let is = node-is c.args.t.now c.args.j c.loop-i.i (omega (arith, c.requires.evaluable.1, c.loop-i-test.true)) c.fields-x.ensures in
    let low = node_low (λ i. (c.type_inv.t i).fits) c.requires.evaluable.0 n (omega (arith, c.loop-i-test.true)) in
    at_most _ (level-is c.args.t.now c.args.s.now c.loop-i.v n is low c.loop-i.invariant c.node_level-r.ensures)

pub overflow_add-v : goal.overflow_add-v
overflow_add-v c = omega (arith, nodes_few (λ i. (c.type_inv.t i).fits) c.requires.evaluable.0, c.loop-i-test.true)

pub bounds-v-l-in-loop-i : goal.bounds-v-l-in-loop-i
bounds-v-l-in-loop-i c = simp length-set (omega (arith, c.requires.evaluable.0.room, c.loop-i.auto.v, c.loop-i-test.true))

pub loop-i-preserved : goal.loop-i-preserved
loop-i-preserved c =
    let e = c.requires.evaluable.0 in
    let n = 63 * c.args.j + c.loop-i.i in
    let is = node-is c.args.t.now c.args.j c.loop-i.i (omega (arith, c.requires.evaluable.1, c.loop-i-test.true)) c.fields-x.ensures in
    let low = node_low (λ i. (c.type_inv.t i).fits) e n (omega (arith, c.loop-i-test.true)) in
    let level = level-is c.args.t.now c.args.s.now c.loop-i.v n is low c.loop-i.invariant c.node_level-r.ensures in
    let room : 2 * n + 2 ≤ length c.loop-i.v = omega (arith, e.room, c.loop-i.auto.v, c.loop-i-test.true) in
    let next : n + 1 ≡ 63 * c.args.j + (c.loop-i.i + 1) = omega arith in
    rw next at (filled_more c.args.t.now c.args.s.now c.loop-i.v n _ c.node_level-r.result room is c.loop-i.invariant level)

pub returns : goal.returns
returns c = let q : c.loop-i.i ≡ c.args.count = omega (arith, c.loop-i-test.false) in
    rw q at c.loop-i.invariant
