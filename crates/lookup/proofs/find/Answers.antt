-- `lookup::find` meets its contract: 63 j and what is left of the search from block j on is the answer. Assumes nothing.
use mathlib.Core.Path.{◌≡◌, ◌∙◌}
use Prim.Native.Nat.{ℕ, ◌+◌, ◌*◌, ◌-◌, ◌/◌, ◌%◌}
use native.Mathlib.Omega.{arith}
use mathlib.Core.List.{List}
use Rattle.scope.specs.declared.Node.{Node}
use Rattle.scope.specs.Table.{node_at, list_from}
use Rattle.scope.specs.Calls.{index_of}
use Rattle.lookup.proofs.Finds.{is_among, not_among, from_some, from_none, in_block, past_block, start-low, start_left}
use Rattle.lookup.proofs.find.Goals as goal

-- past the last full block, the last one's nodes are left
left : (t : List ℕ) (x : Node) (nodes : ℕ) {j : ℕ} → j ≡ nodes / 63
    → 63 * j + index_of x (list_from (node_at t) (63 * j) (nodes - 63 * j)) ≡ index_of x (list_from (node_at t) 0 nodes)
    → 63 * (nodes / 63) + index_of x (list_from (node_at t) (63 * (nodes / 63)) (nodes % 63)) ≡ index_of x (list_from (node_at t) 0 nodes)
left t x nodes last e =
    let rest : nodes - 63 * (nodes / 63) ≡ nodes % 63 = omega arith in
    rw (last, rest) at e

pub loop-j-init : goal.loop-j-init
loop-j-init c = let q = c.requires.by_index in
    let first = c.first_block-j.ensures in
    start_left (node_at c.args.t.now) c.args.x c.args.nodes q.0 q.1 _ first.0 first.1

pub find_in-requires : goal.find_in-requires
find_in-requires c = let p = c.requires.nodes_bound in
    let test = c.loop-j-test.true in
    (omega (arith, p.0, test), omega arith, λ n h. p.1 n (omega (arith, test)))

pub overflow_mul-result : goal.overflow_mul-result
overflow_mul-result c = omega (arith, c.requires.nodes_bound.0, c.loop-j-test.true)

pub overflow_add-result : goal.overflow_add-result
overflow_add-result c = omega (arith, c.requires.nodes_bound.0, c.loop-j-test.true, from_some 63 _ c.in-Some.ensures)

pub returns-in-Some : goal.returns-in-Some
returns-in-Some c = let is = from_some 63 _ c.in-Some.ensures in
    let here = in_block (node_at c.args.t.now) c.args.x (63 * c.loop-j.j) c.args.nodes (omega (arith, c.loop-j-test.true)) is.1 in
    is_among c.args.nodes _ _ (omega (arith, is, c.loop-j-test.true)) (omega (arith, is, here, c.loop-j.invariant))

pub loop-j-preserved : goal.loop-j-preserved
loop-j-preserved c = let j = c.loop-j.j in
    let on = past_block (node_at c.args.t.now) c.args.x (63 * j) c.args.nodes (omega (arith, c.loop-j-test.true)) (from_none 63 _ c.in_default.ensures) in
    let next : 63 * j + 63 ≡ 63 * (j + 1) = omega arith in
    rw (← next) (omega (arith, on, c.loop-j.invariant))

pub find_in-requires-2 : goal.find_in-requires-2
find_in-requires-2 c = let p = c.requires.nodes_bound in
    (omega (arith, p.0), omega arith, λ n h. p.1 n (omega arith))

pub returns-in_err-i : goal.returns-in_err-i
returns-in_err-i c = let q = c.requires.by_index in
    let first = c.first_block-j.ensures in
    let low = start-low (node_at c.args.t.now) c.args.x c.args.nodes q.0 q.1 _ first.0 first.1 in
    let last : c.loop-j.j ≡ c.args.nodes / 63 = omega (arith, low, c.loop-j-test.false) in
    let all = left c.args.t.now c.args.x c.args.nodes last c.loop-j.invariant in
    c.from_residual.ensures ∙ not_among c.args.nodes _ (omega (arith, all, from_none (c.args.nodes % 63) _ c.in_err-i.ensures))

pub overflow_add-result-2 : goal.overflow_add-result-2
overflow_add-result-2 c = omega (arith, c.requires.nodes_bound.0, from_some (c.args.nodes % 63) _ c.in_ok-i.ensures)

pub returns : goal.returns
returns c = let q = c.requires.by_index in
    let first = c.first_block-j.ensures in
    let low = start-low (node_at c.args.t.now) c.args.x c.args.nodes q.0 q.1 _ first.0 first.1 in
    let last : c.loop-j.j ≡ c.args.nodes / 63 = omega (arith, low, c.loop-j-test.false) in
    let all = left c.args.t.now c.args.x c.args.nodes last c.loop-j.invariant in
    let is = from_some (c.args.nodes % 63) _ c.in_ok-i.ensures in
    is_among c.args.nodes _ _ (omega (arith, is)) (omega (arith, is, all))
