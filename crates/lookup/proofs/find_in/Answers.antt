-- `lookup::find_in` meets its contract: i and what is left of the search from i on is the answer. Assumes nothing.
use mathlib.Core.Path.{◌≡◌, ◌∙◌, ap, sym}
use mathlib.Core.List.{List}
use mathlib.Core.Bool.{Bool}
use Prim.Native.Nat.{ℕ, ◌+◌, ◌-◌, ◌*◌, ◌<◌, ◌≤◌}
use native.Mathlib.Nat.{add-zero, add-sub_cancel_left}
use native.Mathlib.Omega.{arith}
use lib.ListN.{length, take, drop}
use Rattle.record.specs.Place.{place_of}
use Rattle.scope.specs.declared.Node.{Node}
use Rattle.scope.specs.Table.{tables, node_of, same_node, node_at}
use Rattle.scope.proofs.Records.{part_record}
use Rattle.lookup.proofs.Finds.{found, passed, none, place_is, is_among, not_among}
use Rattle.lookup.proofs.find_in.Goals as goal

-- record i of block j lies within the table
within : (t : List ℕ) (j i count : ℕ) → count ≤ 63 → ((n : ℕ) → n < 63 * j + count → place_of n + 8 ≤ length t) → i < count
    → 512 * j + 4 + 8 * i + 8 ≤ length t
within t j i count few h less = omega (arith, place_is j i (omega arith), h (63 * j + i) (omega arith))

-- .. and is compared
compared : (t : List ℕ) (j i : ℕ) (x : Node) {y : Node} {r : Bool} → i < 63 → r ≡ same_node y x
    → y ≡ node_of (take (512 * j + 4 + 8 * i + 8 - (512 * j + 4 + 8 * i)) (drop (512 * j + 4 + 8 * i) t))
    → r ≡ same_node (node_at t (63 * j + i)) x
compared t j i x less e q =
    e ∙ ap (λ (y : Node). same_node y x) (q ∙ ap node_of (part_record tables t (63 * j + i) (512 * j + 4 + 8 * i) (place_is j i less)))

pub loop-i-init : goal.loop-i-init
loop-i-init c = simp (add-zero, add-sub_cancel_left)

pub slice_bounds-fields-end : goal.slice_bounds-fields-end
slice_bounds-fields-end c = omega (arith, within c.args.t.now c.args.j c.loop-i.i c.args.count c.requires.1 c.requires.2 c.loop-i-test.true)

pub returns-then-same : goal.returns-then-same
returns-then-same c =
    let is = compared c.args.t.now c.args.j c.loop-i.i c.args.x (omega (arith, c.requires.1)) c.same.ensures c.fields.ensures in
    let less = c.loop-i-test.true in
    let n = 63 * c.args.j + c.loop-i.i in
    let here = found (node_at c.args.t.now) c.args.x n (63 * c.args.j + c.args.count) (omega (arith, less)) (sym is ∙ c.if-same.true) in
    is_among c.args.count _ _ less (omega (arith, here, c.loop-i.invariant))

pub loop-i-preserved : goal.loop-i-preserved
loop-i-preserved c =
    let is = compared c.args.t.now c.args.j c.loop-i.i c.args.x (omega (arith, c.requires.1)) c.same.ensures c.fields.ensures in
    let i = c.loop-i.i in
    let next : 63 * c.args.j + i + 1 ≡ 63 * c.args.j + (i + 1) = omega arith in
    let on = passed (node_at c.args.t.now) c.args.x (63 * c.args.j + i) (63 * c.args.j + c.args.count) (omega arith) (sym is ∙ c.if-same.false) in
    rw next at (sym on) ∙ c.loop-i.invariant

pub returns : goal.returns
returns c =
    let n = 63 * c.args.j + c.loop-i.i in
    let end = none (node_at c.args.t.now) c.args.x n (63 * c.args.j + c.args.count) (omega arith) (omega (arith, c.loop-i-test.false)) in
    not_among c.args.count _ (omega (arith, end, c.loop-i.invariant))
