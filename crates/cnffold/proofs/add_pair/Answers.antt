-- `cnffold::add_pair` meets its contract: rows 15 and 16, then the node of the number. Assumes nothing.
use mathlib.Core.Path.{◌≡◌, refl}
use Prim.Native.Nat.{ℕ, ◌<◌}
use Rattle.scope.specs.Outcome.{answer}
use Rattle.scope.specs.Table.{node_bytes, read_record}
use Rattle.scope.specs.Calls.{normalized}
use Rattle.growing.specs.Growing.{node_in, key_of}
use Rattle.growing.proofs.Nodes.{one_of_adds}
use Rattle.cnf.specs.Fold.{node}
use Rattle.cnffold.specs.declared.Pair.{Pair}
use Rattle.cnffold.specs.Built.{InOrder}
use Rattle.cnffold.proofs.Built.{key_reads, grows_put, grows_refused, put_refused}
use Rattle.cnffold.proofs.Pairs.{key_node, order_low, pair-15, pair-16, pair_reads}
use native.Mathlib.Omega.{arith}
use Rattle.cnffold.proofs.add_pair.Goals as goal
use Rattle.cnffold.proofs.add_pair.Goals.{Else-o}

-- the node of two literals in order

ordered : (kind : ℕ) {a b : ℕ} {r : Pair} → InOrder a b r → a < 4032 → b < 4032 → node_in (key_of kind r.low r.high) ≡ node kind r.low r.high
ordered kind {r = r} o h k =
    let low = order_low o h k in
    key_node kind r.low r.high (omega (arith, low.0)) (omega (arith, low.1))

-- it reads behind the nodes that there are
reads : (c : goal.Else-o) → read_record (normalized (node_bytes (node c.args.kind c.args.a c.args.b))) c.args.nodes.now.count ≡ answer (node c.args.kind c.in_order-o.result.low c.in_order-o.result.high)
reads c = let k = c.requires in
    rw (← c.count-place.ensures.0) (pair_reads c.args.kind k.0 k.1 c.args.a c.args.b c.count-place.result c.in_order-o.ensures c.if-place-o.false c.if-o.false)

pub returns-then-place-o : goal.returns-then-place-o
returns-then-place-o c = let k = c.requires in
    let t = c.count-place.ensures in
    record {
      grows = grows_refused refl refl
          (λ buf q. put_refused t.1 buf q c.args.kind c.args.a c.args.b
          (rw (← t.0) (pair-15 c.args.kind k.0 k.1 c.args.a c.args.b c.count-place.result c.in_order-o.ensures c.if-place-o.true)));
      adds = λ x. one_of_adds refl (omega arith);
    }

pub returns-then-o : goal.returns-then-o
returns-then-o c = let k = c.requires in
    let t = c.count-place.ensures in
    record {
      grows = grows_refused refl refl
          (λ buf q. put_refused t.1 buf q c.args.kind c.args.a c.args.b
          (rw (← t.0) (pair-16 c.args.kind k.0 k.1 c.args.a c.args.b c.count-place.result c.in_order-o.ensures c.if-place-o.false c.if-o.true)));
      adds = λ x. one_of_adds refl (omega arith);
    }

pub grow-requires : goal.grow-requires
grow-requires c =
    let o = c.in_order-o.result in
    key_reads (key_of c.args.kind o.low o.high) (node c.args.kind c.args.a c.args.b) (node c.args.kind o.low o.high) c.args.nodes.now.count
    (ordered c.args.kind c.in_order-o.ensures c.requires.2 c.requires.3) (reads (goal.at.grow-requires c).Else-o)

pub returns : goal.returns
returns c =
    let o = c.in_order-o.result in
    let (s, g) = c.grow.ensures.grows in
    record {
      grows = grows_put s (key_of c.args.kind o.low o.high) c.args.kind c.args.a c.args.b (node c.args.kind o.low o.high)
          (ordered c.args.kind c.in_order-o.ensures c.requires.2 c.requires.3) (reads (goal.at.returns c).Else-o) g;
      adds = c.grow.ensures.adds;
    }
