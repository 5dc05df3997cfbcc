-- `cnffold::add_point` meets its contract: the node of a number, as its record. Assumes nothing.
use Prim.Native.Nat.{◌+◌}
use Rattle.cnf.specs.Fold.{node}
use Rattle.cnf.proofs.Records.{point_reads}
use Rattle.cnffold.proofs.Built.{key_reads, grows_put}
use Rattle.cnffold.proofs.Pairs.{point_node}
use Rattle.cnffold.proofs.add_point.Goals as goal

pub grow-requires : goal.grow-requires
grow-requires c = let p = c.args.p in
    key_reads (33554432 + p) (node 2 p 0) (node 2 p 0) c.args.nodes.now.count (point_node p c.requires) (point_reads p c.args.nodes.now.count c.requires)

pub returns : goal.returns
returns c = let p = c.args.p in
    let (s, g) = c.grow.ensures.grows in
    record {
      grows = grows_put s (33554432 + p) 2 p 0 (node 2 p 0) (point_node p c.requires) (point_reads p c.args.nodes.now.count c.requires) g;
      adds = c.grow.ensures.adds;
    }
