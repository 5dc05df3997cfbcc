-- `cnffold::add_true` meets its contract: the node of a number, as its record. Assumes nothing.
use Rattle.cnf.specs.Fold.{node}
use Rattle.cnf.proofs.Records.{true-reads}
use Rattle.cnffold.proofs.Built.{key_reads, grows_put}
use Rattle.cnffold.proofs.Pairs.{key_node}
use native.Mathlib.Omega.{arith}
use Rattle.cnffold.proofs.add_true.Goals as goal

pub grow-requires : goal.grow-requires
grow-requires c =
    key_reads 16777216 (node 1 0 0) (node 1 0 0) c.args.nodes.now.count (key_node 1 0 0 (omega arith) (omega arith)) (true-reads c.args.nodes.now.count)

pub returns : goal.returns
returns c = let (s, g) = c.grow.ensures.grows in
    record {
      grows = grows_put s 16777216 1 0 0 (node 1 0 0) (key_node 1 0 0 (omega arith) (omega arith)) (true-reads c.args.nodes.now.count) g;
      adds = c.grow.ensures.adds;
    }
