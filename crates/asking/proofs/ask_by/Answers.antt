-- `asking::ask_by` meets its contract: the index is that of the table's nodes. Assumes nothing.
use borrow.Author.Rules.{rules}
use Rattle.codec.specs.Valid.{Bytes}
use Rattle.asking.proofs.Nodes.{buildable, prepares}
use Rattle.asking.proofs.Answers.{asks_none, asks-some}
use Rattle.asking.proofs.ask_by.Goals as goal

pub build-requires : goal.build-requires
build-requires c =
    let bytes : Bytes c.args.t.now = λ i. (c.type_inv.t i).fits in
    let e = c.admit_over.ensures in
    record {
      nodes_le_most_nodes = buildable _ (e.admits.counted _ c.in_ok-nodes.was) bytes;
      x_len = e.x_len.0;
    }

pub returns-in_err-nodes : goal.returns-in_err-nodes
returns-in_err-nodes c = asks_none _ _ _ _ _ _ _ (c.admit_over.ensures.admits.refuses _ c.in_err-nodes.was) _ c.from_residual.ensures.1 _

pub returns : goal.returns
returns c =
    let bytes : Bytes c.args.t.now = λ i. (c.type_inv.t i).fits in
    let e = c.admit_over.ensures.admits in
    let q = c.in_ok-nodes.was in
    asks-some _ _ _ _ _ _ _ _ (prepares _ (e.counted _ q) bytes _ (search rules) c.build.ensures _ _ _ _ _ (e.admitted _ q))
