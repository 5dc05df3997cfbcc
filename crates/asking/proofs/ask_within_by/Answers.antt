-- `asking::ask_within_by` meets its contract: the index is that of the nodes that the goals reach. Assumes nothing.
use borrow.Author.Rules.{rules}
use Rattle.codec.specs.Valid.{Bytes}
use Rattle.asking.proofs.Nodes.{buildable-few, reaches}
use Rattle.asking.proofs.Answers.{within_none, within_some}
use Rattle.asking.proofs.ask_within_by.Goals as goal

pub build_below-requires : goal.build_below-requires
build_below-requires c =
    let bytes : Bytes c.args.t.now = λ i. (c.type_inv.t i).fits in
    let e = c.admit_over.ensures.admits in
    let kept = c.admit_over.ensures.x_len in
    let q = c.in_ok-admit_over.was in
    let r = c.reach-top.ensures in
    let l = r.least _ (e.admitted _ q).below in
    record {
      n_le_most_nodes = buildable-few _ (e.counted _ q) bytes _ l;
      below = r.below;
      x_len = kept;
    }

pub returns-in_err-admit_over : goal.returns-in_err-admit_over
returns-in_err-admit_over c = within_none _ _ _ _ _ _ _ (c.admit_over.ensures.admits.refuses _ c.in_err-admit_over.was) _ c.from_residual.ensures.1 _

pub returns : goal.returns
returns c =
    let bytes : Bytes c.args.t.now = λ i. (c.type_inv.t i).fits in
    let e = c.admit_over.ensures.admits in
    let q = c.in_ok-admit_over.was in
    let r = c.reach-top.ensures in
    within_some _ _ _ _ _ _ _ _
    (reaches _ (e.counted _ q) bytes _ (r.least _ (e.admitted _ q).below) _ (search rules) _ _ _ _ _
    (e.admitted _ q) r.below c.build_below.ensures)
