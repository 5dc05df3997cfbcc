-- `asking::admit` meets its contract: a refusal is the first row's that refuses. Assumes nothing.
use mathlib.Core.Path.{sym}
use Rattle.codec.specs.Valid.{Bytes}
use Rattle.calculus.proofs.Asked.{rows_met}
use Rattle.asking.proofs.Nodes.{few}
use Rattle.asking.proofs.Answers.{table_refuses, rows_refuse, admits-none, admits_some}
use Rattle.asking.proofs.admit.Goals as goal

pub rows-requires : goal.rows-requires
rows-requires c =
    let bytes : Bytes c.args.t.now = λ i. (c.type_inv.t i).fits in
    few _ (sym c.in_ok-nodes.ensures) bytes

pub returns-in_err-nodes : goal.returns-in_err-nodes
returns-in_err-nodes c = admits-none _ _ _ _ _ _ _ (table_refuses _ _ _ _ _ _ (sym c.in_err-nodes.ensures)) _ c.from_residual.ensures.1

pub returns-in_err-rows : goal.returns-in_err-rows
returns-in_err-rows c =
    admits-none _ _ _ _ _ _ _ (rows_refuse _ _ _ _ _ _ (sym c.in_ok-nodes.ensures) (sym c.in_err-rows.ensures)) _ c.from_residual-in_err-rows.ensures.1

pub returns : goal.returns
returns c = admits_some _ _ _ _ _ _ _ (sym c.in_ok-nodes.ensures) (rows_met _ _ _ _ _ _ (sym c.in_ok-rows.ensures))
