-- `solver::undo_to` meets its contract. Assumes nothing.
use Rattle.solver.proofs.Undoes.{undone, undone-list, cursor_low}
use Rattle.trail.proofs.Trails.{trail-length}
use Rattle.state.specs.Work.{tail}
use borrow.Author.Rules.{rules}
use Rattle.solver.proofs.undo_to.Goals as goal

pub leave-requires-clause-n_le_most_nodes : goal.leave-requires-clause-n_le_most_nodes
leave-requires-clause-n_le_most_nodes c = let w = c.args.work.now in
    let e = trail-length (tail w 0) (tail w) in
    search rules

pub cursor_at-cursor-requires : goal.cursor_at-cursor-requires
cursor_at-cursor-requires c = search (rules, cursor_low)

pub returns : goal.returns
returns c = record {
  holds_2 = search (rules, undone, undone-list);
  work_after = search (rules, undone, undone-list);
}
