-- `rooms::turn` meets its contract: a refusal, or the round goes on. Assumes nothing.
use mathlib.Core.Path.{refl}
use Rattle.std.proofs.lemmas.Result.{err_from_is_err_and}
use Rattle.asking.proofs.Lends.{new_index}
use Rattle.rooms.proofs.Ends.{none-zero, turn-refused, turn-done, index_went, index_reported}
use Rattle.rooms.proofs.Rows.{rooms_refused}
use Rattle.asking.proofs.Nodes.{goals_in}
use Rattle.rooms.proofs.turn.Goals as goal

pub ask-requires : goal.ask-requires
ask-requires c = new_index

pub spend-requires : goal.spend-requires
spend-requires c = let a = c.ask.ensures in
    let e = c.in_ok-n.was in
    let p = (a.prepared _ e).3 in
    record {
      indexed = p.indexed;
      pointed = p.points;
      goals = goals_in p;
      fit = a.fit _ e;
      turns_len = (refl, refl);
      by_index = none-zero;
      by_index_2 = none-zero;
    }

pub returns-in_err-n : goal.returns-in_err-n
returns-in_err-n c = let p = err_from_is_err_and c.from_residual.result c.from_residual.ensures.1 in
    rw (p.1, p.2) (turn-refused _ _ _ _ _ (rooms_refused _ _ _ _ _ c.ask.ensures c.in_err-n.was) _)

pub returns : goal.returns
returns c = let q = c.ask.ensures.prepared _ c.in_ok-n.was in
    let p = q.3 in
    turn-done _ _ _ _ q.4 _ (index_went p _ _ c.spend.ensures.went) (index_reported p _ _ c.spend.ensures.reported)
