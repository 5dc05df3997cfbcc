-- `rooms::open` meets its contract: a refusal, or the areas are set up. Assumes nothing.
use Rattle.std.proofs.lemmas.Result.{err_from_is_err_and}
use borrow.Author.Rules.{rules}
use Rattle.asking.proofs.Lends.{new_index}
use Rattle.rooms.proofs.Ends.{open-refused, open_done}
use Rattle.rooms.proofs.Rows.{rooms_refused}
use Rattle.rooms.proofs.open.Goals as goal

pub ask-requires : goal.ask-requires
ask-requires c = new_index

pub open-requires : goal.open-requires
open-requires c = let f = c.ask.ensures.fit _ c.in_ok-ask.was in
    (f.some, f.few, f.work, search rules)

pub returns-in_err-ask : goal.returns-in_err-ask
returns-in_err-ask c = let p = err_from_is_err_and c.from_residual.result c.from_residual.ensures.1 in
    rw (p.1, p.2) (open-refused _ _ _ _ _ (rooms_refused _ _ _ _ _ c.ask.ensures c.in_err-ask.was))

pub returns : goal.returns
returns c = let p = c.ask.ensures.prepared _ c.in_ok-ask.was in
    open_done _ _ _ _ p.4 c.«open».ensures c.«open».auto.verdicts
