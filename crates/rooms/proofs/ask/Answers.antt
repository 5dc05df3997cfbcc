-- `rooms::ask` meets its contract: row 69, and then those that decide asks. Assumes nothing.
use mathlib.Core.Path.{refl, sym, ◌∙◌}
use Rattle.rooms.proofs.Rows.{none-asked, rooms-asked}
use Rattle.rooms.proofs.ask.Goals as goal

pub returns-then-not-few : goal.returns-then-not-few
returns-then-not-few c = none-asked _ _ _ _ _ _ refl refl (sym c.few.ensures ∙ c.if-not-few.true)

pub returns : goal.returns
returns c = rooms-asked _ _ _ _ (sym c.few.ensures ∙ c.if-not-few.false) c.ask.ensures
