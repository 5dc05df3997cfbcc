-- `searching::conclude` meets its contract. Assumes nothing.
use mathlib.Core.Path.{refl}
use Rattle.searching.proofs.Searches.{looked}
use Rattle.searching.proofs.conclude.Goals as goal

pub returns-in-None : goal.returns-in-None
returns-in-None c = let m = rw c.in-None.is at c.split_choice-choice.ensures in
    record { holds = m.holds_on; list = m.list; ending = looked m.holds_on m.is m.list refl }

pub returns-in-Some : goal.returns-in-Some
returns-in-Some c = let m = rw c.in-Some.is at c.split_choice-choice.ensures in
    record { holds = m.holds_on; list = m.list; ending = looked m.holds_on m.is m.list refl }
