-- `listing::word` meets its contract. Assumes nothing.
use native.Mathlib.Omega.{arith}
use Rattle.text.specs.Text.{ascii}
use Rattle.listing.proofs.word.Goals as goal

pub returns-in-Model : goal.returns-in-Model
unfolding ascii
returns-in-Model c = let w = c.put.ensures in
    rw c.in-Model.is (record { put = w; most = omega (arith, w.ends) })

pub returns-in-Closed : goal.returns-in-Closed
unfolding ascii
returns-in-Closed c = let w = c.put-in-Closed.ensures in
    rw c.in-Closed.is (record { put = w; most = omega (arith, w.ends) })
