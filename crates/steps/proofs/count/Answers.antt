-- `steps::count` meets its contract: a derivation whose form passes has as many steps as its blocks state. Assumes nothing.
use mathlib.Core.Path.{sym}
use Rattle.steps.proofs.Form.{size_met}
use Rattle.steps.proofs.count.Goals as goal

pub stated-requires : goal.stated-requires
stated-requires c = (size_met _ (sym c.in_ok-form_verdict.ensures)).0
