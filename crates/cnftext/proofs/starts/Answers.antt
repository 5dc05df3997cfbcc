-- `cnftext::starts` meets its contract: the library's test of what is left of the text. Assumes nothing.
use mathlib.Core.Path.{◌∙◌, ap}
use Rattle.cnf.specs.Text.{starts_with}
use Rattle.cnftext.proofs.Parts.{starts_is, all_left}
use Rattle.cnftext.proofs.starts.Goals as goal

pub returns : goal.returns
returns c = c.starts_with.ensures.value ∙ starts_is c.args.xs.now _ ∙ ap (starts_with c.args.xs.now) (all_left c.args.text.now c.args.at)
