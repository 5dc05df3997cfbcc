-- `bevaridhom::bev_open` meets its contract: the answer of `steps::count`, case by case, and the version. Assumes nothing.
use mathlib.Core.Path.{◌∙◌, ap, sym}
use Rattle.rules.specs.Steps.{version_of}
use Rattle.steps.specs.Opened.{opened_of}
use Rattle.bevaridhom.specs.Answers.{version_number, open_answer}
use Rattle.bevaridhom.proofs.Hosts.{open_found}
use Rattle.bevaridhom.proofs.bev_open.Goals as goal

pub returns-in-Ok : goal.returns-in-Ok
returns-in-Ok c = open_found (version_of c.args.d.now) (c.version_number.ensures ∙ ap version_number c.version_of.ensures) (sym c.count-c.ensures ∙ ap opened_of c.in-Ok.is)

pub returns-in-Err : goal.returns-in-Err
returns-in-Err c = sym (ap (open_answer (version_of c.args.d.now)) (sym c.count-c.ensures ∙ ap opened_of c.in-Err.is))
