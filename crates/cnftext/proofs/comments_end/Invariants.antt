use mathlib.Core.Path.{◌≡◌}
use mathlib.Core.Bool.{false}
use lib.ListN.{drop}
use Rattle.cnf.specs.Text.{behind_comments}
use Rattle.cnftext.proofs.comments_end.Given as goal

abbrev pub invariant-loop-i : goal.invariant-loop-i
invariant-loop-i l = behind_comments l.inside (drop l.i l.text) ≡ behind_comments false l.text
