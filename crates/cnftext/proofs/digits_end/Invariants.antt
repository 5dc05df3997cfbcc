use mathlib.Core.Path.{◌≡◌}
use mathlib.Core.List.{◌++◌}
use lib.ListN.{drop}
use Rattle.cnf.specs.Text.{digits}
use Rattle.cnfwords.specs.Words.{part}
use Rattle.cnftext.proofs.digits_end.Given as goal

abbrev pub invariant-loop-i : goal.invariant-loop-i
invariant-loop-i l = digits (drop l.at l.text) ≡ part l.text l.at l.i ++ digits (drop l.i l.text)
