use mathlib.Core.Path.{◌≡◌}
use lib.ListN.{drop}
use Rattle.index.specs.Marks.{mark_all}
use Rattle.index.proofs.mark_all.Given as goal

abbrev pub invariant-loop-l : goal.invariant-loop-l
invariant-loop-l l = mark_all l.x (drop l.l-index l.ls) ≡ mark_all l.initial.x l.ls
