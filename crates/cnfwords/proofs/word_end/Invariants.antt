use mathlib.Core.Path.{◌≡◌}
use lib.ListN.{drop}
use Rattle.cnf.specs.Text.{words_from, words}
use Rattle.cnfwords.specs.Words.{part}
use Rattle.cnfwords.proofs.word_end.Given as goal

abbrev pub invariant-loop-i : goal.invariant-loop-i
invariant-loop-i l = (words (drop l.at l.text) ≡ words_from (part l.text l.at l.i) (drop l.i l.text))
