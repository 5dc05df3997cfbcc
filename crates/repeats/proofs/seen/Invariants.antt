use Rattle.repeats.specs.Chains.{joint}
use Rattle.repeats.proofs.Chains.{Left}
use Rattle.repeats.proofs.seen.Given as goal

abbrev pub invariant-loop-s : goal.invariant-loop-s
invariant-loop-s l = Left l.t l.chains l.n (joint l.low l.high) l.s

abbrev pub decreases-loop-s : goal.decreases-loop-s
decreases-loop-s l = l.s
