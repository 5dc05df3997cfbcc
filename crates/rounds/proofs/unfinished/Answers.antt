-- `rounds::unfinished` meets its contract: those that pass are as many as the tally has. Assumes nothing.
use Rattle.std.proofs.Common.{rules, ◌≡◌, ◌==◌, count_by, take, ◌∙◌}
use native.Mathlib.Omega.{arith}
use Rattle.rounds.proofs.Climbing.{tally_counts}
use Rattle.rounds.proofs.unfinished.Goals as goal

pub returns : goal.returns
returns c = let e : c.count.result ≡ count_by (λ x. x == 2) (take c.args.q c.args.verdicts.now) = search rules in e
    ∙ tally_counts c.args.verdicts.now c.args.q (omega (arith, c.requires))
