-- `rounds::put` meets its contract. Assumes nothing.
use native.Mathlib.Omega.{arith}
use Rattle.rounds.proofs.Serving.{verdict_put}
use Rattle.rounds.proofs.put.Goals as goal

pub returns : goal.returns
returns c = verdict_put c.args.work.now _ (omega (arith, c.requires))
