-- `replay::refusal` meets its contract. A refusal is its number and its place. Assumes nothing.
use mathlib.Core.Path.{refl}
use Rattle.replay.proofs.refusal.Goals as goal

pub returns : goal.returns
returns c = refl
