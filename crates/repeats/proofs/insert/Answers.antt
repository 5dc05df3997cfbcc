-- `repeats::insert` meets its contract: one store for the link, one for the head. Assumes nothing.
use mathlib.Core.Path.{◌∙◌, ap}
use lib.ListN.{length-set}
use native.Mathlib.Omega.{arith}
use Rattle.repeats.specs.Chains.{hash_of}
use Rattle.repeats.proofs.Chains.{inserted}
use Rattle.repeats.proofs.insert.Goals as goal

pub bounds-chains-h : goal.bounds-chains-h
bounds-chains-h c = omega (arith, c.requires.3.size, c.hash-h.ensures.1)

pub bounds-chains-n : goal.bounds-chains-n
bounds-chains-n c = omega (arith, c.requires.3.size, c.requires.0)

pub bounds-chains-h-2 : goal.bounds-chains-h-2
bounds-chains-h-2 c = simp length-set (omega (arith, c.requires.3.size, c.hash-h.ensures.1))

pub returns : goal.returns
returns c = let h = c.hash-h.ensures in
    inserted c.requires.3 h.1 c.requires.0 (h.0 ∙ ap hash_of c.requires.1) c.requires.2
