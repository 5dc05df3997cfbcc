-- `checking::admit` meets its contract: what is lent is zeros. Assumes nothing.
use mathlib.Core.Path.{◌∙◌}
use native.Mathlib.Omega.{arith}
use lib.ListN.{drop}
use lib.Seq.{length-take-le, get_or-take}
use Rattle.repeats.specs.Chains.{chain_cells}
use Rattle.checking.proofs.admit.Goals as goal

pub admit-requires : goal.admit-requires
admit-requires c = let x = c.args.x.now in
    record {
      size = length-take-le chain_cells (drop 0 x) (omega (arith, c.requires.0));
      zeros = λ i h. get_or-take chain_cells (drop 0 x) i 0 h
          ∙ c.requires.1 i h;
    }
