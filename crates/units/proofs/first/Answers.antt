-- `units::first` meets its contract: the lowest bit of the sum, and the lowest of that block's word. Assumes nothing.
use Rattle.units.specs.Units.{blocks}
use Rattle.units.proofs.Firsts.{sum-some, block-some, first_found}
use native.Mathlib.Omega.{arith}
use Rattle.units.proofs.first.Goals as goal

pub bounds-m-b : goal.bounds-m-b
bounds-m-b c = let m = c.args.m.now in
    omega (arith, c.requires.units.size, (block-some m c.requires.units (c.type_inv.m blocks).fits (sum-some m c.requires.units c.requires.some)).0)

pub returns : goal.returns
returns c = let m = c.args.m.now in
    first_found m c.requires.units (c.type_inv.m blocks).fits (sum-some m c.requires.units c.requires.some) (c.type_inv.m _).fits
