-- `units::some` meets its contract: the sum is 0 where the set has no position. Assumes nothing.
use Rattle.units.proofs.Firsts.{some-found, tested-none}
use Rattle.units.proofs.some.Goals as goal

pub returns : goal.returns
returns c = let m = c.args.m.now in
    (some-found m c.requires (λ i. (c.type_inv.m i).fits), tested-none m c.requires (λ i. (c.type_inv.m i).fits))
