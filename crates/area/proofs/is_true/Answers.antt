-- `area::is_true` meets its contract. A slot with no strike is true if its value is 1. Assumes nothing.
use native.Mathlib.Omega.{arith}
use Rattle.area.proofs.Remains.{true_struck, true-by}
use Rattle.area.proofs.is_true.Goals as goal

pub returns-then-strike_in-ne0 : goal.returns-then-strike_in-ne0
returns-then-strike_in-ne0 c = true_struck c.args.work.now c.args.s c.strike_in.ensures c.if-strike_in-ne0.true

pub value-requires : goal.value-requires
value-requires c = record {
  area_size_in_bounds = (
    c.requires.area_size_in_bounds.0,
    c.requires.area_size_in_bounds.1,
    omega
        (arith, c.literal_in.ensures, c.requires.area_size_in_bounds.3),
  );
  vals = c.requires.vals;
}

pub returns : goal.returns
returns c = let w = c.args.work.now in
    true-by w c.args.s c.strike_in.ensures c.if-strike_in-ne0.false c.literal_in.ensures c.value.ensures
