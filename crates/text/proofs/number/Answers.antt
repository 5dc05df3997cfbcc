-- `text::number` meets its contract: the digits that `digits::decimal` puts into an array are the number's decimal, at most twenty.
-- Assumes nothing.
use mathlib.Core.Path.{◌≡◌, ◌∙◌, subst}
use mathlib.Core.List.{List}
use Prim.Native.Nat.{ℕ}
use native.Mathlib.Omega.{arith}
use lib.ListN.{take}
use Rattle.text.specs.Text.{decimal, Put}
use Rattle.text.proofs.Text.{spelled, twenty}
use Rattle.text.proofs.number.Goals as goal

pub put-requires : goal.put-requires
put-requires c = omega (arith, twenty c.decimal-k.result c.args.n (omega arith) c.decimal-k.ensures.len, c.decimal-k.ensures.in_bounds.1)

pub returns : goal.returns
returns c = let w = c.put.ensures in
    let text : take c.decimal-k.result c.decimal-k.new.out ≡ decimal c.args.n = c.decimal-k.ensures.digits
    ∙ spelled c.decimal-k.result c.args.n c.decimal-k.ensures.len in record {
      put = subst (λ (s : List ℕ). Put c.args.out.now c.args.at s c.put.new.out c.put.result) text w;
      upper_bound = omega (arith, twenty c.decimal-k.result c.args.n (omega arith) c.decimal-k.ensures.len, c.decimal-k.ensures.in_bounds.1, w.ends);
    }
