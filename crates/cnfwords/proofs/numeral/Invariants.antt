use mathlib.Core.Path.{◌≡◌}
use Prim.Native.Nat.{◌<◌, ◌^◌}
use lib.ListN.{drop}
use Rattle.cnf.specs.Text.{all_digits, value_from}
use Rattle.cnfwords.proofs.numeral.Given as goal

abbrev pub invariant-loop-b : goal.invariant-loop-b
invariant-loop-b l = (l.n < 10 ^ l.b-index) × (all_digits (drop l.b-index l.w) ≡ all_digits l.w) × (value_from l.n (drop l.b-index l.w) ≡ value_from 0 l.w)
