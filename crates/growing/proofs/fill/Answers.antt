-- `growing::fill` meets its contract: a record more with each turn. Assumes nothing.
use mathlib.Core.Path.{◌≡◌, ◌∙◌, ap, sym}
use Prim.Native.Nat.{◌+◌, ◌*◌}
use lib.ListN.{take}
use Rattle.growing.proofs.Blocks.{records-none, filled_more}
use native.Mathlib.Omega.{arith}
use Rattle.growing.proofs.fill.Goals as goal

pub loop-i-init : goal.loop-i-init
loop-i-init c = sym (records-none c.args.keys.now c.args.from)

pub loop-i-preserved : goal.loop-i-preserved
loop-i-preserved c = let i = c.loop-i.i in
    ap (take (8 * (i + 1))) c.copy_at.ensures
    ∙ filled_more c.loop-i.body c.args.keys.now _ c.args.from i (omega arith) (omega arith) c.loop-i.invariant c.bytes_of-r.ensures

pub returns : goal.returns
returns c =
    let same : c.loop-i.i ≡ c.args.count = omega arith in
    rw (← same) c.loop-i.invariant
