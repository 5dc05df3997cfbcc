-- `gather::put` meets its contract: the step's bytes are copied to their place. Assumes nothing.
use mathlib.Core.Path.{◌≡◌, ◌∙◌, ap}
use mathlib.Core.List.{List, [], ◌∷◌}
use Prim.Native.Nat.{ℕ, ◌+◌, ◌-◌, ◌*◌, ◌/◌, ◌%◌, ◌<◌}
use lib.ListN.{get_or}
use native.Mathlib.Omega.{arith}
use borrow.Rule.Slice.PartMut.{put_mid}
use Rattle.rules.specs.declared.Step.{Step}
use Rattle.rules.specs.Steps.{step_bytes}
use Rattle.gather.proofs.Keeps.{four_copied}
use Rattle.gather.proofs.put.Goals as goal

-- the value's two bytes, the low one first
low_first : (s : Step) (r : List ℕ) → s.value < 65536 → r ≡ s.value % 256 ∷ s.value / 256 % 256 ∷ []
    → s.rule ∷ s.position ∷ get_or r 0 0 ∷ get_or r 1 0 ∷ [] ≡ step_bytes s
unfolding step_bytes
low_first s r h e =
    let high : s.value / 256 % 256 ≡ s.value / 256 = omega arith in
    rw (e, high)

pub returns : goal.returns
returns c =
    let at = 4 + 4 * c.args.k in
    ap (put_mid at (at + 4 - at) c.args.block.now)
    (c.copy_from_slice.ensures.after ∙ low_first c.args.s c.to_le_bytes.result (omega arith) c.to_le_bytes.ensures)
    ∙ four_copied c.args.block.now (step_bytes c.args.s) at
