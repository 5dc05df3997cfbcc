-- `steps::place_after` meets its contract: behind a block's last step comes the next block's first. Assumes nothing.
use mathlib.Core.Path.{◌≡◌}
use Prim.Native.Nat.{ℕ, ◌+◌, ◌/◌, ◌%◌, ◌<◌}
use native.Mathlib.Decide.{dec_lt}
use native.Mathlib.Omega.{arith}
use Rattle.steps.specs.Opened.{place_of}
use Rattle.steps.proofs.place_after.Goals as goal

next_block : (k at : ℕ) → at ≡ place_of k → (at + 4) % 512 ≡ 508 → at + 4 + 8 ≡ place_of (k + 1)
next_block k at p q =
    let e : k % 126 ≡ 125 = last (dec_lt ((at + 4) / 512) (k / 126)) in
    let d : (k + 1) / 126 ≡ k / 126 + 1 = omega (arith, e) in
    let m : (k + 1) % 126 ≡ 0 = omega (arith, e) in
    omega (arith, p, e, d, m)
  where
    last : Dec ((at + 4) / 512 < k / 126) → k % 126 ≡ 125
    last (yes h) = absurd (omega (arith, p, q, h))
    last (no h) = omega (arith, p, q, h)

pub returns-then-next-eq508 : goal.returns-then-next-eq508
returns-then-next-eq508 c = next_block c.args.k c.args.at c.requires.0 c.if-next-eq508.true
