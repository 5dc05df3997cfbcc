-- `check_file::say` is safe: the text lies within the buffer. Assumes nothing.
use Prim.Native.Nat.{ℕ}
use lib.ListN.{replicate, length-replicate}
use native.Mathlib.Omega.{arith}
use Rattle.text.proofs.Text.{counted}
use Rattle.check_file.proofs.say.Goals as goal

pub slice_bounds-out-end : goal.slice_bounds-out-end
slice_bounds-out-end g c = (counted (omega arith) (c.verify-end.ensures (replicate 32768 0) (omega (arith, length-replicate {0} {A = ℕ} 32768 0)))).0

pub slice_bounds-say-end : goal.slice_bounds-say-end
slice_bounds-say-end g c = (counted (omega arith) (c.verify-end.ensures (replicate 32768 0) (omega (arith, length-replicate {0} {A = ℕ} 32768 0)))).1
