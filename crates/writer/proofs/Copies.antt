-- Laws of a copy into a list. Assumes nothing.
use mathlib.Core.Path.{◌≡◌, ap}
use mathlib.Core.List.{List, ◌++◌, append_assoc}
use Prim.Native.Nat.{ℕ, zero, suc, ◌-◌, ◌≤◌}
use native.Mathlib.Nat.{zero-add, sub-zero, le_of_suc-le-suc, not-suc-le-zero}
use native.Mathlib.Omega.{arith}
use lib.ListN.{length, drop, replicate, length-replicate}
use lib.Seq.{paste, take-length, take-append_seam, drop-append-add, drop-append-le}

-- a copy to the start
pub copy_front : (d : List ℕ) {s t : List ℕ} {n : ℕ} → s ≡ t → length s ≡ n → paste d 0 s (length s) ≡ t ++ drop n d
copy_front d {s} {t} {n} e l = rw (zero-add, take-length, l) (ap (◌++ drop n d) e)

drop-replicate : (n k x : ℕ) → n ≤ k → drop n (replicate k x) ≡ replicate (k - n) x
drop-replicate zero k x h = rw sub-zero
drop-replicate (suc n) zero x h = absurd (not-suc-le-zero h)
drop-replicate (suc n) (suc k) x h =
    let q : suc k - suc n ≡ k - n = omega arith in
    rw q (drop-replicate n k x (le_of_suc-le-suc h))

-- a copy to the start of zeros leaves those after it
pub copy_into_zeros : (p s w : List ℕ) (k : ℕ) → length s ≤ k
    → paste (p ++ replicate k 0 ++ w) (length p) s (length s) ≡ (p ++ s ++ replicate (k - length s) 0) ++ w
copy_into_zeros p s w k h =
    simp (
      append_assoc,
      take-append_seam p (replicate k 0 ++ w),
      take-length,
      drop-append-add p (replicate k 0 ++ w) (length s),
      drop-append-le (length s) (replicate k 0) w (simp length-replicate h),
      drop-replicate (length s) k 0 h,
    )
