-- A part of a buffer that is lent and comes back with a block. Assumes nothing.
use mathlib.Core.Path.{◌≡◌}
use mathlib.Core.List.{List, [], ◌++◌, append-nil}
use Prim.Native.Nat.{ℕ, ◌+◌, ◌-◌, ◌≤◌}
use native.Mathlib.Omega.{arith}
use lib.ListN.{length, take, drop, length-drop, drop_of_length-le}
use lib.Seq.{take_all, drop-drop}
use borrow.Rule.Slice.PartMut.{mid_of, put_mid}

-- the part from a on was lent, and came back with a block of n bytes at its start
pub part_back : (xs block : List ℕ) (a n : ℕ) {ys : List ℕ} → a ≤ length xs → ys ≡ block ++ drop n (mid_of a (length xs - a) xs)
    → put_mid a (length xs - a) xs ys ≡ take a xs ++ (block ++ drop (a + n) xs)
part_back xs block a n h e =
    let whole : take (length xs - a) (drop a xs) ≡ drop a xs = take_all (length xs - a) (drop a xs) (simp length-drop (omega arith)) in
    let none : drop (length xs - a) (drop a xs) ≡ [] = drop_of_length-le (drop a xs) {i = length xs - a} (simp length-drop (omega arith)) in
    simp (e, whole, none, append-nil, drop-drop)
