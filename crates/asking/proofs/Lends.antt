-- The chains of a reading are lent where the edges of an index will stand: they are zeros, and before them the index stays as it was.
-- Assumes nothing.
use mathlib.Core.Path.{sym, ap, ◌∙◌}
use mathlib.Core.List.{List}
use Prim.Native.Nat.{ℕ, ◌+◌}
use native.Mathlib.Omega.{arith}
use lib.ListN.{get_or, take, drop, replicate, length-drop, length-replicate, get_or-replicate}
use lib.Seq.{length-take-le, get_or-take, get_or-drop}
use borrow.Rule.Slice.PartMut.{put_mid, take_put}
use Rattle.repeats.specs.Chains.{chain_cells, Unlinked}
use Rattle.index.specs.Index.{index_size, edges_at}
use Rattle.index.specs.Marks.{Unfilled}
use Rattle.asking.specs.Asks.{Zeros}

-- an index as a call makes it
pub new_index : Zeros (replicate index_size 0)
new_index = record { size = length-replicate {A = ℕ} index_size 0; zeros = λ i h. get_or-replicate index_size i 0 0 h }

module _ {x : List ℕ} (z : Zeros x) where
  pub lent-zeros : Unlinked (take chain_cells (drop edges_at x))
  lent-zeros = record {
    size = length-take-le chain_cells (drop edges_at x) (omega (arith, length-drop edges_at x, z.size));
    zeros = λ i h. get_or-take chain_cells (drop edges_at x) i 0 h ∙ get_or-drop edges_at x i 0 ∙ z.zeros (edges_at + i) (omega (arith, h));
  }

  pub stays_unfilled : (c : List ℕ) → Unfilled (put_mid edges_at chain_cells x c)
  stays_unfilled c i h =
      sym (get_or-take edges_at (put_mid edges_at chain_cells x c) i 0 h) ∙ ap (λ (l : List ℕ). get_or l i 0) (take_put edges_at chain_cells x c (omega (arith, z.size)))
      ∙ get_or-take edges_at x i 0 h ∙ z.zeros i (omega (arith, h))
