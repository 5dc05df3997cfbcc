-- The last block of the used part of a buffer, with one record more: the table with its node more. Assumes nothing.
use mathlib.Core.Path.{◌≡◌, ◌∙◌, ap, sym}
use mathlib.Core.List.{List, [], ◌∷◌, ◌++◌, append_assoc}
use Prim.Native.Nat.{ℕ, ◌+◌, ◌-◌, ◌*◌, ◌/◌, ◌%◌, ◌<◌, ◌≤◌}
use native.Mathlib.Omega.{arith}
use lib.ListN.{length, take, drop, get_or}
use lib.Seq.{length-take-le, take-take, drop_at, get_or-take, get_or-drop}
use lib.Dec.{lit<}
use Rattle.scope.specs.declared.Node.{Node}
use Rattle.scope.specs.Block.{block_of}
use Rattle.scope.specs.Table.{tables, node_bytes, encode}
use Rattle.codec.specs.Valid.{rest}
use Rattle.codec.proofs.Blocks.{count_of}
use Rattle.codec.proofs.Bytes.{drop-take}
use Rattle.codec.proofs.Records.{length-node_bytes}
use Rattle.codec.proofs.Tables.{length-encode}
use Rattle.codec.proofs.Grows.{before, table-last-block, table-grown, length-body}
use Rattle.writer.specs.Grown.{grown}
use Rattle.writer.proofs.Grows.{grown_block}

-- the last block of the table of nodes, where it has room
abbrev last_of : List Node → List ℕ
last_of rs = block_of 70 (length rs % 63) (length rs / 63) (rest tables node_bytes rs)

module _ (rs : List Node) (buf : List ℕ) (used : ℕ) (within : used ≤ length buf) (table : take used buf ≡ encode rs) (some : 0 < length rs % 63) where
  size : length (encode rs) ≡ used
  size = ap length (sym table) ∙ length-take-le used buf within

  one_block : 512 ≤ used
  one_block = omega (arith, size, length-encode rs)

  front : take (used - 512) buf ≡ before rs
  front =
      let low : used - 512 ≤ used = omega arith in
      sym (take-take (used - 512) used buf low) ∙ ap (take (used - 512)) table ∙ rw size

  block : take 512 (drop (used - 512) buf) ≡ last_of rs
  block =
      let q : used - 512 + 512 ≡ used = omega (arith, one_block) in
      let long : length (before rs) ≡ used - 512 = length-take-le (length (encode rs) - 512) (encode rs) (omega arith) ∙ ap (◌- 512) size in
      sym (drop-take (used - 512) 512 buf)
      ∙ rw q (ap (drop (used - 512)) (table ∙ table-last-block rs some) ∙ drop_at (before rs) (last_of rs) (used - 512) long)

  -- the count that it states leaves room
  pub count_low : get_or buf (used - 512 + 1) 0 < 255
  count_low =
      let e : get_or buf (used - 512 + 1) 0 ≡ length rs % 63 =
      sym (get_or-take 512 (drop (used - 512) buf) 1 0 (lit< tt) ∙ get_or-drop (used - 512) buf 1 0)
      ∙ ap (λ (b : List ℕ). get_or b 1 0) block
      ∙ count_of 70 (length rs % 63) (length rs / 63) (rest tables node_bytes rs) (omega (arith, length-body rs)) in
      omega arith

  -- grown by a node's record, it ends the table with that node more
  pub grown_table : (x : Node) → take (used - 512) buf ++ (grown (take 512 (drop (used - 512) buf)) (4 + 8 * (length rs % 63)) (node_bytes x) ++ drop used buf)
      ≡ encode (rs ++ x ∷ []) ++ drop used buf
  grown_table x =
      let body : List ℕ = rest tables node_bytes rs in
      let g = grown_block 70 (length rs % 63) (length rs / 63) body (node_bytes x) (omega (arith, length-body rs, length-node_bytes x)) in
      rw (front, block, ← (length-body rs), g, table-grown rs some x, append_assoc)
