-- One record more: the last block of a file grows, or a new one follows. Assumes nothing.
use mathlib.Core.Path.{◌≡◌, ◌∙◌, ap, sym}
use mathlib.Core.List.{List, [], ◌∷◌, ◌++◌, append_assoc, append-nil, flat_map}
use Prim.Native.Nat.{ℕ, zero, suc, ◌+◌, ◌-◌, ◌*◌, ◌/◌, ◌%◌, ◌<◌, ◌≤◌}
use native.Mathlib.Nat.{zero-add, add-zero, suc-add, mul-zero, mul-suc, div-add-mod, mod-lt}
use native.Mathlib.Numerals.{add-one}
use native.Mathlib.Omega.{arith}
use lib.ListN.{length, take, drop, length-append, length-drop, take-append-drop, drop_of_length-le}
use lib.Seq.{take_all, take_at, take-append-le, drop-append-le, length-take-le}
use Rattle.scope.specs.declared.Format.{Format}
use Rattle.scope.specs.declared.Node.{Node}
use Rattle.scope.specs.Block.{block_of, blocks_of, file_of}
use Rattle.scope.specs.Table.{tables, node_bytes, encode}
use Rattle.codec.specs.Valid.{Fits, front, rest}
use Rattle.codec.proofs.Blocks.{length_block_of}
use Rattle.codec.proofs.Files.{room_for, flat_append, flat-length, in_block, blocks_for_lem, blocks_for, length-blocks_of}
use Rattle.codec.proofs.Records.{length-node_bytes}
use Rattle.codec.proofs.Tables.{fits}

module _ (F : Format) (fit : Fits F) {A : Type 0} (bytes : A → List ℕ) (each : (a : A) → length (bytes a) ≡ F.width) where
  -- q full blocks, and k more
  full_then : (q k i : ℕ) (fulls more : List A) → length fulls ≡ F.capacity * q
      → blocks_of F bytes (q + k) i (fulls ++ more) ≡ blocks_of F bytes q i fulls ++ blocks_of F bytes k (i + q) more
  unfolding blocks_of
  full_then zero k i [] more h = rw (zero-add, add-zero)
  full_then zero k i (x ∷ fulls) more h = absurd (omega (arith, mul-zero F.capacity))
  full_then (suc q) k i fulls more h =
      let s : i + suc q ≡ suc i + q = omega arith in
      let l : F.capacity ≤ length fulls = omega (arith, mul-suc F.capacity q) in
      let d : length (drop F.capacity fulls) ≡ F.capacity * q = simp length-drop (omega (arith, mul-suc F.capacity q)) in
      rw (
        suc-add q k,
        s,
        take-append-le F.capacity fulls more l,
        drop-append-le F.capacity fulls more l,
        full_then q k (suc i) (drop F.capacity fulls) more d,
        append_assoc,
      )

  module _ (rs : List A) where
    abbrev fulls : List A
    fulls = take (F.capacity * (length rs / F.capacity)) rs

    abbrev left : List A
    left = drop (F.capacity * (length rs / F.capacity)) rs

    split : F.capacity * (length rs / F.capacity) + length rs % F.capacity ≡ length rs
    split = div-add-mod (length rs) F.capacity

    low : length rs % F.capacity < F.capacity
    low = mod-lt (length rs) fit.some

    length-fulls : length fulls ≡ F.capacity * (length rs / F.capacity)
    length-fulls = length-take-le (F.capacity * (length rs / F.capacity)) rs (omega (arith, split))

    length-left : length left ≡ length rs % F.capacity
    length-left = simp length-drop (omega (arith, split))

    pub length_front : length (front F bytes rs) ≡ 512 * (length rs / F.capacity)
    unfolding front
    length_front = length-blocks_of F fit bytes each (length rs / F.capacity) 0 fulls

    pub length_rest : length (rest F bytes rs) ≡ F.width * (length rs % F.capacity)
    unfolding rest
    length_rest = flat-length bytes F.width each left ∙ ap (F.width *◌) length-left

    -- the full blocks, and one block more
    laid : (more : List A) → length more ≤ F.capacity
        → blocks_of F bytes (length rs / F.capacity + 1) 0 (fulls ++ more)
        ≡ front F bytes rs ++ block_of F.letter (length more) (length rs / F.capacity) (flat_map bytes more)
    unfolding front blocks_of
    laid more h =
        full_then (length rs / F.capacity) 1 0 fulls more length-fulls ∙ rw (zero-add, take_all F.capacity more h, append-nil)

    -- a file's last block that has room
    pub last_block : 0 < length rs % F.capacity
        → file_of F bytes rs ≡ front F bytes rs ++ block_of F.letter (length rs % F.capacity) (length rs / F.capacity) (rest F bytes rs)
    unfolding file_of rest
    last_block some =
        let q : blocks_for F (length rs) ≡ length rs / F.capacity + 1 =
        blocks_for_lem F.capacity (length rs / F.capacity) (length rs) (omega (arith, split)) (omega (arith, split, low)) ∙ sym (add-one (length rs / F.capacity)) in
        rw q
        (ap (blocks_of F bytes (length rs / F.capacity + 1) 0) (sym (take-append-drop (F.capacity * (length rs / F.capacity)) rs))
        ∙ laid left (omega (arith, length-left, low))
        ∙ ap (λ (k : ℕ). front F bytes rs ++ block_of F.letter k (length rs / F.capacity) (flat_map bytes left)) length-left)

    -- .. and with one record more
    pub grown : (x : A)
        → file_of F bytes (rs ++ x ∷ []) ≡ front F bytes rs ++ block_of F.letter (length rs % F.capacity + 1) (length rs / F.capacity) (rest F bytes rs ++ bytes x)
    unfolding file_of rest flat_map
    grown x =
        let size : length (rs ++ x ∷ []) ≡ length rs + 1 = length-append rs (x ∷ []) in
        let q : blocks_for F (length rs + 1) ≡ length rs / F.capacity + 1 =
        blocks_for_lem F.capacity (length rs / F.capacity) (length rs + 1) (omega (arith, split)) (omega (arith, split, low)) ∙ sym (add-one (length rs / F.capacity)) in
        let parts : rs ++ x ∷ [] ≡ fulls ++ (left ++ x ∷ []) =
        ap (◌++ x ∷ []) (sym (take-append-drop (F.capacity * (length rs / F.capacity)) rs)) ∙ append_assoc fulls left (x ∷ []) in
        let more : length (left ++ x ∷ []) ≡ length rs % F.capacity + 1 = length-append left (x ∷ []) ∙ ap (◌+ 1) length-left in
        let body : flat_map bytes (left ++ x ∷ []) ≡ flat_map bytes left ++ bytes x = flat_append bytes left (x ∷ []) ∙ rw append-nil in
        rw (size, q)
        (ap (blocks_of F bytes (length rs / F.capacity + 1) 0) parts
        ∙ laid (left ++ x ∷ []) (omega (arith, more, low))
        ∙ rw (more, body))

    -- a file whose blocks are all full
    pub all-full : length rs % F.capacity ≡ 0 → (file_of F bytes rs ≡ front F bytes rs) × (rest F bytes rs ≡ [])
    unfolding file_of front rest flat_map
    all-full none =
        let whole : F.capacity * (length rs / F.capacity) ≡ length rs = omega (arith, split) in
        let q : blocks_for F (length rs) ≡ length rs / F.capacity =
        in_block F.capacity (length rs / F.capacity) (length rs + (F.capacity - 1)) (omega arith) (omega (arith, fit.some)) in
        let all : fulls ≡ rs = take_all (F.capacity * (length rs / F.capacity)) rs (omega arith) in
        let no_more : left ≡ [] = drop_of_length-le rs {i = F.capacity * (length rs / F.capacity)} (omega arith) in
        (rw (q, all), rw no_more)

    -- a new block follows
    pub new-block : (x : A) → length rs % F.capacity ≡ 0
        → file_of F bytes (rs ++ x ∷ []) ≡ file_of F bytes rs ++ block_of F.letter 1 (length rs / F.capacity) (bytes x)
    new-block x none = rw (all-full none).0 (grown x ∙ rw (none, (all-full none).1))

    -- the full blocks are what stands before the last one
    pub front-is : 0 < length rs % F.capacity → front F bytes rs ≡ take (length (file_of F bytes rs) - 512) (file_of F bytes rs)
    front-is some =
        let block : List ℕ = block_of F.letter (length rs % F.capacity) (length rs / F.capacity) (rest F bytes rs) in
        let size : length block ≡ 512 =
        length_block_of F.letter (length rs % F.capacity) (length rs / F.capacity) (rest F bytes rs)
        (omega (arith, length_rest, room_for F fit (length rs % F.capacity) (omega (arith, low)))) in
        rw (last_block some) (sym (take_at (front F bytes rs) block (length (front F bytes rs ++ block) - 512) (omega (arith, length-append (front F bytes rs) block))))

-- a table before its last block
abbrev pub before : List Node → List ℕ
before rs = take (length (encode rs) - 512) (encode rs)

-- the same of tables, in numbers
module _ (rs : List Node) where
  pub table_new_block : (x : Node) → length rs % 63 ≡ 0 → encode (rs ++ x ∷ []) ≡ encode rs ++ block_of 70 1 (length rs / 63) (node_bytes x)
  table_new_block = new-block tables fits node_bytes length-node_bytes rs

  pub length-body : length (rest tables node_bytes rs) ≡ 8 * (length rs % 63)
  length-body = length_rest tables fits node_bytes length-node_bytes rs

  module _ (some : 0 < length rs % 63) where
    before-is : front tables node_bytes rs ≡ before rs
    before-is = front-is tables fits node_bytes length-node_bytes rs some

    pub table-last-block : encode rs ≡ before rs ++ block_of 70 (length rs % 63) (length rs / 63) (rest tables node_bytes rs)
    table-last-block =
        last_block tables fits node_bytes length-node_bytes rs some ∙ ap (◌++ block_of 70 (length rs % 63) (length rs / 63) (rest tables node_bytes rs)) before-is

    pub table-grown : (x : Node) → encode (rs ++ x ∷ []) ≡ before rs ++ block_of 70 (length rs % 63 + 1) (length rs / 63) (rest tables node_bytes rs ++ node_bytes x)
    table-grown x =
        grown tables fits node_bytes length-node_bytes rs x
        ∙ ap (◌++ block_of 70 (length rs % 63 + 1) (length rs / 63) (rest tables node_bytes rs ++ node_bytes x)) before-is
