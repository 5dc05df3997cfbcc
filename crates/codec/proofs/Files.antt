-- Runs of blocks. A file whose blocks all pass is `file_of` of its records (`file_is`); each block of `file_of` passes, and its
-- records are those that were put in (`file-passes`, `file-records`, `file-record`). Assumes nothing.
use mathlib.Core.Path.{◌≡◌, ◌∙◌, ap, ap₂, sym, refl}
use mathlib.Core.List.{List, [], ◌∷◌, ◌++◌, append_assoc, flat_map}
use mathlib.Core.Bool.{true, false, not, ◌&&◌, ◌||◌}
use Prim.Native.Nat.{ℕ, zero, suc, ◌+◌, ◌-◌, ◌*◌, ◌/◌, ◌%◌, ◌<◌, ◌≤◌, min}
use native.Mathlib.Nat.{zero-add, add-zero, suc-add, mul-zero, mul-suc, suc-mul, mul_comm, mul-add, mul_assoc, div-add-mod, mod-lt, div-eq_of_lt-le, mul-le-mul_left, mul-div-le, lt-mul-div-succ, lt_of_mul-lt-mul_left, not-suc-le-zero, le_of_suc-le-suc, sub-zero}
use native.Mathlib.Numerals.{add-one}
use native.Mathlib.Omega.{arith}
use lib.Dec.{eqb, leb}
use lib.ListN.{length, get_or, take, drop, length-append, length-take, length-drop, drop_of_length-le, take-append-drop}
use lib.Seq.{take_all, take-take, take-add, take_at, drop_at, drop-drop, take-append-le, drop-append-le, get_or-take, get_or-drop}
use borrow.Author.Tests.{eq-eqb, ne_eqb, eqb-true, eqb-false, leb-true, not-true}
use Rattle.scope.specs.declared.Format.{Format}
use Rattle.scope.specs.Outcome.{fine}
use Rattle.scope.specs.Block.{block_test, block_of, blocks_of, file_of, block_at, record_at, records_in}
use Rattle.scope.specs.Table.{list_from}
use Rattle.scope.proofs.Lists.{length_list_from, drop_list_from, take_list_from}
use Rattle.codec.specs.Valid.{Bytes, Fits}
use Rattle.codec.proofs.Rows.{both, by_test}
use Rattle.codec.proofs.Bytes.{drop-take, bytes_take, bytes_drop, bytes_append, bytes_nil}
use Rattle.codec.proofs.Blocks.{Passed, passed, passes, block_is, block_passes, length_block_of, count_of, body_of, bytes_block}

-- the bytes of records, one after another
module _ {A : Type 0} (bytes : A → List ℕ) where
  pub flat_append : (xs ys : List A) → flat_map bytes (xs ++ ys) ≡ flat_map bytes xs ++ flat_map bytes ys
  unfolding flat_map
  flat_append [] ys = refl
  flat_append (x ∷ xs) ys = ap (bytes x ++◌) (flat_append xs ys) ∙ sym (append_assoc (bytes x) (flat_map bytes xs) (flat_map bytes ys))

  pub flat_bytes : (d : A) (xs : List A) → ((i : ℕ) → i < length xs → Bytes (bytes (get_or xs i d))) → Bytes (flat_map bytes xs)
  unfolding flat_map
  flat_bytes d [] h = bytes_nil
  flat_bytes d (x ∷ xs) h =
      bytes_append (bytes x) (flat_map bytes xs) (h 0 (omega arith)) (flat_bytes d xs (λ i l. h (suc i) (omega arith)))

  module _ (w : ℕ) (each : (a : A) → length (bytes a) ≡ w) where
    pub flat-length : (xs : List A) → length (flat_map bytes xs) ≡ w * length xs
    unfolding flat_map
    flat-length [] = sym (mul-zero w)
    flat-length (x ∷ xs) =
        simp length-append (omega (arith, each x, flat-length xs, mul-suc w (length xs)))

    flat-at : (xs : List A) (i : ℕ) (d : A) → i < length xs → take w (drop (w * i) (flat_map bytes xs)) ≡ bytes (get_or xs i d)
    unfolding flat_map
    flat-at [] i d h = absurd (not-suc-le-zero h)
    flat-at (x ∷ xs) zero d h = rw mul-zero (take_at (bytes x) (flat_map bytes xs) w (each x))
    flat-at (x ∷ xs) (suc i) d h =
        let q : w * suc i ≡ w + w * i = omega (arith, mul-suc w i) in
        rw (q, ← drop-drop (w * i) w (bytes x ++ flat_map bytes xs), drop_at (bytes x) (flat_map bytes xs) w (each x))
        (flat-at xs i d (le_of_suc-le-suc h))

  -- records cut out of a file at equal distances are one part of it
  flat-listed : (f : ℕ → A) (w p : ℕ) (t : List ℕ) (k i : ℕ) → ((n : ℕ) → i ≤ n → n < i + k → bytes (f n) ≡ take w (drop (p + w * n) t))
      → flat_map bytes (list_from f i k) ≡ take (w * k) (drop (p + w * i) t)
  unfolding flat_map list_from
  flat-listed f w p t zero i h = rw mul-zero
  flat-listed f w p t (suc k) i h =
      let q : w * suc k ≡ w + w * k = omega (arith, mul-suc w k) in
      let s : p + w * suc i ≡ p + w * i + w = omega (arith, mul-suc w i) in
      rw (h i (omega arith) (omega arith), flat-listed f w p t k (suc i) (λ n a b. h n (omega arith) (omega arith)), q, s, ← drop-drop w (p + w * i) t)
      (sym (take-add w (w * k) (drop (p + w * i) t)))

-- a part that lies within the first of three lists
within : (p n : ℕ) (body pad more : List ℕ) → p + n ≤ length body → take n (drop p (body ++ pad ++ more)) ≡ take n (drop p body)
within p n body pad more h =
    rw (append_assoc body pad more, drop-append-le p body (pad ++ more) (omega arith), take-append-le n (drop p body) (pad ++ more) (simp length-drop (omega arith)))

-- which block an index is in, and how many blocks records need
pub in_block : (c j n : ℕ) → c * j ≤ n → n < c * j + c → n / c ≡ j
in_block c j n a b =
    div-eq_of_lt-le c (omega (arith, mul_comm c j)) (rw (add-one, suc-mul) (omega (arith, mul_comm c j)))

pub blocks_for_lem : (c k n : ℕ) → c * k < n → n ≤ c * k + c → (n + (c - 1)) / c ≡ suc k
blocks_for_lem c k n a b = in_block c (suc k) (n + (c - 1)) (omega (arith, mul-suc c k)) (omega (arith, mul-suc c k))

-- how many blocks n records need
abbrev pub blocks_for : Format → ℕ → ℕ
blocks_for F n = (n + (F.capacity - 1)) / F.capacity

-- an index below m is the last, or another follows
pub by_last : {P : Type 0} (j m : ℕ) → j < m → (suc j ≡ m → P) → (suc j < m → P) → P
by_last j m h f g =
    by_test (eqb (suc j) m) (λ e. f (eqb-true (suc j) m e)) (λ e. g (omega (arith, eqb-false (suc j) m e)))

-- a length that is not 0, whole, and not over that of `most` blocks is that of 1 to `most` whole blocks
pub whole_length : (most n : ℕ) → (not (eqb n 0) && (eqb (n % 512) 0 && leb n (512 * most))) ≡ true
    → (0 < n / 512) × (n ≡ 512 * (n / 512)) × (n / 512 ≤ most)
whole_length most n e =
    let ok = both (not (eqb n 0)) _ e in
    let ok₁ = both (eqb (n % 512) 0) (leb n (512 * most)) ok.1 in
    let some = eqb-false n 0 (not-true (eqb n 0) ok.0) in
    let whole = eqb-true (n % 512) 0 ok₁.0 in
    let high = leb-true n (512 * most) ok₁.1 in
    (omega arith, omega arith, omega arith)

-- a block of a file, and the blocks after it
block_then : (t : List ℕ) (j : ℕ) → drop (512 * j) t ≡ block_at t j ++ drop (512 * suc j) t
block_then t j =
    let q : 512 * j + 512 ≡ 512 * suc j = omega arith in
    sym (take-append-drop 512 (drop (512 * j) t)) ∙ ap (block_at t j ++◌) (drop-drop 512 (512 * j) t ∙ ap (λ (k : ℕ). drop k t) q)

module _ (F : Format) (fits : Fits F) where
  -- some of a block's records have room in it
  pub room_for : (n : ℕ) → n ≤ F.capacity → F.width * n ≤ 504
  room_for n h = omega (arith, mul-le-mul_left F.width h, fits.room)

  -- a record's place, from the file's start
  record_at_lem : (t : List ℕ) (j n : ℕ) → n / F.capacity ≡ j → record_at F t n ≡ take F.width (drop (8 * j + 4 + F.width * n) t)
  unfolding record_at
  record_at_lem t j n e =
      let n' : F.width * n ≡ F.width * (F.capacity * (n / F.capacity)) + F.width * (n % F.capacity) =
      ap (F.width *◌) (sym (div-add-mod n F.capacity)) ∙ mul-add F.width (F.capacity * (n / F.capacity)) (n % F.capacity) in
      let full : F.width * (F.capacity * (n / F.capacity)) ≡ 504 * (n / F.capacity) =
      sym (mul_assoc F.width F.capacity (n / F.capacity)) ∙ ap (◌* (n / F.capacity)) fits.room in
      let q : 512 * (n / F.capacity) + (4 + F.width * (n % F.capacity)) ≡ 8 * j + 4 + F.width * n = omega arith in
      rw q

  -- a file whose blocks pass
  module _ (t : List ℕ) (m : ℕ) (size : length t ≡ 512 * m) (some : 0 < m)
      (pass : (j : ℕ) → j < m → block_test F (block_at t j) j (eqb (suc j) m) ≡ fine) where
    -- each has passed
    pub tested : (j : ℕ) → j < m → Passed F (block_at t j) j (eqb (suc j) m)
    tested j h = passed F (block_at t j) j (eqb (suc j) m) (pass j h)

    abbrev count : ℕ → ℕ
    count j = get_or (block_at t j) 1 0

    -- every block but the last is full
    pub full-count : (j : ℕ) → suc j < m → count j ≡ F.capacity
    full-count j h =
        let e : eqb (suc j) m ≡ false = ne_eqb (suc j) m (λ q. omega arith) in
        eqb-true (count j) F.capacity (rw e at (tested j (omega arith)).full)

    pub records-are : records_in F t ≡ F.capacity * (m - 1) + count (m - 1)
    unfolding records_in
    records-are =
        let q : length t / 512 ≡ m = omega arith in
        rw q

    -- the records of a block are among those of the file
    pub inside : (j : ℕ) → j < m → F.capacity * j + count j ≤ records_in F t
    inside j h =
        by_last j m h
        (λ e. let q : m - 1 ≡ j = omega arith in rw (records-are, q) (omega arith))
        (λ e. omega (arith, records-are, full-count j e, mul-suc F.capacity j, mul-le-mul_left {m = suc j} {n = m - 1} F.capacity (omega arith)))

    -- the block of a record, and the record's place in it
    pub block_of_lem : (n : ℕ) → n < records_in F t → (n / F.capacity < m) × (n < F.capacity * (n / F.capacity) + count (n / F.capacity))
    block_of_lem n h =
        let c : ℕ = F.capacity in
        let last : c * m ≡ c * (m - 1) + c = ap (c *◌) (omega arith) ∙ mul-suc c (m - 1) in
        let j : n / c < m = lt_of_mul-lt-mul_left c (omega (arith, mul-div-le n c, records-are, (tested (m - 1) (omega arith)).most)) in (
          j,
          by_last (n / c) m j
              (λ e. let q : m - 1 ≡ n / c = omega arith in omega (arith, rw q at records-are))
              (λ e. omega (arith, full-count (n / c) e, div-add-mod n c, mod-lt n fits.some)),
        )

    length_at : (j : ℕ) → j < m → length (block_at t j) ≡ 512
    length_at j h = simp (length-take, length-drop) (omega arith)

    block-at : Bytes t → (j : ℕ) → j < m → block_at t j ≡ block_of F.letter (count j) j (take (F.width * count j) (drop 4 (block_at t j)))
    block-at all j h =
        block_is F (block_at t j) j (eqb (suc j) m) (length_at j h)
        (bytes_take 512 (drop (512 * j) t) (bytes_drop (512 * j) t all))
        (room_for (count j) (tested j h).most)
        (tested j h)

    module _ (all : Bytes t) {A : Type 0} (bytes : A → List ℕ) (f : ℕ → A) (same : (n : ℕ) → n < records_in F t → bytes (f n) ≡ record_at F t n) where
      -- a block's bytes are those of its records
      body_at : (j : ℕ) → j < m → flat_map bytes (list_from f (F.capacity * j) (count j)) ≡ take (F.width * count j) (drop 4 (block_at t j))
      body_at j h =
          let w : ℕ = F.width in
          let c : ℕ = count j in
          let most : c ≤ F.capacity = (tested j h).most in
          let place : 8 * j + 4 + w * (F.capacity * j) ≡ 512 * j + 4 =
          omega (arith, sym (mul_assoc w F.capacity j) ∙ ap (◌* j) fits.room) in
          flat-listed bytes f w (8 * j + 4) t c (F.capacity * j)
          (λ n a b. same n (omega (arith, inside j h)) ∙ record_at_lem t j n (in_block F.capacity j n a (omega arith)))
          ∙ rw (place, ← drop-drop 4 (512 * j) t, drop-take 4 508 (drop (512 * j) t), take-take (w * c) 508 (drop 4 (drop (512 * j) t)) (omega (arith, room_for c most)))

      one_block : (j : ℕ) → j < m → (rs : List A) → take F.capacity rs ≡ list_from f (F.capacity * j) (count j)
          → block_at t j ≡ block_of F.letter (length (take F.capacity rs)) j (flat_map bytes (take F.capacity rs))
      one_block j h rs e = rw (e, length_list_from f (count j) (F.capacity * j), body_at j h) (block-at all j h)

      -- the records from block j on: those of the block, and those from the next block on
      abbrev from : ℕ → List A
      from j = list_from f (F.capacity * j) (records_in F t - F.capacity * j)

      left-last : (j : ℕ) → suc j ≡ m → records_in F t - F.capacity * j ≡ count j
      left-last j e =
          let q : m - 1 ≡ j = omega arith in
          rw (records-are, q) (omega arith)

      left_more : (j : ℕ) → suc j < m → records_in F t - F.capacity * j ≡ F.capacity + (records_in F t - F.capacity * suc j)
      left_more j h = omega (arith, mul-suc F.capacity j, full-count j h, inside j (omega arith))

      taken : (j : ℕ) → j < m → take F.capacity (from j) ≡ list_from f (F.capacity * j) (count j)
      taken j h =
          by_last j m h
          (λ e. rw (left-last j e) (take_all F.capacity (list_from f (F.capacity * j) (count j)) (rw length_list_from (tested j h).most)))
          (λ e. rw (left_more j e, full-count j e) (take_list_from f F.capacity (records_in F t - F.capacity * suc j) (F.capacity * j)))

      dropped : (j : ℕ) → j < m → drop F.capacity (from j) ≡ from (suc j)
      unfolding list_from
      dropped j h =
          by_last j m h
          (λ e. let none : records_in F t - F.capacity * suc j ≡ 0 = omega (arith, left-last j e, (tested j h).most, mul-suc F.capacity j) in
          rw (none, left-last j e) (drop_of_length-le (list_from f (F.capacity * j) (count j)) {i = F.capacity} (rw length_list_from (tested j h).most)))
          (λ e. rw (left_more j e, mul-suc) (drop_list_from f F.capacity (records_in F t - (F.capacity * j + F.capacity)) (F.capacity * j)))

      -- the last k of the blocks
      last-blocks : (k j : ℕ) → j + k ≡ m → drop (512 * j) t ≡ blocks_of F bytes k j (from j)
      unfolding blocks_of
      last-blocks zero j e = drop_of_length-le t {i = 512 * j} (omega arith)
      last-blocks (suc k) j e =
          let h : j < m = omega arith in
          block_then t j
          ∙ ap₂ ◌++◌ (one_block j h (from j) (taken j h))
          (last-blocks k (suc j) (omega arith) ∙ ap (blocks_of F bytes k (suc j)) (sym (dropped j h)))

      -- the file holds its records
      pub file_is : t ≡ file_of F bytes (list_from f 0 (records_in F t))
      unfolding file_of
      file_is =
          let h : m - 1 < m = omega arith in
          let back : suc (m - 1) ≡ m = omega arith in
          let count-of-blocks : blocks_for F (records_in F t) ≡ m =
          blocks_for_lem F.capacity (m - 1) (records_in F t) (omega (arith, records-are, (tested (m - 1) h).some)) (omega (arith, records-are, (tested (m - 1) h).most)) ∙ back in
          rw (length_list_from f (records_in F t) 0, count-of-blocks) (rw (mul-zero, sub-zero) at (last-blocks m 0 (zero-add m)))

    -- .. also where they are not read as anything but bytes
    pub file-raw : Bytes t → t ≡ file_of F (λ (r : List ℕ). r) (list_from (record_at F t) 0 (records_in F t))
    file-raw all = file_is all (λ (r : List ℕ). r) (record_at F t) (λ n h. refl)

  -- the blocks that n records need hold them all, and the last of them is not empty
  enough : (n : ℕ) → n ≤ F.capacity * blocks_for F n
  enough n =
      omega (arith, fits.some, rw (add-one, mul-suc) at (lt-mul-div-succ (n + (F.capacity - 1)) fits.some))

  needed : (n : ℕ) → F.capacity * blocks_for F n < n + F.capacity
  needed n = omega (arith, fits.some, mul-div-le (n + (F.capacity - 1)) F.capacity)

  -- the blocks of records
  module _ {A : Type 0} (bytes : A → List ℕ) (each : (a : A) → length (bytes a) ≡ F.width) where
    abbrev block_with : ℕ → List A → List ℕ
    block_with j rs = block_of F.letter (length (take F.capacity rs)) j (flat_map bytes (take F.capacity rs))

    fit : (rs : List A) → length (take F.capacity rs) ≤ F.capacity
    fit rs = simp length-take (omega arith)

    body-size : (rs : List A) → length (flat_map bytes (take F.capacity rs)) ≤ 504
    body-size rs = omega (arith, flat-length bytes F.width each (take F.capacity rs), room_for (length (take F.capacity rs)) (fit rs))

    length-block_with : (j : ℕ) (rs : List A) → length (block_with j rs) ≡ 512
    length-block_with j rs = length_block_of F.letter _ j (flat_map bytes (take F.capacity rs)) (omega (arith, body-size rs))

    pub length-blocks_of : (k j : ℕ) (rs : List A) → length (blocks_of F bytes k j rs) ≡ 512 * k
    unfolding blocks_of
    length-blocks_of zero j rs = refl
    length-blocks_of (suc k) j rs =
        simp length-append (omega (arith, length-block_with j rs, length-blocks_of k (suc j) (drop F.capacity rs)))

    pub length-file_of : (rs : List A) → length (file_of F bytes rs) ≡ 512 * blocks_for F (length rs)
    unfolding file_of
    length-file_of rs = length-blocks_of (blocks_for F (length rs)) 0 rs

    -- the blocks of bytes are bytes
    module _ (letter : F.letter < 256) (most : F.capacity < 256) (d : A) where
      blocks-bytes : (k j : ℕ) (rs : List A) → j + k ≤ 65536 → ((i : ℕ) → i < length rs → Bytes (bytes (get_or rs i d))) → Bytes (blocks_of F bytes k j rs)
      unfolding blocks_of
      blocks-bytes zero j rs l h = bytes_nil
      blocks-bytes (suc k) j rs l h =
          bytes_append (block_with j rs) (blocks_of F bytes k (suc j) (drop F.capacity rs))
          (bytes_block F.letter (length (take F.capacity rs)) j (flat_map bytes (take F.capacity rs)) (omega (arith, body-size rs))
          letter
          (omega (arith, fit rs))
          (omega arith)
          (flat_bytes bytes d (take F.capacity rs)
          (λ i q.
          let inner : i < min F.capacity (length rs) = rw length-take at q in
          rw (get_or-take F.capacity rs i d (omega arith)) (h i (omega arith)))))
          (blocks-bytes k (suc j) (drop F.capacity rs) (omega arith)
          (λ i q. rw get_or-drop (h (F.capacity + i) (omega (arith, rw length-drop at q)))))

      pub file-bytes : (rs : List A) → blocks_for F (length rs) ≤ 65536 → ((i : ℕ) → i < length rs → Bytes (bytes (get_or rs i d))) → Bytes (file_of F bytes rs)
      unfolding file_of
      file-bytes rs few h = blocks-bytes (blocks_for F (length rs)) 0 rs (omega arith) h

    -- all but the first j blocks
    drop-blocks_of : (j k i : ℕ) (rs : List A) → drop (512 * j) (blocks_of F bytes (j + k) i rs) ≡ blocks_of F bytes k (i + j) (drop (F.capacity * j) rs)
    unfolding blocks_of
    drop-blocks_of zero k i rs = rw (zero-add, add-zero, mul-zero)
    drop-blocks_of (suc j) k i rs =
        let q : 512 * suc j ≡ 512 + 512 * j = omega arith in
        let c : F.capacity * suc j ≡ F.capacity + F.capacity * j = omega (arith, mul-suc F.capacity j) in
        let s : i + suc j ≡ suc i + j = omega arith in
        rw (
          suc-add j k,
          q,
          c,
          s,
          ← drop-drop (512 * j) 512 (block_with i rs ++ blocks_of F bytes (j + k) (suc i) (drop F.capacity rs)),
          drop_at (block_with i rs) (blocks_of F bytes (j + k) (suc i) (drop F.capacity rs)) 512 (length-block_with i rs),
          ← drop-drop (F.capacity * j) F.capacity rs,
        )
        (drop-blocks_of j k (suc i) (drop F.capacity rs))

    module _ (rs : List A) where
      -- the records of block j
      abbrev part : ℕ → List A
      part j = take F.capacity (drop (F.capacity * j) rs)

      before : (j : ℕ) → j < blocks_for F (length rs) → F.capacity * j < length rs
      before j h =
          omega (arith, needed (length rs), mul-suc F.capacity j, mul-le-mul_left {m = suc j} {n = blocks_for F (length rs)} F.capacity h)

      from_block : (j : ℕ) → j < blocks_for F (length rs)
          → (more : List ℕ) × (drop (512 * j) (file_of F bytes rs) ≡ block_with j (drop (F.capacity * j) rs) ++ more)
      unfolding file_of blocks_of
      from_block j h =
          let k : ℕ = blocks_for F (length rs) - suc j in
          let q : blocks_for F (length rs) ≡ j + suc k = omega arith in (
            blocks_of F bytes k (suc j) (drop F.capacity (drop (F.capacity * j) rs)),
            ap (λ (b : ℕ). drop (512 * j) (blocks_of F bytes b 0 rs)) q ∙ drop-blocks_of j (suc k) 0 rs ∙ rw zero-add,
          )

      pub file-block : (j : ℕ) → j < blocks_for F (length rs) → block_at (file_of F bytes rs) j ≡ block_of F.letter (length (part j)) j (flat_map bytes (part j))
      file-block j h =
          let b = from_block j h in
          rw b.1 (take_at (block_with j (drop (F.capacity * j) rs)) b.0 512 (length-block_with j (drop (F.capacity * j) rs)))

      pub file-count : (j : ℕ) → j < blocks_for F (length rs) → get_or (block_at (file_of F bytes rs) j) 1 0 ≡ length (part j)
      file-count j h =
          rw file-block (count_of F.letter (length (part j)) j (flat_map bytes (part j)) (omega (arith, body-size (drop (F.capacity * j) rs))))

      length_part : (j : ℕ) → length (part j) ≡ min F.capacity (length rs - F.capacity * j)
      length_part j = simp (length-take, length-drop)

      -- only the last block may have room left
      full_or_last : (j : ℕ) → j < blocks_for F (length rs)
          → (eqb (suc j) (blocks_for F (length rs)) || eqb (length (part j)) F.capacity) ≡ true
      full_or_last j h =
          by_last j (blocks_for F (length rs)) h
          (λ e. rw (eq-eqb (suc j) (blocks_for F (length rs)) e))
          (λ e. let full : length (part j) ≡ F.capacity = omega (arith, length_part j, before (suc j) e, mul-suc F.capacity j) in
          rw (ne_eqb (suc j) (blocks_for F (length rs)) (λ q. omega arith), eq-eqb (length (part j)) F.capacity full))

      -- every block passes
      pub file-passes : (j : ℕ) → j < blocks_for F (length rs) → block_test F (block_at (file_of F bytes rs) j) j (eqb (suc j) (blocks_for F (length rs))) ≡ fine
      file-passes j h =
          let most : length (part j) ≤ F.capacity = fit (drop (F.capacity * j) rs) in
          rw file-block
          (passes F (block_with j (drop (F.capacity * j) rs)) j (eqb (suc j) (blocks_for F (length rs)))
          (block_passes F (length (part j)) j (flat_map bytes (part j)) (eqb (suc j) (blocks_for F (length rs)))
          (omega (arith, length_part j, before j h, fits.some))
          most
          (flat-length bytes F.width each (part j))
          (room_for (length (part j)) most)
          (full_or_last j h)))

      pub some-blocks : 0 < length rs → 0 < blocks_for F (length rs)
      some-blocks some = lt_of_mul-lt-mul_left F.capacity (rw mul-zero (omega (arith, enough (length rs))))

      pub file-blocks : length (file_of F bytes rs) / 512 ≡ blocks_for F (length rs)
      file-blocks = omega (arith, length-file_of rs)

      -- as many records as were put in
      pub file-records : 0 < length rs → records_in F (file_of F bytes rs) ≡ length rs
      unfolding records_in
      file-records some =
          let m : ℕ = blocks_for F (length rs) in
          let h : m - 1 < m = omega (arith, some-blocks some) in
          let last : F.capacity * m ≡ F.capacity * (m - 1) + F.capacity =
          ap (F.capacity *◌) (omega arith) ∙ mul-suc F.capacity (m - 1) in
          rw (file-blocks, file-count (m - 1) h, length_part (m - 1)) (omega (arith, before (m - 1) h, enough (length rs)))

      -- .. and each at its place
      pub file-record : (n : ℕ) (d : A) → n < length rs → record_at F (file_of F bytes rs) n ≡ bytes (get_or rs n d)
      unfolding record_at
      file-record n d h =
          let c : ℕ = F.capacity in
          let w : ℕ = F.width in
          let j : ℕ = n / c in
          let i : ℕ = n % c in
          let place : c * j + i ≡ n = div-add-mod n c in
          let low : i < c = mod-lt n fits.some in
          let b = from_block j (lt_of_mul-lt-mul_left c (omega (arith, enough (length rs)))) in
          let block : List ℕ = block_with j (drop (c * j) rs) in
          let body : List ℕ = flat_map bytes (part j) in
          let short : length body ≤ 506 = omega (arith, body-size (drop (c * j) rs)) in
          let in-part : i < length (part j) = omega (arith, length_part j) in
          let whole : w * i + w ≤ length body =
          omega (arith, flat-length bytes w each (part j), mul-suc w i, mul-le-mul_left {m = suc i} {n = length (part j)} w in-part) in
          rw (
            ← drop-drop (4 + w * i) (512 * j) (file_of F bytes rs),
            b.1,
            ← drop-drop (w * i) 4 (block ++ b.0),
            drop-append-le 4 block b.0 (omega (arith, length-block_with j (drop (c * j) rs))),
            body_of F.letter (length (part j)) j body short,
          )
          (within (w * i) w body _ b.0 whole
          ∙ flat-at bytes w each (part j) i d in-part
          ∙ ap bytes (get_or-take c (drop (c * j) rs) i d low ∙ get_or-drop (c * j) rs i d ∙ ap (λ (k : ℕ). get_or rs k d) place))
