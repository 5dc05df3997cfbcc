-- What one step more, and the last block, do to the bytes of steps. Assumes nothing.
use mathlib.Core.Path.{◌≡◌, ◌∙◌, ap, sym}
use mathlib.Core.List.{List, [], ◌∷◌, ◌++◌, append_assoc, append-nil, flat_map}
use Prim.Native.Nat.{ℕ, ◌+◌, ◌-◌, ◌*◌, ◌/◌, ◌%◌, ◌<◌, ◌≤◌}
use native.Mathlib.Omega.{arith}
use lib.ListN.{length, take, drop, length-append, length-drop}
use lib.Seq.{take_at, take-append-le, drop-append-le, drop-append-add, drop-drop, length-take-le}
use borrow.Rule.Slice.PartMut.{mid_of, put_mid}
use Rattle.scope.specs.Block.{block_of, file_of}
use Rattle.codec.specs.Valid.{front, rest}
use Rattle.codec.proofs.Bytes.{drop-take}
use Rattle.codec.proofs.Files.{flat_append, length-file_of}
use Rattle.codec.proofs.Grows.{length_front, last_block, grown, all-full}
use Rattle.writer.proofs.Parts.{part_back}
use Rattle.rules.specs.declared.Step.{Step}
use Rattle.rules.specs.Steps.{lettered, step_bytes}
use Rattle.rules.proofs.Steps.{length-step}
use Rattle.steps.proofs.Form.{fits}
use Rattle.gather.specs.Kept.{body_of}

-- the bytes of full blocks of a letter, and of the steps behind them
abbrev pub fulls : ℕ → List Step → List ℕ
fulls letter ss = front (lettered letter) step_bytes ss

abbrev pub others : ℕ → List Step → List ℕ
others letter ss = rest (lettered letter) step_bytes ss

-- the whole file
abbrev pub file : ℕ → List Step → List ℕ
file letter ss = file_of (lettered letter) step_bytes ss

-- ---- one step more

-- four bytes are copied to their place
pub four_copied : (block bytes : List ℕ) (at : ℕ) → put_mid at (at + 4 - at) block bytes ≡ take at block ++ bytes ++ drop (at + 4) block
four_copied block bytes at =
    let z : at + 4 - at ≡ 4 = omega arith in
    simp (z, append_assoc, drop-drop)

-- .. which four bytes behind k steps of a block hold
pub body_more : (block bytes : List ℕ) (k : ℕ) → length block ≡ 512 → k < 126 → length bytes ≡ 4
    → body_of (take (4 + 4 * k) block ++ bytes ++ drop (4 + 4 * k + 4) block) (k + 1) ≡ body_of block k ++ bytes
body_more block bytes k l h b =
    let z : 4 * (k + 1) ≡ 4 * k + 4 = omega arith in
    let n : length (take (4 + 4 * k) block) ≡ 4 + 4 * k = length-take-le (4 + 4 * k) block (omega arith) in
    let m : length (take (4 * k) (drop 4 block)) ≡ 4 * k = length-take-le (4 * k) (drop 4 block) (simp length-drop (omega arith)) in
    let s : length (take (4 * k) (drop 4 block) ++ bytes) ≡ 4 * k + 4 = simp length-append (omega arith) in
    rw (
      z,
      append_assoc,
      drop-append-le 4 (take (4 + 4 * k) block) (bytes ++ drop (4 + 4 * k + 4) block) (omega arith),
      drop-take 4 (4 * k) block,
      ← append_assoc,
    )
    (take_at (take (4 * k) (drop 4 block) ++ bytes) (drop (4 + 4 * k + 4) block) (4 * k + 4) s)

pub one_more : (ss : List Step) (s : Step) → length (ss ++ s ∷ []) ≡ length ss + 1
one_more ss s = length-append ss (s ∷ [])

module _ (letter : ℕ) (ss : List Step) (s : Step) where
  -- the last block has room left
  module _ (h : length ss % 126 < 125) where
    pub fulls-same : fulls letter (ss ++ s ∷ []) ≡ fulls letter ss
    unfolding front
    fulls-same =
        let q : (length ss + 1) / 126 ≡ length ss / 126 = omega arith in
        rw (one_more ss s, q, take-append-le (126 * (length ss / 126)) ss (s ∷ []) (omega arith))

    pub others-more : others letter (ss ++ s ∷ []) ≡ others letter ss ++ step_bytes s
    unfolding rest flat_map
    others-more =
        let q : (length ss + 1) / 126 ≡ length ss / 126 = omega arith in
        rw (one_more ss s, q, drop-append-le (126 * (length ss / 126)) ss (s ∷ []) (omega arith))
        (flat_append step_bytes (drop (126 * (length ss / 126)) ss) (s ∷ []) ∙ rw append-nil)

  -- it becomes full
  module _ (h : length ss % 126 ≡ 125) where
    full : length (ss ++ s ∷ []) % 126 ≡ 0
    full = rw (one_more ss s) (omega arith)

    pub fulls-more : fulls letter (ss ++ s ∷ []) ≡ fulls letter ss ++ block_of letter 126 (length ss / 126) (others letter ss ++ step_bytes s)
    fulls-more =
        sym (all-full (lettered letter) (fits letter) step_bytes length-step (ss ++ s ∷ []) full).0
        ∙ grown (lettered letter) (fits letter) step_bytes length-step ss s
        ∙ rw h

    pub others-none : others letter (ss ++ s ∷ []) ≡ []
    others-none = (all-full (lettered letter) (fits letter) step_bytes length-step (ss ++ s ∷ []) full).1

-- ---- a block is written behind the full ones

-- .. through the part of the buffer that was lent
pub block_back : (letter : ℕ) (out block : List ℕ) (count index : ℕ) {ys : List ℕ} → 512 * (index + 1) ≤ length out
    → ys ≡ block_of letter count index (mid_of 4 (4 + 4 * count - 4) block) ++ drop 512 (mid_of (512 * index) (length out - 512 * index) out)
    → put_mid (512 * index) (length out - 512 * index) out ys
    ≡ take (512 * index) out ++ (block_of letter count index (body_of block count) ++ drop (512 * (index + 1)) out)
block_back letter out block count index h e =
    let z : 512 * (index + 1) ≡ 512 * index + 512 = omega arith in
    let n : 4 + 4 * count - 4 ≡ 4 * count = omega arith in
    part_back out (block_of letter count index (mid_of 4 (4 + 4 * count - 4) block)) (512 * index) 512 (omega arith) e ∙ rw (n, z)

module _ (letter : ℕ) (ss : List Step) (d : List ℕ) (block : List ℕ) {out : List ℕ} {b : ℕ}
    (e : out ≡ fulls letter ss ++ drop (512 * b) d) (k : b ≡ length ss / 126) where
  pub behind : take (512 * b) out ++ (block ++ drop (512 * (b + 1)) out) ≡ (fulls letter ss ++ block) ++ drop (512 * (b + 1)) d
  behind =
      let n : length (fulls letter ss) ≡ 512 * b = length_front (lettered letter) (fits letter) step_bytes length-step ss ∙ ap (512 *◌) (sym k) in
      let z : 512 * (b + 1) ≡ 512 * b + 512 = omega arith in
      let q : drop (512 * b + 512) (fulls letter ss ++ drop (512 * b) d) ≡ drop 512 (drop (512 * b) d) =
      ap (λ (k : ℕ). drop (k + 512) (fulls letter ss ++ drop (512 * b) d)) (sym n) ∙ drop-append-add (fulls letter ss) (drop (512 * b) d) 512 in
      rw (e, z, take_at (fulls letter ss) (drop (512 * b) d) (512 * b) n, q, drop-drop, append_assoc)

-- ---- all steps

module _ (letter : ℕ) (ss : List Step) where
  length_file : length (file letter ss) ≡ 512 * ((length ss + 125) / 126)
  length_file = length-file_of (lettered letter) (fits letter) step_bytes length-step ss

  pub encode_partial : 0 < length ss % 126
      → (file letter ss ≡ fulls letter ss ++ block_of letter (length ss % 126) (length ss / 126) (others letter ss))
      × (length (file letter ss) ≡ 512 * (length ss / 126 + 1))
  encode_partial h = (last_block (lettered letter) (fits letter) step_bytes length-step ss h, omega (arith, length_file))

  pub encode_full : length ss % 126 ≡ 0 → (file letter ss ≡ fulls letter ss) × (length (file letter ss) ≡ 512 * (length ss / 126))
  encode_full h = ((all-full (lettered letter) (fits letter) step_bytes length-step ss h).0, omega (arith, length_file))
