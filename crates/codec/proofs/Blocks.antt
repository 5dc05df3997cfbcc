-- Blocks: one whose three tests pass is `block_of` of what stands in it, and `block_of` passes the three tests.
-- Assumes nothing.
use mathlib.Core.Path.{◌≡◌, ◌∙◌, ap, sym, refl}
use mathlib.Core.List.{List, [], ◌∷◌, ◌++◌, append_assoc}
use mathlib.Core.Bool.{Bool, true, ◌||◌}
use Prim.Native.Nat.{ℕ, zero, suc, ◌+◌, ◌-◌, ◌*◌, ◌<◌, ◌≤◌}
use native.Mathlib.Omega.{arith}
use lib.Dec.{eqb, leb, ltb}
use lib.ListN.{length, get_or, take, drop, replicate, length-append, length-take, length-drop, length-replicate, take-append-drop}
use lib.Seq.{drop-cons, take_all, take-add, take_at, drop_at, drop-drop, length-take-le, get_or-append-add}
use borrow.Author.Tests.{eqb-true, eq-eqb, lt-ltb, le-leb, ltb-true, leb-true}
use Rattle.scope.specs.declared.Format.{Format}
use Rattle.scope.specs.Outcome.{fine, require, ◌>>◌}
use Rattle.scope.specs.Block.{word_at, word_bytes, check_of, check_ok, head_ok, zeros, padding_ok, block_test, seal, block_of}
use Rattle.scope.specs.Table.{list_from}
use Rattle.scope.proofs.Tests.{and_left, and_right, and_both, required}
use Rattle.scope.proofs.Seals.{check_same, seal_same, page, length_page, block_page}
use Rattle.codec.specs.Valid.{Bytes}
use Rattle.codec.proofs.Rows.{both, row}
use Rattle.codec.proofs.Bytes.{listed, word_of, of_word, bytes_cons, bytes_append, bytes_zeros, bytes_word}

check_small : (b : List ℕ) → check_of b < 65536
unfolding check_of
check_small b = omega arith

-- an element of the second of two lists
get_d_past : (p q : List ℕ) (n k : ℕ) → length p ≡ n → get_or (p ++ q) (n + k) 0 ≡ get_or q k 0
get_d_past p q n k e = rw (← e) (get_or-append-add p q k 0)

module _ (b : List ℕ) where
  -- a block with its check is sealed
  sealed : length b ≡ 512 → Bytes b → check_ok b ≡ true → b ≡ seal b
  unfolding seal check_ok list_from
  sealed l h e =
      let check : check_of b ≡ word_at b 510 = eqb-true (check_of b) (word_at b 510) e in
      let two : take 2 (drop 510 b) ≡ get_or b 510 0 ∷ get_or b 511 0 ∷ [] = listed 0 b 2 510 (omega arith) in
      let all : take 2 (drop 510 b) ≡ drop 510 b = take_all 2 (drop 510 b) (simp length-drop (omega arith)) in
      sym (take-append-drop 510 b)
      ∙ ap (take 510 b ++◌) (sym all ∙ two ∙ sym (word_of (get_or b 510 0) (get_or b 511 0) (h 510)) ∙ ap (λ (n : ℕ). word_bytes n) (sym check))

  -- n zeros from i on
  zeros_are : (n i : ℕ) → i + n ≤ length b → zeros b i n ≡ true → take n (drop i b) ≡ replicate n 0
  unfolding zeros
  zeros_are zero i l e = refl
  zeros_are (suc n) i l e =
      let head : get_or b i 0 ≡ 0 = eqb-true (get_or b i 0) 0 (and_left (eqb (get_or b i 0) 0) (zeros b (suc i) n) e) in
      let more : take n (drop (suc i) b) ≡ replicate n 0 = zeros_are n (suc i) (omega arith) (and_right (eqb (get_or b i 0) 0) (zeros b (suc i) n) e) in
      rw (drop-cons b i 0 (omega arith), head, more)

  are_zeros : (n i : ℕ) → i + n ≤ length b → take n (drop i b) ≡ replicate n 0 → zeros b i n ≡ true
  unfolding zeros
  are_zeros zero i l e = refl
  are_zeros (suc n) i l e =
      let q : get_or b i 0 ∷ take n (drop (suc i) b) ≡ 0 ∷ replicate n 0 = rw (drop-cons b i 0 (omega arith)) at e in
      and_both (eqb (get_or b i 0) 0) (zeros b (suc i) n) (eq-eqb (get_or b i 0) 0 (cc)) (are_zeros n (suc i) (omega arith) (cc))

  module _ (long : 510 ≤ length b) where
    length-seal : length (seal b) ≡ 512
    unfolding seal
    length-seal = simp (length-append, length-take) (omega arith)

    seal-front : take 510 (seal b) ≡ take 510 b
    unfolding seal
    seal-front = take_at (take 510 b) (word_bytes (check_of b)) 510 (length-take-le 510 b long)

    seal-word : (k : ℕ) → get_or (seal b) (510 + k) 0 ≡ get_or (word_bytes (check_of b)) k 0
    unfolding seal
    seal-word k = get_d_past (take 510 b) (word_bytes (check_of b)) 510 k (length-take-le 510 b long)

    -- a sealed block has its check
    seal-ok : check_ok (seal b) ≡ true
    unfolding check_ok
    seal-ok =
        let word : word_at (seal b) 510 ≡ check_of b = rw (seal-word 0, seal-word 1) (of_word (check_of b)) in
        eq-eqb (check_of (seal b)) (word_at (seal b) 510) (check_same (seal b) b seal-front ∙ sym word)

module _ (letter count index : ℕ) (body : List ℕ) (short : length body ≤ 506) where
  pub length_block_of : length (block_of letter count index body) ≡ 512
  unfolding block_of
  length_block_of = length-seal (page letter count index body) (omega (arith, length_page letter count index body short))

  -- the four bytes in front of the records
  pub letter_of : get_or (block_of letter count index body) 0 0 ≡ letter
  letter_of = rw block_page

  pub count_of : get_or (block_of letter count index body) 1 0 ≡ count
  count_of = rw block_page

  pub index_of : word_at (block_of letter count index body) 2 ≡ index
  index_of = rw block_page (of_word index)

  -- the records, and what stands behind them
  pub body_of : drop 4 (block_of letter count index body) ≡ body ++ (replicate (506 - length body) 0 ++ word_bytes (check_of (page letter count index body)))
  body_of = rw block_page (append_assoc body (replicate (506 - length body) 0) (word_bytes (check_of (page letter count index body))))

  pub check_ok_lem : check_ok (block_of letter count index body) ≡ true
  unfolding block_of
  check_ok_lem = seal-ok (page letter count index body) (omega (arith, length_page letter count index body short))

  pub bytes_block : letter < 256 → count < 256 → index < 65536 → Bytes body → Bytes (block_of letter count index body)
  bytes_block l c i b =
      let head : Bytes (letter ∷ count ∷ word_bytes index) = bytes_cons letter (count ∷ word_bytes index) l (bytes_cons count (word_bytes index) c (bytes_word index i)) in
      let zero : Bytes (replicate (506 - length body) 0) = bytes_zeros (506 - length body) in
      rw block_page
      (bytes_append (page letter count index body) (word_bytes (check_of (page letter count index body)))
      (bytes_append (letter ∷ count ∷ word_bytes index ++ body) (replicate (506 - length body) 0)
      (bytes_append (letter ∷ count ∷ word_bytes index) body head b)
      zero)
      (bytes_word (check_of (page letter count index body)) (check_small (page letter count index body))))

-- a block that passes the three tests
module _ (F : Format) (b : List ℕ) (index : ℕ) (last : Bool) where
  pub record Passed : Type 0 where
    pub check : check_ok b ≡ true
    pub letter : get_or b 0 0 ≡ F.letter
    pub place : word_at b 2 ≡ index
    pub some : 0 < get_or b 1 0
    pub most : get_or b 1 0 ≤ F.capacity
    pub full : (last || eqb (get_or b 1 0) F.capacity) ≡ true
    pub padding : padding_ok F b ≡ true

  pub passed : block_test F b index last ≡ fine → Passed
  unfolding block_test head_ok
  passed e =
      let check = row (check_ok b) F.number index (require (head_ok F b index last) (F.number + 1) index >> require (padding_ok F b) (F.number + 2) index) e in
      let head = row (head_ok F b index last) (F.number + 1) index (require (padding_ok F b) (F.number + 2) index) check.1 in
      let letter = both (eqb (get_or b 0 0) F.letter) _ head.0 in
      let place = both (eqb (word_at b 2) index) _ letter.1 in
      let some = both (ltb 0 (get_or b 1 0)) _ place.1 in
      let most = both (leb (get_or b 1 0) F.capacity) _ some.1 in
      record {
        check = check.0;
        letter = eqb-true (get_or b 0 0) F.letter letter.0;
        place = eqb-true (word_at b 2) index place.0;
        some = ltb-true 0 (get_or b 1 0) some.0;
        most = leb-true (get_or b 1 0) F.capacity most.0;
        full = most.1;
        padding = required (padding_ok F b) (F.number + 2) index head.1;
      }

  pub passes : Passed → block_test F b index last ≡ fine
  unfolding block_test head_ok
  passes p =
      let h : head_ok F b index last ≡ true =
      and_both _ _ (eq-eqb (get_or b 0 0) F.letter p.letter)
      (and_both _ _ (eq-eqb (word_at b 2) index p.place)
      (and_both _ _ (lt-ltb 0 (get_or b 1 0) p.some)
      (and_both _ _ (le-leb (get_or b 1 0) F.capacity p.most)
      p.full))) in
      rw (p.check, h, p.padding)

-- the first 510 bytes: four, n of the records, and what is left
three_parts : (b : List ℕ) (n : ℕ) → n ≤ 506 → take 510 b ≡ take 4 b ++ (take n (drop 4 b) ++ take (506 - n) (drop (4 + n) b))
three_parts b n h =
    let q : 506 ≡ n + (506 - n) = omega arith in
    take-add 4 506 b
    ∙ ap (take 4 b ++◌)
    (ap (λ (k : ℕ). take k (drop 4 b)) q
    ∙ take-add n (506 - n) (drop 4 b)
    ∙ ap (λ (l : List ℕ). take n (drop 4 b) ++ take (506 - n) l) (drop-drop n 4 b))

-- a block that passes is `block_of` of what stands in it
module _ (F : Format) (b : List ℕ) (index : ℕ) (last : Bool) (long : length b ≡ 512) (bytes : Bytes b) (room : F.width * get_or b 1 0 ≤ 504) where
  pub block_is : Passed F b index last → b ≡ block_of F.letter (get_or b 1 0) index (take (F.width * get_or b 1 0) (drop 4 b))
  unfolding block_of padding_ok list_from
  block_is p =
      let n : ℕ = F.width * get_or b 1 0 in
      let body : List ℕ = take n (drop 4 b) in
      let size : length body ≡ n = length-take-le n (drop 4 b) (simp length-drop (omega arith)) in
      let pad : take (506 - n) (drop (4 + n) b) ≡ replicate (506 - n) 0 = zeros_are b (506 - n) (4 + n) (omega arith) p.padding in
      let word : word_bytes index ≡ get_or b 2 0 ∷ get_or b 3 0 ∷ [] = rw (← p.place) (word_of (get_or b 2 0) (get_or b 3 0) (bytes 2)) in
      let four : take 4 b ≡ get_or b 0 0 ∷ get_or b 1 0 ∷ get_or b 2 0 ∷ get_or b 3 0 ∷ [] = listed 0 b 4 0 (omega arith) in
      let head : take 4 b ≡ F.letter ∷ get_or b 1 0 ∷ word_bytes index = four ∙ rw (p.letter, word) in
      let front : take 510 b ≡ page F.letter (get_or b 1 0) index body = three_parts b n (omega arith) ∙ rw (head, pad, size) in
      let whole : take 510 (page F.letter (get_or b 1 0) index body) ≡ page F.letter (get_or b 1 0) index body =
      take_all 510 (page F.letter (get_or b 1 0) index body) (omega (arith, length_page F.letter (get_or b 1 0) index body (omega arith))) in
      sealed b long bytes p.check ∙ seal_same b (page F.letter (get_or b 1 0) index body) (front ∙ sym whole)

-- `block_of` passes
module _ (F : Format) (count index : ℕ) (body : List ℕ) (last : Bool)
    (some : 0 < count) (most : count ≤ F.capacity) (size : length body ≡ F.width * count) (room : F.width * count ≤ 504)
    (full : (last || eqb count F.capacity) ≡ true) where
  pub block_passes : Passed F (block_of F.letter count index body) index last
  unfolding padding_ok
  block_passes =
      let n : ℕ = F.width * count in
      let block : List ℕ = block_of F.letter count index body in
      let short : length body ≤ 506 = omega arith in
      let left : 506 - length body ≡ 506 - n = omega arith in
      let pad : take (506 - n) (drop (4 + n) block) ≡ replicate (506 - length body) 0 =
      rw (← drop-drop n 4 block, body_of F.letter count index body short, drop_at body _ n size)
      (take_at (replicate (506 - length body) 0) _ (506 - n) (length-replicate (506 - length body) 0 ∙ left)) in
      let c : get_or (block_of F.letter count index body) 1 0 ≡ count = count_of F.letter count index body short in
      record {
        check = check_ok_lem F.letter count index body short;
        letter = letter_of F.letter count index body short;
        place = index_of F.letter count index body short;
        some = rw c some;
        most = rw c most;
        full = rw c full;
        padding = rw c (are_zeros block (506 - n) (4 + n) (omega (arith, length_block_of F.letter count index body short)) (pad ∙ ap (λ (k : ℕ). replicate k 0) left));
      }
