-- The blocks of the numbers' nodes, one after another. Assumes nothing.
use mathlib.Core.Path.{◌≡◌, ◌∙◌, ap, sym, refl}
use mathlib.Core.List.{List, [], ◌∷◌, ◌++◌, append_assoc, append-nil, map, map-append, flat_map}
use Prim.Native.Nat.{ℕ, zero, suc, ◌+◌, ◌-◌, ◌*◌, ◌/◌, ◌≤◌, ◌<◌}
use native.Mathlib.Nat.{sub-zero}
use native.Mathlib.Numerals.{add-one}
use native.Mathlib.Omega.{arith}
use lib.Dec.{ltb}
use borrow.Author.Tests.{ltb-true, ltb-false}
use lib.ListN.{length, get_or, take, drop, length-append, length-drop, length-take, length-map}
use lib.Seq.{length-take-le, take-suc, take-take, take_all, take_at, drop_at, drop-drop, take-length, get_or-drop, paste, take-paste}
use Rattle.scope.specs.declared.Node.{Node}
use Rattle.scope.specs.Block.{block_of, blocks_of, file_of}
use Rattle.scope.specs.Table.{tables, node_bytes, encode}
use Rattle.scope.proofs.Tests.{by_test}
use Rattle.codec.proofs.Blocks.{length_block_of}
use Rattle.codec.proofs.Bytes.{drop-take}
use Rattle.codec.proofs.Files.{flat_append}
use Rattle.codec.proofs.Records.{length-node_bytes}
use Rattle.growing.specs.Growing.{node_in, nodes_in, records_in, Held, WritesTo}
use Rattle.growing.proofs.Nodes.{nodes_count}

drop-map : {A B : Type 0} (f : A → B) (i : ℕ) (l : List A) → drop i (map f l) ≡ map f (drop i l)
drop-map f zero l = refl
drop-map f (suc i) [] = refl
drop-map f (suc i) (x ∷ l) = drop-map f i l

take-map : {A B : Type 0} (f : A → B) (i : ℕ) (l : List A) → take i (map f l) ≡ map f (take i l)
take-map f zero l = refl
take-map f (suc i) [] = refl
take-map f (suc i) (x ∷ l) = ap (f x ∷◌) (take-map f i l)

flat-length : (xs : List Node) → length (flat_map node_bytes xs) ≡ 8 * length xs
unfolding flat_map
flat-length [] = refl
flat-length (x ∷ xs) = omega (arith, length-append (node_bytes x) (flat_map node_bytes xs), length-node_bytes x, flat-length xs)

-- one record more
module _ (keys : List ℕ) (from : ℕ) where
  pub records-none : records_in keys from 0 ≡ []
  unfolding records_in flat_map
  records-none = refl

  pub records_more : (i : ℕ) → from + i < length keys → records_in keys from (i + 1) ≡ records_in keys from i ++ node_bytes (node_in (get_or keys (from + i) 0))
  unfolding records_in flat_map
  records_more i h =
      let inside : i < length (drop from keys) = omega (arith, length-drop from keys) in
      rw (add-one, take-suc (drop from keys) i 0 inside, get_or-drop from keys i 0, map-append node_in (take i (drop from keys)) (get_or keys (from + i) 0 ∷ []))
      (flat_append node_bytes (map node_in (take i (drop from keys))) (node_in (get_or keys (from + i) 0) ∷ []) ∙ ap (flat_map node_bytes (map node_in (take i (drop from keys))) ++◌) (append-nil (node_bytes (node_in (get_or keys (from + i) 0)))))

  pub records-length : (i : ℕ) → from + i ≤ length keys → length (records_in keys from i) ≡ 8 * i
  unfolding records_in flat_map
  records-length i h =
      flat-length (map node_in (take i (drop from keys)))
      ∙ ap (8 *◌) (length-map (take i (drop from keys)) node_in ∙ length-take-le i (drop from keys) (omega (arith, length-drop from keys)))

-- a record copied behind others
pub filled_more : (body keys r : List ℕ) (from i : ℕ) → from + i < length keys → 8 * (i + 1) ≤ length body → take (8 * i) body ≡ records_in keys from i
    → r ≡ node_bytes (node_in (get_or keys (from + i) 0))
    → take (8 * (i + 1)) (paste body (8 * i) r (length r)) ≡ records_in keys from (i + 1)
filled_more body keys r from i h room e q =
    let eight : length r ≡ 8 = rw q (length-node_bytes (node_in (get_or keys (from + i) 0))) in
    let end : 8 * (i + 1) ≡ 8 * i + length r = omega arith in
    rw end
    (take-paste body (8 * i) r (length r) (omega arith) (omega arith)
    ∙ rw (take-length r, e, q) (sym (records_more keys from i h)))

-- at most 63 of those that are left
cut : (m : ℕ) (l : List ℕ) {count : ℕ} → Held m count → take 63 (take m l) ≡ take count l
cut m l {count} h =
    by_test (ltb m 63)
    (λ e.
    let low : m ≤ 63 = omega (arith, ltb-true m 63 e) in
    take_all 63 (take m l) (omega (arith, length-take m l)) ∙ ap (λ (i : ℕ). take i l) (sym (h.all low)))
    (λ e.
    let high : 63 ≤ m = ltb-false m 63 e in
    take-take 63 m l high ∙ ap (λ (i : ℕ). take i l) (sym (h.full high)))

-- the blocks of the first n numbers before the j-th stand in a buffer
pub record Front (keys : List ℕ) (n : ℕ) (buf₀ : List ℕ) (j : ℕ) (buf : List ℕ) : Type 0 where
  pub front : List ℕ
  pub size : length front ≡ 512 * j
  pub whole : front ++ blocks_of tables node_bytes ((n + 62) / 63 - j) j (drop (63 * j) (nodes_in keys n)) ≡ encode (nodes_in keys n)
  pub now : buf ≡ front ++ drop (512 * j) buf₀

module _ (keys : List ℕ) (n : ℕ) (size : length keys ≡ 2016) (few : n ≤ 2016) where
  pub front-none : (buf : List ℕ) → Front keys n buf 0 buf
  unfolding file_of
  front-none buf = record { front = []; size = refl; whole = ap (λ (i : ℕ). blocks_of tables node_bytes i 0 (nodes_in keys n)) (sub-zero ((n + 62) / 63) ∙ ap (λ (i : ℕ). (i + 62) / 63) (sym (nodes_count keys n size few))); now = refl }

  -- what the j-th block takes
  module _ (j count : ℕ) (left : 63 * j < n) (h : Held (n - 63 * j) count) where
    pub count_low : 63 * j + count ≤ n
    count_low =
        by_test (ltb (n - 63 * j) 63)
        (λ e. omega (arith, h.all (omega (arith, ltb-true (n - 63 * j) 63 e))))
        (λ e. let high : 63 ≤ n - 63 * j = ltb-false (n - 63 * j) 63 e in omega (arith, h.full high))

    behind : drop (63 * j) (take n keys) ≡ take (n - 63 * j) (drop (63 * j) keys)
    behind =
        let q : n ≡ 63 * j + (n - 63 * j) = omega arith in
        ap (λ (i : ℕ). drop (63 * j) (take i keys)) q ∙ drop-take (63 * j) (n - 63 * j) keys

    taken : take 63 (drop (63 * j) (nodes_in keys n)) ≡ map node_in (take count (drop (63 * j) keys))
    unfolding nodes_in
    taken =
        ap (take 63) (drop-map node_in (63 * j) (take n keys))
        ∙ take-map node_in 63 (drop (63 * j) (take n keys))
        ∙ ap (map node_in) (ap (take 63) behind ∙ cut (n - 63 * j) (drop (63 * j) keys) h)

    taken-count : length (take 63 (drop (63 * j) (nodes_in keys n))) ≡ count
    taken-count =
        ap length taken ∙ length-map (take count (drop (63 * j) keys)) node_in
        ∙ length-take-le count (drop (63 * j) keys) (omega (arith, length-drop (63 * j) keys, count_low))

    abbrev block : List ℕ
    block = block_of 70 count j (records_in keys (63 * j) count)

    block-length : length block ≡ 512
    block-length =
        length_block_of 70 count j (records_in keys (63 * j) count) (omega (arith, records-length keys (63 * j) count (omega (arith, count_low)), h.most))

    abbrev after-this : List ℕ
    after-this = blocks_of tables node_bytes ((n + 62) / 63 - (j + 1)) (j + 1) (drop (63 * (j + 1)) (nodes_in keys n))

    split : blocks_of tables node_bytes ((n + 62) / 63 - j) j (drop (63 * j) (nodes_in keys n)) ≡ block ++ after-this
    unfolding records_in blocks_of
    split =
        let q : (n + 62) / 63 - j ≡ suc ((n + 62) / 63 - (j + 1)) = omega arith in
        let p : 63 * (j + 1) ≡ 63 * j + 63 = omega arith in
        ap (λ (i : ℕ). blocks_of tables node_bytes i j (drop (63 * j) (nodes_in keys n))) q
        ∙ rw (taken-count, taken, p, add-one, drop-drop 63 (63 * j) (nodes_in keys n))

    pub front-more : {buf₀ buf after : List ℕ} → Front keys n buf₀ j buf → after ≡ take (512 * j) buf ++ (block ++ drop (512 * j + 512) buf)
        → Front keys n buf₀ (j + 1) after
    front-more {buf₀} {buf} {after} f e =
        let p : 512 * (j + 1) ≡ 512 * j + 512 = omega arith in
        let head : take (512 * j) buf ≡ f.front = ap (take (512 * j)) f.now ∙ take_at f.front (drop (512 * j) buf₀) (512 * j) f.size in
        let tail : drop (512 * j) buf ≡ drop (512 * j) buf₀ = ap (drop (512 * j)) f.now ∙ drop_at f.front (drop (512 * j) buf₀) (512 * j) f.size in
        let rest : drop (512 * j + 512) buf ≡ drop (512 * (j + 1)) buf₀ =
        sym (drop-drop 512 (512 * j) buf) ∙ ap (drop 512) tail ∙ drop-drop 512 (512 * j) buf₀ ∙ ap (λ (i : ℕ). drop i buf₀) (sym p) in
        record {
          front = f.front ++ block;
          size = length-append f.front block ∙ omega (arith, f.size, block-length);
          whole = append_assoc f.front block after-this ∙ ap (f.front ++◌) (sym split) ∙ f.whole;
          now = e ∙ rw (head, rest) (sym (append_assoc f.front block (drop (512 * (j + 1)) buf₀)));
        }

  pub front_all : (j : ℕ) {buf₀ buf : List ℕ} → Front keys n buf₀ j buf → n ≤ 63 * j → WritesTo keys n buf₀ buf (512 * j)
  unfolding blocks_of
  front_all j {buf₀} {buf} f done =
      let q : (n + 62) / 63 - j ≡ 0 = omega arith in
      let all : f.front ≡ encode (nodes_in keys n) =
      sym (append-nil f.front) ∙ ap (λ (i : ℕ). f.front ++ blocks_of tables node_bytes i j (drop (63 * j) (nodes_in keys n))) (sym q) ∙ f.whole in
      let end : 512 * j ≡ length (encode (nodes_in keys n)) = sym f.size ∙ ap length all in
      record {
        used_is = end;
        bytes = f.now ∙ rw (all, end);
      }
