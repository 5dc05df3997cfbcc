-- Two files that differ in one byte: their blocks differ in one byte where it stands, and nowhere else. Assumes nothing.
use mathlib.Core.Path.{◌≡◌, ◌∙◌, ap, sym, refl}
use mathlib.Core.List.{List}
use mathlib.Core.Bool.{Bool}
use Prim.Native.Nat.{ℕ, zero, suc, ◌+◌, ◌*◌, ◌/◌, ◌%◌, ◌<◌, ◌≤◌}
use native.Mathlib.Omega.{arith}
use native.Mathlib.Decide.{dec_lt}
use lib.ListN.{length, get_or, take, drop, length-take, length-drop, get_or-eq_default}
use lib.Seq.{get_or-take, get_or-drop, ext_get_or}
use Rattle.scope.specs.Block.{block_at, record_at}
use Rattle.scope.specs.Table.{tables, node_at, same_node, any_below, repeats, record_test}
use Rattle.scope.specs.OneByte.{OneByte}

-- byte i of the part of a file that starts at s
part_at : (t : List ℕ) (s m i : ℕ) → i < m → get_or (take m (drop s t)) i 0 ≡ get_or t (s + i) 0
part_at t s m i h = get_or-take m (drop s t) i 0 h ∙ get_or-drop s t i 0

-- tests that agree on every index below n find the same
any_same : (p q : ℕ → Bool) (n : ℕ) → ((m : ℕ) → m < n → p m ≡ q m) → any_below p n ≡ any_below q n
unfolding any_below
any_same p q zero h = refl
any_same p q (suc n) h = rw (h n (omega arith), any_same p q n (λ m l. h m (omega arith)))

module _ (t u : List ℕ) (k : ℕ) (o : OneByte t u k) where
  part_length : (s m : ℕ) → length (take m (drop s u)) ≡ length (take m (drop s t))
  part_length s m = simp (length-take, length-drop, o.long)

  -- the parts of m bytes from s on agree at every place but that of byte k
  part-rest : (s m i : ℕ) → (s + i ≡ k → ⊥) → get_or (take m (drop s u)) i 0 ≡ get_or (take m (drop s t)) i 0
  part-rest s m i q = on (dec_lt i m)
    where
      on : Dec (i < m) → get_or (take m (drop s u)) i 0 ≡ get_or (take m (drop s t)) i 0
      on (yes h) = part_at u s m i h ∙ o.rest (s + i) q ∙ sym (part_at t s m i h)
      on (no h) =
          let past : length (take m (drop s t)) ≤ i = simp length-take (omega arith) in
          get_or-eq_default (take m (drop s u)) 0 (rw (part_length s m) past) ∙ sym (get_or-eq_default (take m (drop s t)) 0 past)

  part_same : (s m : ℕ) → ((i : ℕ) → i < m → s + i ≡ k → ⊥) → take m (drop s u) ≡ take m (drop s t)
  part_same s m h =
      ext_get_or 0 (take m (drop s u)) (take m (drop s t)) (part_length s m)
      (λ i l. part-rest s m i (h i (omega (arith, simp length-take at l))))

  -- every block but that of byte k
  pub block_same : (j : ℕ) → (j ≡ k / 512 → ⊥) → block_at u j ≡ block_at t j
  block_same j h = part_same (512 * j) 512 (λ i l e. h (omega arith))

  -- its own: byte k % 512 is the wrong one there
  pub block_one : k / 512 < length t / 512
      → (length (block_at t (k / 512)) ≡ 512) × OneByte (block_at t (k / 512)) (block_at u (k / 512)) (k % 512)
  block_one h =
      let s : ℕ = 512 * (k / 512) in
      let z : s + k % 512 ≡ k = omega arith in
      let size : length (block_at t (k / 512)) ≡ 512 = simp (length-take, length-drop) (omega arith) in
      let was : get_or (block_at t (k / 512)) (k % 512) 0 ≡ get_or t k 0 = part_at t s 512 (k % 512) (omega arith) ∙ ap (λ (j : ℕ). get_or t j 0) z in
      let is : get_or (block_at u (k / 512)) (k % 512) 0 ≡ get_or u k 0 = part_at u s 512 (k % 512) (omega arith) ∙ ap (λ (j : ℕ). get_or u j 0) z in (
        size,
        record {
          long = part_length s 512;
          inside = omega arith;
          other = λ e. o.other (sym is ∙ e ∙ was);
          rest = λ i q. part-rest s 512 i (λ e. q (omega arith));
        },
      )

  -- a record of a block before that one, and whether it repeats an earlier one
  record_same : (n : ℕ) → n / 63 < k / 512 → record_at tables u n ≡ record_at tables t n
  unfolding record_at
  record_same n h = part_same (512 * (n / 63) + (4 + 8 * (n % 63))) 8 (λ i l e. omega arith)

  repeats_same : (n : ℕ) → n / 63 < k / 512 → repeats u n ≡ repeats t n
  unfolding repeats
  repeats_same n h =
      any_same (λ m. same_node (node_at u m) (node_at u n)) (λ m. same_node (node_at t m) (node_at t n)) n
      (λ m l. rw (record_same n h, record_same m (omega arith)))

  -- .. is tested as it was
  pub record_tested : (n : ℕ) → n / 63 < k / 512 → record_test u n ≡ record_test t n
  unfolding record_test
  record_tested n h = rw (record_same n h, repeats_same n h)
