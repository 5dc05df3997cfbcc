-- The least position in the set, found by the sum and a word. Assumes nothing.
use mathlib.Core.Path.{◌≡◌, sym, ap, ◌∙◌}
use mathlib.Core.Bool.{true, false, cond, not, false≢true}
use mathlib.Core.List.{List}
use Prim.Native.Nat.{ℕ, ◌+◌, ◌*◌, ◌/◌, ◌%◌, ◌^◌, ◌<◌}
use native.Mathlib.Nat.{lt_of_not-le}
use native.Mathlib.Omega.{arith}
use native.Mathlib.Decide.{ℕ_discrete}
use lib.Dec.{eqb}
use lib.Count.{count_trailing_zeros}
use lib.ListN.{get_or}
use borrow.Author.Tests.{eq-eqb, ne_eqb}
use Rattle.units.specs.Units.{blocks, member, some_in, Units, Some, Empty, First}
use Rattle.units.proofs.Bits.{Lowest, lowest, bit-none}
use Rattle.units.proofs.Sets.{some_block, some_past}

module _ (m : List ℕ) where
  -- the sum's bit of a block is 1 where its word is not 0, and 0 where it is
  pub some_one : (b : ℕ) → some_in m b ≡ 1 → (b < blocks) × (get_or m b 0 ≡ 0 → ⊥)
  some_one b h = (in_range, λ e. omega (arith, h, some_block m b in_range, zero e))
    where
      in_range : b < blocks
      in_range = lt_of_not-le (λ l. omega (arith, h, some_past m b l))

      zero : get_or m b 0 ≡ 0 → ◌≡◌ {A = ℕ} (cond (eqb (get_or m b 0) 0) 0 1) 0
      zero e = rw (eq-eqb (get_or m b 0) 0 e)

  pub word_none : (b : ℕ) → b < blocks → some_in m b ≡ 0 → get_or m b 0 ≡ 0
  word_none b l h = go (ℕ_discrete (get_or m b 0) 0)
    where
      one : (get_or m b 0 ≡ 0 → ⊥) → ◌≡◌ {A = ℕ} (cond (eqb (get_or m b 0) 0) 0 1) 1
      one e = rw (ne_eqb (get_or m b 0) 0 e)

      go : Dec (get_or m b 0 ≡ 0) → get_or m b 0 ≡ 0
      go (yes e) = e
      go (no e) = absurd (omega (arith, h, some_block m b l, one e))

module _ (m : List ℕ) (U : Units m) where
  -- a word that is 0 has no position
  none_in : (j : ℕ) → get_or m (j / 64) 0 ≡ 0 → member m j ≡ 0
  unfolding member
  none_in j e = rw e (bit-none (j % 64))

  none_found : get_or m blocks 0 ≡ 0 → Empty m
  none_found e q h =
      none_in q (word_none m (q / 64) (omega arith) (sym (U.sums (q / 64) (omega arith)) ∙ rw e (bit-none (q / 64))))

  -- where there is a position, the sum is not 0
  pub sum-some : Some m → get_or m blocks 0 ≡ 0 → ⊥
  sum-some s e = omega (arith, s.2, none_found e s.0 s.1)

  -- the lowest bit of the sum is that of the first word that is not 0, and its lowest bit that of the least position
  module _ (low : get_or m blocks 0 < 2 ^ 64) (n : get_or m blocks 0 ≡ 0 → ⊥) where
    abbrev block : ℕ
    block = count_trailing_zeros 64 (get_or m blocks 0)

    low-block : Lowest 64 (get_or m blocks 0) block
    low-block = lowest 64 (get_or m blocks 0) (omega (arith, n)) low

    pub block-some : (block < blocks) × (get_or m block 0 ≡ 0 → ⊥)
    block-some = some_one m block (sym (U.sums block low-block.low) ∙ low-block.here)

    module _ (fits : get_or m block 0 < 2 ^ 64) where
      abbrev place : ℕ
      place = count_trailing_zeros 64 (get_or m block 0)

      low-place : Lowest 64 (get_or m block 0) place
      low-place = lowest 64 (get_or m block 0) (omega (arith, block-some.1)) fits

      earlier : (j : ℕ) → j < 64 * block + place → Dec (j / 64 ≡ block) → member m j ≡ 0
      unfolding member
      earlier j k (yes e) = rw e (low-place.under (j % 64) (omega arith))
      earlier j k (no e) =
          none_in j (word_none m (j / 64) (omega (arith, low-place.low, block-some.0))
          (sym (U.sums (j / 64) (omega (arith, low-place.low, block-some.0))) ∙ low-block.under (j / 64) (omega (arith, low-place.low))))

      pub first_found : First m (64 * block + place)
      unfolding member
      first_found =
          let d : (64 * block + place) / 64 ≡ block = omega (arith, low-place.low) in
          let r : (64 * block + place) % 64 ≡ place = omega (arith, low-place.low) in
          record {
            low = omega (arith, low-place.low, block-some.0);
            here = rw (d, r) low-place.here;
            before = λ j k. earlier j k (ℕ_discrete (j / 64) block);
          }

  -- the test of the sum
  module _ (fits : (i : ℕ) → get_or m i 0 < 2 ^ 64) where
    pub some-found : not (eqb (get_or m blocks 0) 0) ≡ true → Some m
    some-found e =
        let f = first_found (fits blocks) (λ z. false≢true (sym (ap not (eq-eqb (get_or m blocks 0) 0 z)) ∙ e)) (fits _) in
        (_, f.low, f.here)

    pub tested-none : not (eqb (get_or m blocks 0) 0) ≡ false → Empty m
    tested-none e = go (ℕ_discrete (get_or m blocks 0) 0)
      where
        go : Dec (get_or m blocks 0 ≡ 0) → Empty m
        go (yes z) = none_found z
        go (no n) = absurd (false≢true (sym e ∙ ap not (ne_eqb (get_or m blocks 0) 0 n)))
