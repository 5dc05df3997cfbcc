-- The set is emptied: the words that the sum tells of become 0, one after the other. Assumes nothing.
use mathlib.Core.Path.{◌≡◌, sym, ◌∙◌}
use mathlib.Core.List.{List}
use Prim.Native.Nat.{ℕ, ◌-◌, ◌^◌, ◌<◌}
use native.Mathlib.Omega.{arith}
use native.Mathlib.Decide.{ℕ_discrete}
use lib.Bits.{bit_and, and_le_r}
use lib.Count.{count_trailing_zeros}
use lib.ListN.{length, get_or, set, length-set}
use lib.Seq.{get_or-set_same, get_or-set_other}
use Rattle.units.specs.Units.{blocks, words, bit, some_in, Units, Empty}
use Rattle.units.proofs.Bits.{Turned, Lowest, lowest, less_lowest, bit-none}
use Rattle.units.proofs.Sets.{some_block, some_same, cleared}
use Rattle.units.proofs.Firsts.{some_one, word_none}

-- the bits of s tell which words are not 0 yet
pub record Draining (m : List ℕ) (s : ℕ) : Type 0 where
  pub size : length m ≡ words
  pub low : s < 2 ^ 64
  pub sums : (b : ℕ) → b < 64 → bit s b ≡ some_in m b

pub draining_starts : {m : List ℕ} → Units m → get_or m blocks 0 < 2 ^ 64 → Draining m (get_or m blocks 0)
draining_starts U l = record { size = U.size; low = l; sums = U.sums }

module _ {m : List ℕ} {s : ℕ} (d : Draining m s) where
  -- the lowest of them
  module _ (n : s ≡ 0 → ⊥) where
    abbrev block : ℕ
    block = count_trailing_zeros 64 s

    low-block : Lowest 64 s block
    low-block = lowest 64 s (omega (arith, n)) d.low

    pub block-low : block < blocks
    block-low = (some_one m block (sym (d.sums block low-block.low) ∙ low-block.here)).0

    pub less : bit_and s (s - 1) < s
    less = omega (arith, and_le_r s (s - 1), n)

    pub draining-goes : Draining (set m block 0) (bit_and s (s - 1))
    draining-goes = record {
      size = length-set m block 0 ∙ d.size;
      low = omega (arith, less, d.low);
      sums = λ b h. go b h (ℕ_discrete b block);
    }
      where
        t : Turned s (bit_and s (s - 1)) block 0
        t = less_lowest 64 s (omega (arith, n)) d.low

        gone : some_in (set m block 0) block ≡ 0
        gone = some_block (set m block 0) block block-low ∙ rw (get_or-set_same m block 0 0 (omega (arith, d.size, block-low)))

        go : (b : ℕ) → b < 64 → Dec (b ≡ block) → bit (bit_and s (s - 1)) b ≡ some_in (set m block 0) b
        go b h (yes e) = rw e (t.here ∙ sym gone)
        go b h (no e) = t.other b e ∙ d.sums b h ∙ sym (some_same m (set m block 0) b (λ l. get_or-set_other m block b 0 0 e))

  -- none is left
  pub drained : s ≡ 0 → Units (set m blocks 0) × Empty (set m blocks 0)
  drained z = cleared (set m blocks 0) (length-set m blocks 0 ∙ d.size) (λ i h. go i h (ℕ_discrete i blocks))
    where
      go : (i : ℕ) → i < words → Dec (i ≡ blocks) → get_or (set m blocks 0) i 0 ≡ 0
      go i h (yes e) = rw e (get_or-set_same m blocks 0 0 (omega (arith, d.size)))
      go i h (no e) =
          get_or-set_other m blocks i 0 0 e ∙ word_none m i (omega (arith, h, e)) (sym (d.sums i (omega (arith, h))) ∙ rw z (bit-none i))
