-- A position joins the set or leaves it: its word and the sum change by one bit at most. Assumes nothing.
use mathlib.Core.Path.{◌≡◌, sym, ap, ◌∙◌}
use mathlib.Core.Bool.{Bool, true, false, cond}
use mathlib.Core.List.{List}
use Prim.Native.Nat.{ℕ, ◌-◌, ◌*◌, ◌/◌, ◌%◌, ◌^◌, ◌<◌, ◌≤◌}
use native.Mathlib.Nat.{one-mul, zero-mul, sub-zero}
use native.Mathlib.Omega.{arith}
use native.Mathlib.Decide.{ℕ_discrete, dec_lt}
use lib.Dec.{eqb}
use lib.ListN.{length, get_or, set, length-set}
use lib.Seq.{get_or-set_same, get_or-set_other}
use lib.Pow.{shl_exact}
use lib.Bits.{bit_or}
use mir.Val.{bool_byte}
use borrow.Author.Tests.{ne_eqb, lt-ltb, le-ltb}
use Rattle.units.specs.Units.{positions, blocks, words, bit, member, some_in, Units, Empty, Putted}
use Rattle.units.proofs.Bits.{Turned, turned_none, clear_bit, bit-none, or_bit}

-- ---- the sum's bit of a block

pub some_block : (m : List ℕ) (b : ℕ) → b < blocks → some_in m b ≡ cond (eqb (get_or m b 0) 0) 0 1
unfolding some_in
some_block m b h = rw (lt-ltb b blocks h)

pub some_past : (m : List ℕ) (b : ℕ) → blocks ≤ b → some_in m b ≡ 0
unfolding some_in
some_past m b h = rw (le-ltb b blocks h)

-- it goes by the block's word alone
pub some_same : (m m' : List ℕ) (b : ℕ) → (b < blocks → get_or m' b 0 ≡ get_or m b 0) → some_in m' b ≡ some_in m b
some_same m m' b e = go (dec_lt b blocks)
  where
    go : Dec (b < blocks) → some_in m' b ≡ some_in m b
    go (yes l) = some_block m' b l ∙ ap (λ (x : ℕ). cond (eqb x 0) 0 1) (e l) ∙ sym (some_block m b l)
    go (no l) = some_past m' b (omega arith) ∙ sym (some_past m b (omega arith))

-- ---- the bit that the code adds or takes away, in the word and in the sum

-- a bool, shifted in a word
abbrev shifted : Bool → ℕ → ℕ
shifted t i = (bool_byte t * 2 ^ i) % 2 ^ 64

-- a position's bit
abbrev placed : ℕ → ℕ
placed i = (1 * 2 ^ i) % 2 ^ 64

placed-is : (i : ℕ) → i < 64 → placed i ≡ 2 ^ i
placed-is i h = shl_exact 1 i 64 (omega arith) (omega arith) ∙ one-mul (2 ^ i)

-- a bit that is there leaves where a test holds
lowered : (t : Bool) (y i : ℕ) → i < 64 → bit y i ≡ 1 → (shifted t i ≤ y) × Turned y (y - shifted t i) i (cond t 0 1)
lowered true y i h e = rw (placed-is i h) (clear_bit y i e)
lowered false y i h e = rw (zero-mul (2 ^ i), sub-zero y) (omega arith, turned_none y i 1 e)

-- a word with a bit is not 0
bit-some : (x i : ℕ) → bit x i ≡ 1 → x ≡ 0 → ⊥
bit-some x i h e =
    let q : bit x i ≡ 0 = rw e (bit-none i) in
    omega arith

-- ---- the word of position q becomes x, and the sum y

abbrev word : List ℕ → ℕ → ℕ
word m q = get_or m (q / 64) 0

abbrev put_word : List ℕ → ℕ → ℕ → List ℕ
put_word m q x = set m (q / 64) x

module _ (m : List ℕ) (q : ℕ) (U : Units m) (hq : q < positions) where
  -- the store of the word does not touch the sum
  sum_kept : (x : ℕ) → get_or (put_word m q x) blocks 0 ≡ get_or m blocks 0
  sum_kept x = get_or-set_other m (q / 64) blocks x 0 (λ e. omega (arith, e))

  -- the sum's place, where a word was stored
  sum_in : (x : ℕ) → blocks < length (put_word m q x)
  sum_in x = omega (arith, length-set m (q / 64) x, U.size)

  sum-bit : bit (get_or m blocks 0) (q / 64) ≡ cond (eqb (word m q) 0) 0 1
  sum-bit = U.sums (q / 64) (omega arith) ∙ some_block m (q / 64) (omega arith)

  -- bit q % 64 of the word changes, and the bit of its block in the sum goes with the word
  module _ (x y v : ℕ) (tx : Turned (word m q) x (q % 64) v) (ty : Turned (get_or m blocks 0) y (q / 64) (cond (eqb x 0) 0 1)) where
    abbrev after : List ℕ
    after = set (put_word m q x) blocks y

    word-now : get_or after (q / 64) 0 ≡ x
    word-now =
        get_or-set_other (put_word m q x) blocks (q / 64) y 0 (λ e. omega (arith, e)) ∙ get_or-set_same m (q / 64) x 0 (omega (arith, U.size))

    sum-now : get_or after blocks 0 ≡ y
    sum-now = get_or-set_same (put_word m q x) blocks y 0 (sum_in x)

    other-now : (b : ℕ) → b < blocks → (b ≡ q / 64 → ⊥) → get_or after b 0 ≡ get_or m b 0
    other-now b l d = get_or-set_other (put_word m q x) blocks b y 0 (λ e. omega (arith, e)) ∙ get_or-set_other m (q / 64) b x 0 d

    sums-now : (b : ℕ) → b < 64 → Dec (b ≡ q / 64) → bit (get_or after blocks 0) b ≡ some_in after b
    sums-now b h (yes e) =
        rw e (ap (λ (z : ℕ). bit z (q / 64)) sum-now ∙ ty.here ∙ ap (λ (z : ℕ). cond (eqb z 0) 0 1) (sym word-now)
        ∙ sym (some_block after (q / 64) (omega arith)))
    sums-now b h (no e) =
        ap (λ (z : ℕ). bit z b) sum-now ∙ ty.other b e ∙ U.sums b h ∙ sym (some_same m after b (λ l. other-now b l e))

    member-now : (j : ℕ) → j < positions → (j ≡ q → ⊥) → Dec (j / 64 ≡ q / 64) → member after j ≡ member m j
    unfolding member
    member-now j h n (yes e) =
        ap (λ (i : ℕ). bit (get_or after i 0) (j % 64)) e ∙ ap (λ (z : ℕ). bit z (j % 64)) word-now
        ∙ tx.other (j % 64) (λ d. n (omega (arith, d))) ∙ ap (λ (i : ℕ). bit (get_or m i 0) (j % 64)) (sym e)
    member-now j h n (no e) = ap (λ (z : ℕ). bit z (j % 64)) (other-now (j / 64) (omega arith) e)

    here-now : member after q ≡ v
    unfolding member
    here-now = ap (λ (z : ℕ). bit z (q % 64)) word-now ∙ tx.here

    changed : Putted m q v after
    changed = record {
      units = record {
        size = length-set (put_word m q x) blocks y ∙ length-set m (q / 64) x ∙ U.size;
        sums = λ b h. sums-now b h (ℕ_discrete b (q / 64));
      };
      here = here-now;
      other = λ j h n. member-now j h n (ℕ_discrete (j / 64) (q / 64));
    }

  -- whether it was in the set or not
  pub added : (let x = bit_or (word m q) (placed (q % 64)) in
      Putted m q 1 (set (put_word m q x) blocks (bit_or (get_or (put_word m q x) blocks 0) (placed (q / 64)))))
  added =
      let x = bit_or (word m q) (2 ^ (q % 64)) in
      let n : eqb x 0 ≡ false = ne_eqb x 0 (bit-some x (q % 64) (or_bit (word m q) (q % 64)).here) in
      rw (placed-is (q % 64) (omega arith), placed-is (q / 64) (omega arith), sum_kept x)
      (changed x _ 1 (or_bit (word m q) (q % 64)) (rw n (or_bit (get_or m blocks 0) (q / 64))))

  module _ (h : member m q ≡ 1) where
    pub word-leaves : (placed (q % 64) ≤ word m q) × Turned (word m q) (word m q - placed (q % 64)) (q % 64) 0
    unfolding member
    word-leaves = lowered true (word m q) (q % 64) (omega arith) h

    pub sum-leaves : (x : ℕ)
        → (let y = get_or (put_word m q x) blocks 0 in
        let d = shifted (eqb x 0) (q / 64) in
        (d ≤ y) × Turned (get_or m blocks 0) (y - d) (q / 64) (cond (eqb x 0) 0 1))
    unfolding member
    sum-leaves x =
        let n : eqb (word m q) 0 ≡ false = ne_eqb (word m q) 0 (bit-some (word m q) (q % 64) h) in
        rw (sum_kept x) (lowered (eqb x 0) (get_or m blocks 0) (q / 64) (omega arith) (sum-bit ∙ rw n))

    pub left : (let x = word m q - placed (q % 64) in
        Putted m q 0 (set (put_word m q x) blocks (get_or (put_word m q x) blocks 0 - shifted (eqb x 0) (q / 64))))
    left =
        let x = word m q - placed (q % 64) in
        changed x _ 0 word-leaves.1 (sum-leaves x).1

-- ---- no position

pub cleared : (m : List ℕ) → length m ≡ words → ((i : ℕ) → i < words → get_or m i 0 ≡ 0) → Units m × Empty m
unfolding member
cleared m z e = (
  record { size = z; sums = λ b h. rw (e blocks (omega arith)) (bit-none b ∙ sym (none b (dec_lt b blocks))) },
  λ q h. rw (e (q / 64) (omega arith)) (bit-none (q % 64)),
)
  where
    none : (b : ℕ) → Dec (b < blocks) → some_in m b ≡ 0
    none b (yes l) = some_block m b l ∙ rw (e b (omega arith))
    none b (no l) = some_past m b (omega arith)
