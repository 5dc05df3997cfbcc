-- The literals held with what they rest on, as words have it. Assumes nothing.
use mathlib.Core.Path.{◌≡◌, refl, sym, ap, ap₂, ◌∙◌, fun_ext}
use mathlib.Core.Bool.{false, ◌&&◌}
use mathlib.Core.List.{List, [], ◌∷◌}
use Prim.Native.Nat.{ℕ, suc, ◌+◌, ◌*◌, ◌/◌, ◌%◌, ◌<◌, ◌≤◌}
use native.Mathlib.Omega.{arith}
use native.Mathlib.Decide.{dec_lt}
use lib.Dec.{eqb, ltb}
use lib.ListN.{length, get_or, replicate, length-replicate, get_or-replicate}
use borrow.Author.Tests.{lt-ltb, le-ltb}
use Rattle.calculus.specs.Jump.{Rests, nothing, Held, hold, literals}
use Rattle.units.specs.Units.{bit}
use Rattle.units.proofs.Bits.{bit-none}
use Rattle.rests.specs.Words.{rest_at, Put, Cleared, Sets, sets_size, Slots, SameTo, held_of}

pub held-literals : (m G : List ℕ) → literals (held_of m G) ≡ G
unfolding held_of
held-literals m [] = refl
held-literals m (l ∷ G) = ap (l ∷◌) (held-literals m G)

-- they are read off the slots of their positions
pub held_same : (m m' G : List ℕ) → SameTo (length G) m m' → held_of m' G ≡ held_of m G
unfolding held_of
held_same m m' [] h = refl
held_same m m' (l ∷ G) h =
    ap₂ (λ (s : Rests) (H : List Held). hold l s ∷ H) (h (suc (length G)) (omega arith)) (held_same m m' G (λ q b. h q (omega arith)))

pub put_same : {m m' : List ℕ} {p : ℕ} {s : Rests} → Put m p s m' → (k : ℕ) → k < p → SameTo k m m'
put_same u k h q b = u.other q (λ e. omega arith)

pub put_slots : {n : ℕ} {m m' : List ℕ} {p : ℕ} {s : Rests} → Slots n m → Put m p s m' → 0 < p → Slots n m'
put_slots h u b = record { size = omega (arith, u.size, h.size); none = u.other 0 (λ e. omega arith) ∙ h.none }

-- a literal joins, with the set that was put at its slot
pub held-joined : {m m' : List ℕ} {s : Rests} (G : List ℕ) (l : ℕ) → Put m (suc (length G)) s m' → held_of m' (l ∷ G) ≡ hold l s ∷ held_of m G
unfolding held_of
held-joined {m} {m'} G l u =
    ap₂ (λ (s : Rests) (H : List Held). hold l s ∷ H) u.here (held_same m m' G (put_same u (length G) (omega arith)))

-- a slot whose words are 0 has the empty set
pub rests_zero : (m : List ℕ) (q : ℕ) → ((j : ℕ) → j < 2 → get_or m (2 * q + j) 0 ≡ 0) → rest_at m q ≡ nothing
unfolding rest_at
rests_zero m q z = fun_ext none
  where
    none : (i : ℕ) → (ltb i 128 && eqb (bit (get_or m (2 * q + i / 64) 0) (i % 64)) 1) ≡ false
    none i = go (dec_lt i 128)
      where
        go : Dec (i < 128) → (ltb i 128 && eqb (bit (get_or m (2 * q + i / 64) 0) (i % 64)) 1) ≡ false
        go (yes h) = rw (lt-ltb i 128 h, z (i / 64) (omega (arith, h)), bit-none (i % 64))
        go (no h) = rw (le-ltb i 128 (omega (arith, h)))

-- no set has anything yet
pub rests_blank : (q : ℕ) → 2 * q + 1 < sets_size → rest_at (replicate sets_size 0) q ≡ nothing
rests_blank q b = rests_zero (replicate sets_size 0) q (λ j h. get_or-replicate {A = ℕ} sets_size (2 * q + j) 0 0 (omega (arith, b, h)))

pub sets_blank : Sets (replicate sets_size 0)
sets_blank = record { size = length-replicate {A = ℕ} sets_size 0; none = rests_blank 0 (omega arith) }

-- as many words as are asked for, each 0
pub slots_zero : (n k : ℕ) → 2 * n + 4 ≤ k → Slots n (replicate k 0)
slots_zero n k b = record {
  size = omega (arith, length-replicate {A = ℕ} k 0, b);
  none = rests_zero (replicate k 0) 0
      (λ j h. get_or-replicate {A = ℕ} k (2 * 0 + j) 0 0 (omega (arith, b, h)));
}

pub sets_slots : {n : ℕ} {m : List ℕ} → 2 * n + 4 ≤ sets_size → Sets m → Slots n m
sets_slots b s = record { size = omega (arith, s.size, b); none = s.none }

pub slots_sets : {n : ℕ} {m m' : List ℕ} → length m' ≡ length m → Sets m → Slots n m' → Sets m'
slots_sets e s k = record { size = e ∙ s.size; none = k.none }

-- where the sets of the slots up to k are cleared, they are as if no set had anything yet
pub cleared_same : {m m' : List ℕ} (k : ℕ) → 2 * k + 1 < sets_size → Cleared m k m' → SameTo k (replicate sets_size 0) m'
cleared_same k h c q b = c.none q b ∙ sym (rests_blank q (omega (arith, h, b)))

pub cleared_slots : {n : ℕ} {m m' : List ℕ} (k : ℕ) → Slots n m → Cleared m k m' → Slots n m'
cleared_slots k s c = record { size = omega (arith, c.size, s.size); none = c.none 0 (omega arith) }
