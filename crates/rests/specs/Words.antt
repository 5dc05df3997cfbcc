-- What literals and conflicts rest on, as 64-bit words: two for each slot. Assumes nothing.
use Rattle.std.specs.Prelude.{◌≡◌, ◌&&◌, cond, List, [], ◌∷◌, ℕ, suc, ◌+◌, ◌*◌, ◌/◌, ◌%◌, ◌^◌, ◌<◌, ◌≤◌, eqb, ltb, length, get_or}
use Rattle.calculus.specs.Jump.{Rests, nothing, Held, hold}
use Rattle.units.specs.Units.{bit}

-- split i of the set at slot q is bit i % 64 of word 2 q + i / 64
unfoldable pub rest_at : List ℕ → ℕ → Rests
rest_at m q = λ i. ltb i 128 && eqb (bit (get_or m (2 * q + i / 64) 0) (i % 64)) 1

-- both words of the slot are there
abbrev pub There : List ℕ → ℕ → Type 0
There m q = 2 * q + 1 < length m

-- the set s is put at slot q, and no other changes
pub record Put (m : List ℕ) (q : ℕ) (s : Rests) (m' : List ℕ) : Type 0 where
  pub size : length m' ≡ length m
  pub here : rest_at m' q ≡ s
  pub other : (p : ℕ) → (p ≡ q → ⊥) → rest_at m' p ≡ rest_at m p

-- the sets of the slots up to k are empty
pub record Cleared (m : List ℕ) (k : ℕ) (m' : List ℕ) : Type 0 where
  pub size : length m' ≡ length m
  pub none : (q : ℕ) → q ≤ k → rest_at m' q ≡ nothing

-- the slots: 0 the empty set, 1 + q that of the literal at position q; behind the literals held, the last conflict's. As many words as any
-- table needs
abbrev pub sets_size : ℕ
sets_size = 4036

pub record Sets (m : List ℕ) : Type 0 where
  pub size : length m ≡ sets_size
  pub none : rest_at m 0 ≡ nothing

-- at least as many as n nodes need
pub record Slots (n : ℕ) (m : List ℕ) : Type 0 where
  pub size : 2 * n + 4 ≤ length m
  pub none : rest_at m 0 ≡ nothing

-- word k of the set that has split d alone
unfoldable pub word_of : ℕ → ℕ → ℕ
word_of k d = cond (eqb (d / 64) k) (2 ^ (d % 64)) 0

-- the sets of the slots up to k are as they were
abbrev pub SameTo : ℕ → List ℕ → List ℕ → Type 0
SameTo k m m' = (q : ℕ) → q ≤ k → rest_at m' q ≡ rest_at m q

-- the literals of G, the newest first, each with the set at the slot of its position: 1 + how many joined before it
unfoldable pub held_of : List ℕ → List ℕ → List Held
held_of m [] = []
held_of m (l ∷ G) = hold l (rest_at m (suc (length G))) ∷ held_of m G
