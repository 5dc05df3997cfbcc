-- The slots with a strike as a list, the newest first. Assumes nothing.
use Rattle.std.specs.Prelude.{◌≡◌, true, false, not, ◌⊎◌, List, [], ◌∷◌, ◌++◌, ℕ, ◌<◌, ◌≤◌, eqb, get_or, length}
use Rattle.calculus.specs.Order.{mem}
use Rattle.area.specs.Area.{most_slots, slots_from, counts_from, newest, slot_at, strike_at, note_at}

-- how many there are
abbrev pub head_of : List ℕ → ℕ
head_of L = length L

-- the slots of a list are noted in turn, the first one last, each once
abbrev pub Chain : (ℕ → ℕ) → List ℕ → Type 0
Chain f [] = Unit {0}
Chain f (m ∷ L) = ((m < most_slots) × (mem m L ≡ false) × (f (length L) ≡ m)) × Chain f L

-- L are the slots with a strike
pub record Strikes (w L : List ℕ) : Type 0 where
  pub head : newest w ≡ head_of L
  pub chain : Chain (note_at w) L
  pub flags : (m : ℕ) → m < most_slots → eqb (strike_at w m) 0 ≡ not (mem m L)

-- there were so many strikes once
abbrev pub Reaches : ℕ → List ℕ → Type 0
Reaches head w = (K : List ℕ) × (L : List ℕ) × (Strikes w (K ++ L) × (head ≡ head_of L))

-- the strikes since there were `head` are undone, the others are kept, and all else is as it was
pub record Unwound (head : ℕ) (w w' : List ℕ) : Type 0 where
  pub size : length w' ≡ length w
  pub strikes : (K L : List ℕ) → Strikes w (K ++ L) → head ≡ head_of L → Strikes w' L × ((m : ℕ) → mem m L ≡ true → strike_at w' m ≡ strike_at w m)
  pub slots : (s : ℕ) → slot_at w' s ≡ slot_at w s
  pub else : (i : ℕ) → (i ≡ 2 → ⊥) → (i < slots_from) ⊎ (counts_from ≤ i) → get_or w' i 0 ≡ get_or w i 0
