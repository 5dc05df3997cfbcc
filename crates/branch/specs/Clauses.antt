-- Clauses one after the other in slots, and how they are stored. Assumes nothing.
use Rattle.std.specs.Prelude.{◌≡◌, ◌⊎◌, List, [], ◌∷◌, ◌++◌, map, ℕ, zero, suc, ◌+◌, ◌<◌, ◌≤◌, get_or, length}
use Rattle.scope.specs.Table.{arity}
use Rattle.calculus.specs.Expansion.{chosen}
use Rattle.index.specs.Index.{index_node}
use Rattle.area.specs.Area.{area_size, most_clauses, most_slots, strikes_from, clause_count, depth, newest, base_at, packed_at, slot_at}

-- the literals of clauses, one after the other
unfoldable pub flat : List (List ℕ) → List ℕ
flat [] = []
flat (c ∷ cs) = c ++ flat cs

-- where clause k begins among them
unfoldable pub offset : List (List ℕ) → ℕ → ℕ
offset cs zero = 0
offset [] (suc k) = 0
offset (c ∷ cs) (suc k) = length c + offset cs k

-- the work area has the clauses cs
pub record Listed (cs : List (List ℕ)) (w : List ℕ) : Type 0 where
  pub count : clause_count w ≡ length cs
  pub bases : (k : ℕ) → k ≤ length cs → base_at w k ≡ offset cs k
  pub slots : (i : ℕ) → i < length (flat cs) → slot_at w i ≡ get_or (flat cs) i 0

-- m numbers from a place on are those of f, and nothing else is changed
pub record Filled (at m : ℕ) (f : ℕ → ℕ) (w w' : List ℕ) : Type 0 where
  pub size : length w' ≡ length w
  pub here : (i : ℕ) → i < m → get_or w' (at + i) 0 ≡ f i
  pub else : (i : ℕ) → (i < at) ⊎ (at + m ≤ i) → get_or w' i 0 ≡ get_or w i 0

-- the clauses ds are appended
pub record Appended (ds : List (List ℕ)) (w w' : List ℕ) : Type 0 where
  pub size : length w' ≡ length w
  pub count : clause_count w' ≡ clause_count w + length ds
  pub bases : (j : ℕ) → j ≤ length ds → base_at w' (clause_count w + j) ≡ base_at w (clause_count w) + offset ds j
  pub slots : (i : ℕ) → i < length (flat ds) → packed_at w' (base_at w (clause_count w) + i) ≡ get_or (flat ds) i 0
  pub old_bases : (k : ℕ) → k ≤ clause_count w → base_at w' k ≡ base_at w k
  pub old_slots : (i : ℕ) → i < base_at w (clause_count w) → packed_at w' i ≡ packed_at w i
  pub beyond : (i : ℕ) → base_at w (clause_count w) + length (flat ds) ≤ i → packed_at w' i ≡ packed_at w i
  pub depths : depth w' ≡ depth w
  pub heads : newest w' ≡ newest w
  pub later : (i : ℕ) → strikes_from ≤ i → get_or w' i 0 ≡ get_or w i 0

-- there is room for k clauses more, with m literals
pub record Room (k m : ℕ) (w : List ℕ) : Type 0 where
  pub size : area_size ≤ length w
  pub clauses : clause_count w + k ≤ most_clauses
  pub slots : base_at w (clause_count w) + m ≤ most_slots

-- the clauses that choices of a node's operands make; and a node with at least m operands
abbrev pub choices : List ℕ → ℕ → List (List ℕ) → List (List ℕ)
choices x node cs = map (map (chosen (index_node x node))) cs

abbrev pub Chooses : ℕ → List ℕ → ℕ → ℕ → Type 0
Chooses m x n node = (node < n) × (m ≤ arity (index_node x node).kind)
