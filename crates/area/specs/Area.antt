-- The derivation checker's work area. Place 0: how many clauses; 1: how many splits are open; 2: how many strikes there are. Then come
-- the clauses one after the other, of any length: where each begins, and a slot for each literal, with its strike; the strikes in the
-- order in which they were made; what is saved at each open split; and last the trail. Assumes nothing.
use Rattle.std.specs.Prelude.{◌≡◌, Bool, false, cond, not, ◌&&◌, ◌||◌, ◌⊎◌, Option, None, Some, List, [], ◌∷◌, ℕ, zero, suc, ◌+◌, ◌-◌, ◌*◌, ◌%◌, ◌<◌, ◌≤◌, eqb, leb, ltb, get_or, length}
use Rattle.calculus.specs.Order.{value_of}
pub use Rattle.trail.specs.Trail.{held, value_code, Vals, Trail}
unfoldable pub use Rattle.trail.specs.Trail.{trail}
use Rattle.rules.specs.Rules.{is_holds}
use Rattle.area.specs.declared.Left.{Left}

-- ---- sizes: those of the scope paper, and those that follow

-- '23 under 32,768 16-bit numbers'
abbrev pub area_size : ℕ
area_size = 32768

-- '1 to 2,016 nodes'
abbrev pub most_nodes : ℕ
most_nodes = 2016

-- the most goals that there is room for, and the most clauses and literals that a literal brings
abbrev pub goal_room : ℕ
goal_room = 80

abbrev pub clause_room : ℕ
clause_room = 3

abbrev pub literal_room : ℕ
literal_room = 4

abbrev pub most_clauses : ℕ
most_clauses = goal_room + clause_room * most_nodes

abbrev pub most_slots : ℕ
most_slots = goal_room + literal_room * most_nodes

-- ---- where everything stands

abbrev pub bases_from : ℕ
bases_from = 3

abbrev pub slots_from : ℕ
slots_from = bases_from + (most_clauses + 1)

abbrev pub strikes_from : ℕ
strikes_from = slots_from + most_slots

abbrev pub counts_from : ℕ
counts_from = strikes_from + (most_slots + 1)

abbrev pub sizes_from : ℕ
sizes_from = counts_from + most_nodes

abbrev pub heads_from : ℕ
heads_from = sizes_from + most_nodes

abbrev pub trail_from : ℕ
trail_from = heads_from + most_nodes

-- how many clauses, how many open splits, how many strikes: so the newest strike stands before place `newest`
abbrev pub clause_count : List ℕ → ℕ
clause_count w = get_or w 0 0

abbrev pub depth : List ℕ → ℕ
depth w = get_or w 1 0

abbrev pub newest : List ℕ → ℕ
newest w = get_or w 2 0

-- the slot where clause k begins, which is where the one before it ends
abbrev pub base_at : List ℕ → ℕ → ℕ
base_at w k = get_or w (bases_from + k) 0

-- two things stand in one number: the literal in slot s, below `notes`; and the strike there, 0 where there is none, else `notes`, and
-- `whole` more where the clause is struck, not the literal
abbrev pub notes : ℕ
notes = 8192

abbrev pub whole : ℕ
whole = 16384

abbrev pub packed_at : List ℕ → ℕ → ℕ
packed_at w s = get_or w (slots_from + s) 0

abbrev pub flag_of : ℕ → ℕ
flag_of v = v - v % notes

abbrev pub slot_at : List ℕ → ℕ → ℕ
slot_at w s = packed_at w s % notes

abbrev pub strike_at : List ℕ → ℕ → ℕ
strike_at w s = flag_of (packed_at w s)

abbrev pub is_whole : List ℕ → ℕ → Bool
is_whole w s = leb whole (strike_at w s)

-- the slot of strike i
abbrev pub note_at : List ℕ → ℕ → ℕ
note_at w i = get_or w (strikes_from + i) 0

-- at open split d: how many literals were held, how many clauses there were, and how many strikes
abbrev pub split_count : List ℕ → ℕ → ℕ
split_count w d = get_or w (counts_from + d) 0

abbrev pub split_size : List ℕ → ℕ → ℕ
split_size w d = get_or w (sizes_from + d) 0

abbrev pub split_head : List ℕ → ℕ → ℕ
split_head w d = get_or w (heads_from + d) 0

-- the trail (crate trail), and the literals held true
abbrev pub trail_at : List ℕ → ℕ → ℕ
trail_at w i = get_or w (trail_from + i) 0

abbrev pub g_of : List ℕ → List ℕ
g_of w = held (trail_at w)

-- ---- what each store leaves

-- two work areas agree from place a to place b
abbrev pub Same : ℕ → ℕ → List ℕ → List ℕ → Type 0
Same a b w w' = (i : ℕ) → a ≤ i → i < b → get_or w' i 0 ≡ get_or w i 0

-- l has joined the trail
pub record Entered (n l : ℕ) (w w' : List ℕ) : Type 0 where
  pub size : length w' ≡ length w
  pub trail : Trail n (trail_at w')
  pub list : g_of w' ≡ l ∷ g_of w
  pub count : trail_at w' 0 ≡ suc (trail_at w 0)
  pub lits : (q : ℕ) → q < trail_at w 0 → trail_at w' (1 + q) ≡ trail_at w (1 + q)
  pub top : trail_at w' (1 + trail_at w 0) ≡ l
  pub under : Same 0 trail_from w w'

-- only the first c literals are held
pub record Shrunk (n c : ℕ) (w w' : List ℕ) : Type 0 where
  pub size : length w' ≡ length w
  pub trail : Trail n (trail_at w')
  pub count : trail_at w' 0 ≡ c
  pub lits : (q : ℕ) → q < c → trail_at w' (1 + q) ≡ trail_at w (1 + q)
  pub under : Same 0 trail_from w w'

-- the strike in slot m is the newest
pub record Struck (kind m : ℕ) (w w' : List ℕ) : Type 0 where
  pub size : length w' ≡ length w
  pub head : newest w' ≡ suc (newest w)
  pub note : note_at w' (newest w) ≡ m
  pub here : strike_at w' m ≡ notes + kind
  pub older : (i : ℕ) → (i ≡ newest w → ⊥) → note_at w' i ≡ note_at w i
  pub others : (s : ℕ) → s < most_slots → (s ≡ m → ⊥) → strike_at w' s ≡ strike_at w s
  pub slots : (s : ℕ) → s < most_slots → slot_at w' s ≡ slot_at w s
  pub else : (i : ℕ) → (i ≡ 2 → ⊥) → (i < slots_from) ⊎ (counts_from ≤ i) → get_or w' i 0 ≡ get_or w i 0

-- the split is saved
pub record Saved (w w' : List ℕ) : Type 0 where
  pub size : length w' ≡ length w
  pub depths : depth w' ≡ suc (depth w)
  pub count : split_count w' (depth w) ≡ trail_at w 0
  pub clauses : split_size w' (depth w) ≡ clause_count w
  pub head : split_head w' (depth w) ≡ newest w
  pub else : (i : ℕ) → (i ≡ 1 → ⊥) → (i ≡ counts_from + depth w → ⊥) → (i ≡ sizes_from + depth w → ⊥) → (i ≡ heads_from + depth w → ⊥)
      → get_or w' i 0 ≡ get_or w i 0

-- ---- clauses as the code reads them

-- how many slots clause k has
abbrev pub length_at : List ℕ → ℕ → ℕ
length_at w k = base_at w (k + 1) - base_at w k

-- the clauses of the list lie within the slots
pub record Ranged (w : List ℕ) : Type 0 where
  pub size : area_size ≤ length w
  pub count : clause_count w ≤ most_clauses
  pub ends : (k : ℕ) → k < clause_count w → (base_at w k ≤ base_at w (k + 1)) × (base_at w (k + 1) ≤ most_slots)

-- in one of m slots from s on stands that the clause is struck
unfoldable pub whole_in : List ℕ → ℕ → ℕ → Bool
whole_in w s zero = false
whole_in w s (suc m) = is_whole w s || whole_in w (suc s) m

-- clause k is in the list, and not struck
abbrev pub stands_in : List ℕ → ℕ → Bool
stands_in w k = ltb k (clause_count w) && not (whole_in w (base_at w k) (length_at w k))

-- those of m slots from s on with no strike
unfoldable pub free_from : List ℕ → ℕ → ℕ → List ℕ
free_from w s zero = []
free_from w s (suc m) = cond (eqb (strike_at w s) 0) (s ∷ free_from w (suc s) m) (free_from w (suc s) m)

abbrev pub free_in : List ℕ → ℕ → List ℕ
free_in w k = free_from w (base_at w k) (length_at w k)

-- a slot that was found, + 1; 0 where none was
abbrev pub found_of : Option ℕ → ℕ
found_of None = 0
found_of (Some s) = suc s

-- the one slot of a list, + 1; 0 where there is none, or another
abbrev pub one_slot : List ℕ → ℕ
one_slot [] = 0
one_slot (s ∷ []) = suc s
one_slot (s ∷ q ∷ ss) = 0

-- the one of m slots from s on with no strike, + 1, unless there it stands that the clause is struck; and that of clause k
abbrev pub only_from : List ℕ → ℕ → ℕ → ℕ
only_from w s m = cond (whole_in w s m) 0 (one_slot (free_from w s m))

abbrev pub only_in : List ℕ → ℕ → ℕ
only_in w k = cond (ltb k (clause_count w)) (only_from w (base_at w k) (length_at w k)) 0

-- clause k is in the list and not struck, and no slot of it is without a strike
abbrev pub empty_in : List ℕ → ℕ → Bool
empty_in w k = stands_in w k && eqb (length (free_in w k)) 0

-- how many slots there are, and the first of them
abbrev pub left_of : List ℕ → Left
left_of ss = record { count = length ss; first = get_or ss 0 0 }

-- the first of m slots from s on with no strike and a literal that is held true, + 1; 0 where there is none
unfoldable pub true_from : List ℕ → ℕ → ℕ → ℕ
true_from w s zero = 0
true_from w s (suc m) = cond (eqb (strike_at w s) 0 && is_holds (value_of (g_of w) (slot_at w s))) (suc s) (true_from w (suc s) m)
