-- What the work area says of a derivation under way: the open branch, and those that wait. Assumes nothing.
use Rattle.std.specs.Prelude.{◌≡◌, Bool, cond, List, [], ◌∷◌, ◌++◌, map, ℕ, suc, ◌+◌, ◌<◌, ◌≤◌, get_or, length}
use Rattle.scope.specs.declared.Node.{Node}
use Rattle.calculus.specs.Expansion.{neg, expand}
use Rattle.calculus.specs.Order.{clauses}
use Rattle.calculus.specs.Model.{All, Table, Fresh}
pub use Rattle.calculus.specs.Model.{Goals}
use Rattle.index.specs.Index.{most_nodes, index_node}
use Rattle.rules.specs.Rules.{Place, Branch, join}
use Rattle.area.specs.Area.{area_size, most_clauses, most_slots, strikes_from, trail_from, clause_count, depth, newest, base_at, strike_at, is_whole, split_count, split_size, split_head, trail_at, trail, g_of, Trail, Same}
use Rattle.area.specs.Strikes.{head_of, Strikes}
use Rattle.branch.specs.Clauses.{flat, offset, Listed}

-- ---- nodes

-- how many numbers the nodes take
abbrev pub node_cells : ℕ
node_cells = 8064

-- what the checker is given: the nodes of a table, each where an index has it. It needs no edges and no codes
pub record Indexed (x : List ℕ) (n : ℕ) : Type 0 where
  pub size : length x ≡ node_cells
  pub few : n ≤ most_nodes
  pub table : Table n (index_node x)

-- ---- strikes

-- a strike stands at a literal of a clause: of that literal, or of the whole clause
pub record Strike : Type 0 where
  pub clause : ℕ
  pub position : ℕ
  pub whole : Bool

abbrev pub strike : ℕ → ℕ → Bool → Strike
strike k p b = record { clause = k; position = p; whole = b }

-- the clauses and the literals that strikes strike
unfoldable pub clauses_in : List Strike → List ℕ
clauses_in [] = []
clauses_in (s ∷ S) = cond s.whole (s.clause ∷ clauses_in S) (clauses_in S)

unfoldable pub literals_in : List Strike → List Place
literals_in [] = []
literals_in (s ∷ S) = cond s.whole (literals_in S) (record { clause = s.clause; position = s.position } ∷ literals_in S)

-- the slot where a strike of the clauses cs stands
abbrev pub slot_of : List (List ℕ) → Strike → ℕ
slot_of cs s = offset cs s.clause + s.position

-- it is at a literal of a clause, and the work area says what it strikes
pub record Valid (cs : List (List ℕ)) (w : List ℕ) (s : Strike) : Type 0 where
  pub clause : s.clause < length cs
  pub position : s.position < length (get_or cs s.clause [])
  pub kind : is_whole w (slot_of cs s) ≡ s.whole

-- S are the strikes of a work area with the clauses cs, the newest first
pub record Marked (cs : List (List ℕ)) (w : List ℕ) (S : List Strike) : Type 0 where
  pub chained : Strikes w (map (slot_of cs) S)
  pub valid : All (Valid cs w) S

-- ---- branches

-- an open split: how many literals were held, and the strikes
pub record Frame : Type 0 where
  pub count : ℕ
  pub strikes : List Strike

-- the strikes now, and the open splits, each the newest first
pub record History : Type 0 where
  pub strikes : List Strike
  pub frames : List Frame

abbrev pub history : List Strike → List Frame → History
history S fs = record { strikes = S; frames = fs }

-- the branch of the first c literals of a trail, and of strikes
abbrev pub branch : (ℕ → ℕ) → ℕ → List Strike → Branch
branch r c S = record { G = trail c r; struck_clauses = clauses_in S; struck_literals = literals_in S }

abbrev pub branch_of : List ℕ → History → Branch
branch_of w s = branch (trail_at w) (trail_at w 0) s.strikes

-- 'the newest open split turns right with its old state': the literal past the split's is negated
unfoldable pub waits : (ℕ → ℕ) → List Frame → List Branch
waits r [] = []
waits r (f ∷ fs) = join (neg (r (1 + f.count))) (branch r f.count f.strikes) ∷ waits r fs

abbrev pub waiting_of : List ℕ → History → List Branch
waiting_of w s = waits (trail_at w) s.frames

-- L is the end of M
abbrev pub End : List Strike → List Strike → Type 0
End L M = (K : List Strike) × (M ≡ K ++ L)

-- the clause list of the first c literals of a trail
abbrev pub clauses_to : (ℕ → Node) → List ℕ → (ℕ → ℕ) → ℕ → List (List ℕ)
clauses_to t goals r c = clauses (expand t) goals (trail c r)

abbrev pub clauses_of : (ℕ → Node) → List ℕ → List ℕ → List (List ℕ)
clauses_of t goals w = clauses_to t goals (trail_at w) (trail_at w 0)

module _ (t : ℕ → Node) (goals w : List ℕ) where
  -- split d is saved: it was made before the literal at c and the strikes S
  pub record Split (d c : ℕ) (S : List Strike) (f : Frame) : Type 0 where
    pub count : split_count w d ≡ f.count
    pub clauses : split_size w d ≡ length (clauses_to t goals (trail_at w) f.count)
    pub head : split_head w d ≡ head_of (map (slot_of (clauses_to t goals (trail_at w) f.count)) f.strikes)
    pub before : f.count < c
    pub older : End f.strikes S
    pub within : All (λ s. s.clause < length (clauses_to t goals (trail_at w) f.count)) f.strikes

  abbrev pub Splits : ℕ → List Strike → List Frame → Type 0
  Splits c S [] = Unit {0}
  Splits c S (f ∷ fs) = Split (length fs) c S f × Splits f.count f.strikes fs

-- the trail and the clauses are right
pub record Base (t : ℕ → Node) (n : ℕ) (goals w : List ℕ) : Type 0 where
  pub size : area_size ≤ length w
  pub aims : Goals n goals
  pub trail : Trail n (trail_at w)
  pub listed : Listed (clauses_of t goals w) w

-- the work area holds a history
pub record Holds (t : ℕ → Node) (n : ℕ) (goals w : List ℕ) (s : History) : Type 0 where
  pub base : Base t n goals w
  pub marked : Marked (clauses_of t goals w) w s.strikes
  pub depths : depth w ≡ length s.frames
  pub splits : Splits t goals w (trail_at w 0) s.strikes s.frames

-- it holds some history, for some goals
abbrev pub Held : (ℕ → Node) → ℕ → List ℕ → Type 0
Held t n w = (goals : List ℕ) × (s : History) × Holds t n goals w s

-- nothing is struck, and no split is open
abbrev pub fresh : History
fresh = history [] []

-- ---- what each function leaves

-- l has joined the trail, and its clauses are appended
pub record Joined (t : ℕ → Node) (n l : ℕ) (w w' : List ℕ) : Type 0 where
  pub size : length w' ≡ length w
  pub trail : Trail n (trail_at w')
  pub list : g_of w' ≡ l ∷ g_of w
  pub count : trail_at w' 0 ≡ suc (trail_at w 0)
  pub lits : (q : ℕ) → q < trail_at w 0 → trail_at w' (1 + q) ≡ trail_at w (1 + q)
  pub top : trail_at w' (1 + trail_at w 0) ≡ l
  pub listed : (cs : List (List ℕ)) → length (cs ++ expand t l) ≤ most_clauses → length (flat (cs ++ expand t l)) ≤ most_slots → Listed cs w
      → Listed (cs ++ expand t l) w'
  pub strikes : (m : ℕ) → m < most_slots → m < base_at w (clause_count w) → strike_at w' m ≡ strike_at w m
  pub clean : (m : ℕ) → m < most_slots → strike_at w m ≡ 0 → strike_at w' m ≡ 0
  pub depths : depth w' ≡ depth w
  pub heads : newest w' ≡ newest w
  pub rest : Same strikes_from trail_from w w'

-- the newest split has its old state again, and l, which was split on, may join
pub record Restored (t : ℕ → Node) (n : ℕ) (goals w : List ℕ) (f : Frame) (fs : List Frame) (w' : List ℕ) (l : ℕ) : Type 0 where
  pub holds : Holds t n goals w' (history f.strikes fs)
  pub list : g_of w' ≡ trail f.count (trail_at w)
  pub waiting : waits (trail_at w') fs ≡ waits (trail_at w) fs
  pub literal : l ≡ trail_at w (1 + f.count)
  pub free : Fresh n (g_of w') l

-- it has, whatever history the work area held
abbrev pub Restores : (ℕ → Node) → ℕ → List ℕ → List ℕ → ℕ → Type 0
Restores t n w w' l =
    (goals : List ℕ) (S : List Strike) (f : Frame) (fs : List Frame) → Holds t n goals w (history S (f ∷ fs)) → Restored t n goals w f fs w' l
