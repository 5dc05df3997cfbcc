-- What the work area w and its set of units m (crate units) hold between the solver's calls. Assumes nothing.
use Rattle.std.specs.Prelude.{◌≡◌, true, List, ℕ, ◌-◌, ◌*◌, ◌%◌, ◌<◌, ◌≤◌, get_or, length}
use Rattle.scope.specs.declared.Node.{Node}
use Rattle.calculus.specs.Order.{State, met, holds, fails, undecided, value_of, is_empty, is_one, some, move}
use Rattle.calculus.specs.Model.{All}
use Rattle.calculus.specs.declared.Move.TheVariants.{Split}
use Rattle.index.specs.Index.{most_nodes}
use Rattle.units.specs.Units.{positions, member, Units, First}
use Rattle.clause.specs.Coded.{states_of}
pub use Rattle.clause.specs.Classed.{Forces}
use Rattle.state.specs.Work.{tail, g_of, lit_at, trail, cursor_at, code_at, cursor_of, conflict_of, waiting_of, Ready, Numbered}

-- what the clauses of the literal at position q are under G
abbrev pub states_at : (ℕ → Node) → List ℕ → (ℕ → ℕ) → ℕ → List State
states_at t G r q = states_of t G (lit_at r q)

-- where there is no conflict, position q is in the set if a clause of its literal is a unit, and what the first forces is kept; it is not
-- before c if a clause is all false
pub record Entered (t : ℕ → Node) (G : List ℕ) (r : ℕ → ℕ) (c : ℕ) (m : List ℕ) (q : ℕ) : Type 0 where
  pub unit : most_nodes ≤ c → some is_one (states_at t G r q) ≡ true → (member m q ≡ 1) × Forces (states_at t G r q) (code_at r q)
  pub conflict : some is_empty (states_at t G r q) ≡ true → c ≤ q

-- where position q is in the set, what is kept of it forces a literal of the n nodes; where there is no conflict and that is undecided, a
-- clause is a unit. So a position may stay in the set when its unit is met
pub record Late (t : ℕ → Node) (n : ℕ) (G : List ℕ) (r : ℕ → ℕ) (c : ℕ) (m : List ℕ) (q : ℕ) : Type 0 where
  pub low : member m q ≡ 1 → code_at r q % 4096 < 2 * n
  pub live : most_nodes ≤ c → member m q ≡ 1 → value_of G (code_at r q % 4096) ≡ undecided → some is_one (states_at t G r q) ≡ true

-- where there is no conflict, the first position of the set has a unit
abbrev pub FirstLive : List ℕ → (ℕ → ℕ) → ℕ → List ℕ → Type 0
FirstLive G r c m = most_nodes ≤ c → (q : ℕ) → First m q → value_of G (code_at r q % 4096) ≡ undecided

-- c is no position, or one that has a clause that is all false
abbrev pub Closed : (ℕ → Node) → List ℕ → (ℕ → ℕ) → ℕ → Type 0
Closed t G r c = c < most_nodes → (c < r 0) × (some is_empty (states_at t G r c) ≡ true)

-- every clause of the first c positions is met
abbrev pub AllMet : (ℕ → Node) → List ℕ → (ℕ → ℕ) → ℕ → Type 0
AllMet t G r c = (q : ℕ) → q < c → All (λ s. s ≡ met) (states_at t G r q)

-- the goals but the last v are true; where v is not 0, some goal is not
pub record Waiting (goals G : List ℕ) (v : ℕ) : Type 0 where
  pub few : v ≤ length goals
  pub over : (k : ℕ) → k < length goals - v → value_of G (get_or goals k 0) ≡ holds
  pub on : (v ≡ 0 → ⊥) → (k : ℕ) × (k < length goals) × (value_of G (get_or goals k 0) ≡ holds → ⊥)

-- a cell between the cursors and the codes: 0 only where no goal is false
abbrev pub denied_at : ℕ
denied_at = 12103

abbrev pub denied_of : List ℕ → ℕ
denied_of w = get_or w denied_at 0

abbrev pub NoneDenied : List ℕ → List ℕ → Type 0
NoneDenied goals G = (k : ℕ) → k < length goals → value_of G (get_or goals k 0) ≡ fails → ⊥

pub record Holds (t : ℕ → Node) (n : ℕ) (goals w m : List ℕ) : Type 0 where
  pub ready : Ready n w
  pub numbered : Numbered t goals (tail w)
  pub units : Units m
  pub entered : (q : ℕ) → q < tail w 0 → Entered t (g_of w) (tail w) (conflict_of w) m q
  pub late : (q : ℕ) → q < tail w 0 → Late t n (g_of w) (tail w) (conflict_of w) m q
  pub first : FirstLive (g_of w) (tail w) (conflict_of w) m
  pub clear : (q : ℕ) → tail w 0 ≤ q → q < positions → member m q ≡ 0
  pub closed : Closed t (g_of w) (tail w) (conflict_of w)
  pub cursor : cursor_of w ≤ tail w 0
  pub met_before : AllMet t (g_of w) (tail w) (cursor_of w)
  pub cursors : (h : ℕ) → h < tail w 0 → (cursor_at (tail w) h ≤ h) × AllMet t (trail h (tail w)) (tail w) (cursor_at (tail w) h)
  pub waiting : Waiting goals (g_of w) (waiting_of w)
  pub denied : denied_of w ≡ 0 → NoneDenied goals (g_of w)

-- the next move from G is a split
abbrev pub Splits : (ℕ → List (List ℕ)) → List ℕ → List ℕ → Type 0
Splits expand goals G = (l : ℕ) × (move expand goals G ≡ Split l)
