-- What each function leaves of the work area w and its set m. Assumes nothing.
use Rattle.std.specs.Prelude.{◌≡◌, ◌⊎◌, Bool, true, false, List, [], ◌∷◌, ℕ, suc, ◌+◌, ◌-◌, ◌*◌, ◌/◌, ◌%◌, ◌<◌, ◌≤◌, get_or, length}
use Rattle.scope.specs.declared.Node.{Node}
use Rattle.calculus.specs.Expansion.{neg, expand}
use Rattle.calculus.specs.Model.{Goals}
use Rattle.calculus.specs.Order.{holds, fails, undecided, value_of, move}
use Rattle.calculus.specs.declared.Move.TheVariants.{Conflict}
use Rattle.index.specs.Index.{most_nodes}
use Rattle.index.specs.Edges.{Names, PairAt, ThreeAt, parent_of, edge_at}
use Rattle.units.specs.Units.{positions, member, Units, Empty, Putted, First}
use Rattle.state.specs.Work.{tail, lit_at, base_of, cursor_at, code_at, g_of, cursor_of, conflict_of, waiting_of, Ready, trail_at, codes_at}
use Rattle.state.specs.Holds.{Entered, Late, FirstLive, Closed, Waiting, Holds, denied_at, denied_of}
use Rattle.state.specs.Changes.{code_set, Pushed, base_set}
use Rattle.state.specs.Picked.{no_unit}

-- before the codes only the first conflict is changed
pub record Beside (w w' : List ℕ) : Type 0 where
  pub size : length w' ≡ length w
  pub other : (i : ℕ) → (i ≡ 1 → ⊥) → i < trail_at + codes_at → get_or w' i 0 ≡ get_or w i 0

-- a clause at position q is all false: the first conflict is not after q
pub record Lowered (w : List ℕ) (q : ℕ) (w' : List ℕ) : Type 0 where
  pub size : length w' ≡ length w
  pub other : (i : ℕ) → (i ≡ 1 → ⊥) → get_or w' i 0 ≡ get_or w i 0
  pub lower : conflict_of w' ≤ conflict_of w
  pub least : conflict_of w' ≤ q
  pub from : (conflict_of w' ≡ conflict_of w) ⊎ (conflict_of w' ≡ q)

-- position q is in the set, and k is kept of it
pub record Flagged (w m : List ℕ) (q k : ℕ) (w' m' : List ℕ) : Type 0 where
  pub stored : w' ≡ code_set w q k
  pub putted : Putted m q 1 m'

-- position q is entered, and no other is changed
pub record Renewed (t : ℕ → Node) (n : ℕ) (w m : List ℕ) (q : ℕ) (w' m' : List ℕ) : Type 0 where
  pub beside : Beside w w'
  pub units : Units m'
  pub lower : conflict_of w' ≤ conflict_of w
  pub closed : Closed t (g_of w) (tail w) (conflict_of w) → Closed t (g_of w') (tail w') (conflict_of w')
  pub here : Entered t (g_of w') (tail w') (conflict_of w') m' q
  pub late : Late t n (g_of w) (tail w) (conflict_of w) m q → Late t n (g_of w') (tail w') (conflict_of w') m' q
  pub else : (j : ℕ) → j < positions → (j ≡ q → ⊥) → (member m' j ≡ member m j) × (code_at (tail w') j ≡ code_at (tail w) j)

-- so is the position of node p's literal, if that is held
pub record Visited (t : ℕ → Node) (n : ℕ) (w m : List ℕ) (p : ℕ) (w' m' : List ℕ) : Type 0 where
  pub beside : Beside w w'
  pub units : Units m'
  pub lower : conflict_of w' ≤ conflict_of w
  pub closed : Closed t (g_of w) (tail w) (conflict_of w) → Closed t (g_of w') (tail w') (conflict_of w')
  pub here : (q : ℕ) → q < tail w 0 → lit_at (tail w) q / 2 ≡ p → Entered t (g_of w') (tail w') (conflict_of w') m' q
  pub late : (q : ℕ) → q < tail w 0 → Late t n (g_of w) (tail w) (conflict_of w) m q → Late t n (g_of w') (tail w') (conflict_of w') m' q
  pub else : (q : ℕ) → q < positions → (q < tail w 0 → lit_at (tail w) q / 2 ≡ p → ⊥) → (member m' q ≡ member m q) × (code_at (tail w') q ≡ code_at (tail w) q)

-- from offset k on, node m has an edge from p, which has two operands; or three
abbrev pub PairFrom : List ℕ → ℕ → ℕ → ℕ → Type 0
PairFrom x m k p = (j : ℕ) × (k ≤ j) × PairAt x m j × (parent_of x j ≡ p)

abbrev pub ThreeFrom : List ℕ → ℕ → ℕ → ℕ → Type 0
ThreeFrom x m k p = (j : ℕ) × (k ≤ j) × ThreeAt x m j × (edge_at x j ≡ p)

-- along the parents of a node: each position is entered, or its node, one of them, is still to come
pub record Walk (t : ℕ → Node) (n : ℕ) (to-come : ℕ → Type 0) (w₀ m₀ w m : List ℕ) : Type 0 where
  pub beside : Beside w₀ w
  pub units : Units m
  pub closed : Closed t (g_of w) (tail w) (conflict_of w)
  pub waits : (q : ℕ) → q < tail w₀ 0 → Entered t (g_of w) (tail w) (conflict_of w) m q ⊎ to-come (lit_at (tail w₀) q / 2)
  pub late : (q : ℕ) → q < tail w₀ 0 → Late t n (g_of w) (tail w) (conflict_of w) m q
  pub else : (q : ℕ) → tail w₀ 0 ≤ q → q < positions → member m q ≡ member m₀ q

-- what the walk starts from: a position that is not entered is one of a parent of the node
abbrev pub Touchable : (ℕ → Node) → ℕ → ℕ → List ℕ → List ℕ → Type 0
Touchable t n node w m = Walk t n (Names t n node) w m w m

-- and what it ends with
abbrev pub Touched : (ℕ → Node) → ℕ → List ℕ → List ℕ → List ℕ → List ℕ → Type 0
Touched t n w₀ m₀ w m = Walk t n (λ _. ⊥) w₀ m₀ w m

-- ---- the set of units

-- m₀ is m, but that positions may be left out whose units force l
pub record Taken (w m : List ℕ) (l : ℕ) (m₀ : List ℕ) : Type 0 where
  pub units : Units m₀
  pub same : (q : ℕ) → q < positions → (member m₀ q ≡ member m q) ⊎ ((member m₀ q ≡ 0) × (member m q ≡ 1) × (code_at (tail w) q % 4096 ≡ l))

-- what forces a literal that is undecided stays in the set, and nothing joins it
pub record Dropped (w m m' : List ℕ) : Type 0 where
  pub units : Units m'
  pub less : (q : ℕ) → q < positions → member m q ≡ 0 → member m' q ≡ 0
  pub from : (q : ℕ) → q < positions → member m' q ≡ 1 → member m q ≡ 1
  pub kept : (q : ℕ) → q < positions → member m q ≡ 1 → value_of (g_of w) (code_at (tail w) q % 4096) ≡ undecided → member m' q ≡ 1

-- u is the unit at the first position of the set, with what is kept of it, or `no_unit`
abbrev pub Foremost : List ℕ → List ℕ → ℕ → Type 0
Foremost w m u = (u ≡ no_unit → ⊥) → First m (u / 65536) × (code_at (tail w) (u / 65536) ≡ u % 65536)

-- and it is `no_unit` only where the set is empty
pub record Fronts (w m : List ℕ) (u : ℕ) : Type 0 where
  pub some : Foremost w m u
  pub none : u ≡ no_unit → Empty m

-- or where no position before that of the newest literal is in it
pub record Ahead (w m : List ℕ) (u : ℕ) : Type 0 where
  pub some : Foremost w m u
  pub none : u ≡ no_unit → (q : ℕ) → suc q < tail w 0 → member m q ≡ 0

-- r is the earlier of the unit b and that of position q, of which k is kept; where b is of q too, it is the latter
abbrev pub Earlier : ℕ → ℕ → ℕ → ℕ → Type 0
Earlier b q k r = (q ≤ b / 65536 → r ≡ 65536 * q + k) × (b / 65536 < q → r ≡ b)

-- where b was the first unit, r is it now
abbrev pub Onward : List ℕ → List ℕ → ℕ → List ℕ → List ℕ → ℕ → Type 0
Onward w m b w' m' r = Ahead w m b → Ahead w' m' r

-- what is kept of each position in the set forces a literal of the n nodes
abbrev pub Forcing : ℕ → List ℕ → List ℕ → Type 0
Forcing n w m = (q : ℕ) → q < positions → member m q ≡ 1 → (q < most_nodes) × (code_at (tail w) q % 4096 < 2 * n)

-- the first position of the set, if it has one, forces an undecided literal; u is its unit, or `no_unit`
pub record Lived (w m m' : List ℕ) (u : ℕ) : Type 0 where
  pub dropped : Dropped w m m'
  pub first : (q : ℕ) → First m' q → value_of (g_of w) (code_at (tail w) q % 4096) ≡ undecided
  pub front : Fronts w m' u

-- the same where there is no conflict; behind one u is `no_unit`
pub record Tidied (w m m' : List ℕ) (u : ℕ) : Type 0 where
  pub dropped : Dropped w m m'
  pub first : FirstLive (g_of w) (tail w) (conflict_of w) m'
  pub next : (u ≡ no_unit → ⊥) → (most_nodes ≤ conflict_of w) × First m' (u / 65536) × (code_at (tail w) (u / 65536) ≡ u % 65536)
  pub none : u ≡ no_unit → most_nodes ≤ conflict_of w → Empty m'

-- what a joining literal asks: the work area holds, for some goals, with the set as it was before a position was taken out of it
abbrev pub Held : (ℕ → Node) → ℕ → List ℕ → ℕ → List ℕ → Type 0
Held t n w l m₀ = (goals : List ℕ) × (m : List ℕ) × Goals n goals × Holds t n goals w m × Taken w m l m₀

-- what it does, but for the goals that wait: it is pushed, its own position and those of its parents are entered, its clauses are counted,
-- and the set is tidied
pub record Attached (t : ℕ → Node) (n l : ℕ) (w m₀ w' m' : List ℕ) (u : ℕ) : Type 0 where
  pub w₁ : List ℕ
  pub w₂ : List ℕ
  pub m₂ : List ℕ
  pub w₃ : List ℕ
  pub m₃ : List ℕ
  pub more : ℕ
  pub pushed : Pushed n l w w₁
  pub own : Renewed t n w₁ m₀ (tail w 0) w₂ m₂
  pub parents : Touched t n w₂ m₂ w₃ m₃
  pub clauses : more ≡ length (expand t l)
  pub based : w' ≡ base_set w₃ (tail w 0) more
  pub tidied : Tidied w' m₃ m' u

-- ---- the goals

-- the goals before those that wait are true
pub record Served (goals w : List ℕ) : Type 0 where
  pub few : waiting_of w ≤ length goals
  pub over : (k : ℕ) → k < length goals - waiting_of w → value_of (g_of w) (get_or goals k 0) ≡ holds

-- the negation of l is none of the goals
abbrev pub Apart : List ℕ → ℕ → Type 0
Apart goals l = (k : ℕ) → k < length goals → get_or goals k 0 ≡ neg l → ⊥

-- those that wait begin with one that is not true; that none is false is said only where none waited, or where that was said and the
-- negation of l, which has joined, is none of them; and nothing else is changed
pub record Awaited (goals : List ℕ) (l : ℕ) (w w' : List ℕ) : Type 0 where
  pub size : length w' ≡ length w
  pub waiting : Waiting goals (g_of w) (waiting_of w')
  pub denied : denied_of w' ≡ 0 → (waiting_of w ≡ 0) ⊎ ((denied_of w ≡ 0) × Apart goals l)
  pub other : (i : ℕ) → (i ≡ 2 → ⊥) → (i ≡ denied_at → ⊥) → get_or w' i 0 ≡ get_or w i 0

-- while the goals join, which of them wait is not looked at: the work area holds for other goals, as many; none is noted as waiting, or
-- nothing has joined
pub record Stands (t : ℕ → Node) (n : ℕ) (goals w m : List ℕ) : Type 0 where
  pub others : List ℕ
  pub many : length others ≡ length goals
  pub below : Goals n others
  pub holds_them : Holds t n others w m
  pub idle : (waiting_of w ≡ 0) ⊎ (g_of w ≡ [])

-- the next move from G is a conflict
abbrev pub Shuts : (ℕ → List (List ℕ)) → List ℕ → List ℕ → Type 0
Shuts expand goals G = (k : ℕ) × (move expand goals G ≡ Conflict k)

-- a goal l has joined, or was true; or it is false, or closes with what is held
pub record Enlisted (t : ℕ → Node) (n : ℕ) (goals : List ℕ) (l : ℕ) (w w' m' : List ℕ) (r : Bool) : Type 0 where
  pub ready : Ready n w'
  pub on : r ≡ true → Stands t n goals w' m' × (most_nodes ≤ conflict_of w')
  pub list : r ≡ true → ((value_of (g_of w) l ≡ holds) × (g_of w' ≡ g_of w)) ⊎ ((value_of (g_of w) l ≡ undecided) × (g_of w' ≡ l ∷ g_of w))
  pub shut : r ≡ false → (value_of (g_of w) l ≡ fails) ⊎ ((value_of (g_of w) l ≡ undecided) × Shuts (expand t) goals (l ∷ g_of w))

-- ---- undo and start

-- the cursor is c, no position has a conflict, v goals wait; the trail is not changed
pub record Settled (w : List ℕ) (c v : ℕ) (w' : List ℕ) : Type 0 where
  pub size : length w' ≡ length w
  pub cursor : cursor_of w' ≡ c
  pub conflict : conflict_of w' ≡ most_nodes
  pub waiting : waiting_of w' ≡ v
  pub rest : (i : ℕ) → trail_at ≤ i → get_or w' i 0 ≡ get_or w i 0

-- the first literals are held, and each is as it was, with its base and its cursor
pub record Left (n held : ℕ) (w w' : List ℕ) : Type 0 where
  pub ready : Ready n w'
  pub size : length w' ≡ length w
  pub count : tail w' 0 ≡ held
  pub lits : (q : ℕ) → q < most_nodes → lit_at (tail w') q ≡ lit_at (tail w) q
  pub bases : (q : ℕ) → q ≤ most_nodes → base_of (tail w') q ≡ base_of (tail w) q
  pub cursors : (q : ℕ) → cursor_at (tail w') q ≡ cursor_at (tail w) q
