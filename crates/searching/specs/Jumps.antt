-- What the search that jumps leaves of the work area and its sets: what the definition of the jumping search ends on, from the literals
-- held with what each rests on. Assumes nothing.
use Rattle.std.specs.Prelude.{◌≡◌, Bool, true, false, List, [], ◌∷◌, ℕ, suc, ◌+◌, ◌-◌, ◌/◌, ◌%◌, ◌≤◌, length, replicate}
use Rattle.scope.specs.declared.Node.{Node}
use Rattle.calculus.specs.Expansion.{expand}
use Rattle.calculus.specs.Order.{move}
use Rattle.calculus.specs.Jump.{Rests, clause_rest, End, found, closed, Jumped, stop, jump, end_answer, stopped}
use Rattle.calculus.specs.declared.Move.{Move}
use Rattle.calculus.specs.declared.Move.TheVariants.{Conflict, Unit as Single, Done, Split}
use Rattle.index.specs.Index.{most_nodes}
use Rattle.state.specs.Work.{tail, base_of, g_of, conflict_of, Ready}
use Rattle.state.specs.Holds.{Holds, Splits}
use Rattle.state.specs.Picked.{no_unit}
use Rattle.moves.specs.Place.{On}
use Rattle.rests.specs.Words.{rest_at, Put, Slots, sets_size, SameTo, held_of}
use Rattle.searching.specs.Search.{Extends, found_of}
use Rattle.searching.specs.declared.Stop.{Stop}
use Rattle.searching.specs.declared.Stop.TheVariants.{Closed as Shut, Model as Open, Fork}
use Rattle.searching.specs.declared.Found.{Found}
use Rattle.searching.specs.declared.Found.TheVariants.{Model as AModel, Closed as AllClosed}
use Rattle.searching.specs.declared.Ended.{Ended}
use Rattle.searching.specs.declared.Ended.TheVariants.{Model, Closed}

-- the jumping search from G with its sets m, d splits being on the branch, with as much fuel as there are undecided nodes
abbrev pub jumped_from : (ℕ → Node) → ℕ → List ℕ → ℕ → List ℕ → List ℕ → Jumped
jumped_from t n goals d m G = jump 128 (expand t) goals (n - length G) d (held_of m G)

-- the sets before the first split: each is empty
abbrev pub blank : List ℕ
blank = replicate sets_size 0

-- what comes next, r, where u is the unit that is the next move, or `no_unit`: u; or the clause of the first conflict as units have theirs
pub record Aimed (t : ℕ → Node) (goals w : List ℕ) (u r : ℕ) : Type 0 where
  pub unit : (u ≡ no_unit → ⊥) → r ≡ u
  pub conflict : u ≡ no_unit → (r ≡ no_unit → ⊥) → On t goals w (r / 65536) (r / 4096 % 16) (Conflict (base_of (tail w) (r / 65536) + r / 4096 % 16))
  pub free : u ≡ no_unit → r ≡ no_unit → most_nodes ≤ conflict_of w

-- the slot behind the literals held: of what a literal that joins rests on, or the last conflict
abbrev pub behind : List ℕ → ℕ
behind G = suc (length G)

-- the move of what the units end at, where that is no conflict
abbrev pub Ending : Stop → Move → Type 0
Ending Shut v = ⊥
Ending Open v = v ≡ Done
Ending (Fork l) v = v ≡ Split l

-- no conflict and no unit is left: a model or a split
pub record Concluded (t : ℕ → Node) (n : ℕ) (goals w w' k : List ℕ) (r : Stop) : Type 0 where
  pub holds : Holds t n goals w' k
  pub list : g_of w' ≡ g_of w
  pub ending : Ending r (move (expand t) goals (g_of w'))

-- the next move, a unit on a clause, has joined, with what that rests on
pub record Stepped (t : ℕ → Node) (n l : ℕ) (goals w m w' k' m' : List ℕ) : Type 0 where
  pub clause : ℕ
  pub next : move (expand t) goals (g_of w) ≡ Single clause l
  pub holds : Holds t n goals w' k'
  pub list : g_of w' ≡ l ∷ g_of w
  pub put : Put m (behind (g_of w)) (clause_rest (expand t) goals (held_of m (g_of w)) clause) m'

-- the goals have joined: the search from here is that from the start; or that closes, with no split
pub record Begun (t : ℕ → Node) (n : ℕ) (goals w' k' : List ℕ) (r : Bool) : Type 0 where
  pub ready : Ready n w'
  pub holds : r ≡ true → Holds t n goals w' k'
  pub same : r ≡ true → jumped_from t n goals 0 blank (g_of w') ≡ jumped_from t n goals 0 blank []
  pub shut : r ≡ false → (s : Rests) × (jumped_from t n goals 0 blank [] ≡ stop (closed s))

-- nothing but units has joined, and the next move is a split: the search from here is that from the start. k is the set of units
pub record Paused (t : ℕ → Node) (n : ℕ) (goals w k : List ℕ) : Type 0 where
  pub holds : Holds t n goals w k
  pub splits : Splits (expand t) goals (g_of w)
  pub same : jumped_from t n goals 0 blank (g_of w) ≡ jumped_from t n goals 0 blank []

-- so it is, for some set
abbrev pub LeftOff : (ℕ → Node) → ℕ → List ℕ → List ℕ → Type 0
LeftOff t n goals w = (k : List ℕ) × Paused t n goals w k

-- the units have joined: the search from here is that from the start, and the next move is no unit. k' is the set of units (crate units)
pub record Propagated (t : ℕ → Node) (n : ℕ) (goals w m w' k' m' : List ℕ) (r : Stop) : Type 0 where
  pub holds : Holds t n goals w' k'
  pub grows : Extends (g_of w) (g_of w')
  pub sets : Slots n m'
  pub kept : SameTo (length (g_of w)) m m'
  pub same : (d : ℕ) → jumped_from t n goals d m' (g_of w') ≡ jumped_from t n goals d m (g_of w)
  pub closes : r ≡ Shut → (d : ℕ) → jumped_from t n goals d m' (g_of w') ≡ stop (closed (rest_at m' (behind (g_of w'))))
  pub ends : r ≡ Open → (d : ℕ) → jumped_from t n goals d m' (g_of w') ≡ stop (found (g_of w'))
  pub forks : (l : ℕ) → r ≡ Fork l → move (expand t) goals (g_of w') ≡ Split l

-- how a search ended: with the literals held at its end, or with what the last conflict rests on
abbrev pub end_of : Ended → List ℕ → Rests → End
end_of (Model s) G c = found G
end_of (Closed s) G c = closed c

-- the splits made
abbrev pub made_by : Ended → ℕ
made_by (Model s) = s
made_by (Closed s) = s

-- what was found
abbrev pub found_by : Ended → Found
found_by (Model s) = AModel
found_by (Closed s) = AllClosed

-- the right side, and the splits of both sides with the split itself
abbrev pub with_left : ℕ → Ended → Ended
with_left s (Model r) = Model (stopped (suc (s + r)))
with_left s (Closed r) = Closed (stopped (suc (s + r)))

-- the search is done, d splits being on the branch: it ended as the definition says, with as many splits; the literals of the start are
-- still held, and rest on what they did
pub record Jumps (t : ℕ → Node) (n : ℕ) (goals : List ℕ) (d : ℕ) (w m w' k' m' : List ℕ) (r : Ended) : Type 0 where
  pub holds : Holds t n goals w' k'
  pub grows : Extends (g_of w) (g_of w')
  pub sets : Slots n m'
  pub kept : SameTo (length (g_of w)) m m'
  pub ended : (jumped_from t n goals d m (g_of w)).end ≡ end_of r (g_of w') (rest_at m' (behind (g_of w')))
  pub counted : made_by r ≡ stopped (jumped_from t n goals d m (g_of w)).splits

-- the goals were put from the start, with nothing held: the answer and the splits of the jumping search
pub record Counted (t : ℕ → Node) (n : ℕ) (goals w' : List ℕ) (r : Ended) : Type 0 where
  pub ready : Ready n w'
  pub answered : found_of (found_by r) (g_of w') ≡ end_answer (jump 128 (expand t) goals n 0 []).end
  pub counted : made_by r ≡ stopped (jump 128 (expand t) goals n 0 []).splits

-- a question was put up to its first split: with none it closes, or has a model; or it was left there, at a split on l
abbrev pub Opened : (ℕ → Node) → ℕ → List ℕ → List ℕ → Stop → Type 0
Opened t n goals w Shut = Counted t n goals w (Closed 0)
Opened t n goals w Open = Counted t n goals w (Model 0)
Opened t n goals w (Fork l) = LeftOff t n goals w × (move (expand t) goals (g_of w) ≡ Split l)
