-- What a clause of the checker's work area is under the literals held, by its slots: the state that the solver's order gives it. Assumes
-- nothing.
use Rattle.std.specs.Prelude.{List, cond, ℕ, eqb, leb}
use Rattle.scope.specs.Table.{list_from}
use Rattle.calculus.specs.Order.{State, met, empty, one, many, state_of}
use Rattle.area.specs.Area.{base_at, slot_at, length_at, g_of}
use Rattle.seen.specs.declared.Seen.{Seen}
use Rattle.seen.specs.declared.Seen.TheVariants.{Met, Empty, One, Many}

-- every case of a `Seen`
abbrev pub seen_of : Seen → State
seen_of Met = met
seen_of Empty = empty
seen_of (One l) = one l
seen_of (Many l) = many l

-- what a literal adds to the sum of a clause, by its value as a number: an undecided one 1, a true one more than all undecided ones can
abbrev pub weight_by : ℕ → ℕ
weight_by v = cond (eqb v 0) 1 (cond (eqb v 1) 65536 0)

-- what a clause is, by that sum and its first undecided literal
abbrev pub state_by : ℕ → ℕ → State
state_by sum first = cond (leb 65536 sum) met (cond (eqb sum 0) empty (cond (eqb sum 1) (one first) (many first)))

-- the literals in m slots from s on
abbrev pub literals_from : List ℕ → ℕ → ℕ → List ℕ
literals_from w s m = list_from (slot_at w) s m

-- what clause k is
abbrev pub state_in : List ℕ → ℕ → State
state_in w k = state_of (g_of w) (literals_from w (base_at w k) (length_at w k))
