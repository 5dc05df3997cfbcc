-- Request 01, the table: records added to an empty buffer one after another, by the definition of add. Assumes nothing.
use Rattle.std.specs.Prelude.{List, [], ◌∷◌, ◌++◌, Bool, false, cond, ◌||◌, ℕ, zero, suc, ◌+◌, ◌-◌, ◌*◌, ◌%◌, eqb}
use Rattle.scope.specs.declared.Node.{Node}
use Rattle.scope.specs.Outcome.{Outcome, answer, ◌>>=◌}
use Rattle.scope.specs.Table.{node_bytes}
use Rattle.scope.specs.Calls.{Added, add}
use Rattle.cnf.specs.Text.{File}

-- A table under way is an `Added`: a literal of it, the used length, and the buffer's bytes.

abbrev pub node : ℕ → ℕ → ℕ → Node
node kind a b = record { kind = kind; a = a; b = b; c = 0 }

-- one record more, by add
abbrev pub put : Added → ℕ → ℕ → ℕ → Outcome Added
put t kind a b = add t.bytes t.used (node_bytes (node kind a b))

-- the same table, with another literal of it
abbrev pub at : Added → ℕ → Added
at t l = record { literal = l; used = t.used; bytes = t.bytes }

-- literals 2n and 2n + 1 are each other's negation
abbrev pub opposite : ℕ → ℕ
opposite l = l + 1 - 2 * (l % 2)

-- 'points 0 to V − 1 are added first': n of them, from p on
unfoldable pub points : Added → ℕ → ℕ → Outcome Added
points t p zero = answer t
points t p (suc n) = put t 2 p 0 >>= λ u. points u (suc p) n

-- 'TRUE is added when first needed': after that, add finds it
unfoldable pub yes_literal : Added → Outcome Added
yes_literal t = put t 1 0 0

unfoldable pub no_literal : Added → Outcome Added
no_literal t = put t 1 0 0 >>= λ u. answer (at u (opposite u.literal))

-- l stands in a clause
unfoldable pub holds : ℕ → List ℕ → Bool
holds l [] = false
holds l (x ∷ c) = eqb x l || holds l c

-- a literal stays unless it stands before
abbrev pub kept : List ℕ → ℕ → List ℕ
kept before l = cond (holds l before) before (before ++ l ∷ [])

-- 'after repeated literals are dropped': the first of each stays; those of `before` stand before
unfoldable pub distinct_from : List ℕ → List ℕ → List ℕ
distinct_from before [] = before
distinct_from before (l ∷ c) = distinct_from (kept before l) c

-- 'one holding both signs of a variable'
unfoldable pub both_signs : List ℕ → Bool
both_signs [] = false
both_signs (l ∷ c) = holds (opposite l) c || both_signs c

-- 'folded left by OR': the literal of t, then those of a clause
unfoldable pub or_all : Added → List ℕ → Outcome Added
or_all t [] = answer t
or_all t (l ∷ c) = put t 4 t.literal l >>= λ u. or_all u c

-- a clause without repeats: 'an empty one is false'
unfoldable pub or_clause : Added → List ℕ → Outcome Added
or_clause t [] = no_literal t
or_clause t (l ∷ c) = or_all (at t l) c

-- a clause: 'one holding both signs of a variable is true'
unfoldable pub clause : Added → List ℕ → Outcome Added
clause t c = cond (both_signs c) (yes_literal t) (or_clause t (distinct_from [] c))

-- AND of the goal so far and the literal of t: 'equal literals give that literal, opposite ones give false'
unfoldable pub and_join : ℕ → Added → Outcome Added
and_join goal t =
    cond (eqb goal t.literal) (answer t)
    (cond (eqb goal (opposite t.literal)) (no_literal t)
    (put t 3 goal t.literal))

-- 'Clauses are folded left by AND, each right after its ORs'; the literal of t is the goal so far
unfoldable pub and_all : Added → List (List ℕ) → Outcome Added
and_all t [] = answer t
and_all t (c ∷ cs) = clause t c >>= λ u. and_join t.literal u >>= λ w. and_all w cs

-- 'no clauses give true'
unfoldable pub goal_of : Added → List (List ℕ) → Outcome Added
goal_of t [] = yes_literal t
goal_of t (c ∷ cs) = clause t c >>= λ u. and_all u cs

-- 'The reader builds a table in an empty buffer'
abbrev pub empty : List ℕ → Added
empty buf = record { literal = 0; used = 0; bytes = buf }

unfoldable pub build : List ℕ → File → Outcome Added
build buf f = points (empty buf) 0 f.variables >>= λ t. goal_of t f.clauses
