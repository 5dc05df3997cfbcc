-- A clause under way, and what reading the body's clauses leaves. Assumes nothing.
use Rattle.std.specs.Prelude.{◌≡◌, Bool, true, false, cond, List, [], ◌∷◌, ℕ, ◌+◌, ◌<◌, ◌≤◌, eqb, length, get_or, take, drop, Option, Some, None, Result, Ok, Err}
use Rattle.scope.specs.declared.Refusal.{Refusal}
use Rattle.scope.specs.Outcome.{Outcome, answer, refused, require, ◌>>◌, ◌>>=◌}
use Rattle.scope.specs.Calls.{Added}
use Rattle.growing.specs.Growing.{Table, Grows, FromAdd}
use Rattle.cnf.specs.Text.{words, clauses_from}
use Rattle.cnf.specs.Fold.{holds, kept, distinct_from, both_signs, yes_literal, or_clause, and_join, and_all, goal_of}
use Rattle.cnffold.specs.Built.{Small}
use Rattle.cnfread.specs.declared.Gathered.{Gathered}

-- the sum of numbers
unfoldable pub total : List ℕ → ℕ
total [] = 0
total (x ∷ xs) = x + total xs

-- the mark of a literal that is held, or not
abbrev pub mark : Bool → ℕ
mark true = 1
mark false = 0

-- the first n literals held are those that are marked, each once
pub record Kept (marks held : List ℕ) (n : ℕ) : Type 0 where
  pub size : length marks ≡ 2048
  pub room : length held ≡ 2048
  pub small : Small held n
  pub marked : (l : ℕ) → l < 2048 → get_or marks l 0 ≡ mark (holds l (take n held))
  pub tallied : total marks ≡ n

-- one literal more, unless it is there
pub record Keeps (held : List ℕ) (n l : ℕ) (marks' held' : List ℕ) (r : ℕ) : Type 0 where
  pub holds : Kept marks' held' r
  pub list : take r held' ≡ kept (take n held) l

-- the clauses of a body from a place on
abbrev pub body_at : ℕ → List ℕ → ℕ → Outcome (List (List ℕ))
body_at vars text at = clauses_from vars [] (words (drop at text))

-- a clause stands at a place: c; its literals without repeats, whether it holds both signs of a variable, and where the text goes on
pub record ReadsClause (vars : ℕ) (text : List ℕ) (at : ℕ) (marks held : List ℕ) (g : Gathered) : Type 0 where
  pub c : List ℕ
  pub keeps : Kept marks held g.count
  pub list : take g.count held ≡ distinct_from [] c
  pub both_is : g.both ≡ both_signs c
  pub later : at < g.next
  pub within : g.next ≤ length text
  pub rest : body_at vars text at ≡ (body_at vars text g.next >>= λ cs. answer (c ∷ cs))

-- what stands at a place of a body
pub record Gathers (vars : ℕ) (text : List ℕ) (at : ℕ) (marks held : List ℕ) (v : Result (Option Gathered) Refusal) : Type 0 where
  pub clause : (g : Gathered) → v ≡ Ok (Some g) → ReadsClause vars text at marks held g
  pub ended : v ≡ Ok None → body_at vars text at ≡ answer []
  pub bad : (r : Refusal) → v ≡ Err r → body_at vars text at ≡ refused 61 0

-- a clause of literals without repeats, or one with both signs of a variable, added
abbrev pub folded : Bool → Added → List ℕ → Outcome Added
folded both t d = cond both (yes_literal t) (or_clause t d)

-- a clause's literal and the goal so far; the first clause is the goal
abbrev pub joined : Bool → ℕ → Added → Outcome Added
joined true goal u = answer u
joined false goal u = and_join goal u

abbrev pub joined_clause : Bool → ℕ → Bool → Added → List ℕ → Outcome Added
joined_clause first goal both t d = folded both t d >>= joined first goal

-- the clauses that are left: all of them, or those behind others whose goal is that of t
abbrev pub remaining : Bool → Added → List (List ℕ) → Outcome Added
remaining true t cs = goal_of t cs
remaining false t cs = and_all t cs

-- 61: the clauses of the body at a place, of which there must be so many
abbrev pub filed : ℕ → List ℕ → ℕ → ℕ → Outcome (List (List ℕ))
filed vars text at n = body_at vars text at >>= λ cs. require (eqb (length cs) n) 61 0 >> answer cs

-- a body folded: where its clauses are cs, the table under way is the outcome for cs, and a goal is answered only where there are such
pub record Folds (body : Outcome (List (List ℕ))) (out : List (List ℕ) → List ℕ → Outcome Added) (room : ℕ) (g : Result ℕ Refusal) (t : Table) : Type 0 where
  pub table : (cs : List (List ℕ)) → body ≡ answer cs → Grows (out cs) room g t
  pub there : (l : ℕ) → g ≡ Ok l → (cs : List (List ℕ)) × (body ≡ answer cs)
  pub room_is : t.room ≡ room

-- a refusal by 61 only where what was read is refused so
abbrev pub Unread : {A : Type 0} → Outcome A → Result ℕ Refusal → Type 0
Unread o g = (r : Refusal) → g ≡ Err r → r.number ≡ 61 → o ≡ refused 61 0

-- what refuses a body folded: one of add's numbers where it has clauses, and 61 only where it is malformed
pub record Refuses (body : Outcome (List (List ℕ))) (g : Result ℕ Refusal) : Type 0 where
  pub adds : (cs : List (List ℕ)) → body ≡ answer cs → FromAdd g
  pub unread : Unread body g
