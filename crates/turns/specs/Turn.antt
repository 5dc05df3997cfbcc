-- 02, request 13, first part: a search that stops after any turn and goes on later. It needs nothing but G and its verdict.
-- Assumes nothing.
use Rattle.std.specs.Prelude.{List, [], ◌∷◌, Bool, true, false, cond, ◌&&◌, ◌||◌, ℕ, zero, suc, ◌+◌, eqb, length}
use Rattle.calculus.specs.Expansion.{neg}
use Rattle.calculus.specs.Order.{move, Tree, conflict, unit, split, model, cut, Answer, possible, impossible, unfinished, answer_of}
use Rattle.calculus.specs.declared.Move.{Move}
use Rattle.calculus.specs.declared.Move.TheVariants.{Conflict, Unit as Single, Done, Split}

-- where a question's search stands: still running, at G, the newest first; possible, with the final G; impossible
pub data Search : Type 0 where
  running : List ℕ → Search
  found : List ℕ → Search
  closed : Search

abbrev pub verdict_of : Search → Answer
verdict_of (running G) = unfinished
verdict_of (found G) = possible G
verdict_of closed = impossible

abbrev pub is_running : Search → Bool
is_running (running G) = true
is_running (found G) = false
is_running closed = false

-- what a search has come to, as a number: 0 impossible, 1 possible, 2 unfinished
abbrev pub number_of : Search → ℕ
number_of (running G) = 2
number_of (found G) = 1
number_of closed = 0

-- l joined where the move was SPLIT l: that split is open. Where ¬l did, it has turned
abbrev pub is_open : Move → ℕ → Bool
is_open (Conflict k) l = false
is_open (Single k m) l = false
is_open Done l = false
is_open (Split m) l = eqb l m

-- the literals that can have joined at a move: UNIT's; SPLIT's, or its negation
abbrev pub follows : Move → ℕ → Bool
follows (Conflict k) l = false
follows (Single k m) l = eqb l m
follows Done l = false
follows (Split m) l = eqb l m || eqb l (neg m)

module _ (expand : ℕ → List (List ℕ)) (goals : List ℕ) where
  -- 'The branch closes; the newest open split turns right with its old state.' 'Impossible: all branches closed.'
  unfoldable pub back : List ℕ → Search
  back [] = closed
  back (l ∷ G) = cond (is_open (move expand goals G) l) (running (neg l ∷ G)) (back G)

  -- the open splits: how many literals were held at each, the newest first
  unfoldable pub opens : List ℕ → List ℕ
  opens [] = []
  opens (l ∷ G) = cond (is_open (move expand goals G) l) (length G ∷ opens G) (opens G)

  -- what a move makes of G
  abbrev pub made : Move → List ℕ → Search
  made (Conflict k) G = back G
  made (Single k l) G = running (l ∷ G)
  made Done G = found G
  made (Split l) G = running (l ∷ G)

  -- 'A turn is one UNIT, CONFLICT or SPLIT of the plain order, or the finding that all clauses are met.'
  unfoldable pub turn : Search → Search
  turn (running G) = made (move expand goals G) G
  turn (found G) = found G
  turn closed = closed

  -- a list whose literals may join once more, the oldest first: each follows the move before it
  unfoldable pub replays : List ℕ → Bool
  replays [] = true
  replays (l ∷ G) = replays G && follows (move expand goals G) l

  -- a search that can go on: a finished one has nothing to do
  abbrev pub resumes : Search → Bool
  resumes (running G) = replays G
  resumes (found G) = true
  resumes closed = true

  -- literals that do not replay are of no search of these goals: they are taken for none
  abbrev pub taken_up : List ℕ → List ℕ
  taken_up G = cond (replays G) G []

  -- .. so that a search that is read off numbers stands at its start there
  abbrev pub resumed : Search → Search
  resumed (running G) = running (taken_up G)
  resumed (found G) = found G
  resumed closed = closed

-- so many turns, one after another
unfoldable pub times : (Search → Search) → ℕ → Search → Search
times f zero s = s
times f (suc m) s = times f m (f s)

-- the turns of a right branch, by what the left one ends on: 'a model on the left ends the search'
abbrev pub right_turns : Answer → ℕ → ℕ
right_turns (possible G) n = 0
right_turns impossible n = n
right_turns unfinished n = 0

-- how many turns a search takes: one for each UNIT, CONFLICT and SPLIT on its way, one for the finding
unfoldable pub turns_of : Tree → ℕ
turns_of (conflict k) = 1
turns_of (unit k l below) = suc (turns_of below)
turns_of (split l left right) = suc (turns_of left + right_turns (answer_of left) (turns_of right))
turns_of (model G) = 1
turns_of cut = 0
