-- 'Jump over splits that don't matter': the solver's order, in which each literal and each conflict has the splits that it rests on, and a
-- right branch is skipped where the left one's conflict does not rest on the split. The clauses of a literal come from any `expand`.
-- Assumes nothing.
use Rattle.std.specs.Prelude.{List, [], ◌∷◌, map, Bool, true, false, cond, not, ◌&&◌, ◌||◌, ℕ, zero, suc, ◌+◌, eqb, ltb, length, get_or}
use Rattle.calculus.specs.Expansion.{neg}
use Rattle.calculus.specs.Order.{clauses, move, Tree, conflict, unit, split, model, cut, Answer, possible, impossible, unfinished, answer_of}
use Rattle.calculus.specs.Count.{at_most}
use Rattle.calculus.specs.declared.Move.{Move}
use Rattle.calculus.specs.declared.Move.TheVariants.{Conflict, Unit as Single, Done, Split}

-- ---- the splits that something rests on

-- by their names: a split's is the number of 'earlier splits on its branch, whichever side those are on'
abbrev pub Rests : Type 0
Rests = ℕ → Bool

-- 'Goals rest on nothing.'
abbrev pub nothing : Rests
nothing = λ i. false

abbrev pub both : Rests → Rests → Rests
both a b = λ i. a i || b i

-- 'A split's left literal rests on that split'; 'only a split with fewer than 128 earlier splits on its branch .. counts'
abbrev pub only : ℕ → ℕ → Rests
only cap d = λ i. eqb i d && ltb d cap

-- 'less that split'
abbrev pub less : ℕ → Rests → Rests
less d s = λ i. s i && not (eqb i d)

-- a literal of G, the newest first, with what it rests on
pub record Held : Type 0 where
  pub literal : ℕ
  pub rests : Rests

abbrev pub hold : ℕ → Rests → Held
hold l s = record { literal = l; rests = s }

abbrev pub literals : List Held → List ℕ
literals H = map (λ h. h.literal) H

-- what a literal of G rests on; nothing, if it is not there
unfoldable pub rest_of : List Held → ℕ → Rests
rest_of [] l = nothing
rest_of (h ∷ H) l = cond (eqb l h.literal) h.rests (rest_of H l)

-- 'what its clause's false literals .. rest on': where a literal is false, its negation is in G
unfoldable pub false_rest : List Held → List ℕ → Rests
false_rest H [] = nothing
false_rest H (l ∷ c) = both (rest_of H (neg l)) (false_rest H c)

module _ (expand : ℕ → List (List ℕ)) (goals : List ℕ) where
  -- 'and the literal whose expansion gave the clause': the newest one's clauses come after all others
  unfoldable pub origin_rest : List Held → ℕ → Rests
  origin_rest [] k = nothing
  origin_rest (h ∷ H) k = cond (ltb k (length (clauses expand goals (literals H)))) (origin_rest H k) h.rests

  -- what a UNIT literal rests on, by the number of its clause; 'a conflict likewise'
  abbrev pub clause_rest : List Held → ℕ → Rests
  clause_rest H k = both (false_rest H (get_or (clauses expand goals (literals H)) k [])) (origin_rest H k)

-- ---- the search

-- a branch ends on a model, with its G; or closed, with what the conflict rests on. `short`: the fuel ran out
pub data End : Type 0 where
  found : List ℕ → End
  closed : Rests → End
  short : End

-- how a search ends, and the splits made
pub record Jumped : Type 0 where
  pub end : End
  pub splits : ℕ

-- an end without a split
abbrev pub stop : End → Jumped
stop e = record { end = e; splits = 0 }

-- 'skip the right and pass its conflict up', or take the right
abbrev pub turn : Bool → Rests → (Rests → Jumped) → Jumped
turn true s right = stop (closed s)
turn false s right = right s

-- 'when one that counts has a closed left branch whose conflict doesn't rest on it'; 'every other split always turns right when its
-- left closes'; 'when both sides close, the right conflict goes up'
abbrev pub after_left : ℕ → ℕ → End → (Rests → Jumped) → Jumped
after_left cap d (found G) right = stop (found G)
after_left cap d (closed s) right = turn (ltb d cap && not (s d)) s right
after_left cap d short right = stop short

-- one more split, with those of its sides
abbrev pub sides : ℕ → ℕ → Jumped → (Rests → Jumped) → Jumped
sides cap d left right =
    let r : Jumped = after_left cap d left.end right in
    record { end = r.end; splits = suc (left.splits + r.splits) }

module _ (cap : ℕ) (expand : ℕ → List (List ℕ)) (goals : List ℕ) where
  -- a move, where d splits are on the branch; 'its right literal on what the left conflict rests on, less that split'
  abbrev pub step : Move → ℕ → List Held → (ℕ → List Held → Jumped) → Jumped
  step (Conflict k) d H go = stop (closed (clause_rest expand goals H k))
  step (Single k l) d H go = go d (hold l (clause_rest expand goals H k) ∷ H)
  step Done d H go = stop (found (literals H))
  step (Split l) d H go = sides cap d (go (suc d) (hold l (only cap d) ∷ H)) (λ s. go (suc d) (hold (neg l) (less d s) ∷ H))

  unfoldable pub jump : ℕ → ℕ → List Held → Jumped
  jump zero d H = step (move expand goals (literals H)) d H (λ e F. stop short)
  jump (suc fuel) d H = step (move expand goals (literals H)) d H (jump fuel)

-- what it ends on, as the answer of a search
abbrev pub end_answer : End → Answer
end_answer (found G) = possible G
end_answer (closed s) = impossible
end_answer short = unfinished

-- ---- counts

-- the splits that the plain order makes: 'a model on the left ends the search'
abbrev pub on_right : Answer → ℕ → ℕ
on_right (possible G) r = 0
on_right impossible r = r
on_right unfinished r = 0

unfoldable pub splits_of : Tree → ℕ
splits_of (conflict k) = 0
splits_of (unit k l below) = splits_of below
splits_of (split l left right) = suc (splits_of left + on_right (answer_of left) (splits_of right))
splits_of (model G) = 0
splits_of cut = 0

-- 'stopping at 4,294,967,295'
abbrev pub stopped : ℕ → ℕ
stopped made = at_most 4294967295 made
