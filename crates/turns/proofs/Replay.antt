-- A list that turns reach replays: each of its literals may join again at the move before it. Assumes nothing.
use mathlib.Core.Path.{◌≡◌, refl, ap}
use mathlib.Core.List.{List, [], ◌∷◌}
use mathlib.Core.Bool.{Bool, true, false, cond, ◌||◌, or-true, false≢true}
use Prim.Native.Nat.{ℕ, zero, suc, ◌≤◌}
use lib.Dec.{eqb}
use lib.ListN.{length}
use borrow.Author.Tests.{eq-eqb, eqb-true}
use Rattle.scope.specs.declared.Node.{Node}
use Rattle.scope.proofs.Tests.{by_test, and_left, and_right, and_both}
use Rattle.calculus.specs.Expansion.{neg, expand}
use Rattle.calculus.specs.Order.{move}
use Rattle.calculus.specs.Model.{Table, Below, Fresh, Good}
use Rattle.calculus.specs.declared.Move.{Move}
use Rattle.calculus.specs.declared.Move.TheVariants.{Conflict, Unit as Single, Done, Split}
use Rattle.calculus.proofs.Literals.{neg-fresh}
use Rattle.calculus.proofs.Count.{at_most}
use Rattle.calculus.proofs.Fresh.{unit_fresh, split-fresh}
use Rattle.turns.specs.Turn.{Search, running, found, closed, is_open, follows, back, made, turn, replays, resumes, resumed, times}
use Rattle.turns.proofs.Splits.{open_split}

module _ (expand : ℕ → List (List ℕ)) (goals : List ℕ) where
  abbrev move_at : List ℕ → Move
  move_at G = move expand goals G

  -- a search whose list replays
  abbrev pub Replays : Search → Type 0
  Replays (running G) = replays expand goals G ≡ true
  Replays (found G) = replays expand goals G ≡ true
  Replays closed = Unit {0}

  -- one literal more, and one less
  pub replays_more : (G : List ℕ) (l : ℕ) → replays expand goals G ≡ true → follows (move_at G) l ≡ true → replays expand goals (l ∷ G) ≡ true
  unfolding replays
  replays_more G l r f = and_both (replays expand goals G) (follows (move_at G) l) r f

  pub replays_less : (G : List ℕ) (l : ℕ) → replays expand goals (l ∷ G) ≡ true → (replays expand goals G ≡ true) × (follows (move_at G) l ≡ true)
  unfolding replays
  replays_less G l e = (and_left (replays expand goals G) (follows (move_at G) l) e, and_right (replays expand goals G) (follows (move_at G) l) e)

  module _ (G : List ℕ) (m : Move) (e : move_at G ≡ m) (r : replays expand goals G ≡ true) where
    by_move : (l : ℕ) → follows m l ≡ true → replays expand goals (l ∷ G) ≡ true
    by_move l f = replays_more G l r (rw e f)

  -- the right turn of an open split
  turned : (G : List ℕ) (l : ℕ) (m : Move) → move_at G ≡ m → replays expand goals G ≡ true → Replays (back expand goals G)
      → Replays (cond (is_open m l) (running (neg l ∷ G)) (back expand goals G))
  turned G l (Conflict k) e r b = b
  turned G l (Single k j) e r b = b
  turned G l Done e r b = b
  turned G l (Split j) e r b =
      by_test (eqb l j)
      (λ q. rw q (by_move G (Split j) e r (neg l) (rw (eq-eqb (neg l) (neg j) (ap neg (eqb-true l j q))) (or-true (eqb (neg l) j)))))
      (λ q. rw q b)

  pub back_replays : (G : List ℕ) → replays expand goals G ≡ true → Replays (back expand goals G)
  unfolding back
  back_replays [] e = tt
  back_replays (l ∷ G) e =
      let r = (replays_less G l e).0 in
      turned G l (move_at G) refl r (back_replays G r)

  made_replays : (G : List ℕ) (m : Move) → move_at G ≡ m → replays expand goals G ≡ true → Replays (made expand goals m G)
  made_replays G (Conflict k) e r = back_replays G r
  made_replays G (Single k l) e r = by_move G (Single k l) e r l (eq-eqb l l refl)
  made_replays G Done e r = r
  made_replays G (Split l) e r = by_move G (Split l) e r l (rw (eq-eqb l l refl))

  -- a turn keeps it, and so do any number of them
  pub turn_replays : (s : Search) → Replays s → Replays (turn expand goals s)
  unfolding turn
  turn_replays (running G) r = made_replays G (move_at G) refl r
  turn_replays (found G) r = r
  turn_replays closed r = r

  pub times_replays : (k : ℕ) (s : Search) → Replays s → Replays (times (turn expand goals) k s)
  unfolding times
  times_replays zero s r = r
  times_replays (suc k) s r = times_replays k (turn expand goals s) (turn_replays s r)

  -- what turns reach from the start replays
  pub reached : (k : ℕ) → Replays (times (turn expand goals) k (running []))
  unfolding replays
  reached k = times_replays k (running []) refl

  -- the test: turns keep it, whatever search they start on
  replays_resumes : (s : Search) → Replays s → resumes expand goals s ≡ true
  replays_resumes (running G) r = r
  replays_resumes (found G) r = refl
  replays_resumes closed r = refl

  pub turn_resumes : (s : Search) → resumes expand goals s ≡ true → resumes expand goals (turn expand goals s) ≡ true
  unfolding turn
  turn_resumes (running G) r = replays_resumes (turn expand goals (running G)) (turn_replays (running G) r)
  turn_resumes (found G) r = refl
  turn_resumes closed r = refl

  pub times_resumes : (k : ℕ) (s : Search) → resumes expand goals s ≡ true → resumes expand goals (times (turn expand goals) k s) ≡ true
  unfolding times
  times_resumes zero s r = r
  times_resumes (suc k) s r = times_resumes k (turn expand goals s) (turn_resumes s r)

-- a search that was taken up can go on, and one that can go on is taken up as it is
module _ (e : ℕ → List (List ℕ)) (goals : List ℕ) where
  pub resumed_resumes : (s : Search) → resumes e goals (resumed e goals s) ≡ true
  unfolding replays
  resumed_resumes (running G) = on (replays e goals G) refl
    where
      on : (b : Bool) → replays e goals G ≡ b → replays e goals (cond b G []) ≡ true
      on true z = z
      on false z = refl
  resumed_resumes (found G) = refl
  resumed_resumes closed = refl

  pub resumes_resumed : (s : Search) → resumes e goals s ≡ true → resumed e goals s ≡ s
  resumes_resumed (running G) r = rw r
  resumes_resumed (found G) r = refl
  resumes_resumed closed r = refl

-- ---- a list that replays is good, so a literal that follows may be assumed

module _ (n : ℕ) (t : ℕ → Node) (goals : List ℕ) (T : Table n t) (B : Below n goals) where
  module _ (G : List ℕ) (l : ℕ) (g : Good n G) where
    follows-fresh : (m : Move) → move (expand t) goals G ≡ m → follows m l ≡ true → Fresh n G l
    follows-fresh (Conflict k) e f = absurd (false≢true f)
    follows-fresh (Single k j) e f = rw (eqb-true l j f) (unit_fresh n t goals T B G g k j e)
    follows-fresh Done e f = absurd (false≢true f)
    follows-fresh (Split j) e f = on (eqb l j) refl f
      where
        on : (b : Bool) → eqb l j ≡ b → (b || eqb l (neg j)) ≡ true → Fresh n G l
        on true q f = rw (eqb-true l j q) (split-fresh n t goals T B G g j e)
        on false q f = rw (eqb-true l (neg j) f) (neg-fresh n G j (split-fresh n t goals T B G g j e))

    -- what follows the move is fresh
    pub may-join : follows (move (expand t) goals G) l ≡ true → Fresh n G l
    may-join f = follows-fresh (move (expand t) goals G) refl f

    -- and so is the right turn of an open split
    pub may-turn : is_open (move (expand t) goals G) l ≡ true → Fresh n G (neg l)
    may-turn f = neg-fresh n G l (split-fresh n t goals T B G g l (open_split (move (expand t) goals G) l f))

  pub replays_good : (G : List ℕ) → replays (expand t) goals G ≡ true → Good n G
  replays_good [] e = tt
  replays_good (l ∷ G) e =
      let r = replays_less (expand t) goals G l e in
      let g = replays_good G r.0 in
      (may-join G l g r.1, g)

  -- no more literals than nodes
  pub replays_short : (G : List ℕ) → replays (expand t) goals G ≡ true → length G ≤ n
  replays_short G e = at_most n G (replays_good G e)
