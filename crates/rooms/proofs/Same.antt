-- Nodes that agree below n give one search, turn by turn. Assumes nothing.
use mathlib.Core.Path.{◌≡◌, refl, ap, ◌∙◌}
use mathlib.Core.Bool.{Bool, true, false, ◌&&◌}
use mathlib.Core.List.{List, [], ◌∷◌}
use Prim.Native.Nat.{ℕ, ◌<◌}
use Rattle.scope.specs.declared.Node.{Node}
use Rattle.calculus.specs.Expansion.{expand}
use Rattle.calculus.specs.Order.{move}
use Rattle.calculus.specs.Model.{Table, Below, Good}
use Rattle.calculus.specs.declared.Move.{Move}
use Rattle.calculus.specs.declared.Move.TheVariants.{Conflict, Unit as Single, Done, Split}
use Rattle.calculus.proofs.Same.{clauses_same}
use Rattle.turns.specs.Turn.{Search, running, found, closed, follows, back, made, turn, replays, resumes, resumed}
use Rattle.turns.proofs.Replay.{replays_good}

module _ (n : ℕ) (t u : ℕ → Node) (same : (i : ℕ) → i < n → t i ≡ u i) (T : Table n t) (goals : List ℕ) (B : Below n goals) where
  move-alike : (G : List ℕ) → Good n G → move (expand t) goals G ≡ move (expand u) goals G
  unfolding move
  move-alike G g = rw (clauses_same n t u same goals G g)

  replays_alike : (G : List ℕ) → replays (expand t) goals G ≡ replays (expand u) goals G
  unfolding replays
  replays_alike [] = refl
  replays_alike (l ∷ G) = on (replays (expand t) goals G) refl (replays_alike G)
    where
      on : (b : Bool) → replays (expand t) goals G ≡ b → replays (expand t) goals G ≡ replays (expand u) goals G
          → (replays (expand t) goals G && follows (move (expand t) goals G) l) ≡ (replays (expand u) goals G && follows (move (expand u) goals G) l)
      on true z y = rw (← y, z, move-alike G (replays_good n t goals T B G z))
      on false z y = rw (← y, z)

  pub resumed_alike : (s : Search) → resumed (expand t) goals s ≡ resumed (expand u) goals s
  resumed_alike (running G) = rw (replays_alike G)
  resumed_alike (found G) = refl
  resumed_alike closed = refl

  back_alike : (G : List ℕ) → Good n G → back (expand t) goals G ≡ back (expand u) goals G
  unfolding back
  back_alike [] g = refl
  back_alike (l ∷ G) g = rw (move-alike G g.1, back_alike G g.1)

  made_alike : (x : Move) (G : List ℕ) → Good n G → made (expand t) goals x G ≡ made (expand u) goals x G
  made_alike (Conflict k) G g = back_alike G g
  made_alike (Single k l) G g = refl
  made_alike Done G g = refl
  made_alike (Split l) G g = refl

  pub turn-alike : (s : Search) → resumes (expand t) goals s ≡ true → turn (expand t) goals s ≡ turn (expand u) goals s
  unfolding turn
  turn-alike (running G) r =
      let g = replays_good n t goals T B G r in
      made_alike (move (expand t) goals G) G g ∙ ap (λ (x : Move). made (expand u) goals x G) (move-alike G g)
  turn-alike (found G) r = refl
  turn-alike closed r = refl
