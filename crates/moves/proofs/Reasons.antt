-- The clause at the place that is kept. Assumes nothing.
use mathlib.Core.Path.{◌≡◌, sym, ap, ◌∙◌}
use mathlib.Core.List.{List, [], ◌∷◌}
use Prim.Native.Nat.{ℕ, ◌-◌, ◌*◌, ◌/◌, ◌%◌, ◌<◌, ◌≤◌}
use native.Mathlib.Omega.{arith}
use lib.ListN.{length, get_or}
use borrow.Author.Tests.{lt-ltb, le-ltb}
use Rattle.scope.specs.declared.Node.{Node}
use Rattle.calculus.specs.Expansion.{expand}
use Rattle.calculus.specs.Model.{All, Table, Goals}
use Rattle.calculus.proofs.Fresh.{expand-under}
use Rattle.calculus.proofs.Lists.{all_at, all_imply}
use Rattle.clause.specs.declared.Clause.{Clause}
use Rattle.clause.specs.Literals.{literals}
use Rattle.state.specs.Work.{tail, lit_at, place_of, Ready, Numbered}
use Rattle.state.proofs.Areas.{held_below}
use Rattle.state.proofs.Clauses.{at_goal, at_position}
use Rattle.moves.specs.Place.{place_number, Placed, Reasoned, goals_at}

module _ {t : ℕ → Node} {n : ℕ} {goals w : List ℕ} (gs : Goals n goals) (h : Ready n w) (p : Placed t goals w (place_number w)) where
  -- a goal's
  pub reason_goal : goals_at ≤ place_of w → {k : ℕ} → k ≡ place_of w - goals_at → (c : Clause) → literals c ≡ get_or goals k 0 ∷ [] → Reasoned t n goals w c
  unfolding place_number
  reason_goal i {k} d c e =
      let b : k < length goals = omega (arith, d, p.goal i) in
      record {
        clause = rw (le-ltb (place_of w) goals_at i, ← d) (e ∙ sym (at_goal t goals (tail w) k (tail w 0) b));
        below = rw e (all_at (λ l. l < 2 * n) goals k 0 gs.below b, tt);
      }

  -- that of a position
  module _ (i : place_of w < goals_at) where
    pub position-low : place_of w / 4 < tail w 0
    position-low = p.held i

    pub reason-position : Table n t → Numbered t goals (tail w) → (c : Clause) → {l : ℕ} → l ≡ lit_at (tail w) (place_of w / 4)
        → literals c ≡ get_or (expand t l) (place_of w % 4) [] → Reasoned t n goals w c
    unfolding place_number
    reason-position T u c {l} d e =
        let b : l < 2 * n = rw d (held_below h (place_of w / 4) position-low) in
        let o : place_of w % 4 < length (expand t l) = rw d (p.column i) in
        let a = all_imply (λ m. m / 2 < l / 2) (λ m. m < 2 * n) (λ m y. omega (arith, y, b)) (get_or (expand t l) (place_of w % 4) [])
        (all_at (All (λ m. m / 2 < l / 2)) (expand t l) (place_of w % 4) [] (expand-under n t T l b) o) in
        record {
          clause =
              rw (lt-ltb (place_of w) goals_at i, u (place_of w / 4) (omega (arith, position-low)))
              (e ∙ ap (λ (k : ℕ). get_or (expand t k) (place_of w % 4) []) d
              ∙ sym (at_position t goals (tail w) (place_of w / 4) (tail w 0) (place_of w % 4) position-low (p.column i)));
          below = rw e a;
        }
