-- How many literals the clauses of a literal have, by their row, and the clause that the move looked up is on. Assumes nothing.
use mathlib.Core.Path.{◌≡◌, refl, sym, ◌∙◌}
use mathlib.Core.Bool.{Bool, true, ◌&&◌}
use mathlib.Core.List.{List, [], ◌∷◌, map}
use Prim.Native.Nat.{ℕ, zero, suc, ◌+◌, ◌-◌, ◌*◌, ◌/◌, ◌%◌, ◌^◌, ◌<◌, ◌≤◌}
use native.Mathlib.Nat.{zero-add}
use native.Mathlib.Omega.{arith}
use lib.Dec.{eqb}
use lib.ListN.{length, get_or, length-map}
use borrow.Author.Tests.{eqb-true, lt-ltb, le-ltb}
use Rattle.scope.specs.declared.Node.{Node}
use Rattle.scope.proofs.Tests.{and_left, and_right}
use Rattle.calculus.specs.Expansion.{templates, chosen, expand}
use Rattle.calculus.proofs.Lists.{every, every_all, all_at, all_imply, all_map}
use Rattle.rules.specs.declared.Version.{Version}
use Rattle.state.specs.Work.{tail, lit_at, g_of, place_of, Numbered}
use Rattle.state.proofs.Clauses.{at_goal, at_position}
use Rattle.moves.specs.Place.{goals_at, place_number, Placed}
use Rattle.counting.specs.Count.{Lengths, Sized, SizedIn}

-- ---- the clauses of a row

-- two bits a row
abbrev pub row_size : ℕ → ℕ
row_size row = 33728925696 / 2 ^ (2 * row) % 4

-- those of the rows from i on have that many literals each
abbrev sized_from : ℕ → List (List (List ℕ)) → Bool
sized_from i [] = true
sized_from i (cs ∷ rows) = every (λ c. eqb (length c) (row_size i)) cs && sized_from (suc i) rows

all_sized : sized_from 0 templates ≡ true
unfolding templates
all_sized = refl

sized_at : (i k : ℕ) (rows : List (List (List ℕ))) → sized_from i rows ≡ true → every (λ c. eqb (length c) (row_size (i + k))) (get_or rows k []) ≡ true
sized_at i k [] e = refl
sized_at i zero (cs ∷ rows) e =
    let z : i + 0 ≡ i = omega arith in
    rw z (and_left (every (λ c. eqb (length c) (row_size i)) cs) (sized_from (suc i) rows) e)
sized_at i (suc k) (cs ∷ rows) e =
    let z : i + suc k ≡ suc i + k = omega arith in
    rw z (sized_at (suc i) k rows (and_right (every (λ c. eqb (length c) (row_size i)) cs) (sized_from (suc i) rows) e))

-- .. so have those of a literal
pub lengths_are : (t : ℕ → Node) (l : ℕ) {r : ℕ} → r ≡ row_size (2 * (t (l / 2)).kind + l % 2) → Lengths t l r
unfolding expand
lengths_are t l {r} e =
    let row : ℕ = 2 * (t (l / 2)).kind + l % 2 in
    let all = every_all (λ c. eqb (length c) (row_size row)) (get_or templates row []) (rw zero-add at (sized_at 0 row templates all_sized)) in
    record {
      all = all_map (λ c. length c ≡ r) (map (chosen (t (l / 2)))) (get_or templates row [])
          (all_imply (λ c. eqb (length c) (row_size row) ≡ true) (λ c. length (map (chosen (t (l / 2))) c) ≡ r)
          (λ c q. length-map c (chosen (t (l / 2))) ∙ eqb-true (length c) (row_size row) q ∙ sym e) (get_or templates row []) all);
      low = omega (arith, e);
    }

-- ---- the clause at the place that is kept

module _ {t : ℕ → Node} {goals w : List ℕ} (P : Placed t goals w (place_number w)) where
  pub sized_goal : goals_at ≤ place_of w → Sized t goals (g_of w) (place_number w) 1
  unfolding place_number
  sized_goal z = record {
    size = rw (le-ltb (place_of w) goals_at z, at_goal t goals (tail w) (place_of w - goals_at) (tail w 0) (P.goal z));
    low = omega arith;
  }

  pub sized_position : Numbered t goals (tail w) → place_of w < goals_at → {r : ℕ} → Lengths t (lit_at (tail w) (place_of w / 4)) r
      → Sized t goals (g_of w) (place_number w) r
  unfolding place_number
  sized_position N z {r} h =
      let q : ℕ = place_of w / 4 in
      let j : ℕ = place_of w % 4 in
      record {
        size =
            rw (lt-ltb (place_of w) goals_at z, N q (omega (arith, P.held z)), at_position t goals (tail w) q (tail w 0) j (P.held z) (P.column z))
            (sym (all_at (λ c. length c ≡ r) (expand t (lit_at (tail w) q)) j [] h.all (P.column z)));
        low = h.low;
      }

-- ---- in a version

-- of the clause that the move looked up is on
pub sized_on : {v : Version} {t : ℕ → Node} {goals w : List ℕ} {k free r : ℕ} → Placed t goals w k → SizedIn v t goals (g_of w) (place_number w) free r
    → SizedIn v t goals (g_of w) k free r
sized_on p z = rw p.number at z
