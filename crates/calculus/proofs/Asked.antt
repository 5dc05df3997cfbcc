-- Laws of `asked_by`: when the rows before a search refuse nothing, and what is then known. Assumes nothing.
use mathlib.Core.Path.{◌≡◌, ap, ◌∙◌}
use mathlib.Core.List.{List}
use mathlib.Core.Bool.{true, ◌&&◌}
use Prim.Native.Nat.{ℕ, ◌*◌, ◌<◌, ◌≤◌}
use native.Mathlib.Omega.{arith}
use lib.Dec.{leb, ltb}
use lib.ListN.{length, get_or}
use borrow.Author.Tests.{lt-ltb, le-leb, ltb-true, leb-true}
use Rattle.scope.specs.declared.Node.{Node}
use Rattle.scope.specs.Outcome.{Outcome, answer, fine, require, ◌>>◌}
use Rattle.scope.specs.Table.{decode}
use Rattle.scope.proofs.Tests.{and_left, and_right, and_both, met, required, then_first, then_next, bound}
use Rattle.scope.proofs.First.{all_fine, fine_each}
use Rattle.calculus.specs.Model.{most_goals}
use Rattle.calculus.specs.Decide.{list_row, goal_row, goals_test, rows_test, Admitted, asked_by, asked}
use Rattle.calculus.proofs.Lists.{all_at, all_index}

-- row 62: a list that is not empty and not too long
module _ (goals : List ℕ) where
  pub list_fine : 0 < length goals → length goals ≤ most_goals → list_row goals ≡ fine
  list_fine some most = met _ 62 0 (and_both _ _ (lt-ltb 0 (length goals) some) (le-leb (length goals) most_goals most))

  pub list_met : list_row goals ≡ fine → (0 < length goals) × (length goals ≤ most_goals)
  list_met e =
      let ok : (ltb 0 (length goals) && leb (length goals) most_goals) ≡ true = required _ 62 0 e in
      (ltb-true 0 (length goals) (and_left (ltb 0 (length goals)) _ ok), leb-true (length goals) most_goals (and_right (ltb 0 (length goals)) _ ok))

module _ (listed : Outcome (Unit {0})) (nodes : ℕ) (goals : List ℕ) (needed points area : ℕ) where
  pub rows-fine : Admitted listed nodes goals needed points area → rows_test listed nodes goals needed points area ≡ fine
  unfolding rows_test
  rows-fine r =
      let g : goals_test nodes goals ≡ fine =
      all_fine (goal_row nodes goals) (length goals) 0 (λ k a h.
      met _ 20 k (lt-ltb (get_or goals k 0) (2 * nodes) (all_at (λ l. l < 2 * nodes) goals k 0 r.below (omega arith)))) in
      rw (r.list, g, le-leb needed points r.settings, le-leb 32768 area r.work)

  pub rows_met : rows_test listed nodes goals needed points area ≡ fine → Admitted listed nodes goals needed points area
  unfolding rows_test
  rows_met e =
      let t = then_next listed _ e in
      let g = then_first (goals_test nodes goals) _ t in
      let r = then_next (goals_test nodes goals) _ t in
      record {
        list = then_first listed _ e;
        below = all_index (λ l. l < 2 * nodes) goals 0
            (λ k h. ltb-true (get_or goals k 0) (2 * nodes) (required _ 20 k (fine_each (goal_row nodes goals) (length goals) 0 g k (omega arith) (omega arith))));
        settings = leb-true needed points (required _ 21 0 (then_first (require (leb needed points) 21 0) _ r));
        work = leb-true 32768 area (required _ 23 0 (then_next (require (leb needed points) 21 0) _ r));
      }

-- a table that reads
module _ (listed : Outcome (Unit {0})) (t goals : List ℕ) (needed points area : ℕ) where
  pub by_rows : {rs : List Node} → decode t ≡ answer rs
      → asked_by listed t goals needed points area ≡ (rows_test listed (length rs) goals needed points area >> answer rs)
  unfolding asked_by
  by_rows e = rw e

  pub by-fine : {rs : List Node} → decode t ≡ answer rs → Admitted listed (length rs) goals needed points area
      → asked_by listed t goals needed points area ≡ answer rs
  by-fine {rs} e r = by_rows e ∙ rw (rows-fine listed (length rs) goals needed points area r)

  pub by_read : {rs : List Node} → asked_by listed t goals needed points area ≡ answer rs
      → (decode t ≡ answer rs) × Admitted listed (length rs) goals needed points area
  unfolding asked_by
  by_read {rs} e =
      let b = bound (decode t) _ e in
      let r : rows_test listed (length b.0) goals needed points area ≡ fine = then_first _ _ b.2 in
      let s : answer b.0 ≡ answer rs = then_next (rows_test listed (length b.0) goals needed points area) _ b.2 in
      let q : b.0 ≡ rs = cc in
      (b.1 ∙ ap answer q, rw q at (rows_met listed (length b.0) goals needed points area r))

-- .. and a list of goals
module _ (t goals : List ℕ) (needed points area : ℕ) where
  pub asked-fine : {rs : List Node} → decode t ≡ answer rs → Admitted (list_row goals) (length rs) goals needed points area
      → asked t goals needed points area ≡ answer rs
  asked-fine = by-fine (list_row goals) t goals needed points area

  pub asked-read : {rs : List Node} → asked t goals needed points area ≡ answer rs
      → (decode t ≡ answer rs) × Admitted (list_row goals) (length rs) goals needed points area
  asked-read = by_read (list_row goals) t goals needed points area
