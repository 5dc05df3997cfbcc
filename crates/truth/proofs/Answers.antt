-- Where evaluation ends: at a refusal of the table, of the literal or of the setting, or with the literal's truth.
-- Assumes nothing.
use mathlib.Core.Path.{◌≡◌, ◌∙◌, ap, sym}
use mathlib.Core.List.{List, []}
use Prim.Native.Nat.{ℕ, ◌+◌, ◌-◌, ◌*◌, ◌/◌, ◌<◌, ◌≤◌}
use native.Mathlib.Omega.{arith}
use lib.Dec.{ltb, leb}
use lib.ListN.{length, get_or, take}
use borrow.Author.Tests.{lt-ltb, le-ltb, leb-true}
use Rattle.scope.specs.declared.Node.{Node}
use Rattle.scope.specs.Outcome.{answer, refused, fine, require, first, ◌>>◌}
use Rattle.scope.specs.Table.{node_at, list_from, decode}
use Rattle.scope.specs.Truth.{lit_truth, truths_from, truth_in}
use Rattle.scope.specs.Kleene.{kleene, truth₃}
use Rattle.scope.specs.Calls.{table_count, settings_test, evaluate}
use Rattle.scope.proofs.Lists.{length_list_from, take_list_from}
use Rattle.scope.proofs.Tests.{required, then_first, passed_on}
use Rattle.table.proofs.Rows.{counted}
use Rattle.truth.specs.Evaluated.{truth_of, Filled}
use Rattle.truth.proofs.Truths.{lit_prefix}
use Rattle.truth.proofs.Levels.{truth_of_level}
use Rattle.truth.proofs.Filling.{truths, truths_size}

-- the table is refused
pub table_refused : (t s : List ℕ) (l number place : ℕ) → table_count t ≡ refused number place → refused number place ≡ evaluate t l s
unfolding table_count evaluate
table_refused t s l number place e = sym (passed_on (decode t) length _ e)

-- a setting that passed has a byte for each point
pub setting_long : (s : List ℕ) → settings_test s ≡ fine → 1024 ≤ length s
unfolding settings_test
setting_long s e =
    leb-true 1024 (length s) (required (leb 1024 (length s)) 21 0
    (then_first (require (leb 1024 (length s)) 21 0) (first (λ (p : ℕ). require (ltb (get_or s p 0) 3) 22 p) 0 1024) e))

-- the truths of the nodes up to a literal's give its truth among all n
whole-truth : (t s : List ℕ) (l n : ℕ) → l < 2 * n
    → lit_truth kleene (truths_from kleene s [] (list_from (node_at t) 0 (l / 2 + 1))) l ≡ truth₃ s (list_from (node_at t) 0 n) l
unfolding truth_in
whole-truth t s l n h =
    let f : ℕ → Node = node_at t in
    let k : ℕ = l / 2 + 1 in
    let z : k + (n - k) ≡ n = omega arith in
    let first-k : take k (list_from f 0 n) ≡ list_from f 0 k = rw z at (take_list_from f k (n - k) 0) in
    let i : k ≤ length (list_from f 0 n) = rw length_list_from (omega arith) in
    sym (rw first-k at (lit_prefix kleene s (list_from f 0 n) k l i (omega arith)))

-- the rows after a table of n nodes
module _ (t s : List ℕ) (l n : ℕ) (e : table_count t ≡ answer n) where
  rows : evaluate t l s ≡ (require (ltb l (2 * n)) 20 0 >> (settings_test s >> answer (truth₃ s (list_from (node_at t) 0 n) l)))
  unfolding evaluate decode
  rows =
      let c = counted t e in
      let h = length_list_from (node_at t) n 0 in
      rw (c.0, ← c.1, h)

  -- row 20
  pub literal_refused : 2 * n ≤ l → refused 20 0 ≡ evaluate t l s
  literal_refused h = sym (rows ∙ simp (le-ltb l (2 * n) h))

  module _ (h : l < 2 * n) where
    -- row 21 or 22
    pub setting-refused : (number place : ℕ) → settings_test s ≡ refused number place → refused number place ≡ evaluate t l s
    setting-refused number place q = sym (rows ∙ simp (lt-ltb l (2 * n) h, q))

    -- v has the levels of the literals of the nodes up to the literal's
    pub truth-answered : (v : List ℕ) → settings_test s ≡ fine → Filled t s (l / 2 + 1) v → answer (truth_of (get_or v l 0)) ≡ evaluate t l s
    truth-answered v q f =
        let is = f.says l (omega (arith, truths_size t s v (l / 2 + 1))) in
        ap answer (ap truth_of is ∙ truth_of_level (lit_truth kleene (truths t s v (l / 2 + 1)) l) ∙ whole-truth t s l n h)
        ∙ sym (rows ∙ simp (lt-ltb l (2 * n) h, q))
