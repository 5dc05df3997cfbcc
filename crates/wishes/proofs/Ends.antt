-- The goals alone, then the questions: where they end. Assumes nothing.
use mathlib.Core.Path.{◌≡◌, ap, ◌∙◌}
use mathlib.Core.List.{List, ◌++◌}
use mathlib.Core.Bool.{Bool, true, false, cond}
use Rattle.std.specs.Prelude.{Ok}
use Prim.Native.Nat.{ℕ}
use lib.Dec.{eqb}
use lib.ListN.{length, drop}
use lib.Seq.{drop_at}
use Rattle.scope.specs.declared.Node.{Node}
use Rattle.scope.specs.Table.{list_from}
use Rattle.calculus.specs.Order.{setting_of}
use Rattle.calculus.proofs.Setting.{setting_length}
use Rattle.index.specs.Index.{index_node}
use Rattle.state.specs.Work.{g_of}
use Rattle.searching.specs.declared.Found.TheVariants.{Model}
use Rattle.searching.specs.Search.{Solved}
use Rattle.granting.specs.declared.Grant.{Grant}
use Rattle.granting.specs.Visits.{Grants}
use Rattle.wishes.specs.Wishes.{Stands, Posed, Answered}

-- ---- the answers

module _ (x : List ℕ) (n : ℕ) (goals wishes : List ℕ) (m : ℕ) (s : List ℕ) where
  module _ (w : List ℕ) (h : Solved (index_node x) n goals w Model) where
    abbrev rs : List Node
    rs = list_from (index_node x) 0 n

    -- the first answer's setting, and that of what stands
    module _ (s₁ : List ℕ) (e : s₁ ≡ setting_of rs (g_of w) ++ drop 1024 s) where
      beyond : drop 1024 s₁ ≡ drop 1024 s
      beyond = ap (drop 1024) e ∙ drop_at (setting_of rs (g_of w)) (drop 1024 s) 1024 (setting_length rs (g_of w))

      standing-set : (b : Bool) (G : List ℕ) → cond b s₁ (setting_of rs G ++ drop 1024 s₁) ≡ setting_of rs (cond b (g_of w) G) ++ drop 1024 s
      standing-set true G = e
      standing-set false G = ap (setting_of rs G ++◌) beyond

      pub granted-by : (list : List ℕ) → Posed n goals wishes list → (w₂ s₂ : List ℕ) (r : Grant) → Grants x n (length goals) wishes list m w₂ r
          → Stands (index_node x) n r.met (g_of w₂) s₁ s₂ → Answered x n goals wishes m s s₂ (Ok r)
      granted-by list p w₂ s₂ r g z =
          let d = rw p.first at (g.wished (g_of w)) in
          record {
            answered = rw (← h.answered, ← d);
            settings = rw (← h.answered, ← d) (z ∙ standing-set (eqb r.met 0) (g_of w₂));
          }
