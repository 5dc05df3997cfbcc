-- What the search over an index came to, as decide's answer. Assumes nothing.
use mathlib.Core.Path.{◌≡◌, sym, ap, ap₂, ◌∙◌}
use mathlib.Core.List.{List, []}
use Prim.Native.Nat.{ℕ}
use Rattle.scope.specs.declared.Node.{Node}
use Rattle.calculus.specs.Expansion.{expand}
use Rattle.calculus.specs.Order.{Answer}
use Rattle.calculus.specs.Jump.{jump, end_answer, stopped}
use Rattle.state.specs.Work.{g_of}
use Rattle.searching.specs.Search.{found_of}
use Rattle.searching.specs.Jumps.{made_by, found_by, Counted}
use Rattle.searching.specs.declared.Ended.{Ended}
use Rattle.deciding.specs.Decides.{Said, word_of}

module _ {t : ℕ → Node} {n : ℕ} {goals w : List ℕ} {r : Ended} (f : Counted t n goals w r) (s : List ℕ) where
  -- the answer and the splits, of either case
  ended : {y : Ended} → r ≡ y → found_of (found_by y) (g_of w) ≡ end_answer (jump 128 (expand t) goals n 0 []).end
  ended q = ap (λ (y : Ended). found_of (found_by y) (g_of w)) (sym q) ∙ f.answered

  made : {y : Ended} → r ≡ y → made_by y ≡ stopped (jump 128 (expand t) goals n 0 []).splits
  made q = ap made_by (sym q) ∙ f.counted

  said : {y : Ended} → r ≡ y → ◌≡◌ {A = Said} (record { word = word_of (found_of (found_by y) (g_of w)); splits = made_by y })
      (record { word = word_of (end_answer (jump 128 (expand t) goals n 0 []).end); splits = stopped (jump 128 (expand t) goals n 0 []).splits })
  said q = ap₂ (λ (a : Answer) (k : ℕ). record { word = word_of a; splits = k }) (ended q) (made q)
