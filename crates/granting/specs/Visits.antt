-- What the walk's functions leave: the stages of the definition, and the literals that stand. Assumes nothing.
use Rattle.std.specs.Prelude.{◌≡◌, List, cond, ℕ, ◌+◌, ◌-◌, ◌<◌, ◌≤◌, eqb, length, take}
use Rattle.calculus.specs.Model.{question_size, Below}
use Rattle.index.specs.Index.{index_node}
use Rattle.state.specs.Work.{g_of, Ready}
use Rattle.questions.specs.Asking.{asks}
use Rattle.wishing.specs.Wish.{Wished, granted}
use Rattle.wishing.specs.Call.{most_wishes}
use Rattle.wishing.specs.Walk.{Stage, asking, stopped, step, visit}
use Rattle.granting.specs.Counts.{choose, refusals}
use Rattle.granting.specs.declared.Way.{Way}
use Rattle.std.specs.declared.ops.ControlFlow.{ControlFlow}
use Rattle.std.specs.declared.ops.ControlFlow.TheVariants.{Continue, Break}
use Rattle.granting.specs.declared.Grant.{Grant}

-- what stands: the goals' own list as long as no wish is met, and then what the work area holds
abbrev pub standing : List ℕ → List ℕ → ℕ → List ℕ
standing first w met = cond (eqb met 0) first (g_of w)

-- what a code's grant and a code's stage stand for
abbrev pub wished_of : List ℕ → List ℕ → Grant → Wished
wished_of first w r = record { standing = standing first w r.met; k = r.met; u = r.bound; questions = r.questions }

abbrev pub stage_of : List ℕ → List ℕ → ControlFlow Grant Way → Stage
stage_of first w (Continue on) = asking on.put on.left
stage_of first w (Break r) = stopped (wished_of first w r)

-- the questions put and the allowance left fit together
abbrev pub Room : Way → Type 0
Room on = on.put + on.left < 18446744073709551616

-- those put and those left are k; where the walk stops, no more were put
abbrev pub Spends : ControlFlow Grant Way → ℕ → Type 0
Spends (Continue on) k = on.put + on.left ≡ k
Spends (Break r) k = r.questions ≤ k

-- a list whose first `at` literals may be put, with s wishes from lo on behind them; g of them are goals
pub record Listed (n g : ℕ) (wishes list w : List ℕ) (lo s at : ℕ) : Type 0 where
  pub size : length list ≡ question_size
  pub literals : Below n (take at list)
  pub wishes_fit : Below n wishes
  pub left : lo ≤ length wishes
  pub few : length wishes ≤ most_wishes
  pub room : at + s ≤ question_size
  pub goals : g ≤ at
  pub some : g < at + s
  pub ready : Ready n w

pub record Stepped (x : List ℕ) (n g : ℕ) (q w w' : List ℕ) (on : Way) (r : ControlFlow Grant Way) : Type 0 where
  pub stage : (first : List ℕ) → stage_of first w' r ≡ step (asks (index_node x) n) first g q (asking on.put on.left)
  pub room : Spends r (on.put + on.left)
  pub ready : Ready n w'

-- all subsets of s of m wishes are refused
pub record Refused (m s size : ℕ) (on : Way) (r : ControlFlow Grant Way) : Type 0 where
  pub stage : (first w : List ℕ) → stage_of first w r ≡ refusals first (choose m s) size on.put on.left
  pub room : Spends r (on.put + on.left)

pub record Visited (x : List ℕ) (n g : ℕ) (wishes list list' w w' : List ℕ) (lo s at : ℕ) (st r : ControlFlow Grant Way) : Type 0 where
  pub stage : (first : List ℕ)
      → stage_of first w' r ≡ visit (asks (index_node x) n) first g wishes lo (length wishes - lo) s (take at list) (stage_of first w st)
  pub room : (k : ℕ) → Spends st k → Spends r k
  pub kept : take at list' ≡ take at list
  pub ready : Ready n w'

-- before the walk: the first g literals of the list are the goals
pub record Gathered (n g : ℕ) (wishes list w : List ℕ) : Type 0 where
  pub size : length list ≡ question_size
  pub literals : Below n (take g list)
  pub wishes_fit : Below n wishes
  pub few : length wishes ≤ most_wishes
  pub room : g + length wishes ≤ question_size
  pub ready : Ready n w

-- what an allowance of m questions comes to, whatever stands first
pub record Grants (x : List ℕ) (n g : ℕ) (wishes list : List ℕ) (m : ℕ) (w' : List ℕ) (r : Grant) : Type 0 where
  pub wished : (first : List ℕ) → wished_of first w' r ≡ granted (asks (index_node x) n) (take g list) wishes m first
  pub ready : Ready n w'
