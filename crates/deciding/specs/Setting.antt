-- What the functions that write a setting leave. Assumes nothing.
use Rattle.std.specs.Prelude.{◌≡◌, cond, List, ℕ, ◌+◌, ◌%◌, ◌<◌, ◌≤◌, eqb, length, get_or, set, drop}
use Rattle.scope.specs.declared.Node.{Node}
use Rattle.index.specs.Index.{index_node}
use Rattle.index.specs.Indexed.{Indexed}
use Rattle.state.specs.Work.{Ready}

-- the points below k may go either way, and nothing from 1,024 on has changed
pub record Cleared (s : List ℕ) (k : ℕ) (s' : List ℕ) : Type 0 where
  pub size : length s' ≡ length s
  pub either : (p : ℕ) → p < k → get_or s' p 0 ≡ 2
  pub beyond : drop 1024 s' ≡ drop 1024 s

-- an index whose ATOMs have points, literals held, and a byte for each point
pub record Points (x : List ℕ) (n : ℕ) (w s : List ℕ) : Type 0 where
  pub indexed : Indexed x n
  pub points : (i : ℕ) → i < n → (index_node x i).kind ≡ 2 → (index_node x i).a < 1024
  pub ready : Ready n w
  pub room : 1024 ≤ length s

-- one literal more: the point of its node y, if that is an ATOM, is yes where it is positive, else no
abbrev pub point_set : Node → ℕ → List ℕ → List ℕ
point_set y l s = cond (eqb y.kind 2) (set s y.a ((l + 1) % 2)) s
