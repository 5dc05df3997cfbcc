-- The truths that a table's searches speak of: those under all settings. Assumes nothing.
use mathlib.Core.Path.{◌≡◌}
use mathlib.Core.List.{List, [], append-nil}
use mathlib.Core.Bool.{Bool}
use Prim.Native.Nat.{ℕ, ◌*◌, ◌<◌}
use native.Mathlib.Omega.{arith}
use lib.ListN.{length}
use Rattle.scope.specs.declared.Node.{Node}
use Rattle.scope.specs.Outcome.{answer}
use Rattle.scope.specs.Table.{decode}
use Rattle.scope.specs.Truth.{truth}
use Rattle.scope.specs.Kleene.{Fills}
use Rattle.codec.specs.Valid.{Bytes}
use Rattle.calculus.specs.Order.{setting_of}
use Rattle.calculus.specs.Decide.{nodes_of}
use Rattle.calculus.proofs.Search.{never_cut}
use Rattle.asking.proofs.Models.{table_of, never_true, filled-true, all_no, no_fills}
use Rattle.questions.specs.Asking.{answered, Decides}

-- a setting makes a literal of the nodes true; and it fills the 2s of a final list's setting
abbrev pub holds : List Node → List ℕ → ℕ → Bool
holds rs v l = truth v rs l

abbrev pub FillsOf : List Node → List ℕ → List ℕ → Type 0
FillsOf rs G v = Fills (setting_of rs G) v

module _ (t : List ℕ) (rs : List Node) (all : Bytes t) (e : decode t ≡ answer rs) (some : 0 < length rs) where
  pub decides : Decides (List ℕ) (holds rs) (FillsOf rs) (λ l. l < 2 * length rs) (answered rs)
  decides = record {
    any = [];
    base = omega arith;
    some = λ ls G b q. (all_no rs G, no_fills rs G);
    makes = λ ls G b q v f. filled-true t rs all e ls b q [] v (rw (append-nil (setting_of rs G)) f);
    none = λ ls b q v a. never_true t rs all e ls b q v a;
    ends = λ ls b q. never_cut (length rs) (nodes_of rs) ls (table_of t rs all e) b q;
  }
