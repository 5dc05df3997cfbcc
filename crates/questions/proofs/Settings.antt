-- A readable table's searches decide by its settings: the laws of the calculus, as evaluate takes settings. Assumes nothing.
use mathlib.Core.Path.{◌≡◌, refl, ap}
use mathlib.Core.List.{List, [], ◌∷◌}
use mathlib.Core.Bool.{true}
use Prim.Native.Nat.{ℕ, ◌*◌, ◌<◌}
use native.Mathlib.Omega.{arith}
use lib.ListN.{length}
use Rattle.scope.specs.declared.Node.{Node}
use Rattle.scope.specs.declared.Truth.{Truth}
use Rattle.scope.specs.declared.Truth.TheVariants.{Yes, No, Unknown}
use Rattle.scope.specs.Outcome.{Outcome, answer, refused}
use Rattle.scope.specs.Table.{decode}
use Rattle.scope.specs.Calls.{evaluate}
use Rattle.codec.specs.Valid.{Bytes}
use Rattle.calculus.specs.Model.{All, Below}
use Rattle.calculus.specs.Decide.{nodes_of, Satisfies}
use Rattle.calculus.proofs.Lists.{all_imply}
use Rattle.calculus.proofs.Search.{never_cut}
use Rattle.asking.proofs.Models.{table_of, all_no, no_fills, no-two, no_taken, none-satisfies, filling-satisfies}
use Rattle.questions.specs.Asking.{answered, Decides, Setting, is_yes, says, FilledBy}

yes-said : (o : Outcome Truth) → is_yes o ≡ true → o ≡ answer Yes
yes-said (answer Yes) e = refl
yes-said (answer No) e = absurd (let z : ◌≡◌ {A = ℕ} 0 1 = cc in omega arith)
yes-said (answer Unknown) e = absurd (let z : ◌≡◌ {A = ℕ} 0 1 = cc in omega arith)
yes-said (refused number place) e = absurd (let z : ◌≡◌ {A = ℕ} 0 1 = cc in omega arith)

-- the literals that a setting makes true, by name and by evaluate
module _ (t ls : List ℕ) (v : Setting) where
  pub made : All (λ l. says t v l ≡ true) ls → Satisfies t ls v.0
  made a = (v.1, all_imply (λ l. says t v l ≡ true) (λ l. evaluate t l v.0 ≡ answer Yes) (λ l. yes-said (evaluate t l v.0)) ls a)

  pub making : All (λ l. evaluate t l v.0 ≡ answer Yes) ls → All (λ l. says t v l ≡ true) ls
  making a = all_imply (λ l. evaluate t l v.0 ≡ answer Yes) (λ l. says t v l ≡ true) (λ l q. ap is_yes q) ls a

-- a list that is not empty, of literals of n nodes: there is a node
pub some-node : (n : ℕ) (ls : List ℕ) → Below n ls → 0 < length ls → 0 < n
some-node n [] b h = absurd (omega arith)
some-node n (l ∷ ls) b h = omega (arith, b.0)

module _ (t : List ℕ) (rs : List Node) (all : Bytes t) (e : decode t ≡ answer rs) (some : 0 < length rs) where
  pub decides : Decides Setting (says t) (FilledBy rs) (λ l. l < 2 * length rs) (answered rs)
  decides = record {
    any = ([], λ p h k. omega arith);
    base = omega arith;
    some = λ ls G b q. ((all_no rs G, no-two rs G), (no_fills rs G, no_taken rs G));
    makes = λ ls G b q v f. making t ls v (filling-satisfies t rs all e ls b q v.0 f.0 v.1 f.1).1;
    none = λ ls b q v a. none-satisfies t rs all e ls b q v.0 (made t ls v a);
    ends = λ ls b q. never_cut (length rs) (nodes_of rs) ls (table_of t rs all e) b q;
  }
