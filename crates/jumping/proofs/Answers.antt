-- 'Verdict and settings equal those of the plain order on every input', and the splits are 'never more than the plain order
-- makes under the same stop'. For every list of goals, and however many splits count. Assumes nothing.
use mathlib.Core.Path.{◌≡◌, sym, ap}
use mathlib.Core.List.{List, []}
use Prim.Native.Nat.{ℕ, ◌≤◌}
use native.Mathlib.Omega.{arith}
use lib.ListN.{length}
use Rattle.scope.specs.declared.Node.{Node}
use Rattle.calculus.specs.Expansion.{expand}
use Rattle.calculus.specs.Order.{Tree, tree, answer_of}
use Rattle.calculus.specs.Model.{Table, Below}
use Rattle.calculus.specs.Jump.{End, found, closed, short, Jumped, jump, end_answer, splits_of, stopped}
use Rattle.calculus.specs.Decide.{nodes_of, settings_on, decided, plainly, AsPlain}
use Rattle.calculus.proofs.Limits.{most_less}
use Rattle.jumping.proofs.Jumps.{Matches, Agrees, agree}

module _ (cap n : ℕ) (t : ℕ → Node) (goals : List ℕ) (T : Table n t) (B : Below n goals) where
  abbrev jumped : Jumped
  jumped = jump cap (expand t) goals n 0 []

  abbrev plain : Tree
  plain = tree (expand t) goals n []

  agrees : Agrees cap n t goals [] jumped plain
  agrees = agree cap n t goals T B n 0 [] [] (record { good = tt; opens = tt; sure = tt }) (omega arith)

  -- the same answer, with the same G
  pub same_answer : end_answer jumped.end ≡ answer_of plain
  same_answer = go jumped.end agrees.matches
    where
      go : (e : End) → Matches cap n t goals [] e (answer_of plain) → end_answer e ≡ answer_of plain
      go (found G) m = sym m
      go (closed s) m = sym m.0
      go short m = absurd m

  pub never_short : jumped.end ≡ short → ⊥
  never_short e = go jumped.end e agrees.matches
    where
      go : (w : End) → w ≡ short → Matches cap n t goals [] w (answer_of plain) → ⊥
      go (found G) q m = let z : ◌≡◌ {A = ℕ} 0 1 = cc in omega arith
      go (closed s) q m = let z : ◌≡◌ {A = ℕ} 0 1 = cc in omega arith
      go short q m = m

  pub fewer_splits : jumped.splits ≤ splits_of plain
  fewer_splits = agrees.fewer

  pub fewer_stopped : stopped jumped.splits ≤ stopped (splits_of plain)
  fewer_stopped = most_less 4294967295 jumped.splits (splits_of plain) fewer_splits

-- what decide answers, beside the plain order
pub decided-plain : (rs : List Node) (goals s : List ℕ) → Table (length rs) (nodes_of rs) → Below (length rs) goals
    → AsPlain (decided rs goals s) (plainly rs goals s)
decided-plain rs goals s T B = record {
  verdict = same_answer 128 (length rs) (nodes_of rs) goals T B;
  settings = ap (settings_on rs s) (same_answer 128 (length rs) (nodes_of rs) goals T B);
  splits = fewer_stopped 128 (length rs) (nodes_of rs) goals T B;
}
