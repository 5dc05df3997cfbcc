-- What decide's answer means: the verdict and the settings of the plain order, with no more splits (`decide-plain`); impossible exactly
-- when no setting makes all goals true (`decide_exact`), and the settings that it gives make them true, as evaluate says
-- (`decide_evaluates`). Assumes nothing.
use mathlib.Core.Path.{◌≡◌, sym, ◌∙◌, subst}
use mathlib.Core.List.{List}
use Prim.Native.Nat.{ℕ}
use lib.ListN.{length, drop}
use Rattle.scope.specs.declared.Node.{Node}
use Rattle.scope.specs.declared.Truth.TheVariants.{Yes}
use Rattle.scope.specs.Outcome.{answer}
use Rattle.scope.specs.Table.{decode}
use Rattle.scope.specs.Calls.{evaluate}
use Rattle.scope.proofs.Tests.{bound}
use Rattle.codec.specs.Valid.{Bytes}
use Rattle.calculus.specs.Order.{possible, impossible, answer_of}
use Rattle.calculus.specs.Model.{All}
use Rattle.calculus.specs.Decide.{list_row, search_of, Decided, asked, decided, plainly, AsPlain, decide, Admitted, Unsatisfiable, ◌⇔◌}
use Rattle.calculus.proofs.Asked.{asked-read}
use Rattle.jumping.proofs.Answers.{decided-plain}
use Rattle.asking.proofs.Models.{table_of, setting-yes, search-exact}

module _ (t goals s w : List ℕ) (all : Bytes t) {d : Decided} (e : decide t goals s w ≡ answer d) where
  -- it is of the nodes of a table that was asked
  of_nodes : (rs : List Node) × (asked t goals 1024 (length s) (length w) ≡ answer rs) × (answer (decided rs goals s) ≡ answer d)
  unfolding decide
  of_nodes = bound (asked t goals 1024 (length s) (length w)) _ e

  same_answer : d ≡ decided of_nodes.0 goals s
  same_answer =
      let z : answer (decided of_nodes.0 goals s) ≡ answer d = of_nodes.2 in
      cc

  read : (decode t ≡ answer of_nodes.0) × Admitted (list_row goals) (length of_nodes.0) goals 1024 (length s) (length w)
  read = asked-read t goals 1024 (length s) (length w) of_nodes.1

  as_plain : AsPlain d (plainly of_nodes.0 goals s)
  as_plain =
      subst (λ (y : Decided). AsPlain y (plainly of_nodes.0 goals s)) (sym same_answer)
      (decided-plain of_nodes.0 goals s (table_of t of_nodes.0 all read.0) read.1.below)

  -- 'Verdict and settings equal those of the plain order on every input', and the splits are 'never more than the plain order makes'
  pub decide-plain : (rs : List Node) × (decode t ≡ answer rs) × AsPlain d (plainly rs goals s)
  decide-plain = (of_nodes.0, read.0, as_plain)

  pub decide_exact : (d.verdict ≡ impossible) ⇔ Unsatisfiable t goals
  decide_exact = rw as_plain.verdict (search-exact t of_nodes.0 all read.0 goals read.1.below)

  pub decide_evaluates : {G : List ℕ} → d.verdict ≡ possible G → All (λ g. evaluate t g d.settings ≡ answer Yes) goals
  decide_evaluates {G} v =
      let p : answer_of (search_of of_nodes.0 goals) ≡ possible G = sym as_plain.verdict ∙ v in
      rw (as_plain.settings, p) (setting-yes t of_nodes.0 all read.0 goals read.1.below p (drop 1024 s))
