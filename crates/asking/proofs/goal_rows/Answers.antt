-- `asking::goal_rows` meets its contract: what is left of the tests at i is the answer. Assumes nothing.
use mathlib.Core.Path.{◌≡◌, ◌∙◌, ap, sym}
use Prim.Native.Nat.{◌*◌, ◌<◌, ◌≤◌, ◌-◌}
use native.Mathlib.Omega.{arith}
use lib.ListN.{length, get_or}
use borrow.Author.Rules.{rules}
use borrow.Author.Tests.{lt-ltb, le-ltb}
use Rattle.scope.specs.Outcome.{first}
use Rattle.scope.proofs.First.{stops, goes, done}
use Rattle.scope.proofs.Tests.{met}
use Rattle.calculus.specs.Decide.{goal_row}
use Rattle.asking.proofs.goal_rows.Goals as goal

pub loop-i-init : goal.loop-i-init
loop-i-init c = let whole : length c.args.goals.now - 0 ≡ length c.args.goals.now = omega arith in
    (omega arith, ap (first (goal_row c.args.nodes c.args.goals.now) 0) whole)

pub returns-then-nodes-wide : goal.returns-then-nodes-wide
returns-then-nodes-wide c = let g = c.args.goals.now in
    let n = c.args.nodes in
    let i = c.loop-i.i in
    let high : 2 * n ≤ get_or g i 0 = omega (arith, c.if-nodes-wide.true, c.wide.ensures) in
    sym (stops (goal_row n g) i (length g) 20 i c.loop-i-test.true (simp (le-ltb (get_or g i 0) (2 * n) high))) ∙ c.loop-i.invariant.1

pub loop-i-preserved : goal.loop-i-preserved
loop-i-preserved c = let g = c.args.goals.now in
    let n = c.args.nodes in
    let i = c.loop-i.i in
    let low : get_or g i 0 < 2 * n = omega (arith, c.if-nodes-wide.false, c.wide.ensures) in
    (search rules, sym (goes (goal_row n g) i (length g) c.loop-i-test.true (met _ 20 i (lt-ltb (get_or g i 0) (2 * n) low))) ∙ c.loop-i.invariant.1)

pub returns : goal.returns
returns c = sym (done _ _ _ c.loop-i-test.false) ∙ c.loop-i.invariant.1
