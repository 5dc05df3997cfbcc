-- `truth::settings_verdict` meets its contract: what is left of the tests at p is the answer. Assumes nothing.
use mathlib.Core.Path.{◌∙◌, sym}
use Prim.Native.Nat.{◌<◌, ◌≤◌}
use native.Mathlib.Omega.{arith}
use lib.ListN.{get_or}
use borrow.Author.Tests.{lt-ltb, le-ltb, lt-leb, le-leb}
use Rattle.scope.specs.Calls.{settings_test}
use Rattle.scope.proofs.First.{stops, goes, done, all_fine}
use Rattle.scope.proofs.Tests.{met}
use Rattle.truth.proofs.settings_verdict.Invariants.{row}
use Rattle.truth.proofs.settings_verdict.Goals as goal

pub returns-then-s-lt1024 : goal.returns-then-s-lt1024
unfolding settings_test
returns-then-s-lt1024 c = simp (lt-leb _ _ c.if-s-lt1024.true)

pub returns-then-all_low : goal.returns-then-all_low
unfolding settings_test
returns-then-all_low c = let s = c.args.s.now in
    let low = c.all_low.ensures c.if-all_low.true in
    sym (simp (le-leb _ _ c.if-s-lt1024.false) (all_fine (row s) 1024 0 (λ k a h. met _ 22 k (lt-ltb (get_or s k 0) 3 (low k (omega (arith, h)))))))

pub loop-p-init : goal.loop-p-init
unfolding settings_test
loop-p-init c = simp (le-leb _ _ c.if-s-lt1024.false)

pub returns-then-s-p-gt2 : goal.returns-then-s-p-gt2
returns-then-s-p-gt2 c = let s = c.args.s.now in
    let high : 3 ≤ get_or s c.loop-p.p 0 = omega (arith, c.if-s-p-gt2.true) in
    sym (stops (row s) c.loop-p.p 1024 22 c.loop-p.p c.loop-p-test.true (simp (le-ltb (get_or s c.loop-p.p 0) 3 high)))
    ∙ c.loop-p.invariant

pub loop-p-preserved : goal.loop-p-preserved
loop-p-preserved c = let s = c.args.s.now in
    let low : get_or s c.loop-p.p 0 < 3 = omega (arith, c.if-s-p-gt2.false) in
    sym (goes (row s) c.loop-p.p 1024 c.loop-p-test.true (met _ 22 c.loop-p.p (lt-ltb (get_or s c.loop-p.p 0) 3 low))) ∙ c.loop-p.invariant

pub returns : goal.returns
returns c = sym (done _ _ _ c.loop-p-test.false) ∙ c.loop-p.invariant
