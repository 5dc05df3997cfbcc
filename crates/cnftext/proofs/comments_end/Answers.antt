-- `cnftext::comments_end` meets its contract: what is left has the same text behind its comments. Assumes nothing.
use mathlib.Core.Path.{◌≡◌, ◌∙◌, ap, sym}
use Prim.Native.Nat.{ℕ}
use lib.ListN.{length, drop}
use native.Mathlib.Omega.{arith}
use Rattle.cnftext.proofs.Parts.{comment_byte, comment_starts, no_comment, comments_done}
use Rattle.cnftext.proofs.comments_end.Goals as goal
use Rattle.cnftext.proofs.comments_end.Goals.{then-inside, else-inside+else-b-ne99}

pub returns-then-b-ne99 : goal.returns-then-b-ne99
returns-then-b-ne99 c = record {
  within = omega arith;
  behind = sym c.loop-i.invariant ∙ no_comment _ _ c.loop-i-test.true c.if-inside.false c.if-b-ne99.true;
}

pub loop-i-preserved : goal.loop-i-preserved
loop-i-preserved c =
    let h = c.loop-i-test.true in
    elim c.if-inside.branch [
      | then-inside w ↦ comment_byte _ _ h w.if-inside.true w.inside-is ∙ c.loop-i.invariant
      | else-inside+else-b-ne99 w ↦ comment_starts _ _ h w.if-inside.false w.if-b-ne99.false w.inside-is ∙ c.loop-i.invariant
    ]

pub returns : goal.returns
returns c =
    let end : c.loop-i.i ≡ length c.args.text.now = omega (arith, c.loop-i.auto) in
    record {
      within = omega arith;
      behind = sym c.loop-i.invariant ∙ comments_done _ _ c.loop-i-test.false _ ∙ ap (λ (i : ℕ). drop i c.args.text.now) end;
    }
