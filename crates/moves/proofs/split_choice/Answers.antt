-- `moves::split_choice` meets its contract. Assumes nothing.
use mathlib.Core.Path.{◌∙◌}
use Rattle.trail.proofs.Trails.{trail-length}
use Rattle.state.specs.Work.{tail}
use Rattle.state.proofs.Areas.{count_most, held_below}
use Rattle.moves.proofs.Moves.{on, done, split-low, split}
use native.Mathlib.Omega.{arith}
use Rattle.moves.proofs.split_choice.Goals as goal

pub returns-in_default : goal.returns-in_default
returns-in_default c = let p = c.requires.work_value in
    let w = c.args.work.now in
    let e = c.count-held.ensures ∙ trail-length (tail w 0) (tail w) in
    done c.requires.indexed.few c.requires.goals c.requires.holds p.1 p.0 p.2 c.in_default.ensures (rw e at c.advance.ensures) (omega arith)

pub literal-l-requires : goal.literal-l-requires
literal-l-requires c = let R = c.requires.holds.ready in
    (omega (arith, R.size, c.advance-2.ensures.size), omega (arith, c.in-Some.ensures.1, count_most R, c.requires.indexed.few))

pub choose-requires-clause-node_lt_n : goal.choose-requires-clause-node_lt_n
choose-requires-clause-node_lt_n c = let p = c.requires.work_value in
    let (o, b, code) = c.in-Some.ensures in
    let a = c.advance-2.ensures in
    let h = on c.requires.indexed.few c.requires.goals c.requires.holds p.1 p.0 p.2 o a in
    let d = split c.requires.indexed.few c.requires.goals c.requires.holds p.1 p.0 p.2 o a b {l = 0} c.literal-l.ensures code in
    let low = split-low c.requires.indexed.few c.requires.goals c.requires.holds p.1 p.0 p.2 o a b in
    (omega (arith, c.literal-l.ensures, held_below h.ready _ low), d.0)

pub returns : goal.returns
returns c = let p = c.requires.work_value in
    let (o, b, code) = c.in-Some.ensures in
    (split c.requires.indexed.few c.requires.goals c.requires.holds p.1 p.0 p.2 o c.advance-2.ensures b c.literal-l.ensures code).1 c.choose.ensures
