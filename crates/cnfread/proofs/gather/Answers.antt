-- `cnfread::gather` meets its contract: c of the clause has been read. Assumes nothing.
use Rattle.cnfread.proofs.Words.{partly_none, literal_low, both_found, both-stays, partly_literal, partly_done, partly_open, partly_bad, partly_end}
use native.Mathlib.Omega.{arith}
use Rattle.cnfread.proofs.gather.Goals as goal
use Rattle.cnfread.proofs.gather.Goals.{then-marks-opposite-ne0, else-marks-opposite-ne0}

pub loop-next-init : goal.loop-next-init
loop-next-init c = partly_none c.args.vars c.args.text.now c.args.at c.requires.0 c.requires.2

pub next_token-requires : goal.next_token-requires
next_token-requires c = (c.loop-next.invariant.within, c.requires.1)

pub returns-then-under : goal.returns-then-under
returns-then-under c = let u = c.loop-next.invariant in let t = c.in-Done.ensures in partly_open u t c.if-under.true

pub returns-in-Done : goal.returns-in-Done
returns-in-Done c = let u = c.loop-next.invariant in let t = c.in-Done.ensures in partly_done u t c.if-under.false

pub returns-in-Malformed : goal.returns-in-Malformed
returns-in-Malformed c = let u = c.loop-next.invariant in let t = c.in-Malformed.ensures in partly_bad u t.1

pub returns-in-End : goal.returns-in-End
returns-in-End c = let u = c.loop-next.invariant in let t = c.in-End.ensures in partly_end u t

pub opposite-requires : goal.opposite-requires
opposite-requires c = let u = c.loop-next.invariant in
    let t = c.in-Literal.ensures in
    omega (arith, literal_low c.requires.1 t)

pub bounds-marks-opposite : goal.bounds-marks-opposite
bounds-marks-opposite c = let u = c.loop-next.invariant in
    let t = c.in-Literal.ensures in
    omega (arith, literal_low c.requires.1 t, c.opposite.ensures, u.keeps.size)

pub keep-count-requires : goal.keep-count-requires
keep-count-requires c = let u = c.loop-next.invariant in
    let t = c.in-Literal.ensures in
    record {
      kept = u.keeps;
      l_bound = literal_low c.requires.1 t;
    }

pub loop-next-smaller : goal.loop-next-smaller
loop-next-smaller c = let u = c.loop-next.invariant in
    let t = c.in-Literal.ensures in
    omega (arith, t.later, t.within)

pub loop-next-preserved : goal.loop-next-preserved
loop-next-preserved c = let u = c.loop-next.invariant in
    let t = c.in-Literal.ensures in
    let low = literal_low c.requires.1 t in
    let o = c.opposite.ensures in
    partly_literal u t c.keep-count.ensures
    (elim c.if-marks-opposite-ne0.branch [
      | then-marks-opposite-ne0 w ↦ both_found u low o w.if-marks-opposite-ne0.true w.both-is
      | else-marks-opposite-ne0 w ↦ both-stays u low o w.if-marks-opposite-ne0.false w.both-is
    ])
