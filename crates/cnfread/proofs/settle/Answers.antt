-- `cnfread::settle` meets its contract: a table is written, and a refusal is the first one. Assumes nothing.
use native.Mathlib.Omega.{arith}
use Rattle.cnfread.proofs.Reading.{turned_away, settled_at, settled-refused}
use Rattle.cnfread.proofs.settle.Goals as goal
use Rattle.cnfread.proofs.settle.Goals.{In-Ok}

pub write-used-requires : goal.write-used-requires
write-used-requires c h = omega (arith, h, c.requires.0.room_is)

pub returns-then-r-eq61 : goal.returns-then-r-eq61
returns-then-r-eq61 c =
    turned_away c.args.text.now c.args.buf.now (λ i. (c.type_inv.buf i).fits) _ (c.requires.1 _ c.in-Err.is c.if-r-eq61.true)

pub returns-else-r-eq61 : goal.returns-else-r-eq61
returns-else-r-eq61 c = settled-refused c.args.text.now c.args.buf.now (λ i. (c.type_inv.buf i).fits) c.requires.0 c.in-Err.is c.first_refusal.ensures

pub returns-in-Ok : goal.returns-in-Ok
returns-in-Ok c =
    settled_at c.args.text.now c.args.buf.now (λ i. ((goal.at.returns-in-Ok c).In-Ok.type_inv.buf i).fits) c.requires.0 c.in-Ok.is c.write-used.ensures
