-- `rests::put_four` meets its contract. Assumes nothing.
use Rattle.rests.proofs.Words.{slot_spells, or_spells, put_spelled}
use Rattle.rests.proofs.put_four.Goals as goal

pub returns : goal.returns
returns c = let m = c.args.m.now in
    put_spelled m c.args.q c.requires.0
    (or_spells (slot_spells m c.args.a) (or_spells (slot_spells m c.args.b) (or_spells (slot_spells m c.args.c) (slot_spells m c.args.d))))
