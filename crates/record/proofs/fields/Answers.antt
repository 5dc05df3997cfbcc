-- `record::fields` meets its contract: the three words and the byte that it reads are the fields of `node_of`. Assumes nothing.
use Rattle.scope.specs.Table.{node_of}
use Rattle.record.proofs.fields.Goals as goal

pub returns : goal.returns
unfolding node_of
returns c = simp (c.word-a.ensures, c.word-b.ensures, c.word-c.ensures)
