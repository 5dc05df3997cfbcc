-- `text::put` meets its contract: the part from the place on comes back as the text. Assumes nothing.
use native.Mathlib.Omega.{arith}
use Rattle.text.proofs.Text.{copied}
use Rattle.text.proofs.put.Goals as goal

pub returns : goal.returns
returns c = copied c.args.out.now c.args.at c.args.s.now (omega arith) c.copy_from_slice.ensures.after
