-- `text::refused` meets its contract: five texts, each behind the one before. Assumes nothing.
use native.Mathlib.Omega.{arith}
use Rattle.text.specs.Text.{ascii, refused_line}
use Rattle.text.proofs.Text.{behind}
use Rattle.text.proofs.refused.Goals as goal

pub returns : goal.returns
unfolding ascii refused_line
returns c = behind (omega arith) c.put-a.ensures
    (behind (omega arith) c.number-b.ensures.put
    (behind (omega arith) c.put-c.ensures
    (behind (omega arith) c.number-d.ensures.put c.put.ensures)))
