-- `listing::put_line` meets its contract: six texts, each behind the one before. Assumes nothing.
use native.Mathlib.Omega.{arith}
use Rattle.text.specs.Text.{ascii}
use Rattle.text.proofs.Text.{behind}
use Rattle.listing.proofs.put_line.Goals as goal

pub returns : goal.returns
unfolding ascii
returns c = let space = c.put-b.ensures in
    let yes = c.word-c.ensures in
    let space' = c.put-d.ensures in
    let no = c.word-e.ensures in
    let feed = c.put.ensures in
    record {
      text =
          behind (omega arith) c.number-a.ensures.put
          (behind (omega arith) space
          (behind (omega arith) yes.put
          (behind (omega arith) space'
          (behind (omega arith) no.put feed))));
      least = omega arith;
      most = omega arith;
    }
