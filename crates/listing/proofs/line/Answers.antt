-- `listing::line` meets its contract: the words of both literals, then the line. Assumes nothing.
use mathlib.Core.Path.{subst}
use mathlib.Core.List.{List}
use Prim.Native.Nat.{ℕ}
use native.Mathlib.Omega.{arith}
use Rattle.text.specs.Text.{Put}
use Rattle.listing.proofs.Words.{line_of}
use Rattle.listing.proofs.line.Goals as goal

pub returns : goal.returns
returns c = let below = c.requires.m_lt_n.0 in
    let put = c.put_line.ensures in
    record {
      text = λ rs same.
          subst (λ (s : List ℕ). Put c.args.out.now c.args.at s c.put_line.new.out c.put_line.result)
          (line_of rs c.args.m (c.verdict-yes.ensures.word rs same (omega (arith, below))) (c.verdict-no.ensures.word rs same (omega (arith, below))))
          put.text;
      least = put.least;
      most = put.most;
      size = put.text.size;
    }
