-- `rests::clear` meets its contract. The loop's invariant: the words passed are 0. Assumes nothing.
use Prim.Native.Nat.{◌+◌, ◌*◌}
use borrow.Author.Rules.{rules}
use native.Mathlib.Omega.{arith}
use Rattle.rests.proofs.Held.{rests_zero}
use Rattle.rests.proofs.clear.Goals as goal

pub returns : goal.returns
returns c = record {
  size = search rules;
  none = λ q b. rests_zero c.loop-i.m q (λ j h. c.loop-i.invariant (2 * q + j) (omega arith));
}
