-- `adding::grow_last` meets its contract: the last block is lent, and comes back grown. Assumes nothing.
use mathlib.Core.List.{List}
use Prim.Native.Nat.{ℕ, ◌+◌, ◌*◌, ◌-◌}
use Rattle.writer.specs.Grown.{grown}
use Rattle.adding.proofs.Buffers.{mid_back, part_at}
use native.Mathlib.Omega.{arith}
use borrow.Author.Rules.{rules}
use Rattle.adding.proofs.grow_last.Goals as goal

pub grow_block-requires : goal.grow_block-requires
grow_block-requires c = (
  search rules,
  omega (arith, c.requires.2),
  rw (part_at c.args.buf.now (c.args.used - 512) (c.args.used - (c.args.used - 512)) 1 (omega (arith, c.requires.0))) c.requires.3,
)

pub returns : goal.returns
returns c = mid_back (λ (l : List ℕ). grown l (4 + 8 * c.args.held) c.args.r)
    c.args.buf.now (c.args.used - 512) c.args.used 512 (omega (arith, c.requires.0)) c.grow_block.ensures
