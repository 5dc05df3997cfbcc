-- `asking::admit_over` meets its contract: what is lent has no record in it, and before it the index stays. Assumes nothing.
use mathlib.Core.Path.{◌≡◌, ◌∙◌}
use native.Mathlib.Omega.{arith}
use lib.ListN.{length}
use borrow.Rule.Slice.PartMut.{put_mid}
use borrow.Author.Rules.{rules}
use Rattle.repeats.specs.Chains.{chain_cells}
use Rattle.index.specs.Index.{edges_at}
use Rattle.asking.proofs.Lends.{lent-zeros, stays_unfilled}
use Rattle.asking.proofs.admit_over.Goals as goal

pub slice_bounds-admit-end : goal.slice_bounds-admit-end
slice_bounds-admit-end c = omega (arith, c.requires.size)

pub admit-requires : goal.admit-requires
admit-requires c = lent-zeros c.requires

pub returns : goal.returns
returns c =
    let same : length (put_mid edges_at chain_cells c.args.x.now c.admit.new.chains) ≡ length c.args.x.now = search rules in
    record {
      admits = c.admit.ensures;
      x_len = (same ∙ c.requires.size, stays_unfilled c.requires c.admit.new.chains);
    }
