-- `index::pass_block` meets its contract. The loop's invariant: what is left to pass gives what all gave. Assumes nothing.
use mathlib.Core.Path.{◌≡◌, ◌∙◌}
use Prim.Native.Nat.{◌<◌}
use lib.ListN.{length}
use Rattle.index.specs.Index.{index_size, most_nodes}
use Rattle.index.proofs.Marks.{sunk_more, sunk-over}
use Rattle.index.proofs.Falls.{fits_passed, fits_fewer, flags_passed}
use native.Mathlib.Omega.{arith}
use Rattle.index.proofs.pass_block.Goals as goal

pub pass-d-requires : goal.pass-d-requires
pass-d-requires c = let i = c.loop-p.invariant in
    let o = c.in-Some.ensures in record {
      p_lt_most_nodes = (omega (arith, o.1), omega (arith, o.1, o.0), c.requires.records.0 _ (omega (arith, o.1)), omega (arith, c.requires.records.2));
      all = c.requires.records.1 _ (omega (arith, o.1));
      fits = (fits_fewer c.loop-p.d c.loop-p.x _ _ (omega (arith, o.1)) i.3, o.2);
    }

pub loop-p-preserved : goal.loop-p-preserved
loop-p-preserved c = let i = c.loop-p.invariant in
    let o = c.in-Some.ensures in
    let e = c.pass-d.ensures in
    let bytes = c.args.t.now in
    let x = c.loop-p.x in
    let d = c.loop-p.d in
    let p = c.in-Some.p in
    let below : p < c.args.end = omega (arith, o.1) in
    let few : p < most_nodes = omega arith in
    let size : length x ≡ index_size = omega (arith, c.requires.records.2) in
    let early = c.requires.records.1 p below in
    let kind = (c.requires.records.0 p below).1 in
    let f = fits_passed bytes x d p few size early kind o.2 (fits_fewer d x _ _ (omega (arith, o.1)) i.3) in
    let g = flags_passed bytes x d p few size early o.2 (λ m h. i.4 m (omega (arith, h, o.1))) in (
      o.0,
      omega arith,
      rw (e.0, e.1) (sunk_more bytes x d p) ∙ sunk-over bytes x d _ _ o.1 o.3 ∙ i.2,
      rw (e.0, e.1) f,
      (λ m h. rw e.0 (g m h)),
    )

pub returns : goal.returns
returns c = let i = c.loop-p.invariant in
    let d = c.loop-p.d in
    let x = c.loop-p.x in
    let none = rw c.in_default.is at c.pass_over.ensures in (
      sunk-over c.args.t.now x d _ _ i.0 none ∙ i.2,
      omega (arith, c.requires.records.2),
      fits_fewer d x _ _ i.0 i.3,
      λ m h. i.4 m (omega arith),
    )
