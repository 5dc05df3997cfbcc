-- What is granted is that of the definition: the sizes fall, and with those that are left the walk is the whole one. Assumes nothing.
use mathlib.Core.Path.{◌≡◌, refl}
use Prim.Native.Nat.{◌+◌, ◌-◌}
use native.Mathlib.Omega.{arith}
use lib.ListN.{length}
use Rattle.granting.proofs.Laws.{walked_starts, walked-listed, walked-goes, walked-ends, walked-stops}
use Rattle.granting.proofs.spend.Goals as goal

pub loop-s-init : goal.loop-s-init
loop-s-init c =
    let p = c.requires.gathered in
    let z : length c.args.wishes.now + 1 - 1 ≡ length c.args.wishes.now = omega arith in
    (p.1, rw z (walked_starts _ _ _ _ _ _ _ p.0))

pub visit-requires : goal.visit-requires
visit-requires c =
    let i = c.loop-s.invariant in
    record {
      indexed = c.requires.indexed;
      listed = walked-listed _ _ _ _ _ _ _ c.requires.gathered.0 _ _ _ _ i.1 (omega arith);
      room = (omega (arith, i.1.room, c.ranges.allowance.fits), i.0);
    }

pub loop-s-preserved : goal.loop-s-preserved
loop-s-preserved c =
    let v = c.visit in
    let b = c.requires.gathered.0 in (
      v.ensures.sets,
      rw c.in-Continue.is at
          (walked-goes _ _ _ _ _ _ _ b _ _ _ _ c.loop-s.invariant.1 _ _ _ (omega arith) v.auto.list v.auto.work v.ensures.visited),
    )

pub returns-in-Break : goal.returns-in-Break
returns-in-Break c =
    let v = c.visit in
    let b = c.requires.gathered.0 in
    walked-stops _ _ _ _ _ _ _ b _ _ _ _
    (walked-goes _ _ _ _ _ _ _ b _ _ _ _ c.loop-s.invariant.1 _ _ _ (omega arith) v.auto.list v.auto.work v.ensures.visited) _ c.in-Break.is

pub returns : goal.returns
returns c = walked-ends _ _ _ _ _ _ _ c.requires.gathered.0 _ _ _ _ c.loop-s.invariant.1 _ refl (omega arith)
