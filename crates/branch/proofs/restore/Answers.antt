-- `branch::restore` meets its contract. The newest split's numbers are read, the strikes and the literals after it go, and its counts come
-- back. Assumes nothing.
use mathlib.Core.Path.{refl, ◌∙◌}
use Prim.Native.Nat.{◌-◌}
use native.Mathlib.Omega.{arith}
use lib.ListN.{length-set}
use Rattle.index.specs.Index.{index_node}
use Rattle.area.specs.Area.{depth}
use Rattle.branch.proofs.Turns.{opened, held_restorable, open-reaches, shrink-ready, restores}
use Rattle.branch.proofs.restore.Goals as goal

pub bounds-work-d : goal.bounds-work-d
bounds-work-d c = omega
    (arith, held_restorable (index_node c.args.x.now) c.args.n c.args.work.now c.requires.indexed.few c.requires.held.0 c.requires.held.1)

pub bounds-work-d-2 : goal.bounds-work-d-2
bounds-work-d-2 c = omega
    (arith, held_restorable (index_node c.args.x.now) c.args.n c.args.work.now c.requires.indexed.few c.requires.held.0 c.requires.held.1)

pub bounds-work-c : goal.bounds-work-c
bounds-work-c c = omega
    (arith, held_restorable (index_node c.args.x.now) c.args.n c.args.work.now c.requires.indexed.few c.requires.held.0 c.requires.held.1)

pub bounds-work-d-3 : goal.bounds-work-d-3
bounds-work-d-3 c = omega
    (arith, held_restorable (index_node c.args.x.now) c.args.n c.args.work.now c.requires.indexed.few c.requires.held.0 c.requires.held.1)

pub unwind-requires : goal.unwind-requires
unwind-requires c = let t = index_node c.args.x.now in
    let n = c.args.n in
    let w = c.args.work.now in
    let few = c.requires.indexed.few in
    let H = c.requires.held in
    record {
      area_size_in_bounds = (held_restorable t n w few H.0 H.1).size;
      reaches = open-reaches t n w few (opened t n w few H.0 H.1) (depth w - 1) refl;
    }

pub shrink-requires : goal.shrink-requires
shrink-requires c = let t = index_node c.args.x.now in
    let n = c.args.n in
    let w = c.args.work.now in
    let few = c.requires.indexed.few in
    let H = c.requires.held in
    let ready = shrink-ready t n w few (opened t n w few H.0 H.1) refl c.unwind.ensures in
    record {
      area_size_in_bounds = ready.0;
      trail = ready.1;
    }

pub shape_of-work : goal.shape_of-work
shape_of-work c = simp length-set (c.shrink.ensures.size ∙ c.unwind.ensures.size)

pub returns : goal.returns
returns c = restores c.requires.indexed.few refl c.unwind.ensures c.shrink.ensures
