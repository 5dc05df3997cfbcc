-- `searching::go_on` meets its contract: the sets of the literals held are empty, and so is a new set of units. Assumes nothing.
use Rattle.searching.specs.Jumps.{blank}
use Rattle.searching.proofs.Jumps.{jumps_from, held_most, counted-whole}
use Rattle.rests.proofs.Held.{cleared_same, cleared_slots}
use Rattle.state.proofs.Idle.{split_idle}
use Rattle.solver.proofs.Undoes.{split_anew}
use Rattle.units.specs.Units.{words}
use Rattle.units.proofs.Sets.{cleared}
use lib.ListN.{replicate, get_or-replicate}
use mathlib.Core.Path.{refl}
use native.Mathlib.Omega.{arith}
use Rattle.searching.proofs.go_on.Goals as goal

pub clear-requires : goal.clear-requires
clear-requires c = omega (arith, held_most c.requires.left_off.0.1.holds, c.count-held.ensures, c.requires.left_off.1.size)

pub search-requires : goal.search-requires
search-requires c = let q = c.requires.left_off.0.1 in
    let H = split_anew c.requires.indexed.few q.holds q.splits in
    let none = (cleared (replicate words 0) refl (λ i b. get_or-replicate words i 0 0 b)).1 in
    let sets = cleared_slots c.count-held.result c.requires.left_off.1 c.clear.ensures in
    record {
      indexed = c.requires.indexed;
      goals = c.requires.goals;
      holds = H;
      slots = (sets, omega arith, record { idle = split_idle H q.splits; picks = λ e. absurd (e refl); none = λ _ _. none });
    }

pub returns : goal.returns
returns c = let q = c.requires.left_off.0.1 in
    let none = cleared_same c.count-held.result (omega (arith, held_most q.holds, c.requires.indexed.few, c.count-held.ensures)) c.clear.ensures in
    let done = c.search.ensures in
    record {
      counted = counted-whole {m = blank} q.same (jumps_from {m = blank} (λ i h. none i (omega (arith, h, c.count-held.ensures))) done);
      slots = done.sets;
    }
