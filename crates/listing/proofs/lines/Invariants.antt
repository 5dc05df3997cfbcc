use mathlib.Core.Path.{◌≡◌}
use mathlib.Core.List.{List}
use Prim.Native.Nat.{◌+◌, ◌*◌, ◌≤◌}
use lib.ListN.{length}
use Rattle.scope.specs.declared.Node.{Node}
use Rattle.text.specs.Text.{Put}
use Rattle.text.specs.Listing.{node_lines}
use Rattle.listing.specs.Lines.{most_line, Same}
use Rattle.listing.proofs.lines.Given as goal

abbrev pub invariant-loop-m : goal.invariant-loop-m
invariant-loop-m g l = (l.m ≤ l.nodes) × (l.start ≤ l.end) × (l.end ≤ l.start + most_line * l.m) × (length l.out ≡ length l.initial.out) × (length l.work ≡ length l.initial.work)
    × ((rs : List Node) → Same l.x l.nodes rs → Put l.initial.out l.start (node_lines rs l.m) l.out l.end)
