-- `index::meet` meets its contract: as many marks, and as many edges counted, as the kind has operands. Assumes nothing.
use mathlib.Core.Path.{◌≡◌, ap, ◌∙◌}
use mathlib.Core.List.{List}
use Prim.Native.Nat.{ℕ}
use Rattle.scope.specs.Table.{operands}
use Rattle.index.specs.Index.{index_node}
use Rattle.index.specs.Built.{count_node, Room}
use Rattle.index.specs.Marks.{mark_all}
use Rattle.index.proofs.Rooms.{count_none, count-first, count-second, counted-two, count-three-first, count-three-second, count-three-third, counted-all}
use Rattle.index.proofs.Marks.{marks_none, marks_two, marks_three, first_low, second-low, third-low}
use borrow.Author.Rules.{rules}
use Rattle.index.proofs.meet.Goals.{Then-kind-lt-THREES, After-mark-3}
use Rattle.index.proofs.meet.Goals as goal

-- once the operands' nodes are marked: all are, and there is room for the edges
two : (c : Then-kind-lt-THREES) → c.mark-2.new.x ≡ mark_all c.args.x.now (operands (index_node c.args.x.now c.args.p))
two c = marks_two c.args.x.now c.args.p c.if-kind-lt-PAIRS.false c.if-kind-lt-THREES.true c.mark.ensures c.mark-2.ensures

three : (c : After-mark-3) → c.mark-3.new.x ≡ mark_all c.args.x.now (operands (index_node c.args.x.now c.args.p))
three c = marks_three c.args.x.now c.args.p c.if-kind-lt-THREES.false c.mark.ensures c.mark-2.ensures c.mark-3.ensures

room_two : (c : Then-kind-lt-THREES) → Room c.args.p (index_node c.args.x.now c.args.p) c.mark-2.new.x
room_two c = rw (two c) c.requires.room

room_three : (c : After-mark-3) → Room c.args.p (index_node c.args.x.now c.args.p) c.mark-3.new.x
room_three c = rw (three c) c.requires.room

pub returns-then-kind-lt-PAIRS : goal.returns-then-kind-lt-PAIRS
unfolding index_node
returns-then-kind-lt-PAIRS c = marks_none _ _ c.if-kind-lt-PAIRS.true ∙ count_none c.requires.room c.if-kind-lt-PAIRS.true

pub mark-requires : goal.mark-requires
mark-requires c = (c.requires.x_len.0, first_low _ _ c.requires.x_len.2 c.if-kind-lt-PAIRS.false)

pub mark-requires-2 : goal.mark-requires-2
mark-requires-2 c = (search rules, second-low _ _ c.requires.x_len.2 c.if-kind-lt-PAIRS.false)

pub mark-requires-3 : goal.mark-requires-3
mark-requires-3 c = (search rules, third-low _ _ c.requires.x_len.2 c.if-kind-lt-THREES.false)

pub raise-requires : goal.raise-requires
unfolding index_node
raise-requires c = let r = room_two (goal.at.raise-requires c).Then-kind-lt-THREES in
    count-first r c.if-kind-lt-PAIRS.false c.if-kind-lt-THREES.true

pub raise-requires-then-kind-lt-THREES : goal.raise-requires-then-kind-lt-THREES
unfolding index_node
raise-requires-then-kind-lt-THREES c = let r = room_two (goal.at.raise-requires-then-kind-lt-THREES c).Then-kind-lt-THREES in
    count-second r c.if-kind-lt-PAIRS.false c.if-kind-lt-THREES.true c.raise.ensures.0

pub returns-then-kind-lt-THREES : goal.returns-then-kind-lt-THREES
unfolding index_node
returns-then-kind-lt-THREES c = let a = (goal.at.returns-then-kind-lt-THREES c).Then-kind-lt-THREES in
    counted-two (room_two a) c.if-kind-lt-PAIRS.false c.if-kind-lt-THREES.true c.raise.ensures.0 c.raise-then-kind-lt-THREES.ensures.0
    ∙ ap (λ (x : List ℕ). count_node x (index_node c.args.x.now c.args.p)) (two a)

pub raise-requires-2 : goal.raise-requires-2
unfolding index_node
raise-requires-2 c = let r = room_three (goal.at.raise-requires-2 c).After-mark-3 in
    count-three-first r c.if-kind-lt-THREES.false

pub raise-requires-3 : goal.raise-requires-3
unfolding index_node
raise-requires-3 c = let r = room_three (goal.at.raise-requires-3 c).After-mark-3 in
    count-three-second r c.if-kind-lt-THREES.false c.raise-2.ensures.0

pub raise-requires-4 : goal.raise-requires-4
unfolding index_node
raise-requires-4 c = let r = room_three (goal.at.raise-requires-4 c).After-mark-3 in
    count-three-third r c.if-kind-lt-THREES.false c.raise-2.ensures.0 c.raise-3.ensures.0

pub returns : goal.returns
unfolding index_node
returns c = let a = (goal.at.returns c).After-mark-3 in
    counted-all (room_three a) c.if-kind-lt-THREES.false c.raise-2.ensures.0 c.raise-3.ensures.0 c.raise-4.ensures.0
    ∙ ap (λ (x : List ℕ). count_node x (index_node c.args.x.now c.args.p)) (three a)
