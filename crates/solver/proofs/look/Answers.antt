-- `solver::look` meets its contract. Assumes nothing.
use mathlib.Core.Path.{◌≡◌}
use Prim.Native.Nat.{◌<◌}
use Rattle.solver.proofs.Walks.{looked_none, looked-some, looked-held, looked-low, looked-conflict, looked-kept, looked-unit}
use Rattle.solver.proofs.Fronts.{onward_same, onward_lowered, onward_flagged}
use native.Mathlib.Omega.{arith}
use borrow.Author.Rules.{rules}
use Rattle.solver.proofs.look.Goals as goal

pub returns-then-class-eq0-clause-visited : goal.returns-then-class-eq0-clause-visited
returns-then-class-eq0-clause-visited c = search (rules, looked_none, onward_same)

pub overflow_sub-q : goal.overflow_sub-q
overflow_sub-q c = let e : c.entry-e.result ≡ 0 → ⊥ = search (rules, looked-some) in omega arith

pub conflict-requires : goal.conflict-requires
conflict-requires c = search (rules, looked-low)

pub returns-then-class-eq1 : goal.returns-then-class-eq1
returns-then-class-eq1 c = record {
  visited = search (rules, looked-conflict, onward_lowered);
  onward = search (rules, looked-conflict, onward_lowered);
}

pub kept-kept-requires : goal.kept-kept-requires
kept-kept-requires c = search (rules, looked-kept)

pub unit-requires-clause-area_in_bounds : goal.unit-requires-clause-area_in_bounds
unit-requires-clause-area_in_bounds c = search (rules, looked-low)

pub earlier-requires : goal.earlier-requires
earlier-requires c = search (rules, looked-low)

pub returns : goal.returns
returns c = let C = c.class-class.ensures in
    let r = c.parent-p.ensures in
    let e = c.entry-e.ensures in
    let d = c.if-class-eq0.false in
    let g = c.unit.ensures in
    let s : c.kept-kept.result < 65536 = omega arith in record {
      visited = looked-unit c.requires.indexed.few c.requires.ready.0 C r e d c.other-other.ensures.0 c.if-class-eq1.false c.kept-kept.ensures g;
      onward = onward_flagged c.requires.indexed.few c.requires.ready.0 (looked-held c.requires.indexed.few c.requires.ready.0 C r e d) g s c.earlier.ensures;
    }
