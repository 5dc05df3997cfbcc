use mathlib.Core.Path.{◌≡◌}
use Prim.Native.Nat.{min, ◌*◌}
use Rattle.index.specs.Marks.{sunk, top, Fits, Flagged}
use Rattle.index.proofs.sink.Given as goal

abbrev pub invariant-loop-j : goal.invariant-loop-j
invariant-loop-j l = let p = min l.n (63 * l.j) in
    (sunk l.t l.x l.d p ≡ sunk l.t l.initial.x (top l.n) l.n) × Fits p l.d l.x × Flagged p l.x
