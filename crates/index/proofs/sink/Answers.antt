-- `index::sink` meets its contract. The loop's invariant: what is left to pass gives what all gave. Assumes nothing.
use mathlib.Core.Path.{◌≡◌, sym, ap, ◌∙◌}
use mathlib.Core.List.{List}
use Prim.Native.Nat.{ℕ, min, ◌+◌, ◌-◌, ◌*◌, ◌≤◌}
use Rattle.index.specs.declared.Descent.{Descent}
use Rattle.index.proofs.Marks.{sunk-none, sunk-over, unflagged}
use Rattle.index.proofs.Falls.{fits_fewer}
use native.Mathlib.Omega.{arith}
use Rattle.index.proofs.sink.Goals as goal

pub loop-j-preserved : goal.loop-j-preserved
loop-j-preserved c = let i = c.loop-j.invariant in
    let x = c.loop-j.x in
    let d = c.loop-j.d in
    let high : min c.args.n (63 * c.loop-j.j) ≤ 63 * (c.loop-j.j - 1) + 63 = omega arith in
    let low : 63 * (c.loop-j.j - 1) ≤ min c.args.n (63 * c.loop-j.j) = omega (arith, c.div_ceil-j.ensures) in
    let b : min c.args.n (63 * (c.loop-j.j - 1)) ≡ 63 * (c.loop-j.j - 1) = omega (arith, c.div_ceil-j.ensures) in
    let none = unflagged x (c.loop-j.j - 1) _ high i.2 c.if-x-j-ne0.false in
    rw b (sunk-over c.args.t.now x d _ _ low none ∙ i.0, fits_fewer d x _ _ low i.1, λ m h. i.2 m (omega (arith, h, low)))

pub returns : goal.returns
returns c = let e : min c.args.n (63 * c.loop-j.j) ≡ 0 = omega arith in
    let q = sym (sunk-none c.args.t.now c.loop-j.x c.loop-j.d) ∙ (rw e at c.loop-j.invariant.0) in
    (ap (λ (r : List ℕ × Descent). r.0) q, ap (λ (r : List ℕ × Descent). r.1.last) q)
