-- `table::own_rows` meets its contract: the quick test, or what reading the record says. Assumes nothing.
use mathlib.Core.Path.{◌≡◌, ◌∙◌, ap}
use mathlib.Core.List.{List}
use Prim.Native.Nat.{ℕ, ◌+◌, ◌-◌}
use lib.ListN.{take, drop}
use Rattle.scope.specs.declared.Node.{Node}
use Rattle.scope.specs.Outcome.{Outcome, fine, ◌>>◌}
use Rattle.table.specs.Own.{own_rows}
use Rattle.scope.specs.Table.{tables, read_record}
use Rattle.scope.proofs.Tests.{handed_on}
use Rattle.scope.proofs.Records.{part_record}
use Rattle.record.specs.Place.{place_of}
use Rattle.record.specs.Halves.{double_at}
use Rattle.table.proofs.Rows.{own_passes}
use Rattle.table.proofs.own_rows.Goals as goal

pub returns-then-passes : goal.returns-then-passes
returns-then-passes c = let t = c.args.t.now in
    let low : c.args.low ≡ double_at t (place_of c.args.n) = c.requires.3 ∙ ap (double_at t) c.requires.1 in
    let high : c.args.high ≡ double_at t (place_of c.args.n + 4) = c.requires.4 ∙ ap (λ (z : ℕ). double_at t (z + 4)) c.requires.1 in
    own_passes t c.args.n (λ i. (c.type_inv.t i).fits)
    (rw (low, high) at (c.passes.ensures c.if-passes.true))

-- what reading the record says
read : (t : List ℕ) (n at : ℕ) {o : Outcome Node} → at ≡ place_of n → o ≡ read_record (take (at + 8 - at) (drop at t)) n → (o >> fine) ≡ own_rows t n
read t n at e q = ap (◌>> fine) (q ∙ ap (λ (l : List ℕ). read_record l n) (part_record tables t n at e))

pub returns-in_err-read_record : goal.returns-in_err-read_record
returns-in_err-read_record c =
    handed_on (λ u. u) _ c.from_residual.ensures.1
    ∙ read c.args.t.now c.args.n c.args.at c.requires.1 c.in_err-read_record.ensures

pub returns : goal.returns
returns c = read c.args.t.now c.args.n c.args.at c.requires.1 c.in_ok-read_record.ensures
