-- `table::record_verdict` meets its contract: each return is the row that its tests led to. Assumes nothing.
use mathlib.Core.Path.{◌∙◌, ap, sym, refl}
use Prim.Native.Nat.{ℕ, ◌+◌}
use Rattle.scope.proofs.Tests.{handed_on}
use Rattle.record.specs.Halves.{double_at}
use Rattle.table.proofs.Rows.{refuses, row_refused, row_repeat, row_fine, own_plain}
use Rattle.table.proofs.record_verdict.Goals as goal

pub returns-in_err-own_rows : goal.returns-in_err-own_rows
returns-in_err-own_rows c =
    refuses _ _ _ _ _ (handed_on (λ u. u) _ c.from_residual.ensures.1)
    (row_refused c.args.t.now c.args.n (sym c.in_err-own_rows.ensures))

pub enter-requires : goal.enter-requires
enter-requires c =
    let t = c.args.t.now in
    let low = c.double-low.ensures ∙ ap (double_at t) c.requires.1 in
    let high = c.double-high.ensures ∙ ap (λ (z : ℕ). double_at t (z + 4)) c.requires.1 in
    (c.requires.0, c.requires.2, rw (low, high), own_plain t c.args.n (sym c.in_ok-own_rows.ensures), c.requires.3)

pub returns-then-enter : goal.returns-then-enter
returns-then-enter c =
    refuses _ _ _ _ _ refl (row_repeat c.args.t.now c.args.n (sym c.in_ok-own_rows.ensures) (sym c.enter.ensures.0 ∙ c.if-enter.true))

pub returns : goal.returns
returns c =
    record {
      verdict = sym (row_fine c.args.t.now c.args.n (sym c.in_ok-own_rows.ensures) (sym c.enter.ensures.0 ∙ c.if-enter.false));
      entered = λ _. c.enter.ensures.1;
    }
