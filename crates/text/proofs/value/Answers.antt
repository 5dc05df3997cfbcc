-- `text::value` meets its contract: what is left of the text, behind the digits so far, says the same. Assumes nothing.
use mathlib.Core.Path.{◌∙◌, sym}
use native.Mathlib.Omega.{arith}
use Rattle.text.proofs.Text.{no_digit, too_long, one_more, no_more, no-digits, some-digits}
use Rattle.text.proofs.value.Goals as goal

pub returns-then-is_empty : goal.returns-then-is_empty
returns-then-is_empty c = sym (no-digits c.args.s.now (sym c.if-is_empty.ensures))

pub loop-b-init : goal.loop-b-init
loop-b-init c = some-digits c.args.s.now (sym c.if-is_empty.ensures)

pub returns-then-not-is_ascii_digit : goal.returns-then-not-is_ascii_digit
returns-then-not-is_ascii_digit c =
    sym (no_digit c.args.s.now c.loop-b.v c.loop-b.b-index (omega arith) c.if-not-is_ascii_digit.ensures.cases) ∙ c.loop-b.invariant

pub returns-then-v-ge1000000000 : goal.returns-then-v-ge1000000000
returns-then-v-ge1000000000 c = let d = c.if-not-is_ascii_digit.ensures.cases in
    sym (too_long c.args.s.now c.loop-b.v c.loop-b.b-index (omega arith) d.0 d.1 (omega arith)) ∙ c.loop-b.invariant

pub loop-b-preserved : goal.loop-b-preserved
loop-b-preserved c = let d = c.if-not-is_ascii_digit.ensures.cases in
    one_more c.args.s.now c.loop-b.v c.loop-b.b-index (omega arith) d.0 d.1 (omega arith) ∙ c.loop-b.invariant

pub returns : goal.returns
returns c = sym (no_more c.args.s.now c.loop-b.v c.loop-b.b-index (omega arith)) ∙ c.loop-b.invariant
