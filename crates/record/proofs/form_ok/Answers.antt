-- `record::form_ok` meets its contract: each way through the code is a case of `form_ok`. Assumes nothing.
use Rattle.record.proofs.Cases.{form_one, form_three, form_c, form-two, form-b, form-atom, form-a, form-true}
use Rattle.record.proofs.form_ok.Goals as goal

pub returns-then-one-ne0 : goal.returns-then-one-ne0
returns-then-one-ne0 c = form_one _ _ c.if-one-ne0.true

pub returns-then-kind-gt6 : goal.returns-then-kind-gt6
returns-then-kind-gt6 c = form_three _ c.if-one-ne0.false c.if-kind-gt6.true

pub returns-then-x-ne0 : goal.returns-then-x-ne0
returns-then-x-ne0 c = form_c _ c.if-one-ne0.false c.if-kind-gt6.false c.if-x-ne0.true

pub returns-then-kind-gt2 : goal.returns-then-kind-gt2
returns-then-kind-gt2 c = form-two _ c.if-one-ne0.false c.if-x-ne0.false c.if-kind-gt2.true c.if-kind-gt6.false

pub returns-then-x-ne0-2 : goal.returns-then-x-ne0-2
returns-then-x-ne0-2 c = form-b _ c.if-one-ne0.false c.if-x-ne0.false c.if-kind-gt2.false c.if-x-ne0-2.true

pub returns-then-kind-eq2 : goal.returns-then-kind-eq2
returns-then-kind-eq2 c = form-atom _ c.if-one-ne0.false c.if-x-ne0.false c.if-x-ne0-2.false c.if-kind-eq2.true

pub returns-then-x-ne0-3 : goal.returns-then-x-ne0-3
returns-then-x-ne0-3 c = form-a _ c.if-one-ne0.false c.if-x-ne0.false c.if-x-ne0-2.false c.if-kind-gt2.false c.if-kind-eq2.false c.if-x-ne0-3.true

pub returns : goal.returns
returns c = form-true _ c.if-one-ne0.false c.if-x-ne0.false c.if-x-ne0-2.false c.if-kind-gt2.false c.if-kind-eq2.false c.if-x-ne0-3.false
