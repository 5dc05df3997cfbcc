-- `clause::clause_of` meets its contract: the choices are read until one is of no operand. Assumes nothing.
use Prim.Native.Nat.{◌<◌}
use Rattle.clause.proofs.Rows.{j_most, first_of, second-of, third_of, clause-none, clause-one, clause-two, clause-three}
use native.Mathlib.Omega.{arith}
use Rattle.clause.proofs.clause_of.Goals.{Start}
use Rattle.clause.proofs.clause_of.Goals as goal

three : (c : Start) → c.args.j < 3
three c = j_most c.requires.indexed c.requires.l_bound

pub template-a-requires-clause-row_bound : goal.template-a-requires-clause-row_bound
template-a-requires-clause-row_bound c = (omega arith, three (goal.at.template-a-requires-clause-row_bound c).Start, omega arith)

pub template-b-requires-clause-row_bound : goal.template-b-requires-clause-row_bound
template-b-requires-clause-row_bound c = (omega arith, three (goal.at.template-b-requires-clause-row_bound c).Start, omega arith)

pub template-c-requires-clause-row_bound : goal.template-c-requires-clause-row_bound
template-c-requires-clause-row_bound c = (omega arith, three (goal.at.template-c-requires-clause-row_bound c).Start, omega arith)

pub returns-then-a-gt-LAST_CHOICE : goal.returns-then-a-gt-LAST_CHOICE
returns-then-a-gt-LAST_CHOICE c = clause-none c.requires.indexed c.requires.l_bound c.row_of-row.ensures c.template-a.ensures c.if-a-gt-LAST_CHOICE.true

pub choose-first-requires : goal.choose-first-requires
choose-first-requires c = record {
  indexed = c.requires.indexed;
  node_lt_n = first_of c.requires.indexed c.requires.l_bound c.row_of-row.ensures c.template-a.ensures c.if-a-gt-LAST_CHOICE.false;
}

pub returns-then-b-gt-LAST_CHOICE : goal.returns-then-b-gt-LAST_CHOICE
returns-then-b-gt-LAST_CHOICE c = clause-one c.requires.indexed c.requires.l_bound c.row_of-row.ensures c.template-a.ensures c.if-a-gt-LAST_CHOICE.false
    c.choose-first.ensures c.template-b.ensures c.if-b-gt-LAST_CHOICE.true

pub choose-second-requires : goal.choose-second-requires
choose-second-requires c = record {
  indexed = c.requires.indexed;
  node_lt_n = second-of c.requires.indexed c.requires.l_bound c.row_of-row.ensures c.template-a.ensures c.if-a-gt-LAST_CHOICE.false
      c.choose-first.ensures c.template-b.ensures c.if-b-gt-LAST_CHOICE.false;
}

pub returns-then-c-gt-LAST_CHOICE : goal.returns-then-c-gt-LAST_CHOICE
returns-then-c-gt-LAST_CHOICE c = clause-two c.requires.indexed c.requires.l_bound c.row_of-row.ensures c.template-a.ensures c.if-a-gt-LAST_CHOICE.false
    c.choose-first.ensures c.template-b.ensures c.if-b-gt-LAST_CHOICE.false
    c.choose-second.ensures c.template-c.ensures c.if-c-gt-LAST_CHOICE.true

pub choose-third-requires : goal.choose-third-requires
choose-third-requires c = record {
  indexed = c.requires.indexed;
  node_lt_n = third_of c.requires.indexed c.requires.l_bound c.row_of-row.ensures c.template-a.ensures c.if-a-gt-LAST_CHOICE.false
      c.choose-first.ensures c.template-b.ensures c.if-b-gt-LAST_CHOICE.false
      c.choose-second.ensures c.template-c.ensures c.if-c-gt-LAST_CHOICE.false;
}

pub returns : goal.returns
returns c = clause-three c.requires.indexed c.requires.l_bound c.row_of-row.ensures c.template-a.ensures c.if-a-gt-LAST_CHOICE.false
    c.choose-first.ensures c.template-b.ensures c.if-b-gt-LAST_CHOICE.false
    c.choose-second.ensures c.template-c.ensures c.if-c-gt-LAST_CHOICE.false c.choose-third.ensures
