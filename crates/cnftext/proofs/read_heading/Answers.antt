-- `cnftext::read_heading` meets its contract: each return is what the part read so far leads to. Assumes nothing.
use mathlib.Core.Path.{◌∙◌, sym}
use Rattle.cnftext.proofs.Headings.{no-opening, behind-opening, no-variables, no-clauses, too_many, headed}
use Rattle.cnftext.proofs.read_heading.Goals as goal

pub returns-then-not-starts : goal.returns-then-not-starts
returns-then-not-starts c = no-opening _ _ c.requires (sym c.starts.ensures ∙ c.if-not-starts.true)

pub heading_number-requires : goal.heading_number-requires
heading_number-requires c = behind-opening _ _ c.requires (sym c.if-not-starts.ensures)

pub returns-in_err-variables : goal.returns-in_err-variables
returns-in_err-variables c =
    rw c.from_residual.ensures (no-variables _ _ c.requires (sym c.if-not-starts.ensures) c.heading_number.ensures c.in_err-variables.was)

pub heading_number-requires-2 : goal.heading_number-requires-2
heading_number-requires-2 c = c.heading_number.ensures.within _ _ c.in_ok-variables.was

pub returns-in_err-clauses : goal.returns-in_err-clauses
returns-in_err-clauses c = rw c.from_residual-in_err-clauses.ensures (no-clauses _ _ c.requires (sym c.if-not-starts.ensures) c.heading_number.ensures
    c.in_ok-variables.was c.heading_number-2.ensures c.in_err-clauses.was)

pub returns-then-variables-gt1024 : goal.returns-then-variables-gt1024
returns-then-variables-gt1024 c = too_many _ _ c.requires (sym c.if-not-starts.ensures) c.heading_number.ensures
    c.in_ok-variables.was c.heading_number-2.ensures c.in_ok-clauses.was c.if-variables-gt1024.true

pub returns : goal.returns
returns c = headed _ _ c.requires (sym c.if-not-starts.ensures) c.heading_number.ensures
    c.in_ok-variables.was c.heading_number-2.ensures c.in_ok-clauses.was c.if-variables-gt1024.false
