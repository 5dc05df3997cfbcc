-- `cnftext::scan` meets its contract: each return is what the part read so far leads to. Assumes nothing.
use Rattle.cnftext.proofs.Headings.{no-heading, no_body, other-count, right-count}
use Rattle.cnftext.proofs.scan.Goals as goal

pub read_heading-requires : goal.read_heading-requires
read_heading-requires c = c.comments_end-at.ensures.within

pub returns-in_default : goal.returns-in_default
returns-in_default c = rw c.turned.ensures (no-heading c.comments_end-at.ensures c.read_heading.ensures c.in_default.is)

pub count_clauses-requires : goal.count_clauses-requires
count_clauses-requires c = (c.read_heading.ensures.within _ c.in-Some.is, c.read_heading.ensures.few _ c.in-Some.is)

pub returns-in_default-count_clauses : goal.returns-in_default-count_clauses
returns-in_default-count_clauses c = rw c.turned-in_default-count_clauses.ensures
    (no_body c.comments_end-at.ensures c.read_heading.ensures c.in-Some.is c.count_clauses.ensures c.in_default-count_clauses.is)

pub returns-then-clauses-head : goal.returns-then-clauses-head
returns-then-clauses-head c = rw c.turned-then-clauses-head.ensures
    (other-count c.comments_end-at.ensures c.read_heading.ensures c.in-Some.is c.count_clauses.ensures c.in-Some-count_clauses.is c.if-clauses-head.true)

pub returns : goal.returns
returns c = right-count c.comments_end-at.ensures c.read_heading.ensures c.in-Some.is c.count_clauses.ensures c.in-Some-count_clauses.is c.if-clauses-head.false
