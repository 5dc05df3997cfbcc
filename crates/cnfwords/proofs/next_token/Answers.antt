-- `cnfwords::next_token` meets its contract: separators are passed, then a sign and a run of digits, or any word. Assumes nothing.
use mathlib.Core.Path.{◌∙◌, sym}
use Rattle.cnfwords.proofs.Words.{no_words}
use Rattle.cnfwords.proofs.Runs.{signed_within, run_token}
use Rattle.cnfwords.proofs.next_token.Goals as goal

pub returns-then-text-from : goal.returns-then-text-from
returns-then-text-from c = sym c.skip-from.ensures.same ∙ no_words _ _ c.if-text-from.true

pub digit_run-r-requires : goal.digit_run-r-requires
digit_run-r-requires c = signed_within c.behind_minus-start.ensures c.if-text-from.false

pub ends-requires : goal.ends-requires
ends-requires c = c.digit_run-r.ensures.within

pub any_token-requires : goal.any_token-requires
any_token-requires c = c.requires

pub returns-then-not-ends : goal.returns-then-not-ends
returns-then-not-ends c = c.any_token.ensures

pub literal-w-requires : goal.literal-w-requires
literal-w-requires c = c.requires.1

pub returns : goal.returns
returns c = let e = c.if-not-ends.false in
    run_token c.skip-from.ensures c.if-text-from.false c.behind_minus-start.ensures c.digit_run-r.ensures (c.ends.ensures.some e) (c.ends.ensures.next e) c.args.vars
    c.literal-w.ensures c.token_of.ensures
