-- `steps::block_verdict` meets its contract: it asks for the test of the 512 bytes of block j, in the format of block 0's letter. Assumes
-- nothing.
use mathlib.Core.Path.{ap, ◌∙◌}
use Rattle.scope.proofs.Records.{block_tested}
use Rattle.rules.specs.Steps.{format_of, version_of}
use Rattle.steps.proofs.Rows.{fitting}
use borrow.Author.Rules.{rules}
use Rattle.steps.proofs.block_verdict.Goals as goal

pub test-requires : goal.test-requires
test-requires c = (search rules, fitting _ c.version_of.result c.format_of-format.ensures)

pub returns : goal.returns
returns c = block_tested _ (format_of (version_of c.args.d.now)) c.args.d.now c.args.j _
    (c.format_of-format.ensures ∙ ap format_of c.version_of.ensures) c.test.ensures
