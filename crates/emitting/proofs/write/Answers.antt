-- `emitting::write` meets its contract: the names of the goals and then all steps are pushed, from an empty block of the version's letter
-- on, and the last block is written. Assumes nothing.
use mathlib.Core.Path.{◌∙◌}
use Rattle.gather.proofs.Pushes.{pushed_on, written}
use Rattle.emitting.proofs.Runs.{empty_block, empty-length, empty_letter, names_fit, named_due, none_due}
use Rattle.emitting.proofs.write.Goals as goal

pub push_goals-named-requires : goal.push_goals-named-requires
push_goals-named-requires c = let l = c.letter_of.result in
    names_fit (empty_block l) (empty-length l) c.requires.fits

pub push_steps-done-requires-clause-due : goal.push_steps-done-requires-clause-due
push_steps-done-requires-clause-due c = let l = c.letter_of.result in
    named_due (empty_block l) (empty-length l) c.requires.fits c.push_goals-named.ensures

pub close-requires : goal.close-requires
close-requires c = let l = c.letter_of.result in
    none_due (named_due (empty_block l) (empty-length l) c.requires.fits c.push_goals-named.ensures) c.push_steps-done.ensures.pushed

pub returns : goal.returns
returns c = let letter = empty_letter c.letter_of.result ∙ c.letter_of.ensures in
    written c.args.version letter (pushed_on c.push_goals-named.ensures c.push_steps-done.ensures.pushed) c.close.ensures
