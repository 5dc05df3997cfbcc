-- `cnfwords::any_token` meets its contract: separators are passed, then a word is read to its end. Assumes nothing.
use mathlib.Core.Path.{◌∙◌, sym}
use Rattle.cnfwords.proofs.Words.{no_words, word_some, part_length, next_word, token_told}
use Rattle.cnfwords.proofs.Runs.{token_is}
use native.Mathlib.Omega.{arith}
use Rattle.cnfwords.proofs.any_token.Goals as goal

pub returns-then-text-from : goal.returns-then-text-from
returns-then-text-from c = sym c.skip-from.ensures.same ∙ no_words _ _ c.if-text-from.true

pub word-w-requires : goal.word-w-requires
word-w-requires c = let s = c.skip-from.ensures in
    let p = c.word_end-end.ensures in
    let some = c.if-text-from.false in
    (omega (arith, part_length s p some, word_some s p some), c.requires.1)

pub returns : goal.returns
returns c = token_told c.args.vars c.args.text.now c.args.at (sym c.token_of.ensures)
    (token_is c.word-w.result (next_word c.skip-from.ensures c.word_end-end.ensures c.if-text-from.false _ _ (sym c.word-w.ensures)))
