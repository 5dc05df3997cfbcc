-- `clause::code_of_three` meets its contract: the code that is read is that of the literal's row and the operands' values. Assumes nothing.
use Rattle.clause.specs.Coded.{g_of}
use Rattle.clause.proofs.Codes.{third_few, place_three}
use borrow.Author.Rules.{rules}
use Rattle.clause.proofs.code_of_three.Goals as goal

pub value-c-requires : goal.value-c-requires
value-c-requires c = let w = c.requires.in_bounds in
    let few = third_few c.requires.indexed (g_of c.args.work.now) w.2 c.args.node c.args.sign c.requires.node_lt_n c.requires.bound in
    (few, w.0, w.1)

pub returns : goal.returns
returns c = search (rules, place_three)
