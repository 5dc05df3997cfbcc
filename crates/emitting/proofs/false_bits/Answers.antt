-- `emitting::false_bits` meets its contract: position by position. Assumes nothing.
use native.Mathlib.Omega.{arith}
use lib.Dec.{ltb}
use Rattle.state.specs.Work.{g_of}
use Rattle.clause.proofs.Lengths.{first_below, second_below, third_below}
use Rattle.emitting.proofs.Steps.{bit_low, bits_of}
use Rattle.emitting.proofs.false_bits.Goals as goal

pub false_at-first-requires-clause-n_le_most_nodes : goal.false_at-first-requires-clause-n_le_most_nodes
false_at-first-requires-clause-n_le_most_nodes c = (c.requires.n_le_most_nodes.0, first_below c.args.n c.args.c c.requires.n_le_most_nodes.1)

pub false_at-second-requires-clause-n_le_most_nodes : goal.false_at-second-requires-clause-n_le_most_nodes
false_at-second-requires-clause-n_le_most_nodes c = (c.requires.n_le_most_nodes.0, second_below c.args.n c.args.c c.requires.n_le_most_nodes.1)

pub false_at-third-requires-clause-n_le_most_nodes : goal.false_at-third-requires-clause-n_le_most_nodes
false_at-third-requires-clause-n_le_most_nodes c = (c.requires.n_le_most_nodes.0, third_below c.args.n c.args.c c.requires.n_le_most_nodes.1)

pub overflow_mul-result : goal.overflow_mul-result
overflow_mul-result c = let a = c.false_at-first.ensures in
    let b = c.false_at-second.ensures in
    let d = c.false_at-third.ensures in
    let g = g_of c.args.work.now in
    let x = bit_low (ltb 0 c.args.c.len) g c.args.c.first in
    let y = bit_low (ltb 1 c.args.c.len) g c.args.c.second in
    let z = bit_low (ltb 2 c.args.c.len) g c.args.c.third in
    omega (arith, a, b, d, x, y, z)

pub overflow_add-result : goal.overflow_add-result
overflow_add-result c = let a = c.false_at-first.ensures in
    let b = c.false_at-second.ensures in
    let d = c.false_at-third.ensures in
    let g = g_of c.args.work.now in
    let x = bit_low (ltb 0 c.args.c.len) g c.args.c.first in
    let y = bit_low (ltb 1 c.args.c.len) g c.args.c.second in
    let z = bit_low (ltb 2 c.args.c.len) g c.args.c.third in
    omega (arith, a, b, d, x, y, z)

pub overflow_mul-result-2 : goal.overflow_mul-result-2
overflow_mul-result-2 c = let a = c.false_at-first.ensures in
    let b = c.false_at-second.ensures in
    let d = c.false_at-third.ensures in
    let g = g_of c.args.work.now in
    let x = bit_low (ltb 0 c.args.c.len) g c.args.c.first in
    let y = bit_low (ltb 1 c.args.c.len) g c.args.c.second in
    let z = bit_low (ltb 2 c.args.c.len) g c.args.c.third in
    omega (arith, a, b, d, x, y, z)

pub overflow_add-result-2 : goal.overflow_add-result-2
overflow_add-result-2 c = let a = c.false_at-first.ensures in
    let b = c.false_at-second.ensures in
    let d = c.false_at-third.ensures in
    let g = g_of c.args.work.now in
    let x = bit_low (ltb 0 c.args.c.len) g c.args.c.first in
    let y = bit_low (ltb 1 c.args.c.len) g c.args.c.second in
    let z = bit_low (ltb 2 c.args.c.len) g c.args.c.third in
    omega (arith, a, b, d, x, y, z)

pub returns : goal.returns
returns c = bits_of (g_of c.args.work.now) c.args.c c.false_at-first.ensures c.false_at-second.ensures c.false_at-third.ensures
