-- `replay::apply_two` meets its contract. The rule of each letter answers as the definition says. Assumes nothing.
use native.Mathlib.Omega.{arith}
use Rattle.index.specs.Index.{index_node}
use Rattle.calculus.specs.Expansion.{expand}
use Rattle.rules.specs.Rules.{rule_s, unit_two, conflict_two, apply_two}
use Rattle.branch.specs.Holds.{branch_of, waiting_of}
use Rattle.replay.proofs.Ruled.{ruled_as}
use Rattle.replay.proofs.Two.{two_u, two_c, two_s, two_none}
use Rattle.replay.proofs.apply_two.Goals as goal

pub returns-in-85 : goal.returns-in-85
returns-in-85 c = let e = expand (index_node c.args.x.now) in
    let n = c.args.n in
    let p = c.args.step in
    ruled_as c.unit_two.new.work c.unit_two.result (λ goals. unit_two e goals n p.value) (λ goals. apply_two e goals n p)
    (two_u e n p c.in-85.is) c.unit_two.ensures

pub returns-in-67 : goal.returns-in-67
returns-in-67 c = let e = expand (index_node c.args.x.now) in
    let n = c.args.n in
    let p = c.args.step in
    ruled_as c.conflict_two.new.work c.conflict_two.result (λ goals. conflict_two e goals n p.value) (λ goals. apply_two e goals n p)
    (two_c e n p c.in-67.is) c.conflict_two.ensures

pub returns-in-83 : goal.returns-in-83
returns-in-83 c = let e = expand (index_node c.args.x.now) in
    let n = c.args.n in
    let p = c.args.step in
    ruled_as c.rule_s.new.work c.rule_s.result (λ goals. rule_s e goals n p.value) (λ goals. apply_two e goals n p)
    (two_s e n p c.in-83.is) c.rule_s.ensures

pub returns-in_default : goal.returns-in_default
returns-in_default c = let e = expand (index_node c.args.x.now) in
    let n = c.args.n in
    let p = c.args.step in
    let w = c.args.work.now in
    λ goals h q. two_none e n p (λ x. omega arith) (λ x. omega arith) (λ x. omega arith) goals (branch_of w h) (waiting_of w h)
