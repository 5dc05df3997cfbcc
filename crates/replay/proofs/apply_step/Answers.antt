-- `replay::apply_step` meets its contract. The rule of each letter answers as the definition says. Assumes nothing.
use native.Mathlib.Omega.{arith}
use Rattle.index.specs.Index.{index_node}
use Rattle.calculus.specs.Expansion.{expand}
use Rattle.rules.specs.Rules.{rule_u, rule_r, rule_e, rule_c, rule_s, apply}
use Rattle.replay.proofs.Ruled.{ruled_as, is_u, is_r, is_e, is_c, is_s}
use Rattle.replay.proofs.apply_step.Goals as goal

pub returns-in-85 : goal.returns-in-85
returns-in-85 c = let e = expand (index_node c.args.x.now) in
    let n = c.args.n in
    let p = c.args.step in
    ruled_as c.rule_u.new.work c.rule_u.result
    (λ goals. rule_u e goals n p.value) (λ goals. apply e goals n p)
    (is_u e n p c.in-85.is) c.rule_u.ensures

pub returns-in-82 : goal.returns-in-82
returns-in-82 c = let e = expand (index_node c.args.x.now) in
    let n = c.args.n in
    let p = c.args.step in
    ruled_as c.rule_r.new.work c.rule_r.result
    (λ goals. rule_r e goals n p.position p.value) (λ goals. apply e goals n p)
    (is_r e n p c.in-82.is) c.rule_r.ensures

pub returns-in-69 : goal.returns-in-69
returns-in-69 c = let e = expand (index_node c.args.x.now) in
    let n = c.args.n in
    let p = c.args.step in
    ruled_as c.rule_e.new.work c.rule_e.result
    (λ goals. rule_e e goals n p.value) (λ goals. apply e goals n p)
    (is_e e n p c.in-69.is) c.rule_e.ensures

pub returns-in-67 : goal.returns-in-67
returns-in-67 c = let e = expand (index_node c.args.x.now) in
    let n = c.args.n in
    let p = c.args.step in
    ruled_as c.rule_c.new.work c.rule_c.result
    (λ goals. rule_c e goals n p.value) (λ goals. apply e goals n p)
    (is_c e n p c.in-67.is) c.rule_c.ensures

pub returns-in_default : goal.returns-in_default
returns-in_default c = let e = expand (index_node c.args.x.now) in
    let n = c.args.n in
    let p = c.args.step in
    ruled_as c.rule_s.new.work c.rule_s.result
    (λ goals. rule_s e goals n p.value) (λ goals. apply e goals n p)
    (is_s e n p (λ x. omega arith) (λ x. omega arith) (λ x. omega arith) (λ x. omega arith)) c.rule_s.ensures
