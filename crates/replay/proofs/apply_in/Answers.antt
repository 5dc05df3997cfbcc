-- `replay::apply_in` meets its contract, by the version. Assumes nothing.
use mathlib.Core.Path.{ap}
use Rattle.index.specs.Index.{index_node}
use Rattle.calculus.specs.Expansion.{expand}
use Rattle.rules.specs.declared.Version.{Version}
use Rattle.rules.specs.Rules.{apply, apply_two, apply_in}
use Rattle.replay.proofs.Ruled.{ruled_as}
use Rattle.replay.proofs.apply_in.Goals as goal

pub returns-in-One : goal.returns-in-One
returns-in-One c = let e = expand (index_node c.args.x.now) in
    let n = c.args.n in
    let p = c.args.step in
    ruled_as c.apply_step.new.work c.apply_step.result (λ goals. apply e goals n p) (λ goals. apply_in e goals n c.args.version p)
    (λ goals b ws. ap (λ (v : Version). apply_in e goals n v p b ws) c.in-One.is) c.apply_step.ensures

pub returns-in-Two : goal.returns-in-Two
returns-in-Two c = let e = expand (index_node c.args.x.now) in
    let n = c.args.n in
    let p = c.args.step in
    ruled_as c.apply_two.new.work c.apply_two.result (λ goals. apply_two e goals n p) (λ goals. apply_in e goals n c.args.version p)
    (λ goals b ws. ap (λ (v : Version). apply_in e goals n v p b ws) c.in-Two.is) c.apply_two.ensures
