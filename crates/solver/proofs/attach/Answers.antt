-- `solver::attach` meets its contract. Assumes nothing.
use mathlib.Core.Path.{refl}
use Prim.Native.Nat.{◌/◌}
use Rattle.solver.proofs.Assumes.{room, node_low, front-asked, own-literal, own-low, own-clauses, own-true}
use Rattle.solver.proofs.Assumes.{touch-asked, ready₂, R, ahead₂, number-asked, ready₄, foremost₄, forcing₄, based-own}
use native.Mathlib.Omega.{arith}
use borrow.Author.Rules.{rules}
use Rattle.solver.proofs.attach.Goals as goal

pub front-before-requires-clause-units : goal.front-before-requires-clause-units
front-before-requires-clause-units c = let (goals, m, gs, H, N) = c.requires.held in
    (N.units, front-asked c.requires.indexed H N c.requires.fresh)

pub push-requires-clause-n_le_most_nodes : goal.push-requires-clause-n_le_most_nodes
push-requires-clause-n_le_most_nodes c = search (rules, room)

pub renew-code-requires-clause-q_bound : goal.renew-code-requires-clause-q_bound
renew-code-requires-clause-q_bound c = let I = c.requires.indexed in
    let (goals, m, gs, H, N) = c.requires.held in
    let f = c.requires.fresh in
    let e = c.count-h.ensures in
    let k = c.push.ensures in
    (own-low I H N f e k, own-literal I H N f e k, node_low I H N f, omega arith)

pub touch-best-requires : goal.touch-best-requires
touch-best-requires c = let I = c.requires.indexed in
    let (goals, m, gs, H, N) = c.requires.held in
    let f = c.requires.fresh in
    let e = c.count-h.ensures in
    let k = c.push.ensures in
    let o = c.renew-code.ensures.renewed in
    record {
      indexed = I;
      ready = ready₂ I H N f e k o;
      touchable = touch-asked I H N f e k o;
      node_lt_n = (node_low I H N f, omega arith, own-true I H N f e k o);
      first_value = (refl, refl);
    }

pub number-requires : goal.number-requires
number-requires c = let (goals, m, gs, H, N) = c.requires.held in
    let more = c.renew-code.result / 8192 in
    number-asked c.requires.indexed H N c.requires.fresh c.count-h.ensures c.push.ensures c.renew-code.ensures.renewed c.touch-best.ensures.touched gs more
    (omega arith)

pub next_unit-requires : goal.next_unit-requires
next_unit-requires c = let I = c.requires.indexed in
    let (goals, m, gs, H, N) = c.requires.held in
    let f = c.requires.fresh in
    let e = c.count-h.ensures in
    let k = c.push.ensures in
    let o = c.renew-code.ensures.renewed in
    let K = c.touch-best.ensures.touched in
    let onward = c.touch-best.ensures.onward in
    let more = c.renew-code.result / 8192 in
    let B = c.number.ensures in
    let first = (onward (ahead₂ I H N f e k o c.front-before.ensures)).some in
    record {
      ready = (ready₄ I H N f e k o K more B, I.few);
      units = (K.units, forcing₄ I H N f e k o K more B);
      foremost = foremost₄ I H N f e k o K more B first;
    }

pub returns : goal.returns
returns c = let I = c.requires.indexed in
    let (goals, m, gs, H, N) = c.requires.held in
    let f = c.requires.fresh in
    let e = c.count-h.ensures in
    let k = c.push.ensures in
    let o = c.renew-code.ensures.renewed in
    let K = c.touch-best.ensures.touched in
    let more = c.renew-code.result / 8192 in
    record {
      w₁ = _;
      w₂ = _;
      m₂ = _;
      w₃ = _;
      m₃ = _;
      more = more;
      pushed = k;
      own = R I H N f e k o;
      parents = K;
      clauses = own-clauses I H N f e k c.renew-code.ensures.coded;
      based = based-own I H N f e k o K more c.number.ensures;
      tidied = c.next_unit.ensures;
    }
