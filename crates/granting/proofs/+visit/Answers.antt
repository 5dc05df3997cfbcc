-- A visit puts the questions of its definition, and keeps the literals chosen before it. Measure: the wishes left to choose. Assumes nothing.
use mathlib.Core.Path.{refl}
use native.Mathlib.Omega.{arith}
use Rattle.granting.proofs.Laws.{leaf_asked, visited_leaf, listed-literal, listed_more, visiting_starts, visiting-stopped, visiting-few, visiting-refused, visiting-goes}
use Rattle.granting.proofs.+visit.Goals as goal

pub step-requires : goal.step-requires
step-requires t c =
    let p = c.requires in
    let l = leaf_asked _ _ _ _ _ _ _ _ p.listed c.if-s-eq0.true in
    record {
      indexed = p.indexed;
      goals = l.0;
      g_in_bounds = l.1;
      ready = p.listed.ready;
      room = p.room.0;
      sets = p.room.1;
    }

pub returns-then-s-eq0 : goal.returns-then-s-eq0
returns-then-s-eq0 t c = record {
  visited = visited_leaf _ _ _ _ _ _ _ _ _ _ c.requires.listed _ refl _ _ c.if-s-eq0.true c.step.ensures.stepped;
  sets = c.step.ensures.sets_2;
}

pub loop-i-init : goal.loop-i-init
loop-i-init t c =
    let p = c.requires in
    (p.room.1, visiting_starts _ _ _ _ _ _ _ _ _ _ p.listed)

pub opposed-requires : goal.opposed-requires
opposed-requires t c =
    listed-literal _ _ _ _ _ _ _ _ c.loop-i.invariant.1.listed (omega arith) (omega arith) c.requires.indexed.few

pub refuse-requires : goal.refuse-requires
refuse-requires t c =
    let v = c.loop-i.invariant.1 in
    record {
      m_bound = (omega (arith, v.listed.left, v.listed.few), omega (arith, v.listed.few));
      room = omega (arith, v.room _ refl, c.requires.room.0);
    }

pub visit-requires : goal.visit-requires
visit-requires t c =
    let v = c.loop-i.invariant.1 in (
      omega arith,
      (
        c.requires.indexed,
        (listed_more _ _ _ _ _ _ _ _ v.listed (omega arith) (omega arith), (omega (arith, v.room _ refl, c.requires.room.0), c.loop-i.invariant.0)),
      ),
    )

pub loop-i-preserved-then-opposed : goal.loop-i-preserved-then-opposed
loop-i-preserved-then-opposed t c =
    let v = c.loop-i.invariant.1 in
    let o = c.opposed.ensures c.if-opposed.true in
    let T = c.requires.indexed.table in
    (c.loop-i.invariant.0, visiting-refused _ _ _ _ _ _ _ _ _ _ _ _ _ _ v (omega arith) (omega arith) T _ refl o _ c.in_ok-mid.ensures)

pub returns-in_err-mid : goal.returns-in_err-mid
returns-in_err-mid t c =
    let v = c.loop-i.invariant.1 in
    let o = c.opposed.ensures c.if-opposed.true in
    let T = c.requires.indexed.table in
    let w = visiting-refused _ _ _ _ _ _ _ _ _ _ _ _ _ _ v (omega arith) (omega arith) T _ refl o _ c.in_err-mid.ensures in
    record {
      visited = rw c.from_residual.ensures (visiting-stopped _ _ _ _ _ _ _ _ _ _ _ _ _ _ w _ refl);
      sets = c.loop-i.invariant.0;
    }

pub loop-i-preserved : goal.loop-i-preserved
loop-i-preserved t c =
    let v = c.loop-i.invariant.1 in
    let a = c.visit.auto in (
      c.visit.ensures.sets,
      visiting-goes _ _ _ _ _ _ _ _ _ _ _ _ _ _ v (omega arith) (omega arith) _ _ _ a.list a.work c.in_ok-mid-2.ensures.visited,
    )

pub returns-in_err-mid-2 : goal.returns-in_err-mid-2
returns-in_err-mid-2 t c =
    let v = c.loop-i.invariant.1 in
    let a = c.visit.auto in
    let w = visiting-goes _ _ _ _ _ _ _ _ _ _ _ _ _ _ v (omega arith) (omega arith) _ _ _ a.list a.work c.in_err-mid-2.ensures.visited in
    record {
      visited = rw c.from_residual-in_err-mid-2.ensures (visiting-stopped _ _ _ _ _ _ _ _ _ _ _ _ _ _ w _ refl);
      sets = c.visit.ensures.sets;
    }

pub returns : goal.returns
returns t c = record {
  visited = visiting-few _ _ _ _ _ _ _ _ _ _ _ _ _ _ c.loop-i.invariant.1 (omega arith);
  sets = c.loop-i.invariant.0;
}
