-- `growing::Draft::grow` meets its contract: found, or refused 51 or 52, or new. Assumes nothing.
use mathlib.Core.Path.{◌≡◌, sym, subst, refl}
use Prim.Native.Nat.{◌+◌, ◌*◌}
use native.Mathlib.Omega.{arith}
use Rattle.std.specs.Prelude.{Ok, Err}
use Rattle.scope.specs.Outcome.{answer}
use Rattle.scope.specs.Table.{node_bytes, read_record}
use Rattle.growing.specs.Growing.{node_in, Table, Sound, Grows, joins}
use Rattle.growing.proofs.Nodes.{answer_adds, one_of_adds, sound, grown-found, grown-51, grown-52, grown-new, under_more}
use Rattle.growing.proofs.Draft.grow.Goals as goal

pub returns-in-Some : goal.returns-in-Some
returns-in-Some c = record {
  grows = subst (λ (t : Table). Sound t × Grows (joins t c.args.k) t.room (Ok (2 * c.in-Some.s)) t) c.self.view_is
      (sound c.self.invariant, grown-found c.self.invariant c.in-Some.ensures);
  adds = answer_adds refl;
}

pub returns-then-self-eq2016 : goal.returns-then-self-eq2016
returns-then-self-eq2016 c = record {
  grows = subst (λ (t : Table). Sound t × Grows (joins t c.args.k) t.room (Err (record { number = 51; place = c.self.inside.count })) t) c.self.view_is
      (sound c.self.invariant, grown-51 c.self.invariant c.in_default.ensures c.if-self-eq2016.true);
  adds = λ x. one_of_adds refl (omega arith);
}

pub returns-then-self : goal.returns-then-self
returns-then-self c = record {
  grows = subst (λ (t : Table). Sound t × Grows (joins t c.args.k) t.room (Err (record { number = 52; place = c.self.inside.count })) t) c.self.view_is
      (sound c.self.invariant, grown-52 c.self.invariant c.in_default.ensures c.if-self-eq2016.false c.if-self.true);
  adds = λ x. one_of_adds refl (omega arith);
}

pub invariant_of-self : goal.invariant_of-self
invariant_of-self c =
    let reads : read_record (node_bytes (node_in c.args.k)) c.self.inside.count ≡ answer (node_in c.args.k) =
    subst (λ (t : Table). read_record (node_bytes (node_in c.args.k)) t.count ≡ answer (node_in c.args.k)) (sym c.self.view_is) c.requires in
    rw c.insert.ensures.0 (under_more c.self.invariant c.in_default.ensures c.if-self.false reads (rw c.insert.ensures.0 at c.insert.ensures.1))

pub returns : goal.returns
returns c =
    let reads : read_record (node_bytes (node_in c.args.k)) c.self.inside.count ≡ answer (node_in c.args.k) =
    subst (λ (t : Table). read_record (node_bytes (node_in c.args.k)) t.count ≡ answer (node_in c.args.k)) (sym c.self.view_is) c.requires in
    record {
      grows = subst
          (λ (t : Table). Sound t × Grows (joins t c.args.k) t.room (Ok (2 * c.self.inside.count))
          (record { keys = c.insert.new.keys; count = c.self.inside.count + 1; room = c.self.inside.room }))
          c.self.view_is
          (sound c.self.invariant, rw c.insert.ensures.0 (grown-new c.self.invariant c.in_default.ensures c.if-self.false reads));
      adds = answer_adds refl;
    }
