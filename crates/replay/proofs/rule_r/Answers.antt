-- `replay::rule_r` meets its contract. Each test is one of the rule's conditions; past them the literal is struck. Assumes nothing.
use native.Mathlib.Omega.{arith}
use mathlib.Core.Path.{sym, ap, subst, ◌∙◌}
use Prim.Native.Nat.{ℕ, ◌+◌}
use Rattle.area.specs.Area.{slot_at, strike_at, Struck}
use Rattle.replay.proofs.Told.{size_of, trail_of, ranged_of, newest_of, slot_literal, clause_within}
use Rattle.replay.proofs.Rules.{r-falls, r-past, r-struck, r-refuses, r-runs}
use Rattle.replay.proofs.rule_r.Goals as goal

pub stands-requires : goal.stands-requires
stands-requires c = ranged_of c.requires.indexed.few c.requires.held

pub returns-then-not-stands : goal.returns-then-not-stands
returns-then-not-stands c = r-falls _ _ _ c.requires.indexed.few c.args.k (sym c.stands.ensures ∙ c.if-not-stands.true) c.args.p

pub base-requires : goal.base-requires
base-requires c = let st = sym c.stands.ensures ∙ c.if-not-stands.false in
    let r = clause_within c.requires.indexed.few c.requires.held st in
    (r.size, omega (arith, r))

pub base-requires-2 : goal.base-requires-2
base-requires-2 c = let st = sym c.stands.ensures ∙ c.if-not-stands.false in
    let r = clause_within c.requires.indexed.few c.requires.held st in
    (r.size, omega (arith, r))

pub returns-then-base-s : goal.returns-then-base-s
returns-then-base-s c = let st = sym c.stands.ensures ∙ c.if-not-stands.false in
    let r = clause_within c.requires.indexed.few c.requires.held st in
    r-past _ _ _ c.requires.indexed.few c.args.k st c.args.p (omega (arith, r, c.base.ensures, c.base-2.ensures, c.if-base-s.true))

pub strike_in-requires : goal.strike_in-requires
strike_in-requires c = let st = sym c.stands.ensures ∙ c.if-not-stands.false in
    let r = clause_within c.requires.indexed.few c.requires.held st in
    (r.size, omega (arith, r, c.base-2.ensures, c.if-base-s.false))

pub returns-then-strike_in-ne0 : goal.returns-then-strike_in-ne0
returns-then-strike_in-ne0 c = let st = sym c.stands.ensures ∙ c.if-not-stands.false in
    let r = clause_within c.requires.indexed.few c.requires.held st in
    r-struck _ _ _ c.requires.indexed.few c.args.k st c.args.p (omega (arith, r, c.base.ensures, c.base-2.ensures, c.if-base-s.false))
    (c.strike_in.ensures ∙ ap (λ (b : ℕ). strike_at c.args.work.now (b + c.args.p)) c.base.ensures) c.if-strike_in-ne0.true

pub literal_in-requires : goal.literal_in-requires
literal_in-requires c = let st = sym c.stands.ensures ∙ c.if-not-stands.false in
    let r = clause_within c.requires.indexed.few c.requires.held st in
    (r.size, omega (arith, r, c.base-2.ensures, c.if-base-s.false))

pub value-requires : goal.value-requires
value-requires c = let st = sym c.stands.ensures ∙ c.if-not-stands.false in
    let r = clause_within c.requires.indexed.few c.requires.held st in
    record {
      area_size_in_bounds = (
        size_of c.requires.indexed.few c.requires.held,
        c.requires.indexed.few,
        omega (
          arith,
          c.literal_in.ensures,
          slot_literal c.requires.indexed.few c.requires.held c.requires.indexed.table c.args.k r.number
              (c.base.result + c.args.p) (omega (arith, c.base-2.ensures, c.if-base-s.false)),
        ),
      );
      vals = (trail_of c.requires.indexed.few c.requires.held).vals;
    }

pub returns-then-value-ne2 : goal.returns-then-value-ne2
returns-then-value-ne2 c = let st = sym c.stands.ensures ∙ c.if-not-stands.false in
    let r = clause_within c.requires.indexed.few c.requires.held st in
    r-refuses _ _ _ c.requires.indexed.few c.args.k st c.args.p (omega (arith, r, c.base.ensures, c.base-2.ensures, c.if-base-s.false))
    (c.strike_in.ensures ∙ ap (λ (b : ℕ). strike_at c.args.work.now (b + c.args.p)) c.base.ensures) c.if-strike_in-ne0.false
    (c.literal_in.ensures ∙ ap (λ (b : ℕ). slot_at c.args.work.now (b + c.args.p)) c.base.ensures) c.value.ensures c.if-value-ne2.true

pub strike-requires : goal.strike-requires
strike-requires c = let st = sym c.stands.ensures ∙ c.if-not-stands.false in
    let r = clause_within c.requires.indexed.few c.requires.held st in
    record {
      area_size_in_bounds = (r.size, omega (arith, r, c.base-2.ensures, c.if-base-s.false), newest_of c.requires.indexed.few c.requires.held, omega arith);
      notes_value = (omega arith, sym c.strike_in.ensures ∙ c.if-strike_in-ne0.false);
    }

pub returns : goal.returns
returns c = let st = sym c.stands.ensures ∙ c.if-not-stands.false in
    let r = clause_within c.requires.indexed.few c.requires.held st in
    r-runs _ _ _ c.requires.indexed.few c.args.k st c.args.p (omega (arith, r, c.base.ensures, c.base-2.ensures, c.if-base-s.false))
    (c.strike_in.ensures ∙ ap (λ (b : ℕ). strike_at c.args.work.now (b + c.args.p)) c.base.ensures) c.if-strike_in-ne0.false
    (c.literal_in.ensures ∙ ap (λ (b : ℕ). slot_at c.args.work.now (b + c.args.p)) c.base.ensures) c.value.ensures c.if-value-ne2.false
    (subst (λ (b : ℕ). Struck 0 (b + c.args.p) c.args.work.now c.strike.new.work) c.base.ensures c.strike.ensures)
