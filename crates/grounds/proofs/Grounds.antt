-- The sets at the slots of a clause's literals, and of the literal that gave it, are what it rests on. Assumes nothing.
use mathlib.Core.Path.{◌≡◌, refl, sym, ap, ap₂, ◌∙◌, fun_ext}
use mathlib.Core.List.{List, [], ◌∷◌, map}
use mathlib.Core.Bool.{Bool, true, false, cond, ◌||◌}
use Prim.Native.Nat.{ℕ, suc, ◌+◌, ◌*◌, ◌/◌, ◌%◌, ◌<◌}
use native.Mathlib.Omega.{arith}
use lib.Dec.{eqb}
use lib.ListN.{get_or}
use Rattle.scope.specs.declared.Node.{Node}
use Rattle.scope.specs.Table.{operands}
use Rattle.calculus.specs.Expansion.{neg, chosen, expand}
use Rattle.calculus.specs.Order.{Value, holds, fails, undecided, value_of, State, met, opened, joined, state_of, clauses}
use Rattle.calculus.specs.Model.{All, Below, Table}
use Rattle.calculus.specs.Jump.{Rests, nothing, both, rest_of, false_rest, origin_rest, clause_rest}
use Rattle.calculus.proofs.Fresh.{expand-under}
use Rattle.calculus.proofs.Lists.{all_at, all_imply}
use Rattle.trail.specs.Trail.{Trail, held}
use Rattle.trail.proofs.Trails.{trail-length}
use Rattle.state.specs.Work.{tail, lit_at, entry_of, base_of, g_of, Ready, Numbered}
use Rattle.state.proofs.Areas.{held_below}
use Rattle.state.proofs.Clauses.{at_position}
use Rattle.rests.specs.Words.{rest_at, Put, held_of}
use Rattle.rests.proofs.Held.{held-literals}
use Rattle.grounds.specs.Ground.{operands_in, over, Room, Unmet, Grounded}
use Rattle.grounds.proofs.Slots.{before-suc, origin-position, false_slot}
use Rattle.grounds.proofs.Puts.{put_as}
use Rattle.grounds.proofs.Rows.{choices, chosen-clause, choices_in}

-- ---- a clause that is not met has no true literal

opened_unmet : (l : ℕ) (s : State) → (opened l s ≡ met → ⊥) → s ≡ met → ⊥
opened_unmet l s u e = u (rw e)

pub unmet : (G c : List ℕ) → (state_of G c ≡ met → ⊥) → Unmet G c
unfolding state_of
unmet G [] u = tt
unmet G (l ∷ c) u = go (value_of G l) u (unmet G c)
  where
    go : (v : Value) → (joined v l (state_of G c) ≡ met → ⊥) → ((state_of G c ≡ met → ⊥) → Unmet G c) → (v ≡ holds → ⊥) × Unmet G c
    go holds u r = absurd (u refl)
    go fails u r = (λ e. absurd (let z : ◌≡◌ {A = ℕ} 0 1 = cc in omega arith), r u)
    go undecided u r = (λ e. absurd (let z : ◌≡◌ {A = ℕ} 0 1 = cc in omega arith), r (opened_unmet l (state_of G c) u))

-- ---- the sets of its literals, and another

both_assoc : (a b c : Rests) → both (both a b) c ≡ both a (both b c)
both_assoc a b c = fun_ext (λ i. go (a i) (b i) (c i))
  where
    go : (x y z : Bool) → ((x || y) || z) ≡ (x || (y || z))
    go true y z = refl
    go false y z = refl

-- a choice is of the operand's node
chosen-node : (y : Node) (c : ℕ) → chosen y c / 2 ≡ get_or (operands y) (c / 2) 0 / 2
unfolding chosen
chosen-node y c = go (eqb (c % 2) 0)
  where
    l : ℕ
    l = get_or (operands y) (c / 2) 0

    go : (p : Bool) → cond p l (neg l) / 2 ≡ l / 2
    go true = refl
    go false = omega arith

module _ (n : ℕ) (r : ℕ → ℕ) (m : List ℕ) (h : Trail n r) (s : rest_at m 0 ≡ nothing) (y : Node) (o : Rests) where
  false-over : (cs : List ℕ) → Below n (map (chosen y) cs) → Unmet (held r) (map (chosen y) cs)
      → both (false_rest (held_of m (held r)) (map (chosen y) cs)) o ≡ over m r y o (map (◌/ 2) cs)
  unfolding false_rest over
  false-over [] b u = refl
  false-over (c ∷ cs) b u =
      both_assoc (rest_of (held_of m (held r)) (neg (chosen y c))) (false_rest (held_of m (held r)) (map (chosen y) cs)) o
      ∙ ap₂ both (false_slot n r m h s (chosen y c) b.0 u.0 ∙ ap (λ (p : ℕ). rest_at m ((entry_of r p + 1) / 2)) (chosen-node y c))
      (false-over cs b.1 u.1)

-- ---- clause j of the literal at position q

module _ {t : ℕ → Node} {n q j to : ℕ} {goals w m : List ℕ} (R : Ready n w) (N : Numbered t goals (tail w)) (g : Grounded t goals w m q j to) where
  pub room : Room w m to
  room = record { none = g.none; past = omega (arith, trail-length (tail w 0) (tail w), g.past); there = g.there }

  abbrev l : ℕ
  l = lit_at (tail w) q

  -- its number
  abbrev k : ℕ
  k = base_of (tail w) q + j

  clause-is : get_or (clauses (expand t) goals (g_of w)) k [] ≡ get_or (expand t l) j []
  clause-is = rw (N q (omega (arith, g.held))) (at_position t goals (tail w) q (tail w 0) j g.held g.column)

  gave_it : origin_rest (expand t) goals (held_of m (g_of w)) k ≡ rest_at m (q + 1)
  gave_it =
      let b = N q (omega (arith, g.held)) in
      let e : q + 1 ≡ suc q = omega arith in
      rw e
      (origin-position (tail w) m (expand t) goals (tail w 0) q k g.held (omega (arith, b))
      (omega (arith, b, before-suc (tail w) m (expand t) goals q, g.column)))

  module _ (T : Table n t) where
    known : (t (l / 2)).kind < 9
    known = (T.kinds (l / 2) (omega (arith, held_below R q g.held))).1

    below : Below n (get_or (expand t l) j [])
    below =
        let b = held_below R q g.held in
        all_imply (λ i. i / 2 < l / 2) (λ i. i < 2 * n) (λ i y. omega (arith, y, b)) (get_or (expand t l) j [])
        (all_at (All (λ i. i / 2 < l / 2)) (expand t l) j [] (expand-under n t T l b) g.column)

    -- what its literals rest on, and the literal that gave it
    over-clause : over m (tail w) (t (l / 2)) (rest_at m (q + 1)) (operands_in t l j) ≡ clause_rest (expand t) goals (held_of m (g_of w)) k
    over-clause =
        let cs = choices t l j known g.column in
        let e = chosen-clause t l j known g.column in
        ap (over m (tail w) (t (l / 2)) (rest_at m (q + 1))) (sym (choices_in t l j known g.column))
        ∙ sym (false-over n (tail w) m R.trail g.none (t (l / 2)) (rest_at m (q + 1)) cs (rw e at below) (rw (clause-is, e) at g.unmet))
        ∙ ap₂ both (ap (false_rest (held_of m (g_of w))) (sym (clause-is ∙ e))
        ∙ ap (λ (G : List ℕ). false_rest (held_of m (g_of w)) (get_or (clauses (expand t) goals G) k [])) (sym (held-literals m (g_of w)))) (sym gave_it)

    pub put-held : {m' : List ℕ} → Put m to (over m (tail w) (t (l / 2)) (rest_at m (q + 1)) (operands_in t l j)) m'
        → Put m to (clause_rest (expand t) goals (held_of m (g_of w)) k) m'
    put-held u = put_as over-clause u
