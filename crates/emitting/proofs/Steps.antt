-- The steps of a search by its next move, and the removals of a clause by the bits of its false literals. Assumes nothing.
use mathlib.Core.Path.{◌≡◌, refl, sym, ap, ◌∙◌}
use mathlib.Core.Bool.{Bool, true, false, cond}
use mathlib.Core.List.{List, [], ◌∷◌, ◌++◌}
use Prim.Native.Nat.{ℕ, zero, suc, ◌+◌, ◌-◌, ◌*◌, ◌/◌, ◌%◌, ◌<◌, ◌≤◌}
use native.Mathlib.Omega.{arith}
use lib.Dec.{ltb}
use lib.ListN.{length}
use borrow.Author.Tests.{lt-ltb}
use Rattle.scope.specs.declared.Node.{Node}
use Rattle.calculus.specs.Expansion.{neg, expand}
use Rattle.calculus.specs.Order.{Value, holds, fails, undecided, value_of, move}
use Rattle.calculus.specs.declared.Move.TheVariants.{Conflict, Unit as Single, Split}
use Rattle.rules.specs.declared.Version.{Version}
use Rattle.rules.specs.declared.Version.TheVariants.{One, Two}
use Rattle.rules.specs.Steps.{U, R, C, S}
use Rattle.rules.specs.Rules.{is_fails}
use Rattle.rules.specs.Derivation.{removals, removed, steps_of}
use Rattle.clause.specs.declared.Clause.{Clause}
use Rattle.clause.specs.Literals.{literals}
use Rattle.clause.proofs.Lengths.{by_length}
use Rattle.state.specs.Work.{g_of, value_code}
use Rattle.moves.specs.Place.{place_number, Reasoned}
use Rattle.gather.specs.Kept.{positions, removal_if, removals_at}
use Rattle.gather.proofs.Removes.{removals-zero}
use Rattle.searching.proofs.Searches.{tree_conflict, tree_unit, tree_split, fuel}
use Rattle.counting.specs.Count.{steps_from}
use Rattle.emitting.specs.Trace.{false_bit, false_bits, RemovedBy}

-- ---- the search from G, by its next move

module _ (v : Version) (t : ℕ → Node) (goals G : List ℕ) (n : ℕ) where
  pub steps_conflict : {k : ℕ} → move (expand t) goals G ≡ Conflict k → steps_from v t n goals G ≡ removed v (expand t) goals G k ++ C k ∷ []
  unfolding steps_of
  steps_conflict e = rw (tree_conflict t goals G (n - length G) e)

  module _ (h : length G < n) where
    pub steps-unit : {k l : ℕ} → move (expand t) goals G ≡ Single k l
        → steps_from v t n goals G ≡ removed v (expand t) goals G k ++ U k ∷ steps_from v t n goals (l ∷ G)
    unfolding steps_of
    steps-unit e = rw (fuel t goals G n h, tree_unit t goals G (n - suc (length G)) e)

    pub steps-split : {l : ℕ} → move (expand t) goals G ≡ Split l
        → steps_from v t n goals G ≡ S l ∷ (steps_from v t n goals (l ∷ G) ++ steps_from v t n goals (neg l ∷ G))
    unfolding steps_of
    steps-split e = rw (fuel t goals G n h, tree_split t goals G (n - suc (length G)) e)

-- ---- the false literals of a clause, as bits

-- a value halved says whether it is false
pub half_false : (v : Value) → value_code v / 2 ≡ cond (is_fails v) 1 0
half_false holds = refl
half_false fails = refl
half_false undecided = refl

pub bit_low : (a : Bool) (G : List ℕ) (l : ℕ) → cond a (false_bit G l) 0 ≤ 1
bit_low false G l = omega arith
bit_low true G l = go (is_fails (value_of G l))
  where
    go : (b : Bool) → cond b 1 0 ≤ 1
    go true = omega arith
    go false = omega arith

pub few-literals : (c : Clause) → length (literals c) ≤ positions
few-literals c = by_length c (λ (m : ℕ) (ls : List ℕ). length ls ≤ positions) (omega arith) (omega arith) (omega arith) (λ m h. omega arith)

-- its bits, position by position
pub bits_of : (G : List ℕ) (c : Clause) {a b d : ℕ} → a ≡ cond (ltb 0 c.len) (false_bit G c.first) 0 → b ≡ cond (ltb 1 c.len) (false_bit G c.second) 0
    → d ≡ cond (ltb 2 c.len) (false_bit G c.third) 0 → a + 2 * (b + 2 * d) ≡ false_bits G (literals c)
bits_of G c p q r =
    rw (p, q, r)
    (by_length c (λ (m : ℕ) (ls : List ℕ). bits_at m ≡ false_bits G ls) (omega arith) (omega arith) (omega arith)
    (λ m h. rw (lt-ltb 0 m (omega arith), lt-ltb 1 m (omega arith), lt-ltb 2 m h) (omega arith)))
  where
    bits_at : ℕ → ℕ
    bits_at m = cond (ltb 0 m) (false_bit G c.first) 0 + 2 * (cond (ltb 1 m) (false_bit G c.second) 0 + 2 * cond (ltb 2 m) (false_bit G c.third) 0)

-- the removals by bits are those of the clause
removals_bits : (G : List ℕ) (k : ℕ) (c : List ℕ) (more p : ℕ) → length c ≤ more → removals_at more k p (false_bits G c) ≡ removals G k p c
unfolding removals_at removals
removals_bits G k [] more p h = removals-zero more k p
removals_bits G k (l ∷ c) zero p h = absurd (omega arith)
removals_bits G k (l ∷ c) (suc more) p h = go (is_fails (value_of G l)) (false_bits G c) (removals_bits G k c more (suc p) (omega arith))
  where
    go : (b : Bool) (y : ℕ) → removals_at more k (suc p) y ≡ removals G k (suc p) c
        → removal_if ((cond b 1 0 + 2 * y) % 2) k p ++ removals_at more k (suc p) ((cond b 1 0 + 2 * y) / 2)
        ≡ cond b (R p k ∷ removals G k (suc p) c) (removals G k (suc p) c)
    go true y e =
        let odd : (1 + 2 * y) % 2 ≡ 1 = omega arith in
        let half : (1 + 2 * y) / 2 ≡ y = omega arith in
        rw (odd, half, e)
    go false y e =
        let even : (0 + 2 * y) % 2 ≡ 0 = omega arith in
        let half : (0 + 2 * y) / 2 ≡ y = omega arith in
        rw (even, half, e)

-- those of the clause that the move looked up is on
pub removed_is : {v : Version} {t : ℕ → Node} {n : ℕ} {goals w : List ℕ} {bits : ℕ} {c : Clause} → v ≡ One → Reasoned t n goals w c
    → bits ≡ false_bits (g_of w) (literals c) → RemovedBy v t goals (g_of w) (place_number w) bits
removed_is {w = w} {c = c} one r e =
    let k = place_number w in
    rw one
    (ap (removals (g_of w) k 0) (sym r.clause) ∙ sym (removals_bits (g_of w) k (literals c) positions 0 (few-literals c)) ∙ ap (removals_at positions k 0) (sym e))

-- version two has none
pub removed_none : {v : Version} (t : ℕ → Node) (goals G : List ℕ) (k : ℕ) → v ≡ Two → RemovedBy v t goals G k 0
removed_none t goals G k two = rw two (sym (removals-zero positions k 0))
