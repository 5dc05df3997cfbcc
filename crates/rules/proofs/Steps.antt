-- The form of steps: those of the derivation in the solver's order meet row 44 and fit their four bytes, and a step is read back from
-- its bytes. Assumes nothing.
use mathlib.Core.Path.{◌≡◌, refl, ap}
use mathlib.Core.List.{List, [], ◌∷◌, map}
use mathlib.Core.Bool.{Bool, true, false, ◌||◌}
use Prim.Native.Nat.{ℕ, suc, ◌+◌, ◌*◌, ◌/◌, ◌%◌, ◌<◌, ◌≤◌}
use native.Mathlib.Omega.{arith}
use lib.Dec.{eqb}
use lib.ListN.{length, get_or}
use borrow.Author.Tests.{le-leb}
use Rattle.scope.specs.declared.Node.{Node}
use Rattle.calculus.specs.Expansion.{neg, expand}
use Rattle.calculus.specs.Order.{value_of, clauses, Tree, tree}
use Rattle.calculus.specs.Model.{All, Table, Below, Good}
use Rattle.calculus.proofs.Lists.{all_append, all_at, all_imply, all_map}
use Rattle.calculus.proofs.Count.{at_most}
use Rattle.calculus.proofs.Sizes.{widest, Short, clauses-few, clauses-short}
use Rattle.calculus.proofs.Moves.{conflict_clause, unit_clause}
use Rattle.calculus.proofs.Search.{Grown, closes, joins, ends, parts, grown-whole}
use Rattle.rules.specs.declared.Step.{Step}
use Rattle.rules.specs.declared.Version.{Version}
use Rattle.rules.specs.declared.Version.TheVariants.{One, Two}
use Rattle.rules.specs.Steps.{step, U, C, G as name, step_bytes, step_of, step_ok, rule_in}
use Rattle.rules.specs.Rules.{is_fails}
use Rattle.rules.specs.Derivation.{removals, removed, steps_of, named_steps}
use Rattle.rules.proofs.Laws.{by_test}

-- a step that a file of a version can hold
pub record Formed (v : Version) (s : Step) : Type 0 where
  pub ok : step_ok s ≡ true
  pub allowed : rule_in v s.rule ≡ true
  pub small : s.value < 65536

-- ---- bytes

pub length-step : (s : Step) → length (step_bytes s) ≡ 4
unfolding step_bytes
length-step s = refl

-- a step is read back from its bytes
pub step_of_bytes : (s : Step) → step_of (step_bytes s) ≡ s
unfolding step_of step_bytes
step_of_bytes s = ap (step s.rule s.position) (omega arith)

-- and four bytes are those of the step that they give
pub bytes_of_step : (r : List ℕ) → length r ≡ 4 → ((i : ℕ) → get_or r i 0 < 256) → step_bytes (step_of r) ≡ r
unfolding step_of step_bytes
bytes_of_step [] e h = absurd (omega arith)
bytes_of_step (a ∷ []) e h = absurd (omega arith)
bytes_of_step (a ∷ b ∷ []) e h = absurd (omega arith)
bytes_of_step (a ∷ b ∷ c ∷ []) e h = absurd (omega arith)
bytes_of_step (a ∷ b ∷ c ∷ d ∷ []) e h =
    let low : (c + 256 * d) % 256 ≡ c = omega (arith, h 2) in
    let high : (c + 256 * d) / 256 ≡ d = omega (arith, h 2) in
    rw (low, high)
bytes_of_step (a ∷ b ∷ c ∷ d ∷ x ∷ r) e h = absurd (omega arith)

-- the letters of the rules without a position
abbrev plain : ℕ → Bool
plain r = eqb r 85 || (eqb r 69 || (eqb r 67 || (eqb r 83 || eqb r 71)))

or_cases : {A : Type 0} (a b : Bool) → (a || b) ≡ true → (a ≡ true → A) → (b ≡ true → A) → A
or_cases true b e f g = f refl
or_cases false b e f g = g e

-- ---- the steps of a search

-- the removals of a short clause, in version one
removals_formed : (G : List ℕ) (k p : ℕ) (c : List ℕ) → k < 65536 → p + length c ≤ widest → All (Formed One) (removals G k p c)
unfolding removals
removals_formed G k p [] h w = tt
removals_formed G k p (l ∷ c) h w =
    let r : All (Formed One) (removals G k (suc p) c) = removals_formed G k (suc p) c h (omega arith) in
    by_test (is_fails (value_of G l))
    (λ e. rw e (record { ok = unfold step_ok in le-leb p _ (omega arith); allowed = unfold rule_in in refl; small = h }, r))
    (λ e. rw e r)

-- the steps without a position that both versions have
both_have : (v : Version) (r : ℕ) → eqb r 82 ≡ false → eqb r 69 ≡ false → rule_in v r ≡ true
unfolding rule_in
both_have One r e f = refl
both_have Two r e f = rw (e, f)

plain_formed : (v : Version) (r k : ℕ) → eqb r 82 ≡ false → eqb r 69 ≡ false → plain r ≡ true → k < 65536 → Formed v (step r 0 k)
plain_formed v r k e f q h = record { ok = unfold step_ok in rw (e, q); allowed = both_have v r e f; small = h }

module _ (v : Version) (n : ℕ) (t : ℕ → Node) (goals : List ℕ) (h : n ≤ 2016) (few : length goals ≤ 64) where
  module _ (G : List ℕ) (g : Good n G) (k : ℕ) (in_List : k < length (clauses (expand t) goals G)) where
    -- a clause's number is small
    pub number_small : k < 65536
    number_small = omega (arith, clauses-few t goals G, at_most n G g)

    removed-formed : All (Formed v) (removed v (expand t) goals G k)
    removed-formed = go v
      where
        go : (v : Version) → All (Formed v) (removed v (expand t) goals G k)
        go One =
            removals_formed G k 0 (get_or (clauses (expand t) goals G) k []) number_small
            (omega (arith, all_at Short (clauses (expand t) goals G) k [] (clauses-short t goals G) in_List))
        go Two = tt

  grown_formed : {G : List ℕ} {tr : Tree} → Grown n t goals G tr → All (Formed v) (steps_of v (expand t) goals G tr)
  unfolding steps_of
  grown_formed {G} (closes {k = k} g m) =
      let q = conflict_clause (expand t) goals G k m in
      all_append (Formed v) (removed v (expand t) goals G k) (C k ∷ []) (removed-formed G g k q.0)
      (plain_formed v 67 k refl refl refl (number_small G g k q.0), tt)
  grown_formed {G} (joins {k = k} {l = l} {below = below} g m f r) =
      let q = unit_clause (expand t) goals G k l m in
      all_append (Formed v) (removed v (expand t) goals G k) (U k ∷ steps_of v (expand t) goals (l ∷ G) below) (removed-formed G g k q.0)
      (plain_formed v 85 k refl refl refl (number_small G g k q.0), grown_formed r)
  grown_formed (ends g m) = tt
  grown_formed {G} (parts {l = l} {left = x} {right = y} g m f p q) = (
    plain_formed v 83 l refl refl refl (omega (arith, f.0)),
    all_append (Formed v) (steps_of v (expand t) goals (l ∷ G) x) (steps_of v (expand t) goals (neg l ∷ G) y) (grown_formed p) (grown_formed q),
  )

  -- every step of the derivation in the solver's order can be held in a file
  pub derivation_formed : Table n t → Below n goals → All (Formed v) (named_steps v (expand t) goals (tree (expand t) goals n []))
  derivation_formed T B =
      all_append (Formed v) (map name goals) (steps_of v (expand t) goals [] (tree (expand t) goals n []))
      (all_map (Formed v) name goals
      (all_imply (λ l. l < 2 * n) (λ l. Formed v (name l)) (λ l b. plain_formed v 71 l refl refl refl (omega arith)) goals B))
      (grown_formed (grown-whole n t goals T B))
