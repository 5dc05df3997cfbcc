-- The removals of a move, by the bits of the positions. Assumes nothing.
use mathlib.Core.Path.{◌≡◌, refl, sym, ap, ◌∙◌}
use mathlib.Core.List.{List, [], ◌∷◌, ◌++◌, append_assoc, append-nil}
use Prim.Native.Nat.{ℕ, zero, suc, ◌+◌, ◌-◌, ◌/◌, ◌%◌, ◌<◌, ◌≤◌}
use native.Mathlib.Numerals.{add-one}
use native.Mathlib.Omega.{arith}
use lib.ListN.{length, length-append}
use borrow.Author.Tests.{eq-eqb, ne_eqb}
use Rattle.rules.specs.declared.Step.{Step}
use Rattle.rules.specs.Steps.{R, step}
use Rattle.gather.specs.Kept.{positions, removal_if, removals_at, Space, Pushed}
use Rattle.gather.specs.declared.Writer.{Writer}
use Rattle.gather.proofs.Pushes.{space-less, space-left, pushed_on}

-- ---- one position

module _ (bit k p : ℕ) where
  pub removal_some : bit ≡ 1 → removal_if bit k p ≡ R p k ∷ []
  removal_some e = rw (eq-eqb bit 1 e)

  pub removal_none : (bit ≡ 1 → ⊥) → removal_if bit k p ≡ []
  removal_none h = rw (ne_eqb bit 1 h)

-- ---- all positions

pub removals-zero : (more k p : ℕ) → removals_at more k p 0 ≡ []
unfolding removals_at
removals-zero zero k p = refl
removals-zero (suc more) k p = removals-zero more k (suc p)

removals_next : (more k p b : ℕ) → removals_at (suc more) k p b ≡ removal_if (b % 2) k p ++ removals_at more k (p + 1) (b / 2)
unfolding removals_at
removals_next more k p b = rw (add-one p)

removals_on : (k i b : ℕ) → i < positions → removals_at (positions - i) k i b ≡ removal_if (b % 2) k i ++ removals_at (positions - (i + 1)) k (i + 1) (b / 2)
removals_on k i b h =
    let z : positions - i ≡ suc (positions - (i + 1)) = omega arith in
    ap (λ (more : ℕ). removals_at more k i b) z ∙ removals_next (positions - (i + 1)) k i b

-- before each turn: the removals of the positions below i are pushed, and the bits left are of those from i on
pub record Removing (k removed : ℕ) (out₀ : List ℕ) (w₀ : Writer) (out : List ℕ) (w : Writer) (i left : ℕ) : Type 0 where
  pub done : List Step
  pub pushed : Pushed done out₀ w₀ out w
  pub whole : done ++ removals_at (positions - i) k i left ≡ removals_at positions k 0 removed
  pub room : i + left ≤ positions

module _ {k removed : ℕ} {out₀ : List ℕ} {w₀ : Writer} {out : List ℕ} {w : Writer} {i left : ℕ} (r : Removing k removed out₀ w₀ out w i left)
    (s : Space (length (removals_at positions k 0 removed) + 1) out₀ w₀) where
  space_now : Space (length (removals_at (positions - i) k i left) + 1) out w
  space_now =
      let n = length-append r.done (removals_at (positions - i) k i left) in
      space-left (length (removals_at (positions - i) k i left) + 1) (space-less (omega (arith, n, ap length r.whole)) s) r.pushed

  -- one position more
  module _ (h : 0 < left) where
    pub removing-space : Space (length (removal_if (left % 2) k i)) out w
    removing-space =
        let e = ap length (removals_on k i left (omega (arith, r.room))) in
        let n = length-append (removal_if (left % 2) k i) (removals_at (positions - (i + 1)) k (i + 1) (left / 2)) in
        space-less (omega (arith, e, n)) space_now

    pub removing-goes : {out' : List ℕ} {w' : Writer} → Pushed (removal_if (left % 2) k i) out w out' w' → Removing k removed out₀ w₀ out' w' (i + 1) (left / 2)
    removing-goes p = record {
      done = r.done ++ removal_if (left % 2) k i;
      pushed = pushed_on r.pushed p;
      whole =
          append_assoc r.done (removal_if (left % 2) k i) (removals_at (positions - (i + 1)) k (i + 1) (left / 2))
          ∙ ap (r.done ++◌) (sym (removals_on k i left (omega (arith, r.room)))) ∙ r.whole;
      room = omega (arith, r.room);
    }

  -- no position is left
  module _ (h : 0 < left → ⊥) where
    done_all : r.done ≡ removals_at positions k 0 removed
    done_all =
        let z : left ≡ 0 = omega (arith, h) in
        sym (append-nil r.done) ∙ ap (r.done ++◌) (sym (removals-zero (positions - i) k i))
        ∙ ap (λ (b : ℕ). r.done ++ removals_at (positions - i) k i b) (sym z) ∙ r.whole

    pub last-space : Space 1 out w
    last-space = space-less (omega arith) space_now

    pub removing-ends : {rule : ℕ} {out' : List ℕ} {w' : Writer} → Pushed (step rule 0 k ∷ []) out w out' w'
        → Pushed (removals_at positions k 0 removed ++ step rule 0 k ∷ []) out₀ w₀ out' w'
    removing-ends p = pushed_on (rw done_all at r.pushed) p
