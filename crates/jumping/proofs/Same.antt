-- Tables of which both have the nodes that a search comes to give one jumping search. Assumes nothing.
use mathlib.Core.Path.{◌≡◌, refl, ap, ap₂, ◌∙◌, fun_ext}
use mathlib.Core.List.{List, [], ◌∷◌}
use Prim.Native.Nat.{ℕ, zero, suc, ◌+◌, ◌≤◌}
use native.Mathlib.Omega.{arith}
use lib.ListN.{length, get_or}
use Rattle.scope.specs.declared.Node.{Node}
use Rattle.calculus.specs.Expansion.{neg, expand}
use Rattle.calculus.specs.Order.{move}
use Rattle.calculus.specs.Model.{All, Table, Below, Fresh, Good}
use Rattle.calculus.specs.Agree.{Alike, Closed}
use Rattle.calculus.specs.Jump.{Rests, both, only, less, Held, hold, literals, false_rest, origin_rest, clause_rest, closed, short, Jumped, stop, sides, step, jump}
use Rattle.calculus.specs.declared.Move.{Move}
use Rattle.calculus.specs.declared.Move.TheVariants.{Conflict, Unit as Single, Done, Split}
use Rattle.calculus.proofs.Literals.{neg-fresh}
use Rattle.calculus.proofs.Count.{room}
use Rattle.calculus.proofs.Fresh.{unit_fresh, split-fresh}
use Rattle.calculus.proofs.Same.{neg-alike, clauses-alike, move-alike, unit-alike, split-alike}

module _ (cap n : ℕ) (t u : ℕ → Node) (goals : List ℕ) where
  origin_same : (H : List Held) (k : ℕ) → All (Alike t u) (literals H) → origin_rest (expand t) goals H k ≡ origin_rest (expand u) goals H k
  unfolding origin_rest
  origin_same [] k a = refl
  origin_same (h ∷ H) k a = rw (clauses-alike t u goals (literals H) a.1, origin_same H k a.1)

  rest_same : (H : List Held) (k : ℕ) → All (Alike t u) (literals H) → clause_rest (expand t) goals H k ≡ clause_rest (expand u) goals H k
  rest_same H k a =
      ap₂ both (ap (λ (cs : List (List ℕ)). false_rest H (get_or cs k [])) (clauses-alike t u goals (literals H) a)) (origin_same H k a)

  module _ (T : Table n t) (B : Below n goals) (C : Closed n t u) (A : All (Alike t u) goals) where
    step_same : (d : ℕ) (H : List Held) (m : Move) (go next : ℕ → List Held → Jumped) → Good n (literals H) → All (Alike t u) (literals H)
        → move (expand t) goals (literals H) ≡ m
        → ((e : ℕ) (h : Held) → Fresh n (literals H) h.literal → Alike t u h.literal → go e (h ∷ H) ≡ next e (h ∷ H))
        → step cap (expand t) goals m d H go ≡ step cap (expand u) goals m d H next
    step_same d H (Conflict k) go next g a e r = ap (λ (s : Rests). stop (closed s)) (rest_same H k a)
    step_same d H (Single k l) go next g a e r =
        r d (hold l (clause_rest (expand t) goals H k)) (unit_fresh n t goals T B (literals H) g k l e) (unit-alike n t u T C goals A (literals H) g a k l e)
        ∙ ap (λ (s : Rests). next d (hold l s ∷ H)) (rest_same H k a)
    step_same d H Done go next g a e r = refl
    step_same d H (Split l) go next g a e r =
        let f : Fresh n (literals H) l = split-fresh n t goals T B (literals H) g l e in
        let s : Alike t u l = split-alike n t u T C goals A (literals H) g a l e in
        ap₂ (sides cap d) (r (suc d) (hold l (only cap d)) f s)
        (fun_ext (λ rs. r (suc d) (hold (neg l) (less d rs)) (neg-fresh n (literals H) l f) (neg-alike t u l s)))

    -- where there is fuel for the nodes that are left, more changes nothing
    pub jump-same : (fuel more d : ℕ) (H : List Held) → Good n (literals H) → All (Alike t u) (literals H) → n ≤ fuel + length (literals H) → fuel ≤ more
        → jump cap (expand t) goals fuel d H ≡ jump cap (expand u) goals more d H
    unfolding jump
    jump-same zero zero d H g a h l = rw (← move-alike t u goals (literals H) a)
        (step_same d H (move (expand t) goals (literals H)) (λ e F. stop short) (λ e F. stop short) g a refl (λ e h f s. refl))
    jump-same zero (suc more) d H g a h l = rw (← move-alike t u goals (literals H) a)
        (step_same d H (move (expand t) goals (literals H)) (λ e F. stop short) (jump cap (expand u) goals more) g a refl
        (λ e k f s. absurd (omega (arith, room n (literals H) k.literal g f))))
    jump-same (suc fuel) zero d H g a h l = absurd (omega arith)
    jump-same (suc fuel) (suc more) d H g a h l = rw (← move-alike t u goals (literals H) a)
        (step_same d H (move (expand t) goals (literals H)) (jump cap (expand t) goals fuel) (jump cap (expand u) goals more) g a refl
        (λ e k f s. jump-same fuel more e (k ∷ H) (f, g) (s, a) (omega arith) (omega arith)))
