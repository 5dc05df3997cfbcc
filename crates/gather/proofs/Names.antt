-- The steps that name the goals, pushed one after another. Assumes nothing.
use mathlib.Core.Path.{◌≡◌, sym, ap, ◌∙◌, subst}
use mathlib.Core.List.{List, [], ◌∷◌, ◌++◌, map, append_assoc, append-nil}
use Prim.Native.Nat.{ℕ, suc, ◌+◌, ◌<◌, ◌≤◌}
use native.Mathlib.Omega.{arith}
use native.Mathlib.Numerals.{add-one}
use lib.ListN.{length, get_or, drop, drop_of_length-le, length-append, length-map}
use lib.Seq.{drop-cons}
use Rattle.rules.specs.declared.Step.{Step}
use Rattle.rules.specs.Steps.{G as name}
use Rattle.gather.specs.Kept.{Space, Pushed}
use Rattle.gather.specs.declared.Writer.{Writer}
use Rattle.gather.proofs.Pushes.{pushed_on, space-less, space-left}

-- the names of the goals before i were pushed
pub record Naming (goals out₀ : List ℕ) (w₀ : Writer) (out : List ℕ) (w : Writer) (i : ℕ) : Type 0 where
  pub done : List Step
  pub pushed : Pushed done out₀ w₀ out w
  pub whole : done ++ map name (drop i goals) ≡ map name goals
  pub room : i ≤ length goals

module _ {goals out₀ : List ℕ} {w₀ : Writer} {out : List ℕ} {w : Writer} {i : ℕ} (n : Naming goals out₀ w₀ out w i) where
  module _ (s : Space (length goals) out₀ w₀) (h : i < length goals) where
    next : drop i goals ≡ get_or goals i 0 ∷ drop (suc i) goals
    next = drop-cons goals i 0 h

    pub naming-space : Space 1 out w
    naming-space =
        let e = ap length n.whole in
        space-left 1 (space-less (omega (arith, rw (length-append, length-map, next) at e, length-map goals name)) s) n.pushed

    pub naming-goes : {out' : List ℕ} {w' : Writer} → Pushed (name (get_or goals i 0) ∷ []) out w out' w' → Naming goals out₀ w₀ out' w' (i + 1)
    naming-goes p = record {
      done = n.done ++ name (get_or goals i 0) ∷ [];
      pushed = pushed_on n.pushed p;
      whole =
          append_assoc n.done (name (get_or goals i 0) ∷ []) (map name (drop (i + 1) goals))
          ∙ rw add-one (ap (λ (ls : List ℕ). n.done ++ map name ls) (sym next) ∙ n.whole);
      room = omega arith;
    }

  pub naming_ends : length goals ≤ i → Pushed (map name goals) out₀ w₀ out w
  naming_ends h =
      let none : drop i goals ≡ [] = drop_of_length-le goals {i = i} h in
      let e : n.done ≡ map name goals = sym (append-nil n.done) ∙ ap (λ (ls : List ℕ). n.done ++ map name ls) (sym none) ∙ n.whole in
      subst (λ (ss : List Step). Pushed ss out₀ w₀ out w) e n.pushed
