-- Steps of version one that run to their end are a derivation of the published calculus, rule for rule. Assumes nothing.
use mathlib.Core.Path.{◌≡◌, refl, sym, ap, ◌∙◌, subst}
use mathlib.Core.List.{List, [], ◌∷◌, ◌++◌, map, append_assoc, append-nil}
use Prim.Native.Nat.{ℕ, suc}
use Rattle.scope.specs.Outcome.{fine}
use Rattle.scope.proofs.Tests.{refused_no}
use Rattle.calculus.specs.Expansion.{neg}
use Rattle.calculus.specs.Order.{mem, clauses}
use Rattle.calculus.specs.Model.{All}
use Rattle.calculus.proofs.Lists.{all_append}
use Rattle.rules.specs.declared.Step.{Step}
use Rattle.rules.specs.declared.Version.TheVariants.{One}
use Rattle.rules.specs.Rules.{Branch, root, Progress, running, complete, advance, ended, run}
use Rattle.rules.proofs.Laws.{run_step}
use Rattle.published.specs.Published.{Sequent, ◌⊢◌, Derivation, by, Derivations, none, more, rules_of, rules_in}
use Rattle.published.specs.Reading.{sequent_of, Within, open_of, rule_of, Published}
use Rattle.published.proofs.Standing.{standing-root}
use Rattle.published.proofs.Steps.{Fired, step-fires}

-- derivations of two lists of sequents, one after the other
module _ {L : Type 0} {bar : L → L} {ex : L → List (List L)} where
  apart : (xs ys : List (Sequent L)) (ds : Derivations bar ex (xs ++ ys))
      → (us : Derivations bar ex xs) × (vs : Derivations bar ex ys) × (rules_in us ++ rules_in vs ≡ rules_in ds)
  unfolding rules_of
  apart [] ys ds = (none, ds, refl)
  apart (x ∷ xs) ys (more d ds) =
      let r = apart xs ys ds in
      (more d r.0, r.1, append_assoc (rules_of d) (rules_in r.0) (rules_in r.1) ∙ ap (rules_of d ++◌) r.2)

module _ (ex : ℕ → List (List ℕ)) (goals : List ℕ) (nodes : ℕ) where
  -- derivations of the sequents of branches, by the rules of these steps
  abbrev Derived : List Branch → List Step → Type 0
  Derived bs ss = (ds : Derivations neg ex (map (sequent_of ex goals) bs)) × (rules_in ds ≡ map rule_of ss)

  -- one more step
  derived-step : (s : Step) (ss : List Step) (b : Branch) (waiting : List Branch) (p : Progress)
      → Fired ex goals (rule_of s) b waiting p → Derived (open_of p) ss → Derived (b ∷ waiting) (s ∷ ss)
  unfolding rules_of
  derived-step s ss b waiting p f d =
      let e : Derived (f.news ++ waiting) ss = subst (λ (bs : List Branch). Derived bs ss) f.after d in
      go (map (sequent_of ex goals) (f.news ++ waiting)) (sequents-append f.news waiting) e.0 e.1
    where
      sequents-append : (xs ys : List Branch)
          → map (sequent_of ex goals) (xs ++ ys) ≡ map (sequent_of ex goals) xs ++ map (sequent_of ex goals) ys
      sequents-append [] ys = refl
      sequents-append (x ∷ xs) ys = ap (sequent_of ex goals x ∷◌) (sequents-append xs ys)

      joins : (ds : Derivations neg ex (map (sequent_of ex goals) f.news ++ map (sequent_of ex goals) waiting)) → rules_in ds ≡ map rule_of ss
          → Derived (b ∷ waiting) (s ∷ ss)
      joins ds q =
          let r = apart (map (sequent_of ex goals) f.news) (map (sequent_of ex goals) waiting) ds in
          (more (by (rule_of s) f.fires r.0) r.1, ap (rule_of s ∷◌) (r.2 ∙ q))

      go : (zs : List (Sequent ℕ)) → zs ≡ map (sequent_of ex goals) f.news ++ map (sequent_of ex goals) waiting
          → (ds : Derivations neg ex zs) → rules_in ds ≡ map rule_of ss → Derived (b ∷ waiting) (s ∷ ss)
      go zs e =
          subst (λ (ys : List (Sequent ℕ)). (ds : Derivations neg ex ys) → rules_in ds ≡ map rule_of ss → Derived (b ∷ waiting) (s ∷ ss)) (sym e) joins

  -- steps that complete a derivation under way derive all its open branches
  run_derives : (ss : List Step) (i : ℕ) (p : Progress) → All (Within ex goals) (open_of p) → run One ex goals nodes i ss p ≡ fine
      → Derived (open_of p) ss
  unfolding run ended advance rules_of
  run_derives [] i (running b waiting) a e = refused_no e
  run_derives [] i complete a e = (none, refl)
  run_derives (s ∷ ss) i complete a e = refused_no e
  run_derives (s ∷ ss) i (running b waiting) a e =
      let x = run_step One ex goals nodes i s ss b waiting e in
      let f = step-fires ex goals nodes b waiting a.0 s x.0 x.1 in
      let w : All (Within ex goals) (open_of x.0) =
      subst (λ (bs : List Branch). All (Within ex goals) bs) (sym f.after) (all_append (Within ex goals) f.news waiting f.within a.1) in
      derived-step s ss b waiting x.0 f (run_derives ss (suc i) x.0 w x.2)

  -- the start is a state that is reached
  pub root_within : Within ex goals root
  unfolding mem
  root_within = (tt, tt, λ l q. refl)

  -- steps of version one that complete a derivation are one
  pub run_derivation : (ss : List Step) (i : ℕ) → run One ex goals nodes i ss (running root []) ≡ fine → Published One ex goals ss
  unfolding rules_of clauses
  run_derivation ss i e =
      let r : Derived (root ∷ []) ss = run_derives ss i (running root []) (root_within, tt) e in
      start r.0 r.1
    where
      single : (ds : Derivations neg ex (([] ⊢ map (◌∷ []) goals) ∷ [])) → rules_in ds ≡ map rule_of ss
          → (d : Derivation neg ex ([] ⊢ map (◌∷ []) goals)) × (rules_of d ≡ map rule_of ss)
      single (more d none) q = (d, sym (append-nil (rules_of d)) ∙ q)

      start : (ds : Derivations neg ex (sequent_of ex goals root ∷ [])) → rules_in ds ≡ map rule_of ss
          → (d : Derivation neg ex ([] ⊢ map (◌∷ []) goals)) × (rules_of d ≡ map rule_of ss)
      start =
          subst (λ (Δ : List (List ℕ)). (ds : Derivations neg ex (([] ⊢ Δ) ∷ [])) → rules_in ds ≡ map rule_of ss
          → (d : Derivation neg ex ([] ⊢ map (◌∷ []) goals)) × (rules_of d ≡ map rule_of ss))
          (sym (standing-root 0 (map (◌∷ []) goals))) single
