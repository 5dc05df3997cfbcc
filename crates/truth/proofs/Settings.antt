-- 'later bytes are neither read nor written': settings with the same first 1,024 bytes give the same answer. Assumes nothing.
use mathlib.Core.Path.{◌≡◌, ◌∙◌, ap, sym, refl}
use mathlib.Core.List.{List, [], ◌∷◌, ◌++◌}
use Prim.Native.Nat.{ℕ, zero, suc, ◌+◌, ◌<◌, ◌≤◌}
use native.Mathlib.Omega.{arith}
use lib.Dec.{eqb, leb, ltb}
use lib.ListN.{length, get_or, take, length-take}
use lib.Seq.{length-take-le, get_or-take}
use borrow.Author.Tests.{eqb-true, le-leb, leb-true}
use Rattle.scope.specs.declared.Node.{Node}
use Rattle.scope.specs.Outcome.{Outcome, answer, refused, require, first}
use Rattle.scope.specs.Table.{decode}
use Rattle.scope.specs.Truth.{Logic, node_truth, truths_from, truth_in}
use Rattle.scope.specs.Kleene.{kleene}
use Rattle.scope.specs.Calls.{settings_test, evaluate}
use Rattle.scope.proofs.Tests.{by_test}
use Rattle.codec.specs.Valid.{Bytes}
use Rattle.truth.proofs.Low.{readable_low}
use Rattle.truth.proofs.Says.{Points}

-- tests that agree give the same first refusal
first_same : (f g : ℕ → Outcome (Unit {0})) (n i : ℕ) → ((k : ℕ) → k < i + n → f k ≡ g k) → first f i n ≡ first g i n
unfolding first
first_same f g zero i h = refl
first_same f g (suc n) i h = rw (h i (omega arith), first_same f g n (suc i) (λ k l. h k (omega arith)))

module _ (s s' : List ℕ) (same : take 1024 s ≡ take 1024 s') where
  point : (p : ℕ) → p < 1024 → get_or s p 0 ≡ get_or s' p 0
  point p h = sym (get_or-take 1024 s p 0 h) ∙ ap (λ (l : List ℕ). get_or l p 0) same ∙ get_or-take 1024 s' p 0 h

  -- a node's truth, where an ATOM's point is below 1,024
  node_same : {A : Type 0} (L : Logic A) (v : List A) (x : Node) → (x.kind ≡ 2 → x.a < 1024) → node_truth L s v x ≡ node_truth L s' v x
  unfolding node_truth
  node_same L v x h =
      by_test (eqb x.kind 2)
      (λ e. rw (point x.a (h (eqb-true x.kind 2 e))))
      (λ e. rw e)

  truths_same : {A : Type 0} (L : Logic A) (rs : List Node) (v : List A) → Points rs → truths_from L s v rs ≡ truths_from L s' v rs
  unfolding truths_from
  truths_same L [] v h = refl
  truths_same L (x ∷ rs) v h =
      rw (node_same L v x (h 0 (omega arith))) (truths_same L rs (v ++ node_truth L s' v x ∷ []) (λ n l. h (suc n) (omega arith)))

-- a list of at least 1,024 bytes, by its first 1,024
long : (s s' : List ℕ) → take 1024 s ≡ take 1024 s' → 1024 ≤ length s → 1024 ≤ length s'
long s s' same h = omega (arith, length-take-le 1024 s h, ap length same, length-take 1024 s')

module _ (s s' : List ℕ) (same : take 1024 s ≡ take 1024 s') where
  lengths_same : leb 1024 (length s) ≡ leb 1024 (length s')
  lengths_same =
      by_test (leb 1024 (length s))
      (λ e. e ∙ sym (le-leb 1024 (length s') (long s s' same (leb-true 1024 (length s) e))))
      (λ e.
      by_test (leb 1024 (length s'))
      (λ f. le-leb 1024 (length s) (long s' s (sym same) (leb-true 1024 (length s') f)) ∙ sym f)
      (λ f. e ∙ sym f))

  tests_same : settings_test s ≡ settings_test s'
  unfolding settings_test
  tests_same =
      let rows = first_same (λ p. require (ltb (get_or s p 0) 3) 22 p) (λ p. require (ltb (get_or s' p 0) 3) 22 p) 1024 0
      (λ p h. ap (λ (b : ℕ). require (ltb b 3) 22 p) (point s s' same p (omega arith))) in
      rw (lengths_same, rows)

pub later_settings : (t : List ℕ) (l : ℕ) (s s' : List ℕ) → Bytes t → take 1024 s ≡ take 1024 s' → evaluate t l s ≡ evaluate t l s'
unfolding evaluate truth_in
later_settings t l s s' all same = go (decode t) refl
  where
    go : (d : Outcome (List Node)) → decode t ≡ d → evaluate t l s ≡ evaluate t l s'
    go (refused number place) e = rw e
    go (answer rs) e =
        let truths = truths_same s s' same kleene rs [] (λ n h. (readable_low t rs n all e h).point) in
        rw (e, tests_same s s' same, truths)
