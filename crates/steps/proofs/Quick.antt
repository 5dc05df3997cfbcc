-- The quick test of a step's form, and that steps which pass it are not refused. Assumes nothing.
use mathlib.Core.Path.{◌≡◌, refl, sym, ap, ◌∙◌}
use mathlib.Core.List.{List}
use mathlib.Core.Logic.{◌⊎◌, inl, inr}
use mathlib.Core.Bool.{Bool, true, false, ◌&&◌, ◌||◌}
use Prim.Native.Nat.{ℕ, ◌+◌, ◌-◌, ◌*◌, ◌<◌, ◌≤◌, min}
use lib.Dec.{eqb, lit<, lit≤}
use native.Mathlib.Omega.{arith}
use native.Mathlib.Decide.{dec_lt}
use borrow.Author.Tests.{eqb-true, eq-eqb, le-leb}
use Rattle.scope.specs.Outcome.{fine, first}
use Rattle.scope.proofs.First.{all_fine}
use Rattle.scope.proofs.Tests.{and_left, and_right}
use Rattle.rules.specs.declared.Step.{Step}
use Rattle.rules.specs.declared.Version.{Version}
use Rattle.rules.specs.declared.Version.TheVariants.{One, Two}
use Rattle.rules.specs.Steps.{version_of, step_at, step_ok, rule_in}
use Rattle.steps.specs.Opened.{form_number, step_row}
use Rattle.steps.proofs.Rows.{ok_removal, ok_plain, number_0, step-fine}

or_split : (a b : Bool) → (a || b) ≡ true → (a ≡ true) ⊎ (b ≡ true)
or_split true b e = inl refl
or_split false b e = inr e

-- rule and position as one number
abbrev pub head : Step → ℕ
head s = s.rule + 256 * s.position

-- a number that is one of four
abbrev one_of : ℕ → ℕ → ℕ → ℕ → ℕ → Bool
one_of h a b c d = eqb h a || eqb h b || eqb h c || eqb h d

four : {P : Type 0} (h a b c d : ℕ) → (h ≡ a → P) → (h ≡ b → P) → (h ≡ c → P) → (h ≡ d → P) → one_of h a b c d ≡ true → P
four {P} h a b c d p q r s e = go (or_split (eqb h a || eqb h b || eqb h c) (eqb h d) e)
  where
    two : (eqb h a ≡ true) ⊎ (eqb h b ≡ true) → P
    two (inl x) = p (eqb-true h a x)
    two (inr x) = q (eqb-true h b x)

    three : ((eqb h a || eqb h b) ≡ true) ⊎ (eqb h c ≡ true) → P
    three (inl x) = two (or_split (eqb h a) (eqb h b) x)
    three (inr x) = r (eqb-true h c x)

    go : ((eqb h a || eqb h b || eqb h c) ≡ true) ⊎ (eqb h d ≡ true) → P
    go (inl x) = three (or_split (eqb h a || eqb h b) (eqb h c) x)
    go (inr x) = s (eqb-true h d x)

module _ (s : Step) (low : s.rule < 256) where
  -- the rules that both versions have, with position 0
  bare : (k : ℕ) → k < 256 → head s ≡ k → (s.rule ≡ k) × (eqb s.position 0 ≡ true)
  bare k h e = (omega (arith, low, h, e), eq-eqb s.position 0 (omega (arith, low, h, e)))

  both_zero : (v : Version) (k : ℕ) → k < 256 → ((u : Version) → rule_in u k ≡ true) → (s.rule ≡ k → eqb s.position 0 ≡ step_ok s)
      → head s ≡ k → form_number v s ≡ 0
  both_zero v k h i o e =
      let (r, z) = bare k h e in
      sym (number_0 v s (sym (o r) ∙ z) (ap (rule_in v) r ∙ i v))

  in_85 : (u : Version) → rule_in u 85 ≡ true
  unfolding rule_in
  in_85 One = refl
  in_85 Two = refl

  in_67 : (u : Version) → rule_in u 67 ≡ true
  unfolding rule_in
  in_67 One = refl
  in_67 Two = refl

  in_83 : (u : Version) → rule_in u 83 ≡ true
  unfolding rule_in
  in_83 One = refl
  in_83 Two = refl

  in_71 : (u : Version) → rule_in u 71 ≡ true
  unfolding rule_in
  in_71 One = refl
  in_71 Two = refl

  both_pass : (v : Version) → one_of (head s) 85 67 83 71 ≡ true → form_number v s ≡ 0
  both_pass v =
      four (head s) 85 67 83 71
      (both_zero v 85 (lit< tt) in_85 (λ q. ok_plain s (inr (inr (inr (inr q))))))
      (both_zero v 67 (lit< tt) in_67 (λ q. ok_plain s (inl q)))
      (both_zero v 83 (lit< tt) in_83 (λ q. ok_plain s (inr (inr (inr (inl q))))))
      (both_zero v 71 (lit< tt) in_71 (λ q. ok_plain s (inr (inr (inl q)))))

  -- those that only version one has
  one-zero : step_ok s ≡ true → form_number One s ≡ 0
  unfolding rule_in
  one-zero o = sym (number_0 One s o refl)

  removal : (p : ℕ) → p ≤ 2 → head s ≡ 82 + 256 * p → form_number One s ≡ 0
  removal p h e = one-zero (sym (ok_removal s (omega (arith, low, h, e))) ∙ le-leb s.position 2 (omega (arith, low, h, e)))

  older_pass : one_of (head s) 69 82 338 594 ≡ true → form_number One s ≡ 0
  older_pass =
      four (head s) 69 82 338 594
      (λ e. let (r, z) = bare 69 (lit< tt) e in one-zero (sym (ok_plain s (inr (inl r))) ∙ z))
      (removal 0 (lit≤ tt))
      (removal 1 (lit≤ tt))
      (removal 2 (lit≤ tt))

  -- the quick test
  pub quick_passes : (v : Version) (one : Bool) → (one ≡ true → v ≡ One) → (one_of (head s) 85 67 83 71 || (one_of (head s) 69 82 338 594 && one)) ≡ true
      → form_number v s ≡ 0
  quick_passes v one is e = go (or_split (one_of (head s) 85 67 83 71) (one_of (head s) 69 82 338 594 && one) e)
    where
      go : (one_of (head s) 85 67 83 71 ≡ true) ⊎ ((one_of (head s) 69 82 338 594 && one) ≡ true) → form_number v s ≡ 0
      go (inl p) = both_pass v p
      go (inr p) =
          let o : Bool = one_of (head s) 69 82 338 594 in
          rw (is (and_right o one p)) (older_pass (and_left o one p))

-- ---- steps one after another

-- so many steps from one on pass 44 and 65
abbrev pub Pass : List ℕ → Version → ℕ → ℕ → Type 0
Pass d v from count = (q : ℕ) → q < count → form_number v (step_at d (from + q)) ≡ 0

-- so do those of the blocks before j, as far as there are steps
abbrev pub Before : List ℕ → Version → ℕ → ℕ → Type 0
Before d v steps j = (k : ℕ) → k < 126 * j → k < steps → form_number v (step_at d k) ≡ 0

pub pass_none : (d : List ℕ) (v : Version) (from : ℕ) → Pass d v from 0
pass_none d v from q h = absurd (omega (arith, h))

pub pass_more : (d : List ℕ) (v : Version) (from i : ℕ) → Pass d v from i → form_number v (step_at d (from + i)) ≡ 0 → Pass d v from (i + 1)
pass_more d v from i p e q h = go (dec_lt q i)
  where
    go : Dec (q < i) → form_number v (step_at d (from + q)) ≡ 0
    go (yes a) = p q a
    go (no a) =
        let z : q ≡ i = omega (arith, a, h) in
        ap (λ (k : ℕ). form_number v (step_at d (from + k))) z ∙ e

pub before_none : (d : List ℕ) (v : Version) (steps : ℕ) → Before d v steps 0
before_none d v steps k h a = absurd (omega (arith, h))

pub before_more : (d : List ℕ) (v : Version) (steps j count : ℕ) → count ≡ min (steps - 126 * j) 126
    → Before d v steps j → Pass d v (126 * j) count → Before d v steps (j + 1)
before_more d v steps j count m p b k h a = go (dec_lt k (126 * j))
  where
    go : Dec (k < 126 * j) → form_number v (step_at d k) ≡ 0
    go (yes x) = p k x a
    go (no x) =
        let z : 126 * j + (k - 126 * j) ≡ k = omega (arith, x) in
        ap (λ (i : ℕ). form_number v (step_at d i)) (sym z) ∙ b (k - 126 * j) (omega (arith, m, x, h, a))

pub pass_fine : (d : List ℕ) (v : Version) (steps : ℕ) → v ≡ version_of d → ((k : ℕ) → k < steps → form_number v (step_at d k) ≡ 0)
    → fine ≡ first (step_row d) 0 steps
pass_fine d v steps e p =
    sym (all_fine (step_row d) steps 0
    (λ k a b. step-fine (version_of d) (step_at d k) k (sym (ap (λ (u : Version). form_number u (step_at d k)) (sym e) ∙ p k (omega (arith, b)))) refl))
