-- The goals that the walk keeps are impossible together, and without any single one of them they are possible. Assumes nothing.
use mathlib.Core.Path.{◌≡◌, refl, sym, ap, ◌∙◌}
use mathlib.Core.List.{List, [], ◌∷◌, ◌++◌}
use mathlib.Core.Bool.{Bool, true, false, false≢true}
use Prim.Native.Nat.{ℕ, ◌<◌}
use native.Mathlib.Omega.{arith}
use lib.ListN.{length, get_or}
use Rattle.calculus.specs.Order.{Answer}
use Rattle.calculus.specs.Model.{All}
use Rattle.calculus.proofs.Lists.{all_map, map_all}
use Rattle.rules.specs.Derive.{is_impossible}
use Rattle.questions.specs.Indices.{picked, up_to}
use Rattle.questions.specs.Asking.{Decides}
use Rattle.questions.proofs.Indices.{picked-whole}
use Rattle.questions.proofs.Answers.{picked_fit, is-possible, not-impossible}
use Rattle.clashing.specs.Clash.{clashes, walk}
use Rattle.clashing.specs.Walks.{refuted, Among}
use Rattle.clashing.proofs.Walks.{among-less, Needed, walk-needed}

-- ---- the test, by the literals picked

module _ (ask : List ℕ → Answer) where
  pub refuted-some : (ls : List ℕ) → 0 < length ls → refuted ask ls ≡ is_impossible (ask ls)
  refuted-some [] h = absurd (omega arith)
  refuted-some (l ∷ ls) h = refl

module _ (ask : List ℕ → Answer) (goals : List ℕ) where
  pub clashes-refuted : (is : List ℕ) → clashes ask goals is ≡ refuted ask (picked goals is)
  clashes-refuted [] = refl
  clashes-refuted (i ∷ is) = refl

  -- answers that agree on goals give the same test
  pub clashes_same : (other : List ℕ → Answer) (is : List ℕ) → ask (picked goals is) ≡ other (picked goals is) → clashes ask goals is ≡ clashes other goals is
  clashes_same other [] same = refl
  clashes_same other (i ∷ is) same = ap is_impossible same

  -- the walk begins at all goals
  pub clashes-whole : 0 < length goals → is_impossible (ask goals) ≡ true → clashes ask goals (up_to (length goals) []) ≡ true
  clashes-whole h e = clashes-refuted (up_to (length goals) []) ∙ ap (refuted ask) (picked-whole goals) ∙ refuted-some ask goals h ∙ e

-- ---- over answers that decide

module _ (Truths : Type 0) (holds : Truths → ℕ → Bool) (By : List ℕ → Truths → Type 0) (Fit : ℕ → Type 0) (ask : List ℕ → Answer)
    (D : Decides Truths holds By Fit ask) (goals : List ℕ) (fit : All Fit goals) where
  abbrev fits : (is : List ℕ) → All Fit (picked goals is)
  fits is = picked_fit Truths holds By Fit ask D goals fit is

  -- goals without a clash are made true together; the empty list is, by any truths
  pub no-clash : (is : List ℕ) → clashes ask goals is ≡ false → (v : Truths) × All (λ l. holds v l ≡ true) (picked goals is)
  no-clash [] e = (D.any, tt)
  no-clash (i ∷ is) e = not-impossible Truths holds By Fit ask D (picked goals (i ∷ is)) (fits (i ∷ is)) e

  -- and those with one by none
  pub a_clash : (is : List ℕ) → clashes ask goals is ≡ true → (v : Truths) → All (λ l. holds v l ≡ true) (picked goals is) → ⊥
  a_clash [] e v t = false≢true e
  a_clash (i ∷ is) e v t = false≢true (sym (ap is_impossible (is-possible Truths holds By Fit ask D (picked goals (i ∷ is)) (fits (i ∷ is)) v t).1) ∙ e)

  -- fewer of goals without a clash have none
  fewer : (few all : List ℕ) → Among few all → clashes ask goals all ≡ false → clashes ask goals few ≡ false
  fewer few all h e = go (clashes ask goals few) refl
    where
      go : (b : Bool) → clashes ask goals few ≡ b → b ≡ false
      go false q = refl
      go true q =
          let s = no-clash all e in
          absurd (a_clash few q s.0
          (all_map (λ l. holds s.0 l ≡ true) (λ k. get_or goals k 0) few
          (h (λ k. holds s.0 (get_or goals k 0)) (map_all (λ l. holds s.0 l ≡ true) (λ k. get_or goals k 0) all s.1))))

  -- and more of goals with a clash have one
  pub clashes-grow : (few all : List ℕ) → Among few all → clashes ask goals few ≡ true → clashes ask goals all ≡ true
  clashes-grow few all h e = go (clashes ask goals all) refl
    where
      go : (b : Bool) → clashes ask goals all ≡ b → b ≡ true
      go true q = refl
      go false q = absurd (false≢true (sym (fewer few all h q) ∙ e))

  pub kept_needed : (w : ℕ) → Needed (clashes ask goals) 0 (walk (clashes ask goals) w [])
  kept_needed w =
      walk-needed (clashes ask goals) (λ i is. fewer (up_to i is) (up_to i (i ∷ is)) (among-less i is)) w []
      (λ a b j e. absurd (never a b j e))
    where
      never : (a b : List ℕ) (j : ℕ) → [] ≡ a ++ j ∷ b → ⊥
      never [] b j e = let z : ◌≡◌ {A = ℕ} 0 1 = cc in omega arith
      never (x ∷ a) b j e = let z : ◌≡◌ {A = ℕ} 0 1 = cc in omega arith
