-- The values of literals: as a literal joins, as it leaves, and where none is held. Assumes nothing.
use mathlib.Core.Path.{◌≡◌, refl, ap, ◌∙◌}
use mathlib.Core.List.{List, [], ◌∷◌}
use Prim.Native.Nat.{ℕ, ◌+◌, ◌<◌, ◌≤◌}
use native.Mathlib.Omega.{arith}
use native.Mathlib.Decide.{ℕ_discrete}
use lib.ListN.{length, get_or, set, length-set}
use lib.Seq.{get_or-set_same, get_or-set_other}
use Rattle.calculus.specs.Expansion.{neg}
use Rattle.calculus.specs.Order.{mem, undecided, value_of}
use Rattle.calculus.proofs.Literals.{value_joined, value_negated, value_other, undecided_neg}
use Rattle.state.specs.Work.{tail, value_at, value_code, trail_at, values_at, values_size, cursors_at}
use Rattle.state.specs.Changes.{values_set}

-- a literal's value as a number
abbrev pub number : List ℕ → ℕ → ℕ
number G l = value_code (value_of G l)

-- nothing is held
pub number_nil : (l : ℕ) → number [] l ≡ 0
unfolding value_of mem
number_nil l = refl

-- ---- l joins G

module _ (G : List ℕ) (l : ℕ) (f : value_of G l ≡ undecided) where
  pub number-joined : number (l ∷ G) l ≡ 1
  number-joined = ap value_code (value_joined G l)

  pub number_negated : number (l ∷ G) (neg l) ≡ 2
  number_negated = ap value_code (value_negated G l f)

  pub number_before : number G l ≡ 0
  number_before = ap value_code f

  pub number_before_neg : number G (neg l) ≡ 0
  number_before_neg = ap value_code (undecided_neg G l f)

  -- other literals keep their values
  pub number_other : (k : ℕ) → (k ≡ l → ⊥) → (k ≡ neg l → ⊥) → number (l ∷ G) k ≡ number G k
  number_other k a c = ap value_code (value_other G l k (λ e. c (omega (arith, e, a))))

-- ---- the stores of two values

module _ (w : List ℕ) (l v u : ℕ) (b : l < values_size) (size : trail_at + cursors_at ≤ length w) where
  pub set_other : (i : ℕ) → (i ≡ trail_at + (values_at + l) → ⊥) → (i ≡ trail_at + (values_at + neg l) → ⊥) → get_or (values_set w l v u) i 0 ≡ get_or w i 0
  set_other i a c = get_or-set_other (set w (trail_at + (values_at + l)) v) (trail_at + (values_at + neg l)) i u 0 c ∙ get_or-set_other w (trail_at + (values_at + l)) i v 0 a

  set_first : value_at (tail (values_set w l v u)) l ≡ v
  set_first =
      get_or-set_other (set w (trail_at + (values_at + l)) v) (trail_at + (values_at + neg l)) (trail_at + (values_at + l)) u 0 (λ e. omega (arith, e))
      ∙ get_or-set_same w (trail_at + (values_at + l)) v 0 (omega (arith, size, b))

  set_second : value_at (tail (values_set w l v u)) (neg l) ≡ u
  set_second = get_or-set_same (set w (trail_at + (values_at + l)) v) (trail_at + (values_at + neg l)) u 0 (simp length-set (omega (arith, size, b)))

  -- so they are as F says, where they were but for these two
  pub set_as : (F : ℕ → ℕ) → v ≡ F l → u ≡ F (neg l) → ((k : ℕ) → k < values_size → (k ≡ l → ⊥) → (k ≡ neg l → ⊥) → value_at (tail w) k ≡ F k)
      → (k : ℕ) → k < values_size → value_at (tail (values_set w l v u)) k ≡ F k
  set_as F a c f k i = go (ℕ_discrete k l) (ℕ_discrete k (neg l))
    where
      go : Dec (k ≡ l) → Dec (k ≡ neg l) → value_at (tail (values_set w l v u)) k ≡ F k
      go (yes e) d = rw e (set_first ∙ a)
      go (no e) (yes d) = rw d (set_second ∙ c)
      go (no e) (no d) = set_other (trail_at + (values_at + k)) (λ x. e (omega (arith, x))) (λ x. d (omega (arith, x))) ∙ f k i e d

  pub set-length : length (values_set w l v u) ≡ length w
  set-length = simp length-set
