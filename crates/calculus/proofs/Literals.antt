-- Laws of literals and of their values under G. Assumes nothing.
use mathlib.Core.Path.{◌≡◌, refl, sym, ap, ◌∙◌, subst}
use mathlib.Core.Logic.{◌⊎◌, inl, inr}
use mathlib.Core.List.{List, [], ◌∷◌}
use mathlib.Core.Bool.{Bool, true, false, cond, ◌||◌, or-true, true≢false, false≢true}
use Prim.Native.Nat.{ℕ, ◌*◌, ◌/◌, ◌<◌}
use native.Mathlib.Omega.{arith}
use lib.Dec.{eqb}
use borrow.Author.Tests.{eqb-true, eq-eqb, ne_eqb}
use Rattle.calculus.specs.Expansion.{neg}
use Rattle.calculus.specs.Order.{mem, Value, holds, fails, undecided, value_of}
use Rattle.calculus.specs.Model.{All, Below, Fresh, Good}

pub neg-neg : (l : ℕ) → neg (neg l) ≡ l
neg-neg l = omega arith

pub neg-node : (l : ℕ) → neg l / 2 ≡ l / 2
neg-node l = omega arith

pub neg_below : (n l : ℕ) → l < 2 * n → neg l < 2 * n
neg_below n l h = omega arith

pub is_false : (b : Bool) → (b ≡ true → ⊥) → b ≡ false
is_false true h = absurd (h refl)
is_false false h = refl

-- ---- membership

pub mem_same : (G : List ℕ) (l m : ℕ) → m ≡ l → mem m (l ∷ G) ≡ true
unfolding mem
mem_same G l m e = ap (◌|| mem m G) (eq-eqb m l e)

pub mem_other : (G : List ℕ) (l m : ℕ) → (m ≡ l → ⊥) → mem m (l ∷ G) ≡ mem m G
unfolding mem
mem_other G l m h = ap (◌|| mem m G) (ne_eqb m l h)

pub mem-cases : (G : List ℕ) (l m : ℕ) → mem m (l ∷ G) ≡ true → (m ≡ l) ⊎ (mem m G ≡ true)
unfolding mem
mem-cases G l m e = go (eqb m l) refl e
  where
    go : (b : Bool) → eqb m l ≡ b → (b || mem m G) ≡ true → (m ≡ l) ⊎ (mem m G ≡ true)
    go true q e = inl (eqb-true m l q)
    go false q e = inr e

pub mem-later : (G : List ℕ) (l m : ℕ) → mem m G ≡ true → mem m (l ∷ G) ≡ true
unfolding mem
mem-later G l m e = rw e (or-true (eqb m l))

module _ (P : ℕ → Type 0) where
  -- what holds of all elements holds of each member
  pub all_member : (G : List ℕ) (l : ℕ) → All P G → mem l G ≡ true → P l
  unfolding mem
  all_member [] l a e = absurd (false≢true e)
  all_member (x ∷ G) l a e = go (mem-cases G x l e) (all_member G l a.1)
    where
      go : (l ≡ x) ⊎ (mem l G ≡ true) → (mem l G ≡ true → P l) → P l
      go (inl q) r = subst P (sym q) a.0
      go (inr q) r = r q

  -- and the other way
  pub member_all : (G : List ℕ) → ((l : ℕ) → mem l G ≡ true → P l) → All P G
  member_all [] f = tt
  member_all (x ∷ G) f = (f x (mem_same G x x refl), member_all G (λ l e. f l (mem-later G x l e)))

-- ---- values

-- what a value says of membership: that of the literal, and that of its negation
abbrev Says : Value → Bool → Bool → Type 0
Says holds a b = a ≡ true
Says fails a b = (a ≡ false) × (b ≡ true)
Says undecided a b = (a ≡ false) × (b ≡ false)

says : (a b : Bool) → Says (cond a holds (cond b fails undecided)) a b
says true b = refl
says false true = (refl, refl)
says false false = (refl, refl)

module _ (G : List ℕ) (l : ℕ) where
  value_says : (w : Value) → value_of G l ≡ w → Says w (mem l G) (mem (neg l) G)
  unfolding value_of
  value_says w e = subst (λ (x : Value). Says x (mem l G) (mem (neg l) G)) e (says (mem l G) (mem (neg l) G))

  -- membership by value
  pub holds-mem : value_of G l ≡ holds → mem l G ≡ true
  holds-mem e = value_says holds e

  pub fails_mem : value_of G l ≡ fails → (mem l G ≡ false) × (mem (neg l) G ≡ true)
  fails_mem e = value_says fails e

  pub undecided_mem : value_of G l ≡ undecided → (mem l G ≡ false) × (mem (neg l) G ≡ false)
  undecided_mem e = value_says undecided e

  -- a negation's value
  pub fails_neg : value_of G l ≡ fails → value_of G (neg l) ≡ holds
  unfolding value_of
  fails_neg e = rw (fails_mem e).1

  pub undecided_neg : value_of G l ≡ undecided → value_of G (neg l) ≡ undecided
  unfolding value_of
  undecided_neg e = rw ((undecided_mem e).1, neg-neg l, (undecided_mem e).0)

  -- values after l joined
  pub value_joined : value_of (l ∷ G) l ≡ holds
  unfolding value_of
  value_joined = rw (mem_same G l l refl)

  pub value_negated : value_of G l ≡ undecided → value_of (l ∷ G) (neg l) ≡ fails
  unfolding value_of
  value_negated e =
      let o : mem (neg l) (l ∷ G) ≡ false = mem_other G l (neg l) (λ q. omega arith) ∙ (undecided_mem e).1 in
      rw (o, mem_same G l (neg (neg l)) (neg-neg l))

  pub value_other : (m : ℕ) → (m / 2 ≡ l / 2 → ⊥) → value_of (l ∷ G) m ≡ value_of G m
  unfolding value_of
  value_other m h = rw (mem_other G l m (λ e. h (omega arith)), mem_other G l (neg m) (λ e. h (omega arith)))

-- ---- good lists

pub good_below : (n : ℕ) (G : List ℕ) → Good n G → Below n G
good_below n [] g = tt
good_below n (l ∷ G) g = (g.0.0, good_below n G g.1)

pub neg-fresh : (n : ℕ) (G : List ℕ) (l : ℕ) → Fresh n G l → Fresh n G (neg l)
neg-fresh n G l f = (neg_below n l f.0, undecided_neg G l f.1)

-- a good list does not hold a literal and its negation
pub consistent : (n : ℕ) (G : List ℕ) (l : ℕ) → Good n G → mem l G ≡ true → mem (neg l) G ≡ true → ⊥
unfolding mem
consistent n [] l g p q = false≢true p
consistent n (x ∷ G) l g p q = go (mem-cases G x l p) (mem-cases G x (neg l) q) (consistent n G l g.1)
  where
    go : (l ≡ x) ⊎ (mem l G ≡ true) → (neg l ≡ x) ⊎ (mem (neg l) G ≡ true) → (mem l G ≡ true → mem (neg l) G ≡ true → ⊥) → ⊥
    go (inl p) (inl q) r = omega arith
    go (inl p) (inr q) r = true≢false (sym q ∙ ap (λ (k : ℕ). mem (neg k) G) p ∙ (undecided_mem G x g.0.1).1)
    go (inr p) (inl q) r =
        let back : l ≡ neg x = sym (neg-neg l) ∙ ap neg q in
        true≢false (sym p ∙ ap (λ (k : ℕ). mem k G) back ∙ (undecided_mem G x g.0.1).1)
    go (inr p) (inr q) r = r p q

pub holds-neg : (n : ℕ) (G : List ℕ) (l : ℕ) → Good n G → value_of G l ≡ holds → value_of G (neg l) ≡ fails
unfolding value_of
holds-neg n G l g e =
    let m : mem l G ≡ true = holds-mem G l e in
    let o : mem (neg l) G ≡ false = is_false (mem (neg l) G) (consistent n G l g m) in
    rw (o, neg-neg l, m)
