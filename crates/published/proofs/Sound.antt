-- The published calculus as stated here is sound: truths that agree with negation and expansion make no derived sequent true. Assumes nothing.
use mathlib.Core.Logic.{◌⊎◌, inl, inr, ◌↔◌}
use mathlib.Core.List.{List, ◌++◌}
use Rattle.calculus.specs.Model.{All}
use Rattle.calculus.proofs.Lists.{all_append}
use Rattle.rules.proofs.Laws.{Any}
use Rattle.published.specs.Published.{With, here, there, Sequent, Rule, Instance, unit-rule, red-rule, elim-rule, conflict-rule}
use Rattle.published.specs.Published.{split-rule, Derivation, by, Derivations, none, more}

-- ---- lists with one more element

module _ {A : Type 0} (P : A → Type 0) where
  one_of : {x : A} {xs ys : List A} → With x xs ys → All P ys → P x
  one_of here a = a.0
  one_of (there w) a = one_of w a.1

  others_of : {x : A} {xs ys : List A} → With x xs ys → All P ys → All P xs
  others_of here a = a.1
  others_of (there w) a = (a.0, others_of w a.1)

  put_in : {x : A} {xs ys : List A} → With x xs ys → P x → All P xs → All P ys
  put_in here p a = (p, a)
  put_in (there w) p a = (a.0, put_in w p a.1)

  -- some element is the one or another
  which : {x : A} {xs ys : List A} → With x xs ys → Any P ys → P x ⊎ Any P xs
  which here a = a
  which (there w) (inl a) = inr (inl a)
  which (there w) (inr a) = later (which w a)
    where
      later : {p q r : Type 0} → p ⊎ q → p ⊎ (r ⊎ q)
      later (inl a) = inl a
      later (inr a) = inr (inr a)

-- the comma is that of sets: what is in 'xs, x' is x or in xs
pub comma : {A : Type 0} (P : A → Type 0) {x : A} {xs ys : List A} → With x xs ys → Any P ys ↔ (P x ⊎ Any P xs)
comma {A = A} P w = (which P w, back w)
  where
    back : {x : A} {xs ys : List A} → With x xs ys → P x ⊎ Any P xs → Any P ys
    back here a = a
    back (there w) (inl a) = inr (back w (inl a))
    back (there w) (inr (inl a)) = inl a
    back (there w) (inr (inr a)) = inr (back w (inr a))

-- ---- truths

-- not all of Γ and Δ is true
abbrev pub Untrue : {L : Type 0} → (L → Type 0) → Sequent L → Type 0
Untrue True s = All True s.Γ → All (Any True) s.Δ → ⊥

module _ {L : Type 0} (bar : L → L) (expand : L → List (List L)) (True : L → Type 0)
    (apart : (l : L) → True l → True (bar l) → ⊥) (either : (l : L) → True l ⊎ True (bar l))
    (opens : (l : L) → True l → All (Any True) (expand l)) where
  -- a true literal's expansion is true beside a true Δ
  joins : (l : L) (Δ : List (List L)) → True l → All (Any True) Δ → All (Any True) (Δ ++ expand l)
  joins l Δ t d = all_append (Any True) Δ (expand l) d (opens l t)

  rule_sound : {r : Rule} {s : Sequent L} {ps : List (Sequent L)} → Instance bar expand r s ps → All (Untrue True) ps → Untrue True s
  rule_sound (unit-rule {Δ = Δ} {l = l} w) u g d =
      let t : True l = single (one_of (Any True) w d) in
      u.0 (t, g) (joins l Δ t (others_of (Any True) w d))
    where
      single : True l ⊎ ⊥ → True l
      single (inl t) = t
      single (inr e) = absurd e
  rule_sound (red-rule {C = C} {l = l} v c w x) u g d =
      u.0 g (put_in (Any True) w (lives (which True c (one_of (Any True) x d))) (others_of (Any True) x d))
    where
      lives : True (bar l) ⊎ Any True C → Any True C
      lives (inl t) = absurd (apart l (one_of True v g) t)
      lives (inr a) = a
  rule_sound (elim-rule v c x) u g d = u.0 g (others_of (Any True) x d)
  rule_sound (conflict-rule w) u g d = one_of (Any True) w d
  rule_sound (split-rule {Δ = Δ} {l = l}) u g d = go (either l)
    where
      go : True l ⊎ True (bar l) → ⊥
      go (inl t) = u.0 (t, g) (joins l Δ t d)
      go (inr t) = u.1.0 (t, g) (joins (bar l) Δ t d)

  mutual
    pub derivation-sound : {s : Sequent L} → Derivation bar expand s → Untrue True s
    derivation-sound (by r i ds) = rule_sound i (derivations-sound ds)

    pub derivations-sound : {ss : List (Sequent L)} → Derivations bar expand ss → All (Untrue True) ss
    derivations-sound none = tt
    derivations-sound (more d ds) = (derivation-sound d, derivations-sound ds)
