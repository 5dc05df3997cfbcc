-- The published rules: 'The DPLL procedure adapted to expandable literals' (source document 002, Fig. 3; Fig. 2 has the same five
-- where no literal expands), premises above the line and the conclusion below. Over any literals with a negation `bar` and an
-- expansion `expand`; no word of the checker or the solver. Assumes nothing.
use Rattle.std.specs.Prelude.{List, [], ◌∷◌, ◌++◌}

-- 'We use the comma to denote conjunction, ∨ for disjunction': one more element, at any place. `With x xs ys`: ys is 'xs, x', and of
-- a clause's literals 'x ∨ xs'
pub data With {A : Type 0} (x : A) : List A → List A → Type 0 where
  here : {xs : List A} → With x xs (x ∷ xs)
  there : {y : A} {xs ys : List A} → With x xs ys → With x (y ∷ xs) (y ∷ ys)

-- 'a sequent Γ ⊢ Δ where Γ is the set of literals that are assumed to be true, and Δ is the current formula, seen as a set of
-- clauses, i.e. a set of sets of literals'; here lists
pub record Sequent (L : Type 0) : Type 0 where
  pub Γ : List L
  pub Δ : List (List L)

infix 10 ◌⊢◌
abbrev pub ◌⊢◌ : {L : Type 0} → List L → List (List L) → Sequent L
Γ ⊢ Δ = record { Γ = Γ; Δ = Δ }

-- the five rules by name: UNIT is unit propagation, RED takes a false literal out of a clause, ELIM takes out a clause with a true
-- literal, CONFLICT closes a branch on an empty clause, SPLIT tries a literal and its negation
pub data Rule : Type 0 where
  UNIT : Rule
  RED : Rule
  ELIM : Rule
  CONFLICT : Rule
  SPLIT : Rule

-- `Instance r s ps`: the rule r of Fig. 3 has an instance with the conclusion s and the premises ps. A literal that joins comes first
-- in Γ, its expansion last in Δ; what a rule takes away may stand anywhere
pub data Instance {L : Type 0} (bar : L → L) (expand : L → List (List L)) : Rule → Sequent L → List (Sequent L) → Type 0 where
  --    Γ, l ⊢ Δ, expand(l)
  --    -------------------  UNIT
  --         Γ ⊢ Δ, l
  unit-rule : {Γ : List L} {Δ Δl : List (List L)} {l : L} → With (l ∷ []) Δ Δl
      → Instance bar expand UNIT (Γ ⊢ Δl) ((l ∷ Γ ⊢ Δ ++ expand l) ∷ [])
  --       Γ, l ⊢ Δ, C
  --    ------------------  RED
  --    Γ, l ⊢ Δ, bar l ∨ C
  red-rule : {Γ Γl C D : List L} {Δ ΔC ΔD : List (List L)} {l : L} → With l Γ Γl → With (bar l) C D → With C Δ ΔC → With D Δ ΔD
      → Instance bar expand RED (Γl ⊢ ΔD) ((Γl ⊢ ΔC) ∷ [])
  --        Γ, l ⊢ Δ
  --    ----------------  ELIM
  --    Γ, l ⊢ Δ, l ∨ C
  elim-rule : {Γ Γl C D : List L} {Δ ΔD : List (List L)} {l : L} → With l Γ Γl → With l C D → With D Δ ΔD
      → Instance bar expand ELIM (Γl ⊢ ΔD) ((Γl ⊢ Δ) ∷ [])
  --    --------  CONFLICT
  --    Γ ⊢ Δ, ∅
  conflict-rule : {Γ : List L} {Δ ΔE : List (List L)} → With [] Δ ΔE
      → Instance bar expand CONFLICT (Γ ⊢ ΔE) []
  --    Γ, l ⊢ Δ, expand(l)   Γ, bar l ⊢ Δ, expand(bar l)
  --    ------------------------------------------------  SPLIT
  --                       Γ ⊢ Δ
  split-rule : {Γ : List L} {Δ : List (List L)} {l : L}
      → Instance bar expand SPLIT (Γ ⊢ Δ) ((l ∷ Γ ⊢ Δ ++ expand l) ∷ (bar l ∷ Γ ⊢ Δ ++ expand (bar l)) ∷ [])

-- 'a derivation': a tree, each node an instance of a rule, with a derivation of each of its premises, the left one first
mutual
  pub data Derivation {L : Type 0} (bar : L → L) (expand : L → List (List L)) : Sequent L → Type 0 where
    by : {s : Sequent L} {ps : List (Sequent L)} (r : Rule) → Instance bar expand r s ps → Derivations bar expand ps → Derivation bar expand s

  pub data Derivations {L : Type 0} (bar : L → L) (expand : L → List (List L)) : List (Sequent L) → Type 0 where
    none : Derivations bar expand []
    more : {s : Sequent L} {ss : List (Sequent L)} → Derivation bar expand s → Derivations bar expand ss → Derivations bar expand (s ∷ ss)

-- the rules of a tree from the root up, the left branch of a SPLIT before the right
module _ {L : Type 0} {bar : L → L} {expand : L → List (List L)} where
  unfoldable mutual
    pub rules_of : {s : Sequent L} → Derivation bar expand s → List Rule
    rules_of (by r i ds) = r ∷ rules_in ds

    pub rules_in : {ss : List (Sequent L)} → Derivations bar expand ss → List Rule
    rules_in none = []
    rules_in (more d ds) = rules_of d ++ rules_in ds

-- 'ELIM and RED each perform one kind of boolean constraint propagation by simplifying the current set of clauses': a chain of the two
pub data Propagates {L : Type 0} (bar : L → L) (expand : L → List (List L)) : Sequent L → Sequent L → Type 0 where
  stop : {s : Sequent L} → Propagates bar expand s s
  red : {s m t : Sequent L} → Instance bar expand RED s (m ∷ []) → Propagates bar expand m t → Propagates bar expand s t
  eliminate : {s m t : Sequent L} → Instance bar expand ELIM s (m ∷ []) → Propagates bar expand m t → Propagates bar expand s t
