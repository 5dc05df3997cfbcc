-- Impossible: no truths that agree with the table make all goals true. Assumes nothing.
use mathlib.Core.Path.{◌≡◌, refl, sym, ap, ◌∙◌, subst}
use mathlib.Core.List.{List, [], ◌∷◌}
use mathlib.Core.Bool.{Bool, true, false, not, ◌||◌, false≢true}
use Prim.Native.Nat.{ℕ}
use borrow.Author.Tests.{not-true}
use lib.ListN.{get_or}
use Rattle.scope.specs.declared.Node.{Node}
use Rattle.scope.specs.Truth.{classical}
use Rattle.calculus.specs.Expansion.{neg, expand}
use Rattle.calculus.specs.Order.{mem, Value, holds, fails, undecided, value_of, State, met, empty, one, many, opened, joined, state_of, clauses, tree, Tree, Answer, possible, impossible, unfinished, or_else, answer_of}
use Rattle.calculus.specs.Model.{All, Table, lit_true, Model, AllTrue, Below, Good}
use Rattle.calculus.proofs.Lists.{all_append, all_at, all_each, all_imply, all_map}
use Rattle.calculus.proofs.Literals.{all_member, fails_mem}
use Rattle.calculus.proofs.Moves.{ClauseIs, conflict_clause, unit_clause}
use Rattle.calculus.proofs.Search.{Grown, closes, joins, ends, parts, grown-whole, possible_closed, closed_cut}
use Rattle.calculus.proofs.Truth.{clause_true, neg-true, expand-true}

module _ (v : ℕ → Bool) where
  -- what a state says of a clause that is true, where those of its literals that G makes false are
  abbrev pub StateSays : State → Type 0
  StateSays met = Unit {0}
  StateSays empty = ⊥
  StateSays (one l) = lit_true v l ≡ true
  StateSays (many l) = Unit {0}

  says-opened : (l : ℕ) (s : State) (b : Bool) → (lit_true v l || b) ≡ true → (b ≡ true → StateSays s) → StateSays (opened l s)
  says-opened l met b e f = tt
  says-opened l empty b e f = first (lit_true v l) b e f
    where
      first : (x b : Bool) → (x || b) ≡ true → (b ≡ true → ⊥) → x ≡ true
      first true b e f = refl
      first false b e f = absurd (f e)
  says-opened l (one m) b e f = tt
  says-opened l (many m) b e f = tt

  says-joined : (w : Value) (l : ℕ) (s : State) (b : Bool) → (w ≡ fails → lit_true v l ≡ false) → (lit_true v l || b) ≡ true
      → (b ≡ true → StateSays s) → StateSays (joined w l s)
  says-joined holds l s b q e f = tt
  says-joined fails l s b q e f = f (rw (q refl) at e)
  says-joined undecided l s b q e f = says-opened l s b e f

  -- where G makes it false, it is
  abbrev pub FailsFalse : List ℕ → ℕ → Type 0
  FailsFalse G l = value_of G l ≡ fails → lit_true v l ≡ false

  pub says-state : (G c : List ℕ) → All (FailsFalse G) c → clause_true v c ≡ true → StateSays (state_of G c)
  unfolding state_of
  says-state G [] h e = false≢true e
  says-state G (l ∷ c) h e = says-joined (value_of G l) l (state_of G c) (clause_true v c) h.0 e (says-state G c h.1)

  -- a literal whose negation is true is false
  pub fails_false : (G : List ℕ) (l : ℕ) → (mem (neg l) G ≡ true → lit_true v (neg l) ≡ true) → FailsFalse G l
  fails_false G l h e = not-true (lit_true v l) (sym (neg-true v l) ∙ h (fails_mem G l e).1)

-- both branches of a closed split are closed
pub or_closed : (a b : Answer) → or_else a b ≡ impossible → (a ≡ impossible) × (b ≡ impossible)
or_closed (possible G) b e = absurd (possible_closed e)
or_closed impossible b e = (refl, e)
or_closed unfinished b e = absurd (closed_cut (sym e))

module _ (n : ℕ) (t : ℕ → Node) (goals : List ℕ) (T : Table n t) (v : ℕ → Bool) (M : Model classical n t v) (a : AllTrue v goals) where
  clauses_true : (G : List ℕ) → Good n G → AllTrue v G → All (λ c. clause_true v c ≡ true) (clauses (expand t) goals G)
  unfolding clauses
  clauses_true [] g h =
      all_map (λ c. clause_true v c ≡ true) (◌∷ []) goals
      (all_imply (λ l. lit_true v l ≡ true) (λ l. clause_true v (l ∷ []) ≡ true) (λ l e. rw e) goals a)
  clauses_true (l ∷ G) g h =
      all_append (λ c. clause_true v c ≡ true) (clauses (expand t) goals G) (expand t l) (clauses_true G g.1 h.1)
      (expand-true n t v T M l g.0.0 h.0)

  says-clause : (G : List ℕ) (k : ℕ) (s : State) → Good n G → AllTrue v G → ClauseIs (expand t) goals G k s → StateSays v s
  says-clause G k s g h q =
      subst (StateSays v) q.1
      (says-state v G (get_or (clauses (expand t) goals G) k [])
      (all_each (FailsFalse v G) (λ l. fails_false v G l (all_member (λ m. lit_true v m ≡ true) G (neg l) h)) (get_or (clauses (expand t) goals G) k []))
      (all_at (λ c. clause_true v c ≡ true) (clauses (expand t) goals G) k [] (clauses_true G g h) q.0))

  -- a tree from a list of true literals has an open branch
  pub grown_sound : {G : List ℕ} {tr : Tree} → Grown n t goals G tr → AllTrue v G → answer_of tr ≡ impossible → ⊥
  unfolding answer_of
  grown_sound {G} (closes {k = k} g m) h e = says-clause G k empty g h (conflict_clause (expand t) goals G k m)
  grown_sound {G} (joins {k = k} {l = l} g m f r) h e = grown_sound r (says-clause G k (one l) g h (unit_clause (expand t) goals G k l m), h) e
  grown_sound (ends g m) h e = possible_closed e
  grown_sound {G} (parts {l = l} {left = x} {right = y} g m f p q) h e =
      let b = or_closed (answer_of x) (answer_of y) e in
      go (lit_true v l) refl (λ s. grown_sound p (s, h) b.0) (λ s. grown_sound q (s, h) b.1)
    where
      go : (z : Bool) → lit_true v l ≡ z → (lit_true v l ≡ true → ⊥) → (lit_true v (neg l) ≡ true → ⊥) → ⊥
      go true s p q = p s
      go false s p q = q (neg-true v l ∙ ap not s)

-- the search says impossible: no truths make the goals true
pub sound : (n : ℕ) (t : ℕ → Node) (goals : List ℕ) → Table n t → Below n goals → answer_of (tree (expand t) goals n []) ≡ impossible
    → (v : ℕ → Bool) → Model classical n t v → AllTrue v goals → ⊥
sound n t goals T B e v M a = grown_sound n t goals T v M a (grown-whole n t goals T B) tt e
