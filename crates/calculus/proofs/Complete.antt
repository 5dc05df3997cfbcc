-- Possible: where truths by Kleene's tables agree with the table, and with the final list on the ATOMs that it holds, all of that list
-- and all goals are yes. Assumes nothing.
use mathlib.Core.Path.{◌≡◌, refl, sym, ap}
use mathlib.Core.Logic.{◌⊎◌, inl, inr}
use mathlib.Core.List.{List, [], ◌∷◌}
use mathlib.Core.Bool.{true, ◌||◌, or-true, or-false}
use Prim.Native.Nat.{ℕ, zero, suc, ◌*◌, ◌/◌, ◌<◌}
use native.Mathlib.Omega.{arith}
use native.Mathlib.Decide.{ℕ_discrete}
use Rattle.scope.specs.declared.Node.{Node}
use Rattle.scope.specs.declared.Truth.{Truth}
use Rattle.scope.specs.declared.Truth.TheVariants.{Yes}
use Rattle.scope.specs.Kleene.{kleene}
use Rattle.calculus.specs.Expansion.{expand}
use Rattle.calculus.specs.Order.{mem, Value, holds, fails, undecided, value_of, State, met, empty, one, many, opened, joined, state_of, clauses, move, tree, Tree, Answer, possible, impossible, unfinished, or_else, answer_of}
use Rattle.calculus.specs.Model.{All, Table, lit_in, Model, AllYes, HeldAtoms, Below, Good}
use Rattle.calculus.specs.declared.Move.TheVariants.{Done}
use Rattle.calculus.proofs.Lists.{any, all_left, all_right, all_imply, all_zip, map_all, any_imply}
use Rattle.calculus.proofs.Literals.{all_member, member_all, holds-mem, good_below}
use Rattle.calculus.proofs.Moves.{done_clauses}
use Rattle.calculus.proofs.Fresh.{expand-under}
use Rattle.calculus.proofs.Search.{Grown, closes, joins, ends, parts, grown-whole, possible_closed, possible_cut}
use Rattle.calculus.proofs.Truth.{clause_yes, yes-expand}
use Rattle.calculus.proofs.Rows.{is_yes}

-- ---- a met clause has a literal in G

opened_met : (l : ℕ) (s : State) → opened l s ≡ met → s ≡ met
opened_met l met e = refl
opened_met l empty e = cc
opened_met l (one m) e = cc
opened_met l (many m) e = cc

pub joined_met : (w : Value) (l : ℕ) (s : State) → joined w l s ≡ met → (w ≡ holds) ⊎ (s ≡ met)
joined_met holds l s e = inl refl
joined_met fails l s e = inr e
joined_met undecided l s e = inr (opened_met l s e)

pub met_held : (G c : List ℕ) → state_of G c ≡ met → any (λ l. mem l G) c ≡ true
unfolding state_of
met_held G [] e = cc
met_held G (l ∷ c) e = go (joined_met (value_of G l) l (state_of G c) e) (met_held G c)
  where
    go : (value_of G l ≡ holds) ⊎ (state_of G c ≡ met) → (state_of G c ≡ met → any (λ l. mem l G) c ≡ true) → (mem l G || any (λ l. mem l G) c) ≡ true
    go (inl q) r = rw (holds-mem G l q)
    go (inr q) r = rw (r q) (or-true (mem l G))

-- ---- the clause list, taken apart again

module _ (P : List ℕ → Type 0) (expand : ℕ → List (List ℕ)) (goals : List ℕ) where
  goal_clauses : (G : List ℕ) → All P (clauses expand goals G) → All (λ g. P (g ∷ [])) goals
  unfolding clauses
  goal_clauses [] a = map_all P (◌∷ []) goals a
  goal_clauses (l ∷ G) a = goal_clauses G (all_left P (clauses expand goals G) (expand l) a)

  held_clauses : (G : List ℕ) → All P (clauses expand goals G) → All (λ l. All P (expand l)) G
  unfolding clauses
  held_clauses [] a = tt
  held_clauses (l ∷ G) a =
      (all_right P (clauses expand goals G) (expand l) a, held_clauses G (all_left P (clauses expand goals G) (expand l) a))

-- ---- truths by the atoms of a list whose clauses are met

module _ (n : ℕ) (t : ℕ → Node) (goals : List ℕ) (T : Table n t) (G : List ℕ) (g : Good n G) (d : move (expand t) goals G ≡ Done)
    (v : ℕ → Truth) (M : Model kleene n t v) (A : HeldAtoms t G v) where
  -- by the nodes' order: the clauses of an operation's literal are over earlier nodes
  held-yes : (k l : ℕ) → l / 2 < k → mem l G ≡ true → lit_in kleene v l ≡ Yes
  held-yes zero l h e = absurd (omega arith)
  held-yes (suc k) l h e = go (ℕ_discrete (t (l / 2)).kind 2) (λ m j. held-yes k m (omega arith))
    where
      b : l < 2 * n
      b = all_member (λ m. m < 2 * n) G l (good_below n G g) e

      go : Dec ((t (l / 2)).kind ≡ 2) → ((m : ℕ) → m / 2 < l / 2 → mem m G ≡ true → lit_in kleene v m ≡ Yes) → lit_in kleene v l ≡ Yes
      go (yes q) ih = A l e q
      go (no q) ih =
          yes-expand n t v T M l b q
          (all_zip (All (λ m. m / 2 < l / 2)) (λ c. state_of G c ≡ met) (λ c. clause_yes v c ≡ true)
          (λ c u s. any_imply (λ m. mem m G) (λ m. is_yes (lit_in kleene v m)) c
          (all_imply (λ m. m / 2 < l / 2) (λ m. mem m G ≡ true → is_yes (lit_in kleene v m) ≡ true) (λ m j w. ap is_yes (ih m j w)) c u) (met_held G c s))
          (expand t l) (expand-under n t T l b)
          (all_member (λ m. All (λ c. state_of G c ≡ met) (expand t m)) G l
          (held_clauses (λ c. state_of G c ≡ met) (expand t) goals G (done_clauses (expand t) goals G d)) e))

  -- all of the list, and all goals
  pub list_yes : AllYes v G
  list_yes = member_all (λ l. lit_in kleene v l ≡ Yes) G (λ l. held-yes (suc (l / 2)) l (omega arith))

  pub goals-yes : AllYes v goals
  goals-yes =
      all_imply (λ l. state_of G (l ∷ []) ≡ met) (λ l. lit_in kleene v l ≡ Yes)
      (λ l s. held-yes (suc (l / 2)) l (omega arith) (rw (or-false (mem l G)) at (met_held G (l ∷ []) s)))
      goals (goal_clauses (λ c. state_of G c ≡ met) (expand t) goals G (done_clauses (expand t) goals G d))

-- ---- where the search says possible, its list is good, and its move there is Done

or_possible : (a b : Answer) {F : List ℕ} → or_else a b ≡ possible F → (a ≡ possible F) ⊎ (b ≡ possible F)
or_possible (possible G) b e = inl e
or_possible impossible b e = inr e
or_possible unfinished b e = absurd (possible_cut (sym e))

module _ (n : ℕ) (t : ℕ → Node) (goals : List ℕ) where
  -- a list on which a search ends
  abbrev pub Ends : List ℕ → Type 0
  Ends F = Good n F × (move (expand t) goals F ≡ Done)

  pub grown_ends : {G : List ℕ} {tr : Tree} {F : List ℕ} → Grown n t goals G tr → answer_of tr ≡ possible F → Ends F
  unfolding answer_of
  grown_ends (closes g m) e = absurd (possible_closed (sym e))
  grown_ends (joins g m f r) e = grown_ends r e
  grown_ends {G} {F = F} (ends g m) e =
      let s : G ≡ F = cc in
      rw (← s) (g, m)
  grown_ends {F = F} (parts {left = x} {right = y} g m f p q) e = go (or_possible (answer_of x) (answer_of y) e) (grown_ends p) (grown_ends q)
    where
      go : (answer_of x ≡ possible F) ⊎ (answer_of y ≡ possible F) → (answer_of x ≡ possible F → Ends F) → (answer_of y ≡ possible F → Ends F) → Ends F
      go (inl z) p q = p z
      go (inr z) p q = q z

-- the search says possible: its list is good, and truths by its atoms make the goals yes
pub complete : (n : ℕ) (t : ℕ → Node) (goals : List ℕ) → Table n t → Below n goals
    → (G : List ℕ) → answer_of (tree (expand t) goals n []) ≡ possible G
    → Good n G × ((v : ℕ → Truth) → Model kleene n t v → HeldAtoms t G v → AllYes v G × AllYes v goals)
complete n t goals T B G e =
    let q = grown_ends n t goals (grown-whole n t goals T B) e in
    (q.0, λ v M A. (list_yes n t goals T G q.0 q.1 v M A, goals-yes n t goals T G q.0 q.1 v M A))
