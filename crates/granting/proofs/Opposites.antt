-- A list that has a literal and its negation is impossible. Assumes nothing.
use mathlib.Core.Path.{◌≡◌, refl, ◌∙◌}
use mathlib.Core.List.{List, [], ◌∷◌, ◌++◌}
use mathlib.Core.Bool.{Bool, true, false, ◌||◌, false≢true, or-false}
use Prim.Native.Nat.{ℕ, ◌+◌, ◌<◌, ◌≤◌}
use native.Mathlib.Omega.{arith}
use lib.Dec.{eqb}
use lib.ListN.{length, get_or}
use borrow.Author.Tests.{eqb-true}
use Rattle.scope.specs.declared.Node.{Node}
use Rattle.calculus.specs.Expansion.{neg, expand}
use Rattle.calculus.specs.Order.{mem, clauses, state_of, met, Answer, possible, impossible, unfinished}
use Rattle.calculus.specs.Model.{All, Table, Below, Good}
use Rattle.calculus.proofs.Lists.{all_left, all_right, all_at, all_imply, map_all}
use Rattle.calculus.proofs.Literals.{consistent}
use Rattle.calculus.proofs.Moves.{done_clauses}
use Rattle.calculus.proofs.Search.{grown-whole, never_cut}
use Rattle.calculus.proofs.Complete.{met_held, grown_ends}
use Rattle.questions.specs.Asking.{asks}
use Rattle.granting.specs.Counts.{Opposed}

-- where all clauses are met, the literals asked for are held
asked-held : (e : ℕ → List (List ℕ)) (ls G F : List ℕ) → All (λ c. state_of G c ≡ met) (clauses e ls F) → All (λ l. mem l G ≡ true) ls
unfolding clauses
asked-held e ls G [] a =
    all_imply (λ l. state_of G (l ∷ []) ≡ met) (λ l. mem l G ≡ true) (λ l s. rw (or-false (mem l G)) at (met_held G (l ∷ []) s)) ls
    (map_all (λ c. state_of G c ≡ met) (◌∷ []) ls a)
asked-held e ls G (l ∷ F) a = asked-held e ls G F (all_left (λ c. state_of G c ≡ met) (clauses e ls F) (e l) a)

module _ (n : ℕ) (t : ℕ → Node) (T : Table n t) where
  -- what a search ends on is consistent and holds the literals asked for
  ends_held : (ls G : List ℕ) → Below n ls → asks t n ls ≡ possible G → Good n G × All (λ l. mem l G ≡ true) ls
  ends_held ls G B e =
      let q = grown_ends n t ls (grown-whole n t ls T B) e in
      (q.0, asked-held (expand t) ls G G (done_clauses (expand t) ls G q.1))

  pub opposite_impossible : (ls more : List ℕ) (l k : ℕ) → Below n ((ls ++ l ∷ []) ++ more) → k < length ls → get_or ls k 0 ≡ neg l
      → asks t n ((ls ++ l ∷ []) ++ more) ≡ impossible
  opposite_impossible ls more l k B h z = go (asks t n ((ls ++ l ∷ []) ++ more)) refl
    where
      go : (a : Answer) → asks t n ((ls ++ l ∷ []) ++ more) ≡ a → asks t n ((ls ++ l ∷ []) ++ more) ≡ impossible
      go (possible G) e =
          let q = ends_held ((ls ++ l ∷ []) ++ more) G B e in
          let both = all_left (λ m. mem m G ≡ true) (ls ++ l ∷ []) more q.1 in
          let other : mem (neg l) G ≡ true = rw z at (all_at (λ m. mem m G ≡ true) ls k 0 (all_left (λ m. mem m G ≡ true) ls (l ∷ []) both) h) in
          absurd (consistent n G l q.0 (all_right (λ m. mem m G ≡ true) ls (l ∷ []) both).0 other)
      go impossible e = e
      go unfinished e = absurd (never_cut n t ((ls ++ l ∷ []) ++ more) T B e)

-- ---- the look for a negation

-- the first j literals are looked at; where it was found, it is there
pub record Looking (q : List ℕ) (l : ℕ) (found : Bool) (j : ℕ) : Type 0 where
  pub turns : j ≤ length q
  pub seen : found ≡ true → Opposed q l

pub looking_none : (q : List ℕ) (l : ℕ) → Looking q l false 0
looking_none q l = record { turns = omega arith; seen = λ e. absurd (false≢true e) }

pub looking_more : {q : List ℕ} {l j : ℕ} {found : Bool} → Looking q l found j → {other : ℕ} → j < length q → other ≡ neg l
    → Looking q l (found || eqb (get_or q j 0) other) (j + 1)
looking_more {q} {l} {j} {found} d {other} h e = record { turns = omega arith; seen = go found d.seen }
  where
    go : (b : Bool) → (b ≡ true → Opposed q l) → (b || eqb (get_or q j 0) other) ≡ true → Opposed q l
    go true f z = f refl
    go false f z = (j, h, eqb-true (get_or q j 0) other z ∙ e)
