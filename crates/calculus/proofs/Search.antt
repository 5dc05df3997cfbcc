-- The trees that the search grows, with what is known at each of their nodes; and that none is cut. Assumes nothing.
use mathlib.Core.Path.{◌≡◌, refl}
use mathlib.Core.List.{List, [], ◌∷◌}
use Prim.Native.Nat.{ℕ, zero, suc, ◌+◌, ◌≤◌}
use native.Mathlib.Omega.{arith}
use lib.ListN.{length}
use Rattle.scope.specs.declared.Node.{Node}
use Rattle.calculus.specs.Expansion.{neg, expand}
use Rattle.calculus.specs.Order.{move, Tree, conflict, unit, split, model, cut, grow, tree, Answer, possible, impossible, unfinished, or_else, answer_of}
use Rattle.calculus.specs.Model.{Table, Below, Fresh, Good}
use Rattle.calculus.specs.declared.Move.{Move}
use Rattle.calculus.specs.declared.Move.TheVariants.{Conflict, Unit as Single, Done, Split}
use Rattle.calculus.proofs.Literals.{neg-fresh}
use Rattle.calculus.proofs.Count.{room}
use Rattle.calculus.proofs.Fresh.{unit_fresh, split-fresh}

-- a tree grown from a good list: proofs about the search go by its cases
pub data Grown (n : ℕ) (t : ℕ → Node) (goals : List ℕ) : List ℕ → Tree → Type 0 where
  closes : {G : List ℕ} {k : ℕ} → Good n G → move (expand t) goals G ≡ Conflict k → Grown n t goals G (conflict k)
  joins : {G : List ℕ} {k l : ℕ} {below : Tree} → Good n G → move (expand t) goals G ≡ Single k l → Fresh n G l
      → Grown n t goals (l ∷ G) below → Grown n t goals G (unit k l below)
  ends : {G : List ℕ} → Good n G → move (expand t) goals G ≡ Done → Grown n t goals G (model G)
  parts : {G : List ℕ} {l : ℕ} {left right : Tree} → Good n G → move (expand t) goals G ≡ Split l → Fresh n G l
      → Grown n t goals (l ∷ G) left → Grown n t goals (neg l ∷ G) right → Grown n t goals G (split l left right)

module _ (n : ℕ) (t : ℕ → Node) (goals : List ℕ) (T : Table n t) (B : Below n goals) where
  grown-step : (G : List ℕ) (m : Move) (go : List ℕ → Tree) → Good n G → move (expand t) goals G ≡ m
      → ((l : ℕ) → Fresh n G l → Grown n t goals (l ∷ G) (go (l ∷ G))) → Grown n t goals G (grow m G go)
  grown-step G (Conflict k) go g e r = closes g e
  grown-step G (Single k l) go g e r =
      let f = unit_fresh n t goals T B G g k l e in
      joins g e f (r l f)
  grown-step G Done go g e r = ends g e
  grown-step G (Split l) go g e r =
      let f = split-fresh n t goals T B G g l e in
      parts g e f (r l f) (r (neg l) (neg-fresh n G l f))

  -- with fuel for the nodes that are left, the search grows its tree to the end
  pub grown : (fuel : ℕ) (G : List ℕ) → Good n G → n ≤ fuel + length G → Grown n t goals G (tree (expand t) goals fuel G)
  unfolding tree
  grown zero G g h = grown-step G (move (expand t) goals G) (λ F. cut) g refl (λ l f. absurd (omega (arith, room n G l g f)))
  grown (suc fuel) G g h =
      grown-step G (move (expand t) goals G) (tree (expand t) goals fuel) g refl
      (λ l f. grown fuel (l ∷ G) (f, g) (omega arith))

  pub grown-whole : Grown n t goals [] (tree (expand t) goals n [])
  grown-whole = grown n [] tt (omega arith)

-- ---- answers are apart

pub possible_closed : {G : List ℕ} → possible G ≡ impossible → ⊥
possible_closed e = let z : ◌≡◌ {A = ℕ} 0 1 = cc in omega arith

pub possible_cut : {G : List ℕ} → possible G ≡ unfinished → ⊥
possible_cut e = let z : ◌≡◌ {A = ℕ} 0 1 = cc in omega arith

pub closed_cut : impossible ≡ unfinished → ⊥
closed_cut e = let z : ◌≡◌ {A = ℕ} 0 1 = cc in omega arith

-- a split is cut only where a branch is
or_cut : (a b : Answer) → (a ≡ unfinished → ⊥) → (b ≡ unfinished → ⊥) → or_else a b ≡ unfinished → ⊥
or_cut (possible G) b p q e = possible_cut e
or_cut impossible b p q e = q e
or_cut unfinished b p q e = p e

pub grown_uncut : {n : ℕ} {t : ℕ → Node} {goals G : List ℕ} {tr : Tree} → Grown n t goals G tr → answer_of tr ≡ unfinished → ⊥
unfolding answer_of
grown_uncut (closes g m) e = closed_cut e
grown_uncut (joins g m f r) e = grown_uncut r e
grown_uncut (ends g m) e = possible_cut e
grown_uncut (parts {left = a} {right = b} g m f p q) e = or_cut (answer_of a) (answer_of b) (grown_uncut p) (grown_uncut q) e

-- the search with as much fuel as there are nodes ends
pub never_cut : (n : ℕ) (t : ℕ → Node) (goals : List ℕ) → Table n t → Below n goals → answer_of (tree (expand t) goals n []) ≡ unfinished → ⊥
never_cut n t goals T B = grown_uncut (grown-whole n t goals T B)
