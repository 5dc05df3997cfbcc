-- The jumping search beside the plain one, from any state that a search can be in: by the fuel. Assumes nothing.
use mathlib.Core.Path.{◌≡◌, refl}
use mathlib.Core.List.{List, ◌∷◌}
use mathlib.Core.Bool.{Bool, true, false, not, ◌&&◌}
use Prim.Native.Nat.{ℕ, zero, suc, ◌+◌, ◌≤◌}
use native.Mathlib.Omega.{arith}
use lib.Dec.{ltb}
use lib.ListN.{length}
use Rattle.scope.specs.declared.Node.{Node}
use Rattle.calculus.specs.Expansion.{neg, expand}
use Rattle.calculus.specs.Order.{empty, one, move, Tree, split, cut, grow, tree, Answer, possible, impossible, answer_of}
use Rattle.calculus.specs.Model.{Table, Below, Fresh}
use Rattle.calculus.specs.declared.Move.{Move}
use Rattle.calculus.specs.declared.Move.TheVariants.{Conflict, Unit as Single, Done, Split}
use Rattle.calculus.proofs.Literals.{neg-fresh}
use Rattle.calculus.proofs.Count.{at_most, room}
use Rattle.calculus.proofs.Moves.{conflict_clause, unit_clause}
use Rattle.calculus.proofs.Fresh.{unit_fresh, split-fresh}
use Rattle.calculus.proofs.Search.{Grown, grown}
use Rattle.calculus.specs.Jump.{Rests, only, less, Held, hold, literals, clause_rest, End, found, closed, short, Jumped, stop, sides, step, jump, splits_of}
use Rattle.jumping.proofs.Clauses.{OpenSplit}
use Rattle.jumping.proofs.Claims.{Sure, Refuted, Stands, stands_joined, stands-left, right-sure, skip-refuted, stands-says, no-model}

module _ (cap n : ℕ) (t : ℕ → Node) (goals : List ℕ) where
  -- how a jumping search ends, beside the answer of the plain one; closed, it refutes all truths that are assumed
  abbrev pub Matches : List OpenSplit → End → Answer → Type 0
  Matches L (found F) a = a ≡ possible F
  Matches L (closed s) a = (a ≡ impossible) × Refuted cap n t goals L s
  Matches L short a = ⊥

  pub record Agrees (L : List OpenSplit) (j : Jumped) (r : Tree) : Type 0 where
    pub matches : Matches L j.end (answer_of r)
    pub fewer : j.splits ≤ splits_of r

  module _ (T : Table n t) where
    -- a split, by how its left side ended
    agree-sides : (d : ℕ) (L : List OpenSplit) (H : List Held) (l : ℕ) (left : Jumped) (right : Rests → Jumped) (x y : Tree)
        → Stands cap n t goals d L H → Agrees ((d, l) ∷ L) left x → Grown n t goals (neg l ∷ literals H) y
        → ((s : Rests) → Sure cap n t goals L (hold (neg l) (less d s)) → Agrees L (right s) y)
        → Agrees L (sides cap d left right) (split l x y)
    unfolding answer_of splits_of
    agree-sides d L H l left right x y S A w r = go left.end A.matches
      where
        -- the search, had the left side ended so
        ended : End → Jumped
        ended e = sides cap d (record { end = e; splits = left.splits }) right

        turned : (s : Rests) (b : Bool) → (ltb d cap && not (s d)) ≡ b → answer_of x ≡ impossible → Refuted cap n t goals ((d, l) ∷ L) s
            → Agrees L (ended (closed s)) (split l x y)
        turned s true e z c =
            let k = skip-refuted cap n t goals d L l s c e in
            rw e record { matches = (rw z (no-model cap n t goals T d L s (literals H) (neg l) y S.opens k w), k); fewer = omega (arith, A.fewer) }
        turned s false e z c =
            let q = r s (right-sure cap n t goals d L l s c (literals H) S.opens) in
            rw e record { matches = rw z q.matches; fewer = rw z (omega (arith, A.fewer, q.fewer)) }

        go : (e : End) → Matches ((d, l) ∷ L) e (answer_of x) → Agrees L (ended e) (split l x y)
        go (found F) z = record { matches = rw z; fewer = omega (arith, A.fewer) }
        go (closed s) z = turned s (ltb d cap && not (s d)) refl z.0 z.1
        go short z = absurd z

    module _ (B : Below n goals) where
      agree-step : (d : ℕ) (L : List OpenSplit) (H : List Held) (m : Move) (go : ℕ → List Held → Jumped) (next : List ℕ → Tree)
          → Stands cap n t goals d L H → move (expand t) goals (literals H) ≡ m
          → ((e : ℕ) (K : List OpenSplit) (h : Held) → Stands cap n t goals e K (h ∷ H) → Agrees K (go e (h ∷ H)) (next (literals (h ∷ H))))
          → ((l : ℕ) → Fresh n (literals H) l → Grown n t goals (l ∷ literals H) (next (l ∷ literals H)))
          → Agrees L (step cap (expand t) goals m d H go) (grow m (literals H) next)
      unfolding answer_of splits_of
      agree-step d L H (Conflict k) go next S e r w = record {
        matches = (refl, stands-says cap n t goals T d L H k empty S (conflict_clause (expand t) goals (literals H) k e));
        fewer = omega arith;
      }
      agree-step d L H (Single k l) go next S e r w =
          let h : Held = hold l (clause_rest (expand t) goals H k) in
          let a = r d L h
          (stands_joined cap n t goals d d L H h (omega arith) S (unit_fresh n t goals T B (literals H) S.good k l e)
          (stands-says cap n t goals T d L H k (one l) S (unit_clause (expand t) goals (literals H) k l e))) in
          record { matches = a.matches; fewer = a.fewer }
      agree-step d L H Done go next S e r w = record { matches = refl; fewer = omega arith }
      agree-step d L H (Split l) go next S e r w =
          let f : Fresh n (literals H) l = split-fresh n t goals T B (literals H) S.good l e in
          let g : Fresh n (literals H) (neg l) = neg-fresh n (literals H) l f in
          let h : Held = hold l (only cap d) in
          agree-sides d L H l (go (suc d) (h ∷ H)) (λ s. go (suc d) (hold (neg l) (less d s) ∷ H)) (next (l ∷ literals H)) (next (neg l ∷ literals H))
          S (r (suc d) ((d, l) ∷ L) h (stands-left cap n t goals d L l H S f)) (w (neg l) g)
          (λ s c. r (suc d) L (hold (neg l) (less d s)) (stands_joined cap n t goals d (suc d) L H (hold (neg l) (less d s)) (omega arith) S g c))

      -- with fuel for the nodes that are left
      pub agree : (fuel d : ℕ) (L : List OpenSplit) (H : List Held) → Stands cap n t goals d L H → n ≤ fuel + length (literals H)
          → Agrees L (jump cap (expand t) goals fuel d H) (tree (expand t) goals fuel (literals H))
      unfolding jump tree
      agree zero d L H S h =
          agree-step d L H (move (expand t) goals (literals H)) (λ e F. stop short) (λ F. cut) S refl
          (λ e K x R. absurd (omega (arith, at_most n (literals (x ∷ H)) R.good)))
          (λ l f. absurd (omega (arith, room n (literals H) l S.good f)))
      agree (suc fuel) d L H S h =
          agree-step d L H (move (expand t) goals (literals H)) (jump cap (expand t) goals fuel) (tree (expand t) goals fuel) S refl
          (λ e K x R. agree fuel e K (x ∷ H) R (omega arith))
          (λ l f. grown n t goals T B fuel (l ∷ literals H) (f, S.good) (omega arith))
