-- As a literal joins, the states of a literal's clauses stay, or a cell of its node names the node of the one that joins. Assumes nothing.
use mathlib.Core.Path.{◌≡◌, refl, ◌∙◌}
use mathlib.Core.Bool.{Bool, true, false, cond}
use mathlib.Core.Logic.{◌⊎◌, inl, inr, ⊎_elim}
use mathlib.Core.List.{List, ◌∷◌, map}
use Prim.Native.Nat.{ℕ, suc, ◌+◌, ◌*◌, ◌/◌, ◌%◌, ◌<◌}
use native.Mathlib.Omega.{arith}
use native.Mathlib.Decide.{ℕ_discrete}
use lib.Dec.{eqb}
use lib.ListN.{get_or}
use Rattle.scope.specs.declared.Node.{Node}
use Rattle.scope.specs.Table.{operands}
use Rattle.scope.proofs.Operands.{arity_most, operands-length}
use Rattle.calculus.specs.Expansion.{neg, chosen, expand}
use Rattle.calculus.specs.Order.{value_of, state_of}
use Rattle.calculus.specs.Model.{All, Table}
use Rattle.calculus.proofs.Lists.{all_map, all_imply, get_d_map}
use Rattle.calculus.proofs.Literals.{value_other}
use Rattle.calculus.proofs.Rows.{row_of, Within, row_within_lem}
use Rattle.calculus.proofs.Stays.{all_or, state_same, states_same}
use Rattle.index.specs.Index.{none, op_node}
use Rattle.index.specs.Edges.{Names}

module _ (n : ℕ) (t : ℕ → Node) (T : Table n t) (m : ℕ) (b : m < 2 * n) where
  abbrev p : ℕ
  p = m / 2

  -- the node of a literal of m's clauses is one that a cell of m's node names
  cell-names : (c : ℕ) → Within (t p).kind c → Names t n (chosen (t p) c / 2) p
  unfolding op_node chosen
  cell-names c h = (4 * p + (1 + c / 2), omega (arith, b, h, arity_most (t p).kind), rw (u, v) named, u)
    where
      u : (4 * p + (1 + c / 2)) / 4 ≡ p
      u = omega (arith, h, arity_most (t p).kind)

      v : (4 * p + (1 + c / 2)) % 4 ≡ suc (c / 2)
      v = omega (arith, h, arity_most (t p).kind)

      l : ℕ
      l = get_or (operands (t p)) (c / 2) 0

      sign : (q : Bool) → l / 2 ≡ cond q l (neg l) / 2
      sign true = refl
      sign false = omega arith

      named : get_or (map (◌/ 2) (operands (t p))) (c / 2) none ≡ cond (eqb (c % 2) 0) l (neg l) / 2
      named = get_d_map (◌/ 2) (operands (t p)) (c / 2) 0 none (omega (arith, h, operands-length (t p))) ∙ sign (eqb (c % 2) 0)

  -- the states of m's clauses stay, or a cell of m's node names l's
  pub still_or : (G : List ℕ) (l : ℕ) → (map (state_of (l ∷ G)) (expand t m) ≡ map (state_of G) (expand t m)) ⊎ Names t n (l / 2) p
  unfolding expand
  still_or G l =
      ⊎_elim (λ h. inl (states_same (l ∷ G) G (expand t m) h)) inr
      (all_or (λ c. state_of (l ∷ G) c ≡ state_of G c) By-cell (expand t m)
      (all_map Same-or (map (chosen (t p))) (row_of (t p).kind (m % 2))
      (all_imply (All (Within (t p).kind)) (λ c. Same-or (map (chosen (t p)) c)) clause (row_of (t p).kind (m % 2))
      (row_within_lem (t p).kind (m % 2) (T.kinds p (omega (arith, b))).1 (omega arith)))))
    where
      By-cell : Type 0
      By-cell = Names t n (l / 2) p

      Same-or : List ℕ → Type 0
      Same-or c = (state_of (l ∷ G) c ≡ state_of G c) ⊎ By-cell

      Kept-or : ℕ → Type 0
      Kept-or a = (value_of (l ∷ G) a ≡ value_of G a) ⊎ By-cell

      literal : (c : ℕ) → Within (t p).kind c → Kept-or (chosen (t p) c)
      literal c h = at (ℕ_discrete (chosen (t p) c / 2) (l / 2))
        where
          at : Dec (chosen (t p) c / 2 ≡ l / 2) → Kept-or (chosen (t p) c)
          at (yes e) = inr (rw e at (cell-names c h))
          at (no e) = inl (value_other G l (chosen (t p) c) e)

      clause : (c : List ℕ) → All (Within (t p).kind) c → Same-or (map (chosen (t p)) c)
      clause c h =
          ⊎_elim (λ h. inl (state_same (l ∷ G) G (map (chosen (t p)) c) h)) inr
          (all_or (λ a. value_of (l ∷ G) a ≡ value_of G a) By-cell (map (chosen (t p)) c)
          (all_map Kept-or (chosen (t p)) c (all_imply (Within (t p).kind) (λ a. Kept-or (chosen (t p) a)) literal c h)))
