-- The literals of the clauses are the table's, and a move's literal is undecided. Assumes nothing.
use mathlib.Core.Path.{◌≡◌, refl, subst}
use mathlib.Core.List.{List, [], ◌∷◌, map}
use mathlib.Core.Bool.{Bool, true, false, cond}
use Prim.Native.Nat.{ℕ, ◌*◌, ◌/◌, ◌%◌, ◌<◌}
use native.Mathlib.Omega.{arith}
use lib.Dec.{eqb}
use lib.ListN.{length, get_or}
use Rattle.scope.specs.declared.Node.{Node}
use Rattle.scope.specs.Table.{operands}
use Rattle.scope.proofs.Operands.{operands-length}
use Rattle.calculus.specs.Expansion.{neg, chosen, expand}
use Rattle.calculus.specs.Order.{Value, holds, fails, undecided, value_of, State, met, empty, one, many, opened, joined, state_of, clauses, move}
use Rattle.calculus.specs.Model.{All, Table, Below, Fresh, Good}
use Rattle.calculus.specs.declared.Move.TheVariants.{Unit as Single, Split}
use Rattle.calculus.proofs.Lists.{all_append, all_at, all_imply, all_map}
use Rattle.calculus.proofs.Literals.{good_below}
use Rattle.calculus.proofs.Moves.{ClauseIs, unit_clause, split-clause}
use Rattle.calculus.proofs.Rows.{row_of, Within, row_within_lem}

-- ---- the literals of a literal's clauses are its operands and their negations

module _ (P : ℕ → Type 0) (negates : (l : ℕ) → P l → P (neg l)) where
  -- what the operands have, their choices have
  pub chosen_all : (x : Node) → All P (operands x) → (c : ℕ) → c / 2 < length (operands x) → P (chosen x c)
  unfolding chosen
  chosen_all x h c k = go (eqb (c % 2) 0) (all_at P (operands x) (c / 2) 0 h k)
    where
      l : ℕ
      l = get_or (operands x) (c / 2) 0

      go : (p : Bool) → P l → P (cond p l (neg l))
      go true b = b
      go false b = negates l b

  pub expand_all : (t : ℕ → Node) (l : ℕ) → (t (l / 2)).kind < 9 → All P (operands (t (l / 2))) → All (All P) (expand t l)
  unfolding expand
  expand_all t l h o =
      all_map (All P) (map (chosen x)) (row_of x.kind (l % 2))
      (all_imply (All (Within x.kind)) (λ c. All P (map (chosen x) c))
      (λ c w. all_map P (chosen x) c
      (all_imply (Within x.kind) (λ m. P (chosen x m))
      (λ m k. chosen_all x o m (omega (arith, k, operands-length x))) c w))
      (row_of x.kind (l % 2)) (row_within_lem x.kind (l % 2) h (omega arith)))
    where
      x : Node
      x = t (l / 2)

-- so what the goals and the clauses of the literals held have, all clauses have
pub clauses_all : (P : ℕ → Type 0) (t : ℕ → Node) (goals : List ℕ) → All P goals → (G : List ℕ) → All (λ l. All (All P) (expand t l)) G
    → All (All P) (clauses (expand t) goals G)
unfolding clauses
clauses_all P t goals B [] g = all_map (All P) (◌∷ []) goals (all_imply P (λ l. All P (l ∷ [])) (λ l h. (h, tt)) goals B)
clauses_all P t goals B (l ∷ G) g = all_append (All P) (clauses (expand t) goals G) (expand t l) (clauses_all P t goals B G g.1) g.0

-- ---- they are of earlier nodes

-- clauses over the nodes below i
abbrev pub Under : ℕ → List (List ℕ) → Type 0
Under i cs = All (All (λ m. m / 2 < i)) cs

module _ (n : ℕ) (t : ℕ → Node) (T : Table n t) where
  pub expand-under : (l : ℕ) → l < 2 * n → Under (l / 2) (expand t l)
  expand-under l h =
      expand_all (λ m. m / 2 < l / 2) (λ m b. omega (arith, b)) t l (T.kinds (l / 2) (omega arith)).1 (T.earlier (l / 2) (omega arith))

  module _ (goals : List ℕ) (B : Below n goals) where
    -- every literal of the clause list is one of the table's
    pub clauses-below : (G : List ℕ) → Good n G → All (Below n) (clauses (expand t) goals G)
    clauses-below G g =
        clauses_all (λ l. l < 2 * n) t goals B G
        (all_imply (λ l. l < 2 * n) (λ l. All (Below n) (expand t l))
        (λ l b. all_imply (All (λ m. m / 2 < l / 2)) (Below n)
        (all_imply (λ m. m / 2 < l / 2) (λ m. m < 2 * n) (λ m h. omega (arith, h, b)))
        (expand t l) (expand-under l b)) G (good_below n G g))

-- ---- the literal that a clause's state names is one of the clause's, and undecided

module _ (P : ℕ → Type 0) (G : List ℕ) where
  abbrev Open : ℕ → Type 0
  Open l = P l × (value_of G l ≡ undecided)

  abbrev Named : State → Type 0
  Named met = Unit {0}
  Named empty = Unit {0}
  Named (one l) = Open l
  Named (many l) = Open l

  named-opened : (l : ℕ) (s : State) → Open l → Named (opened l s)
  named-opened l met f = tt
  named-opened l empty f = f
  named-opened l (one m) f = f
  named-opened l (many m) f = f

  named-joined : (w : Value) (l : ℕ) (s : State) → value_of G l ≡ w → P l → Named s → Named (joined w l s)
  named-joined holds l s e h f = tt
  named-joined fails l s e h f = f
  named-joined undecided l s e h f = named-opened l s (h, e)

  named-state : (c : List ℕ) → All P c → Named (state_of G c)
  unfolding state_of
  named-state [] b = tt
  named-state (l ∷ c) b = named-joined (value_of G l) l (state_of G c) refl b.0 (named-state c b.1)

  module _ (e : ℕ → List (List ℕ)) (goals : List ℕ) (all : All (All P) (clauses e goals G)) where
    clause-named : (k : ℕ) (s : State) → ClauseIs e goals G k s → Named s
    clause-named k s q = subst Named q.1 (named-state (get_or (clauses e goals G) k []) (all_at (All P) (clauses e goals G) k [] all q.0))

    -- the literal that joins G, or splits
    pub unit-named : (k l : ℕ) → move e goals G ≡ Single k l → Open l
    unit-named k l q = clause-named k (one l) (unit_clause e goals G k l q)

    pub split-named : (l : ℕ) → move e goals G ≡ Split l → Open l
    split-named l q =
        let c = split-clause e goals G l q in
        clause-named c.0 (many l) c.1

-- so it is fresh
module _ (n : ℕ) (t : ℕ → Node) (goals : List ℕ) (T : Table n t) (B : Below n goals) (G : List ℕ) (g : Good n G) where
  pub unit_fresh : (k l : ℕ) → move (expand t) goals G ≡ Single k l → Fresh n G l
  unit_fresh = unit-named (λ l. l < 2 * n) G (expand t) goals (clauses-below n t T goals B G g)

  pub split-fresh : (l : ℕ) → move (expand t) goals G ≡ Split l → Fresh n G l
  split-fresh = split-named (λ l. l < 2 * n) G (expand t) goals (clauses-below n t T goals B G g)
