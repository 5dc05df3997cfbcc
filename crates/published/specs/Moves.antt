-- The solver's G read as a sequent, and its moves as the published rules. Assumes nothing.
use Rattle.std.specs.Prelude.{◌≡◌, List, [], ◌∷◌, cond, ℕ}
use Rattle.calculus.specs.Expansion.{neg}
use Rattle.calculus.specs.Order.{value_of, clauses, move}
use Rattle.calculus.specs.declared.Move.{Move}
use Rattle.calculus.specs.declared.Move.TheVariants.{Conflict, Unit as Single, Done, Split}
use Rattle.rules.specs.Rules.{is_fails, any_holds}
use Rattle.published.specs.Published.{Sequent, ◌⊢◌, UNIT, CONFLICT, SPLIT, Instance, Propagates}

-- the literals of a clause that G does not make false
unfoldable pub kept : List ℕ → List ℕ → List ℕ
kept G [] = []
kept G (l ∷ c) = cond (is_fails (value_of G l)) (kept G c) (l ∷ kept G c)

-- the clauses with no true literal, each without its false ones
unfoldable pub reduced : List ℕ → List (List ℕ) → List (List ℕ)
reduced G [] = []
reduced G (c ∷ cs) = cond (any_holds G c) (reduced G cs) (kept G c ∷ reduced G cs)

module _ (expand : ℕ → List (List ℕ)) (goals : List ℕ) where
  -- Γ is G; Δ is the clause list, reduced by G
  abbrev pub searched : List ℕ → Sequent ℕ
  searched G = G ⊢ reduced G (clauses expand goals G)

  -- a move is one instance of its rule, from the sequent of G; its premises propagate to the sequents of the solver's next G
  abbrev pub Follows : Move → List ℕ → Type 0
  Follows (Conflict k) G = Instance neg expand CONFLICT (searched G) []
  Follows (Single k l) G =
      (m : Sequent ℕ) × Instance neg expand UNIT (searched G) (m ∷ []) × Propagates neg expand m (searched (l ∷ G))
  Follows Done G = reduced G (clauses expand goals G) ≡ []
  Follows (Split l) G =
      (m : Sequent ℕ) × (n : Sequent ℕ) × Instance neg expand SPLIT (searched G) (m ∷ n ∷ [])
      × Propagates neg expand m (searched (l ∷ G)) × Propagates neg expand n (searched (neg l ∷ G))

  -- demand 2 of 'The solver's order': whatever is held true, the next move is one of the published rules
  abbrev pub PublishedMoves : Type 0
  PublishedMoves = (G : List ℕ) → Follows (move expand goals G) G
