-- What a clause says where the left literals of some splits are true. Assumes nothing.
use mathlib.Core.Path.{◌≡◌, refl, ap, ◌∙◌, subst}
use mathlib.Core.List.{List, [], ◌∷◌, ◌++◌, map}
use mathlib.Core.Bool.{Bool, true, false, cond, ◌||◌, or-true, false≢true}
use Prim.Native.Nat.{ℕ, ◌+◌, ◌-◌, ◌<◌, ◌≤◌}
use native.Mathlib.Omega.{arith}
use lib.Dec.{eqb, ltb}
use lib.ListN.{length, get_or, length-append, get_or-append}
use lib.Seq.{get_or-append-add}
use borrow.Author.Tests.{eqb-true, ltb-true, ltb-false}
use Rattle.scope.specs.declared.Node.{Node}
use Rattle.scope.specs.Truth.{classical}
use Rattle.calculus.specs.Expansion.{neg, expand}
use Rattle.calculus.specs.Order.{mem, State, clauses}
use Rattle.calculus.specs.Model.{All, Table, lit_true, Model, AllTrue, Good}
use Rattle.calculus.proofs.Lists.{all_at, all_imply, all_map}
use Rattle.calculus.proofs.Moves.{ClauseIs}
use Rattle.calculus.proofs.Truth.{clause_true, expand-true}
use Rattle.calculus.proofs.Sound.{StateSays, FailsFalse, says-state, fails_false}
use Rattle.calculus.specs.Jump.{Rests, both, Held, literals, rest_of, false_rest, origin_rest, clause_rest}

-- ---- what is assumed of the open splits

-- an open split, one whose left branch this is: its name, and its left literal
abbrev pub OpenSplit : Type 0
OpenSplit = ℕ × ℕ

module _ (cap : ℕ) (L : List OpenSplit) (v : ℕ → Bool) where
  -- the left literal is true if the split is in the set, or does not count
  abbrev pub Assumed : Rests → OpenSplit → Type 0
  Assumed s p = (ltb p.0 cap ≡ true → s p.0 ≡ true) → lit_true v p.1 ≡ true

  abbrev pub Assumes : Rests → Type 0
  Assumes s = All (Assumed s) L

  -- what rests on less assumes less
  assumes_part : (a b : Rests) → ((i : ℕ) → a i ≡ true → b i ≡ true) → Assumes b → Assumes a
  assumes_part a b f = all_imply (Assumed b) (Assumed a) (λ p h q. h (λ c. f p.0 (q c))) L

  assumes_first : (a b : Rests) → Assumes (both a b) → Assumes a
  assumes_first a b = assumes_part a (both a b) (λ i e. rw e)

  assumes_second : (a b : Rests) → Assumes (both a b) → Assumes b
  assumes_second a b = assumes_part b (both a b) (λ i e. rw e (or-true (a i)))

  -- ---- a clause of G's list, where each literal of G is true if what it rests on is assumed

  abbrev pub Backed : Held → Type 0
  Backed h = Assumes h.rests → lit_true v h.literal ≡ true

  held-true : (H : List Held) (l : ℕ) → All Backed H → mem l (literals H) ≡ true → Assumes (rest_of H l) → lit_true v l ≡ true
  unfolding mem rest_of
  held-true [] l b e s = absurd (false≢true e)
  held-true (h ∷ H) l b e s = go (eqb l h.literal) refl e s (held-true H l b.1)
    where
      go : (z : Bool) → eqb l h.literal ≡ z → (z || mem l (literals H)) ≡ true → Assumes (cond z h.rests (rest_of H l))
          → (mem l (literals H) ≡ true → Assumes (rest_of H l) → lit_true v l ≡ true) → lit_true v l ≡ true
      go true q e s r = ap (lit_true v) (eqb-true l h.literal q) ∙ b.0 s
      go false q e s r = r e s

  false-literals : (H : List Held) (c : List ℕ) → All Backed H → Assumes (false_rest H c) → All (FailsFalse v (literals H)) c
  unfolding false_rest
  false-literals H [] b s = tt
  false-literals H (l ∷ c) b s = (
    fails_false v (literals H) l (λ e. held-true H (neg l) b e (assumes_first (rest_of H (neg l)) (false_rest H c) s)),
    false-literals H c b (assumes_second (rest_of H (neg l)) (false_rest H c) s),
  )

  module _ (n : ℕ) (t : ℕ → Node) (goals : List ℕ) (T : Table n t) (M : Model classical n t v) (a : AllTrue v goals) where
    -- the clause is a true goal's, or of the expansion of a true literal
    origin-true : (H : List Held) (k : ℕ) → Good n (literals H) → All Backed H → k < length (clauses (expand t) goals (literals H))
        → Assumes (origin_rest (expand t) goals H k) → clause_true v (get_or (clauses (expand t) goals (literals H)) k []) ≡ true
    unfolding clauses origin_rest
    origin-true [] k g b h s =
        all_at (λ c. clause_true v c ≡ true) (map (◌∷ []) goals) k []
        (all_map (λ c. clause_true v c ≡ true) (◌∷ []) goals
        (all_imply (λ l. lit_true v l ≡ true) (λ l. clause_true v (l ∷ []) ≡ true) (λ l e. rw e) goals a)) h
    origin-true (x ∷ H) k g b h s = go (ltb k (length old)) refl s (λ q. origin-true H k g.1 b.1 q)
      where
        old : List (List ℕ)
        old = clauses (expand t) goals (literals H)

        new : List (List ℕ)
        new = expand t x.literal

        go : (z : Bool) → ltb k (length old) ≡ z → Assumes (cond z (origin_rest (expand t) goals H k) x.rests)
            → (k < length old → Assumes (origin_rest (expand t) goals H k) → clause_true v (get_or old k []) ≡ true)
            → clause_true v (get_or (old ++ new) k []) ≡ true
        go true q s r =
            let m : k < length old = ltb-true k (length old) q in
            rw (get_or-append old new [] k m) (r m s)
        go false q s r =
            let m : length old ≤ k = ltb-false k (length old) q in
            let e : k ≡ length old + (k - length old) = omega arith in
            ap (λ (i : ℕ). clause_true v (get_or (old ++ new) i [])) e ∙ rw get_or-append-add
            (all_at (λ c. clause_true v c ≡ true) new (k - length old) []
            (expand-true n t v T M x.literal g.0.0 (b.0 s)) (omega (arith, length-append old new)))

    -- what the state of clause k says
    pub clause-says : (H : List Held) (k : ℕ) (s : State) → Good n (literals H) → All Backed H → ClauseIs (expand t) goals (literals H) k s
        → Assumes (clause_rest (expand t) goals H k) → StateSays v s
    clause-says H k s g b q r =
        let c : List ℕ = get_or (clauses (expand t) goals (literals H)) k [] in
        subst (StateSays v) q.1
        (says-state v (literals H) c
        (false-literals H c b (assumes_first (false_rest H c) (origin_rest (expand t) goals H k) r))
        (origin-true H k g b q.0 (assumes_second (false_rest H c) (origin_rest (expand t) goals H k) r)))
