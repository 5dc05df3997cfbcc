-- What a state of the jumping search claims of every truth, and how a literal, a left side and a right side keep it. Assumes nothing.
use mathlib.Core.Path.{◌≡◌, refl, sym, ap, ◌∙◌}
use mathlib.Core.List.{List, ◌∷◌}
use mathlib.Core.Bool.{Bool, true, not, ◌&&◌, true≢false}
use Prim.Native.Nat.{ℕ, suc, ◌<◌, ◌≤◌}
use native.Mathlib.Omega.{arith}
use lib.Dec.{ltb}
use borrow.Author.Tests.{eq-eqb, ne_eqb, not-true}
use Rattle.scope.specs.declared.Node.{Node}
use Rattle.scope.specs.Truth.{classical}
use Rattle.scope.proofs.Tests.{and_left, and_right}
use Rattle.calculus.specs.Expansion.{neg, expand}
use Rattle.calculus.specs.Order.{mem, State, Tree, Answer, possible, impossible, unfinished, or_else, answer_of}
use Rattle.calculus.specs.Model.{All, Table, lit_true, Model, AllTrue, Fresh, Good}
use Rattle.calculus.proofs.Lists.{all_imply, all_zip}
use Rattle.calculus.proofs.Literals.{is_false, mem_same, mem-later, all_member}
use Rattle.calculus.proofs.Moves.{ClauseIs}
use Rattle.calculus.proofs.Search.{Grown, closes, joins, ends, parts, grown_uncut, possible_closed}
use Rattle.calculus.proofs.Truth.{neg-true}
use Rattle.calculus.proofs.Sound.{StateSays}
use Rattle.calculus.proofs.Complete.{grown_ends}
use Rattle.calculus.specs.Jump.{Rests, only, less, Held, hold, literals, clause_rest}
use Rattle.jumping.proofs.Truths.{truths_of, truths_model, list-true, goals-true}
use Rattle.jumping.proofs.Clauses.{OpenSplit, Assumed, Assumes, Backed, clause-says}

-- the plain search's model holds all literals of its start
grown_grows : {n : ℕ} {t : ℕ → Node} {goals G : List ℕ} {r : Tree} {F : List ℕ} → Grown n t goals G r → answer_of r ≡ possible F
    → (l : ℕ) → mem l G ≡ true → mem l F ≡ true
unfolding answer_of
grown_grows (closes g m) e l h = absurd (possible_closed (sym e))
grown_grows {G} (joins {l = x} g m f r) e l h = grown_grows r e l (mem-later G x l h)
grown_grows {G} {F = F} (ends g m) e l h =
    let s : G ≡ F = cc in
    rw (← s) h
grown_grows {G} {F = F} (parts {l = x} {left = a} {right = b} g m f p q) e l h =
    go (answer_of a) refl e (λ z. grown_grows p z l (mem-later G x l h)) (λ z. grown_grows q z l (mem-later G (neg x) l h))
  where
    go : (w : Answer) → answer_of a ≡ w → or_else w (answer_of b) ≡ possible F → (answer_of a ≡ possible F → mem l F ≡ true)
        → (answer_of b ≡ possible F → mem l F ≡ true) → mem l F ≡ true
    go (possible K) z e p q = p (z ∙ e)
    go impossible z e p q = q e
    go unfinished z e p q = p (z ∙ e)

-- an open split has a name that no later one has, and its left literal is in G
abbrev pub Opens : ℕ → List ℕ → OpenSplit → Type 0
Opens d G p = (p.0 < d) × (mem p.1 G ≡ true)

module _ (cap n : ℕ) (t : ℕ → Node) (goals : List ℕ) where
  -- of all truths that agree with the table and make the goals true, and the left literals of the open splits in the set and of
  -- those that do not count
  abbrev pub Claims : List OpenSplit → Rests → ((ℕ → Bool) → Type 0) → Type 0
  Claims L s P = (v : ℕ → Bool) → Model classical n t v → AllTrue v goals → Assumes cap L v s → P v

  -- the literal is true
  abbrev pub Sure : List OpenSplit → Held → Type 0
  Sure L h = Claims L h.rests (λ v. lit_true v h.literal ≡ true)

  -- there are none
  abbrev pub Refuted : List OpenSplit → Rests → Type 0
  Refuted L s = Claims L s (λ v. ⊥)

  -- d splits are on the branch, those of L open, and H is held
  pub record Stands (d : ℕ) (L : List OpenSplit) (H : List Held) : Type 0 where
    pub good : Good n (literals H)
    pub opens : All (Opens d (literals H)) L
    pub sure : All (Sure L) H

  opens_later : (d e : ℕ) (L : List OpenSplit) (G : List ℕ) (x : ℕ) → d ≤ e → All (Opens d G) L → All (Opens e (x ∷ G)) L
  opens_later d e L G x h = all_imply (Opens d G) (Opens e (x ∷ G)) (λ p q. (omega (arith, q.0), mem-later G x p.1 q.1)) L

  -- a literal joins
  pub stands_joined : (d e : ℕ) (L : List OpenSplit) (H : List Held) (h : Held) → d ≤ e → Stands d L H → Fresh n (literals H) h.literal
      → Sure L h → Stands e L (h ∷ H)
  stands_joined d e L H h b S f c = record {
    good = (f, S.good);
    opens = opens_later d e L (literals H) h.literal b S.opens;
    sure = (c, S.sure);
  }

  module _ (d : ℕ) (L : List OpenSplit) (l : ℕ) where
    -- the left literal joins, and its split is open
    pub stands-left : (H : List Held) → Stands d L H → Fresh n (literals H) l → Stands (suc d) ((d, l) ∷ L) (hold l (only cap d) ∷ H)
    stands-left H S f = record {
      good = (f, S.good);
      opens = ((omega arith, mem_same (literals H) l l refl), opens_later d (suc d) L (literals H) l (omega arith) S.opens);
      sure = (
        λ v M a s. s.0 (λ c. rw (eq-eqb d d refl, c)),
        all_imply (Sure L) (Sure ((d, l) ∷ L)) (λ h c v M a s. c v M a s.1) H S.sure,
      );
    }

    module _ (s : Rests) (r : Refuted ((d, l) ∷ L) s) where
      -- the right literal: truths of the left one are refuted
      pub right-sure : (G : List ℕ) → All (Opens d G) L → Sure L (hold (neg l) (less d s))
      right-sure G o v M a q =
          neg-true v l ∙ ap not (is_false (lit_true v l) (λ e. r v M a (
            λ z. e,
            all_zip (Opens d G) (Assumed cap L v (less d s)) (Assumed cap L v s)
                (λ p b h c. h (λ i. rw (c i, ne_eqb p.0 d (λ z. omega (arith, b.0))))) L o q,
          )))

      -- a left conflict that does not rest on its split, which counts
      pub skip-refuted : (ltb d cap && not (s d)) ≡ true → Refuted L s
      skip-refuted e v M a q =
          r v M a (λ c. absurd (true≢false (sym (c (and_left (ltb d cap) (not (s d)) e)) ∙ not-true (s d) (and_right (ltb d cap) (not (s d)) e))), q)

  module _ (T : Table n t) where
    -- the clause of a UNIT or a CONFLICT
    pub stands-says : (d : ℕ) (L : List OpenSplit) (H : List Held) (k : ℕ) (x : State) → Stands d L H
        → ClauseIs (expand t) goals (literals H) k x → Claims L (clause_rest (expand t) goals H k) (λ v. StateSays v x)
    stands-says d L H k x S q v M a s =
        clause-says cap L v n t goals T M a H k x S.good (all_imply (Sure L) (Backed cap L v) (λ h c. c v M a) H S.sure) q s

    -- where all truths are refuted, a branch has no model: a model's truths make the left literals of the open splits true
    pub no-model : (d : ℕ) (L : List OpenSplit) (s : Rests) (G : List ℕ) (x : ℕ) (y : Tree) → All (Opens d G) L → Refuted L s
        → Grown n t goals (x ∷ G) y → answer_of y ≡ impossible
    no-model d L s G x y o r w = go (answer_of y) refl
      where
        go : (a : Answer) → answer_of y ≡ a → a ≡ impossible
        go (possible F) e =
            let v : ℕ → Bool = truths_of n t T F in
            let q = grown_ends n t goals w e in
            absurd (r v (truths_model n t T F) (goals-true n t T F q.0 goals q.1)
            (all_imply (Opens d G) (Assumed cap L v s)
            (λ p b c. all_member (λ m. lit_true v m ≡ true) F p.1
            (list-true n t T F q.0 goals q.1) (grown_grows w e p.1 (mem-later G x p.1 b.1))) L o))
        go impossible e = refl
        go unfinished e = absurd (grown_uncut w e)
