-- For every list on which a search ends there are two-valued truths that agree with the table and make the list and the goals true.
-- Assumes nothing.
use mathlib.Core.Path.{◌≡◌, refl, sym, ap, ap₂, ◌∙◌}
use mathlib.Core.List.{List, [], ◌∷◌, map}
use mathlib.Core.Bool.{Bool, true, false, cond, not, ◌||◌}
use Prim.Native.Nat.{ℕ, zero, suc, ◌*◌, ◌/◌, ◌%◌, ◌<◌}
use native.Mathlib.Omega.{arith}
use native.Mathlib.Decide.{ℕ_discrete}
use lib.Dec.{eqb}
use borrow.Author.Tests.{eq-eqb, ne_eqb}
use Rattle.scope.specs.declared.Node.{Node}
use Rattle.scope.specs.declared.Truth.{Truth}
use Rattle.scope.specs.declared.Truth.TheVariants.{Yes}
use Rattle.scope.specs.Table.{operands}
use Rattle.scope.specs.Truth.{chained, joined, classical}
use Rattle.scope.specs.Kleene.{opposite, both, either, alike, kleene, sure}
use Rattle.calculus.specs.Expansion.{neg, expand}
use Rattle.calculus.specs.Order.{mem, move}
use Rattle.calculus.specs.Model.{All, Table, lit_in, lit_true, Model, AllTrue, HeldAtoms, Good}
use Rattle.calculus.specs.declared.Move.TheVariants.{Done}
use Rattle.calculus.proofs.Lists.{all_imply}
use Rattle.calculus.proofs.Literals.{is_false, all_member, good_below, consistent}
use Rattle.calculus.proofs.Complete.{list_yes, goals-yes}

-- ---- two-valued truths are truths by Kleene's tables

sure-cond : (c a b : Bool) → cond c (sure a) (sure b) ≡ sure (cond c a b)
sure-cond true a b = refl
sure-cond false a b = refl

sure-opposite : (a : Bool) → opposite (sure a) ≡ sure (classical.opposite a)
sure-opposite true = refl
sure-opposite false = refl

sure-both : (a b : Bool) → both (sure a) (sure b) ≡ sure (classical.both a b)
sure-both true b = refl
sure-both false b = refl

sure-either : (a b : Bool) → either (sure a) (sure b) ≡ sure (classical.either a b)
sure-either true b = refl
sure-either false b = refl

sure-alike : (a b : Bool) → alike (sure a) (sure b) ≡ sure (classical.alike a b)
sure-alike true true = refl
sure-alike true false = refl
sure-alike false true = refl
sure-alike false false = refl

-- what keeps two values keeps them along a list
sure-chained : (f : Truth → Truth → Truth) (g : Bool → Bool → Bool) → ((a b : Bool) → f (sure a) (sure b) ≡ sure (g a b))
    → (x : Bool) (xs : List Bool) → chained f (sure x) (map sure xs) ≡ sure (chained g x xs)
sure-chained f g two x [] = refl
sure-chained f g two x (y ∷ ys) = ap (f (sure x)) (sure-chained f g two y ys) ∙ two x (chained g y ys)

sure-joined : (kind : ℕ) (xs : List Bool) → joined kleene kind (map sure xs) ≡ sure (joined classical kind xs)
unfolding joined
sure-joined kind [] = refl
sure-joined kind (x ∷ xs) = go (eqb kind 3 || eqb kind 7) (eqb kind 4 || eqb kind 8) (eqb kind 5)
  where
    go : (p q r : Bool)
        → cond p (chained both (sure x) (map sure xs)) (cond q (chained either (sure x) (map sure xs)) (cond r (chained either (opposite (sure x)) (map sure xs)) (chained alike (sure x) (map sure xs))))
        ≡ sure (cond p (chained classical.both x xs) (cond q (chained classical.either x xs) (cond r (chained classical.either (classical.opposite x) xs) (chained classical.alike x xs))))
    go true q r = sure-chained both classical.both sure-both x xs
    go false true r = sure-chained either classical.either sure-either x xs
    go false false true =
        ap (λ z. chained either z (map sure xs)) (sure-opposite x) ∙ sure-chained either classical.either sure-either (classical.opposite x) xs
    go false false false = sure-chained alike classical.alike sure-alike x xs

sure_literal : (v : ℕ → Bool) (l : ℕ) → lit_in kleene (λ i. sure (v i)) l ≡ sure (lit_true v l)
unfolding lit_in
sure_literal v l = rw (sure-opposite (v (l / 2))) (sure-cond (eqb (l % 2) 0) (v (l / 2)) (classical.opposite (v (l / 2))))

sure-literals : (v : ℕ → Bool) (ls : List ℕ) → map (lit_in kleene (λ i. sure (v i))) ls ≡ map sure (map (lit_true v) ls)
sure-literals v [] = refl
sure-literals v (l ∷ ls) = ap₂ ◌∷◌ (sure_literal v l) (sure-literals v ls)

sure-yes : (b : Bool) → sure b ≡ Yes → b ≡ true
sure-yes true e = refl
sure-yes false e = absurd (let z : ◌≡◌ {A = ℕ} 0 1 = cc in omega arith)

sure_model : (n : ℕ) (t : ℕ → Node) (v : ℕ → Bool) → Model classical n t v → Model kleene n t (λ i. sure (v i))
sure_model n t v M = record {
  top = λ i h k. ap sure (M.top i h k);
  join = λ i h k. ap sure (M.join i h k)
      ∙ sym (ap (joined kleene (t i).kind) (sure-literals v (operands (t i))) ∙ sure-joined (t i).kind (map (lit_true v) (operands (t i))));
}

-- ---- truths that are a list's on the atoms

module _ (t : ℕ → Node) (G : List ℕ) where
  -- node i's truth from those of the nodes before it
  abbrev node_true : (ℕ → Bool) → ℕ → Bool
  node_true v i =
      cond (eqb (t i).kind 1) true
      (cond (eqb (t i).kind 2) (mem (2 * i) G)
      (joined classical (t i).kind (map (lit_true v) (operands (t i)))))

  -- the truths of the first k nodes
  pub truths_to : ℕ → ℕ → Bool
  truths_to zero i = false
  truths_to (suc k) i = cond (eqb i k) (node_true (truths_to k) k) (truths_to k i)

  -- more nodes change none before them
  settled : (k i : ℕ) → i < k → truths_to k i ≡ node_true (truths_to i) i
  unfolding truths_to
  settled zero i h = absurd (omega arith)
  settled (suc k) i h = go (ℕ_discrete i k) (λ (b : i < k). settled k i b)
    where
      go : Dec (i ≡ k) → (i < k → truths_to k i ≡ node_true (truths_to i) i) → truths_to (suc k) i ≡ node_true (truths_to i) i
      go (yes e) r = rw (eq-eqb i k e, e)
      go (no e) r = rw (ne_eqb i k e) (r (omega arith))

lit_same : (v w : ℕ → Bool) (l : ℕ) → v (l / 2) ≡ w (l / 2) → lit_true v l ≡ lit_true w l
unfolding lit_in
lit_same v w l e = rw e

module _ (n : ℕ) (t : ℕ → Node) (T : Table n t) (G : List ℕ) where
  abbrev pub truths_of : ℕ → Bool
  truths_of = truths_to t G n

  earlier : (i l : ℕ) → i < n → l / 2 < i → lit_true (truths_to t G i) l ≡ lit_true truths_of l
  earlier i l h b = lit_same (truths_to t G i) truths_of l (settled t G i (l / 2) b ∙ sym (settled t G n (l / 2) (omega arith)))

  earlier_all : (i : ℕ) → i < n → (ls : List ℕ) → All (λ l. l / 2 < i) ls → map (lit_true (truths_to t G i)) ls ≡ map (lit_true truths_of) ls
  earlier_all i h [] a = refl
  earlier_all i h (l ∷ ls) a = ap₂ ◌∷◌ (earlier i l h a.0) (earlier_all i h ls a.1)

  pub truths_model : Model classical n t truths_of
  truths_model = record {
    top = λ i h k. settled t G n i h ∙ rw (eq-eqb (t i).kind 1 k);
    join = λ i h k. settled t G n i h ∙ rw (ne_eqb (t i).kind 1 (λ e. omega arith), ne_eqb (t i).kind 2 (λ e. omega arith))
        (ap (joined classical (t i).kind) (earlier_all i h (operands (t i)) (T.earlier i h)));
  }

  truths_atom : (i : ℕ) → i < n → (t i).kind ≡ 2 → truths_of i ≡ mem (2 * i) G
  truths_atom i h k = settled t G n i h ∙ rw (ne_eqb (t i).kind 1 (λ e. omega arith), eq-eqb (t i).kind 2 k)

  module _ (g : Good n G) where
    -- an ATOM's literal that is held is true
    atom-true : (l : ℕ) → mem l G ≡ true → (t (l / 2)).kind ≡ 2 → lit_true truths_of l ≡ true
    unfolding lit_in
    atom-true l m k = rw (truths_atom (l / 2) (omega (arith, all_member (λ m. m < 2 * n) G l (good_below n G g) m)) k) (go (ℕ_discrete (l % 2) 0))
      where
        go : Dec (l % 2 ≡ 0) → cond (eqb (l % 2) 0) (mem (2 * (l / 2)) G) (not (mem (2 * (l / 2)) G)) ≡ true
        go (yes z) =
            let e : 2 * (l / 2) ≡ l = omega arith in
            rw (eq-eqb (l % 2) 0 z, e) m
        go (no z) =
            let e : 2 * (l / 2) ≡ neg l = omega arith in
            rw (ne_eqb (l % 2) 0 z, e, is_false (mem (neg l) G) (consistent n G l g m))

    truths-held : HeldAtoms t G (λ i. sure (truths_of i))
    truths-held l m k = sure_literal truths_of l ∙ ap sure (atom-true l m k)

    module _ (goals : List ℕ) (d : move (expand t) goals G ≡ Done) where
      pub list-true : AllTrue truths_of G
      list-true = all_imply (λ l. lit_in kleene (λ i. sure (truths_of i)) l ≡ Yes) (λ l. lit_true truths_of l ≡ true)
          (λ l e. sure-yes (lit_true truths_of l) (sym (sure_literal truths_of l) ∙ e)) G
          (list_yes n t goals T G g d (λ i. sure (truths_of i)) (sure_model n t truths_of truths_model) truths-held)

      pub goals-true : AllTrue truths_of goals
      goals-true = all_imply (λ l. lit_in kleene (λ i. sure (truths_of i)) l ≡ Yes) (λ l. lit_true truths_of l ≡ true)
          (λ l e. sure-yes (lit_true truths_of l) (sym (sure_literal truths_of l) ∙ e)) goals
          (goals-yes n t goals T G g d (λ i. sure (truths_of i)) (sure_model n t truths_of truths_model) truths-held)
