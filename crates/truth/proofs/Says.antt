-- What an answer says of the two-valued truth: the same where no point is 2 (`two_valued`), and a yes or no is the truth for every way of
-- filling the 2s (`sure_filled`). One induction gives both: P is what has to hold for an answer to be unknown. Assumes nothing.
use mathlib.Core.Path.{◌≡◌, refl}
use mathlib.Core.List.{List, [], ◌∷◌, ◌++◌, map}
use mathlib.Core.Bool.{Bool, true, false, cond, not, ◌&&◌, ◌||◌, beq, and-false, or-true}
use Prim.Native.Nat.{ℕ, zero, suc, ◌/◌, ◌%◌, ◌<◌}
use native.Mathlib.Omega.{arith}
use native.Mathlib.Decide.{ℕ_discrete}
use lib.Dec.{eqb}
use lib.ListN.{length, get_or}
use borrow.Author.Tests.{ne_eqb, eqb-true}
use Rattle.scope.specs.declared.Node.{Node}
use Rattle.scope.specs.declared.Truth.{Truth}
use Rattle.scope.specs.declared.Truth.TheVariants.{Yes, No, Unknown}
use Rattle.scope.specs.Table.{operands}
use Rattle.scope.specs.Truth.{chained, lit_truth, joined, node_truth, truths_from, truth_in, classical, truth}
use Rattle.scope.specs.Calls.{no_node}
use Rattle.scope.specs.Kleene.{opposite, both, either, alike, point_truth, kleene, truth₃, sure, NoTwo, Fills}

-- ATOMs are of the 1,024 points
abbrev pub Points : List Node → Type 0
Points rs = (i : ℕ) → i < length rs → (get_or rs i no_node).kind ≡ 2 → (get_or rs i no_node).a < 1024

data Says (P : Type 0) : Truth → Bool → Type 0 where
  is-yes : Says P Yes true
  is-no : Says P No false
  is_open : P → (b : Bool) → Says P Unknown b

-- answers for truths, one by one
data AllSay (P : Type 0) : List Truth → List Bool → Type 0 where
  none : AllSay P [] []
  more : {x : Truth} {b : Bool} {u : List Truth} {v : List Bool} → Says P x b → AllSay P u v → AllSay P (x ∷ u) (b ∷ v)

module _ {P : Type 0} where
  -- ---- the tables

  says-not : {x : Truth} {a : Bool} → Says P x a → Says P (opposite x) (not a)
  says-not is-yes = is-no
  says-not is-no = is-yes
  says-not (is_open k b) = is_open k (not b)

  says-and : {x y : Truth} {a b : Bool} → Says P x a → Says P y b → Says P (both x y) (a && b)
  says-and is-yes q = q
  says-and is-no q = is-no
  says-and (is_open k a) is-yes = is_open k (a && true)
  says-and (is_open k a) is-no = rw (and-false a) is-no
  says-and (is_open k a) (is_open j b) = is_open k (a && b)

  says_or : {x y : Truth} {a b : Bool} → Says P x a → Says P y b → Says P (either x y) (a || b)
  says_or is-yes q = is-yes
  says_or is-no q = q
  says_or (is_open k a) is-yes = rw (or-true a) is-yes
  says_or (is_open k a) is-no = is_open k (a || false)
  says_or (is_open k a) (is_open j b) = is_open k (a || b)

  says-beq : {x y : Truth} {a b : Bool} → Says P x a → Says P y b → Says P (alike x y) (beq a b)
  says-beq is-yes is-yes = is-yes
  says-beq is-yes is-no = is-no
  says-beq is-yes (is_open k b) = is_open k (beq true b)
  says-beq is-no is-yes = is-no
  says-beq is-no is-no = is-yes
  says-beq is-no (is_open k b) = is_open k (beq false b)
  says-beq {b = b} (is_open k a) q = is_open k (beq a b)

  says-cond : (c : Bool) {x y : Truth} {a b : Bool} → (c ≡ true → Says P x a) → (c ≡ false → Says P y b) → Says P (cond c x y) (cond c a b)
  says-cond true p q = p refl
  says-cond false p q = q refl

  -- several joined, by a join that says of two
  says-chained : (f : Truth → Truth → Truth) (g : Bool → Bool → Bool)
      → ((x y : Truth) (a b : Bool) → Says P x a → Says P y b → Says P (f x y) (g a b))
      → {x : Truth} {a : Bool} {xs : List Truth} {bs : List Bool} → Says P x a → AllSay P xs bs → Says P (chained f x xs) (chained g a bs)
  says-chained f g h p none = p
  says-chained f g h p (more q qs) = h _ _ _ _ p (says-chained f g h q qs)

  says-joined : (kind : ℕ) {xs : List Truth} {bs : List Bool} → AllSay P xs bs → Says P (joined kleene kind xs) (joined classical kind bs)
  unfolding joined
  says-joined kind none = is-no
  says-joined kind (more p ps) =
      says-cond (eqb kind 3 || eqb kind 7) (λ e. says-chained both ◌&&◌ (λ x y a b q r. says-and q r) p ps)
      (λ e. says-cond (eqb kind 4 || eqb kind 8) (λ e. says-chained either ◌||◌ (λ x y a b q r. says_or q r) p ps)
      (λ e. says-cond (eqb kind 5) (λ e. says-chained either ◌||◌ (λ x y a b q r. says_or q r) (says-not p) ps) (λ e. says-chained alike beq (λ x y a b q r. says-beq q r) p ps)))

  -- ---- the nodes, one after another

  say_more : {u : List Truth} {v : List Bool} {x : Truth} {b : Bool} → AllSay P u v → Says P x b → AllSay P (u ++ x ∷ []) (v ++ b ∷ [])
  say_more none p = more p none
  say_more (more q a) p = more q (say_more a p)

  say_at : {u : List Truth} {v : List Bool} (i : ℕ) → AllSay P u v → Says P (get_or u i No) (get_or v i false)
  say_at i none = is-no
  say_at zero (more q a) = q
  say_at (suc i) (more q a) = say_at i a

  say_lit : {u : List Truth} {v : List Bool} (l : ℕ) → AllSay P u v → Says P (lit_truth kleene u l) (lit_truth classical v l)
  unfolding lit_truth
  say_lit l a = says-cond (eqb (l % 2) 0) (λ e. say_at (l / 2) a) (λ e. says-not (say_at (l / 2) a))

  say_lits : {u : List Truth} {v : List Bool} (ls : List ℕ) → AllSay P u v → AllSay P (map (lit_truth kleene u) ls) (map (lit_truth classical v) ls)
  say_lits [] a = none
  say_lits (l ∷ ls) a = more (say_lit l a) (say_lits ls a)

  module _ (s f : List ℕ) (point : (p : ℕ) → p < 1024 → Says P (point_truth (get_or s p 0)) (eqb (get_or f p 0) 1)) where
    say-node : {u : List Truth} {v : List Bool} (x : Node) → (x.kind ≡ 2 → x.a < 1024) → AllSay P u v
        → Says P (node_truth kleene s u x) (node_truth classical f v x)
    unfolding node_truth
    say-node x h a =
        says-cond (eqb x.kind 1) (λ e. is-yes)
        (λ e. says-cond (eqb x.kind 2) (λ k. point x.a (h (eqb-true x.kind 2 k)))
        (λ e. says-joined x.kind (say_lits (operands x) a)))

    say-truths : (rs : List Node) {u : List Truth} {v : List Bool} → Points rs → AllSay P u v
        → AllSay P (truths_from kleene s u rs) (truths_from classical f v rs)
    unfolding truths_from
    say-truths [] h a = a
    say-truths (x ∷ rs) h a = say-truths rs (λ i l. h (suc i) (omega arith)) (say_more a (say-node x (h 0 (omega arith)) a))

    says : (rs : List Node) (l : ℕ) → Points rs → Says P (truth₃ s rs l) (truth f rs l)
    unfolding truth_in
    says rs l h = say_lit l (say-truths rs h none)

-- ---- no 2: nothing is unknown

says-sure : {x : Truth} {b : Bool} → Says ⊥ x b → x ≡ sure b
says-sure is-yes = refl
says-sure is-no = refl
says-sure (is_open k b) = absurd k

-- a point's byte, which is no 2 unless P
say_point : {P : Type 0} (b c : ℕ) → (b ≡ 2 → P) → ((b ≡ 2 → ⊥) → c ≡ b) → Says P (point_truth b) (eqb c 1)
say_point {P} b c two same = go (ℕ_discrete b 1) (ℕ_discrete b 2)
  where
    go : Dec (b ≡ 1) → Dec (b ≡ 2) → Says P (point_truth b) (eqb c 1)
    go (yes e) k = rw (same (λ z. omega arith), e) is-yes
    go (no e) (yes k) = rw k (is_open (two k) (eqb c 1))
    go (no e) (no k) = rw (same k, ne_eqb b 1 e, ne_eqb b 2 k) is-no

-- 'Demand 2's two-valued truth .. for settings without a 2'
pub two_valued : (s : List ℕ) (rs : List Node) (l : ℕ) → NoTwo s → Points rs → truth₃ s rs l ≡ sure (truth s rs l)
two_valued s rs l no-two h = says-sure (says s s (λ p b. say_point (get_or s p 0) (get_or s p 0) (no-two p b) (λ k. refl)) rs l h)

-- ---- every way of filling the 2s

-- a yes or no is the truth of each
pub sure_filled : (s f : List ℕ) (rs : List Node) (l : ℕ) (b : Bool) → Fills s f → Points rs → truth₃ s rs l ≡ sure b → truth f rs l ≡ b
sure_filled s f rs l b fills h e =
    on b (truth₃ s rs l) e (says {P = Unit {0}} s f (λ p c. say_point (get_or s p 0) (get_or f p 0) (λ k. tt) (fills p c)) rs l h)
  where
    on : (b : Bool) (x : Truth) {a : Bool} → x ≡ sure b → Says (Unit {0}) x a → a ≡ b
    on true Yes e is-yes = refl
    on false Yes e is-yes = absurd (let z : ◌≡◌ {A = ℕ} 0 1 = cc in omega arith)
    on true No e is-no = absurd (let z : ◌≡◌ {A = ℕ} 0 1 = cc in omega arith)
    on false No e is-no = refl
    on true Unknown e (is_open k c) = absurd (let z : ◌≡◌ {A = ℕ} 0 1 = cc in omega arith)
    on false Unknown e (is_open k c) = absurd (let z : ◌≡◌ {A = ℕ} 0 1 = cc in omega arith)
