-- The list that a search ends on: its literals are of the nodes searched, so that the others have no part in its setting. Assumes nothing.
use mathlib.Core.Path.{◌≡◌, refl, sym, ap, ap₂, ◌∙◌, fun_ext}
use mathlib.Core.Logic.{◌⊎◌, inl, inr}
use mathlib.Core.List.{List, [], ◌∷◌}
use mathlib.Core.Bool.{Bool, true, false, ◌&&◌, ◌||◌, and-false}
use Prim.Native.Nat.{ℕ, suc, ◌+◌, ◌*◌, ◌/◌, ◌<◌, ◌≤◌}
use native.Mathlib.Nat.{zero-add, add-zero}
use native.Mathlib.Omega.{arith}
use lib.Dec.{eqb}
use lib.ListN.{length, get_or}
use Rattle.scope.specs.declared.Node.{Node}
use Rattle.scope.specs.Table.{list_from}
use Rattle.scope.specs.Calls.{no_node}
use Rattle.calculus.specs.Order.{mem, Tree, Answer, possible, impossible, unfinished, or_else, answer_of, positive, negative, atom_held, byte_of, setting_of}
use Rattle.calculus.specs.Model.{All, Table, Good}
use Rattle.calculus.specs.Agree.{Alike, Closed}
use Rattle.calculus.proofs.Literals.{is_false, all_member, good_below}
use Rattle.calculus.proofs.Same.{neg-alike, unit-alike, split-alike}
use Rattle.calculus.proofs.Search.{Grown, closes, joins, ends, parts, possible_closed, possible_cut}

-- ---- the literals

either : {A B C : Type 0} → (A → C) → (B → C) → A ⊎ B → C
either f g (inl a) = f a
either f g (inr b) = g b

or_possible : {F : List ℕ} (a b : Answer) → or_else a b ≡ possible F → (a ≡ possible F) ⊎ (b ≡ possible F)
or_possible (possible G) b e = inl e
or_possible impossible b e = inr e
or_possible unfinished b e = absurd (possible_cut (sym e))

pub possible_good : {n : ℕ} {t : ℕ → Node} {goals G F : List ℕ} {tr : Tree} → Grown n t goals G tr → answer_of tr ≡ possible F → Good n F
unfolding answer_of
possible_good (closes g m) e = absurd (possible_closed (sym e))
possible_good (joins g m f r) e = possible_good r e
possible_good {F = F} (ends {G = G} g m) e =
    let z : G ≡ F = cc in
    rw z at g
possible_good (parts {left = a} {right = b} g m f p q) e = either (possible_good p) (possible_good q) (or_possible (answer_of a) (answer_of b) e)

-- where both tables have the goals' nodes, and the operands', both have the nodes of the list
module _ (n : ℕ) (t u : ℕ → Node) (T : Table n t) (C : Closed n t u) (goals : List ℕ) (A : All (Alike t u) goals) where
  pub possible_alike : {G F : List ℕ} {tr : Tree} → Grown n t goals G tr → All (Alike t u) G → answer_of tr ≡ possible F → All (Alike t u) F
  unfolding answer_of
  possible_alike (closes g m) a e = absurd (possible_closed (sym e))
  possible_alike (joins {G = G} {k = k} {l = l} g m f r) a e = possible_alike r (unit-alike n t u T C goals A G g a k l m, a) e
  possible_alike {F = F} (ends {G = G} g m) a e =
      let z : G ≡ F = cc in
      rw z at a
  possible_alike (parts {G = G} {l = l} {left = b} {right = c} g m f p q) a e =
      let s = split-alike n t u T C goals A G g a l m in
      either (possible_alike p (s, a)) (possible_alike q (neg-alike t u l s, a)) (or_possible (answer_of b) (answer_of c) e)

-- ---- the setting

module _ (sign : ℕ → ℕ) (G : List ℕ) (p : ℕ) where
  -- nodes of which no literal is held
  none-behind : (us : List Node) (j : ℕ) → ((i : ℕ) → j ≤ i → mem (sign i) G ≡ false) → atom_held sign us j G p ≡ false
  unfolding atom_held
  none-behind [] j h = refl
  none-behind (u ∷ us) j h = rw (h j (omega arith), and-false) (none-behind us (suc j) (λ i b. h i (omega arith)))

  -- lists that have the same nodes where a literal is held, and none is held of what one has more
  held_more : (rs us : List Node) (j : ℕ) → length rs ≤ length us
      → ((i : ℕ) → i < length rs → mem (sign (j + i)) G ≡ true → get_or rs i no_node ≡ get_or us i no_node)
      → ((i : ℕ) → j + length rs ≤ i → mem (sign i) G ≡ false) → atom_held sign rs j G p ≡ atom_held sign us j G p
  unfolding atom_held
  held_more [] us j l e h = sym (none-behind us j (λ i b. h i (omega arith)))
  held_more (r ∷ rs) [] j l e h = absurd (omega arith)
  held_more (r ∷ rs) (u ∷ us) j l e h =
      ap₂ ◌||◌ (go (mem (sign j) G) refl)
      (held_more rs us (suc j) (omega arith) (λ i b m. e (suc i) (omega arith) (ap (λ (k : ℕ). mem (sign k) G) (shift i) ∙ m)) (λ i b. h i (omega arith)))
    where
      shift : (i : ℕ) → j + suc i ≡ suc j + i
      shift i = omega arith

      go : (b : Bool) → mem (sign j) G ≡ b → ((eqb r.kind 2 && eqb r.a p) && b) ≡ ((eqb u.kind 2 && eqb u.a p) && b)
      go false q = rw (and-false, and-false)
      go true q =
          let z : r ≡ u = e 0 (omega arith) (rw (add-zero j) q) in
          rw z

module _ (rs us : List Node) (l : length rs ≤ length us) where
  -- both have the nodes of the list
  pub setting_more : (G : List ℕ) → Good (length rs) G → ((k : ℕ) → mem k G ≡ true → get_or rs (k / 2) no_node ≡ get_or us (k / 2) no_node) → setting_of rs G ≡ setting_of us G
  unfolding setting_of
  setting_more G g e = ap (λ (f : ℕ → ℕ). list_from f 0 1024) (fun_ext point)
    where
      none : (k : ℕ) → 2 * length rs ≤ k → mem k G ≡ false
      none k h = is_false (mem k G) (λ m. omega (arith, all_member (λ x. x < 2 * length rs) G k (good_below (length rs) G g) m))

      held : (sign : ℕ → ℕ) → ((i : ℕ) → sign i / 2 ≡ i) → (p : ℕ) → atom_held sign rs 0 G p ≡ atom_held sign us 0 G p
      held sign s p =
          held_more sign G p rs us 0 l (λ i h m. rw (zero-add i, s i) at (e (sign (0 + i)) m))
          (λ i h. none (sign i) (omega (arith, s i)))

      point : (p : ℕ) → byte_of (atom_held positive rs 0 G p) (atom_held negative rs 0 G p) ≡ byte_of (atom_held positive us 0 G p) (atom_held negative us 0 G p)
      point p = ap₂ byte_of (held positive (λ i. omega arith) p) (held negative (λ i. omega arith) p)
