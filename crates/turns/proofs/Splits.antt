-- The open splits of a list: where the next CONFLICT goes back to. Assumes nothing.
use mathlib.Core.Path.{◌≡◌, refl, sym, ap}
use mathlib.Core.List.{List, [], ◌∷◌, ◌++◌}
use mathlib.Core.Bool.{Bool, true, false, cond, false≢true}
use Prim.Native.Nat.{ℕ, suc, ◌≤◌}
use native.Mathlib.Omega.{arith}
use lib.ListN.{length}
use borrow.Author.Tests.{eq-eqb, ne_eqb, eqb-true}
use Rattle.calculus.specs.Expansion.{neg}
use Rattle.calculus.specs.Order.{move}
use Rattle.calculus.specs.declared.Move.{Move}
use Rattle.calculus.specs.declared.Move.TheVariants.{Conflict, Unit as Single, Done, Split}
use Rattle.turns.specs.Turn.{running, closed, is_open, back, opens}

-- a literal that is open joined at its SPLIT
pub open_split : (m : Move) (l : ℕ) → is_open m l ≡ true → m ≡ Split l
open_split (Conflict k) l e = absurd (false≢true e)
open_split (Single k j) l e = absurd (false≢true e)
open_split Done l e = absurd (false≢true e)
open_split (Split j) l e = ap Split (sym (eqb-true l j e))

module _ (expand : ℕ → List (List ℕ)) (goals : List ℕ) where
  abbrev move_at : List ℕ → Move
  move_at G = move expand goals G

  -- p literals were held at it, and ps at the older ones: the literals above it leave, and its own turns
  pub record Newest (G : List ℕ) (p : ℕ) (ps : List ℕ) : Type 0 where
    pub above : List ℕ
    pub literal : ℕ
    pub under : List ℕ
    pub whole : G ≡ above ++ literal ∷ under
    pub held : length under ≡ p
    pub splits : move_at under ≡ Split literal
    pub turns : back expand goals G ≡ running (neg literal ∷ under)
    pub older : opens expand goals (neg literal ∷ under) ≡ ps

  pub newest : (G : List ℕ) (p : ℕ) (ps : List ℕ) → opens expand goals G ≡ p ∷ ps → Newest G p ps
  unfolding opens back
  newest [] p ps e = absurd (let z : ◌≡◌ {A = ℕ} 0 1 = cc in omega arith)
  newest (l ∷ G) p ps e = on (is_open (move_at G) l) refl e (newest G p ps)
    where
      on : (b : Bool) → is_open (move_at G) l ≡ b → cond b (length G ∷ opens expand goals G) (opens expand goals G) ≡ p ∷ ps
          → (opens expand goals G ≡ p ∷ ps → Newest G p ps) → Newest (l ∷ G) p ps
      on true b e r =
          let s = open_split (move_at G) l b in
          record {
            above = [];
            literal = l;
            under = G;
            whole = refl;
            held = cc;
            splits = s;
            turns = rw b;
            older = rw (s, ne_eqb (neg l) l (λ q. omega arith)) (cc);
          }
      on false b e r =
          let y = r e in
          record {
            above = l ∷ y.above;
            literal = y.literal;
            under = y.under;
            whole = ap (l ∷◌) y.whole;
            held = y.held;
            splits = y.splits;
            turns = rw b y.turns;
            older = y.older;
          }

  -- a UNIT leaves the open splits as they are, a SPLIT is one more
  module _ (G : List ℕ) (l : ℕ) where
    pub opens-unit : (k : ℕ) → move_at G ≡ Single k l → opens expand goals (l ∷ G) ≡ opens expand goals G
    unfolding opens
    opens-unit k e = rw e

    pub opens-split : move_at G ≡ Split l → opens expand goals (l ∷ G) ≡ length G ∷ opens expand goals G
    unfolding opens
    opens-split e = rw (e, eq-eqb l l refl)

    -- any other literal that joins opens none
    pub opens-past : is_open (move_at G) l ≡ false → opens expand goals (l ∷ G) ≡ opens expand goals G
    unfolding opens
    opens-past e = rw e

  -- no more splits than literals
  pub opens_short : (G : List ℕ) → length (opens expand goals G) ≤ length G
  unfolding opens
  opens_short [] = omega arith
  opens_short (l ∷ G) = on (is_open (move_at G) l) (opens_short G)
    where
      on : (b : Bool) → length (opens expand goals G) ≤ length G → length (cond b (length G ∷ opens expand goals G) (opens expand goals G)) ≤ suc (length G)
      on true h = omega arith
      on false h = omega arith

  -- none is open: impossible
  pub none_open : (G : List ℕ) → opens expand goals G ≡ [] → back expand goals G ≡ closed
  unfolding opens back
  none_open [] e = refl
  none_open (l ∷ G) e = on (is_open (move_at G) l) e (none_open G)
    where
      on : (b : Bool) → cond b (length G ∷ opens expand goals G) (opens expand goals G) ≡ [] → (opens expand goals G ≡ [] → back expand goals G ≡ closed)
          → cond b (running (neg l ∷ G)) (back expand goals G) ≡ closed
      on true e r = cc
      on false e r = r e
