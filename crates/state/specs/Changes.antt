-- What the functions of this crate leave: a literal joins the trail, or the newest leaves. Assumes nothing.
use Rattle.std.specs.Prelude.{◌≡◌, ◌⊎◌, List, ◌∷◌, ℕ, suc, ◌+◌, ◌*◌, ◌/◌, ◌%◌, ◌<◌, ◌≤◌, get_or, length, set}
use Rattle.calculus.specs.Expansion.{neg}
use Rattle.state.specs.Work.{tail, lit_at, base_of, cursor_at, cursor_of, g_of, Ready, trail_at, literals_at, entries_at, bases_at, values_at, cursors_at, codes_at}

-- the values of l and its negation are stored
abbrev pub values_set : List ℕ → ℕ → ℕ → ℕ → List ℕ
values_set w l v u = set (set w (trail_at + (values_at + l)) v) (trail_at + (values_at + neg l)) u

-- what a joining literal stores of itself in u: its entry, itself, and the count
abbrev pub entry_set : List ℕ → ℕ → ℕ → List ℕ
entry_set u h l = set (set (set u (trail_at + (entries_at + l / 2)) (2 * h + l % 2 + 1)) (trail_at + (literals_at + h)) l) (trail_at + 0) (h + 1)

-- how many clauses stand before those of position h + 1
abbrev pub base_set : List ℕ → ℕ → ℕ → List ℕ
base_set w h more = set w (trail_at + (bases_at + (h + 1))) (base_of (tail w) h + more)

-- what the first unit of position q forces is kept
abbrev pub code_set : List ℕ → ℕ → ℕ → List ℕ
code_set w q code = set w (trail_at + (codes_at + q)) code

-- a number that neither a joining nor a leaving literal changes: a cell, an earlier literal, a base, a cursor but that at h
abbrev pub Kept : ℕ → ℕ → Type 0
Kept h i =
    (i < trail_at) ⊎ (((trail_at < i) × (i < trail_at + literals_at + h))
    ⊎ (((trail_at + bases_at ≤ i) × (i < trail_at + values_at)) ⊎ ((trail_at + cursors_at ≤ i) × (i ≡ trail_at + cursors_at + h → ⊥))))

-- one that a leaving literal does not change: a cell, a literal, a base, a cursor, a code
abbrev pub Still : ℕ → Type 0
Still i =
    (i < trail_at) ⊎ (((trail_at < i) × (i < trail_at + entries_at))
    ⊎ (((trail_at + bases_at ≤ i) × (i < trail_at + values_at)) ⊎ (trail_at + cursors_at ≤ i)))

-- l has joined at the position that was the count
pub record Pushed (n l : ℕ) (w w' : List ℕ) : Type 0 where
  pub ready : Ready n w'
  pub size : length w' ≡ length w
  pub list : g_of w' ≡ l ∷ g_of w
  pub count : tail w' 0 ≡ suc (tail w 0)
  pub top : lit_at (tail w') (tail w 0) ≡ l
  pub cursor : cursor_at (tail w') (tail w 0) ≡ cursor_of w
  pub kept : (i : ℕ) → Kept (tail w 0) i → get_or w' i 0 ≡ get_or w i 0

-- the newest literal has left
pub record Popped (n : ℕ) (w w' : List ℕ) : Type 0 where
  pub ready : Ready n w'
  pub size : length w' ≡ length w
  pub count : tail w 0 ≡ suc (tail w' 0)
  pub kept : (i : ℕ) → Still i → get_or w' i 0 ≡ get_or w i 0

-- so many numbers from a place on are 0, and the others are as they were
pub record Wiped (w : List ℕ) (from many : ℕ) (w' : List ℕ) : Type 0 where
  pub size : length w' ≡ length w
  pub zero : (i : ℕ) → from ≤ i → i < from + many → get_or w' i 0 ≡ 0
  pub kept : (i : ℕ) → (from ≤ i → i < from + many → ⊥) → get_or w' i 0 ≡ get_or w i 0

-- nothing is held, and so many clauses stand before those of the first literal
pub record Blank (n more : ℕ) (w : List ℕ) : Type 0 where
  pub ready : Ready n w
  pub count : tail w 0 ≡ 0
  pub base : base_of (tail w) 0 ≡ more
