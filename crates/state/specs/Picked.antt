-- The unit that is the next move as one number: 65,536 × its position, and what is kept of that; or `no_unit`. Assumes nothing.
use Rattle.std.specs.Prelude.{◌≡◌, List, ℕ, ◌/◌, ◌%◌, ◌≤◌}
use Rattle.index.specs.Index.{most_nodes}
use Rattle.units.specs.Units.{Empty, First}
use Rattle.state.specs.Work.{tail, code_at, conflict_of, waiting_of}

abbrev pub no_unit : ℕ
no_unit = 4294967295

-- u is the unit at the first position of the set, where every goal is true and there is no conflict
pub record Picked (w m : List ℕ) (u : ℕ) : Type 0 where
  pub waiting : waiting_of w ≡ 0
  pub free : most_nodes ≤ conflict_of w
  pub first : First m (u / 65536)
  pub kept : code_at (tail w) (u / 65536) ≡ u % 65536

-- u is that, or `no_unit`
abbrev pub Picks : List ℕ → List ℕ → ℕ → Type 0
Picks w m u = (u ≡ no_unit → ⊥) → Picked w m u

-- the same where every goal is true; and it is `no_unit` only where there is a conflict or no unit
pub record Leads (w m : List ℕ) (u : ℕ) : Type 0 where
  pub idle : waiting_of w ≡ 0
  pub picks : Picks w m u
  pub none : u ≡ no_unit → most_nodes ≤ conflict_of w → Empty m
