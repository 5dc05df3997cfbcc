-- An area, a set and a stack of question i are lent, and come back. Assumes nothing.
use mathlib.Core.Path.{◌≡◌, ap, ◌∙◌}
use mathlib.Core.List.{List}
use Prim.Native.Nat.{ℕ, ◌+◌, ◌-◌, ◌*◌, ◌<◌, ◌≤◌}
use native.Mathlib.Omega.{arith}
use lib.ListN.{length}
use borrow.Rule.Slice.PartMut.{mid_of, put_mid}
use Rattle.scope.specs.declared.Node.{Node}
use Rattle.units.specs.Units.{words}
use Rattle.turns.specs.Turn.{Search}
use Rattle.replaying.specs.Standing.{stack_size, Made}
use Rattle.roomareas.specs.Areas.{area_size}
use Rattle.roomareas.specs.Changes.{Roomy, Lendable, MadeAt}
use Rattle.roomareas.proofs.Parts.{part_length, lent, part_back, beside_back}

-- what is lent, and what the whole is when it is back
abbrev pub lent_of : ℕ → ℕ → List ℕ → List ℕ
lent_of size i xs = mid_of (size * i) (size * i + size - size * i) xs

abbrev pub back_of : ℕ → ℕ → List ℕ → List ℕ → List ℕ
back_of size i xs ys = put_mid (size * i) (size * i + size - size * i) xs ys

pub lent_length : (size i : ℕ) (xs : List ℕ) → size * i + size ≤ length xs → length (lent_of size i xs) ≡ size
lent_length size i xs h = ap length (lent size i xs) ∙ part_length size i xs h

-- with room for q questions, those of each can be lent, as long as nothing gets shorter
pub lendable : {q : ℕ} {w₀ m₀ o₀ v : List ℕ} (i : ℕ) (w m o : List ℕ) → Roomy q w₀ m₀ o₀ v → i < q → length w ≡ length w₀ → length m ≡ length m₀
    → length o ≡ length o₀ → Lendable i w m o
lendable i w m o r h a b c = record {
  few = omega (arith, r.few);
  work = omega (arith, r.work);
  masks = omega (arith, r.masks);
  stacks = omega (arith, r.stacks);
}

module _ {i : ℕ} {w m o : List ℕ} (h : Lendable i w m o) where
  pub lent_work : length (lent_of area_size i w) ≡ area_size
  lent_work = lent_length area_size i w (omega arith)

  pub lent_masks : length (lent_of words i m) ≡ words
  lent_masks = lent_length words i m (omega arith)

  pub lent_stack : length (lent_of stack_size i o) ≡ stack_size
  lent_stack = lent_length stack_size i o (omega arith)

  module _ {ys ms os : List ℕ} (a : length ys ≡ length (lent_of area_size i w)) (b : length ms ≡ length (lent_of words i m))
      (c : length os ≡ length (lent_of stack_size i o)) where
    -- the search is there at s
    pub made_at : {t : ℕ → Node} {n : ℕ} {goals : List ℕ} {s : Search} {r : ℕ} → Made t n goals ys ms os s r
        → MadeAt t n goals i w m o (back_of area_size i w ys) (back_of words i m ms) (back_of stack_size i o os) s r
    made_at x = record {
      made = rw (part_back area_size i w ys (omega arith) (a ∙ lent_work), part_back words i m ms (omega arith) (b ∙ lent_masks), part_back stack_size i o os (omega arith) (c ∙ lent_stack)) x;
      work = beside_back area_size i w ys (omega arith) (a ∙ lent_work);
      masks = beside_back words i m ms (omega arith) (b ∙ lent_masks);
      stacks = beside_back stack_size i o os (omega arith) (c ∙ lent_stack);
    }
