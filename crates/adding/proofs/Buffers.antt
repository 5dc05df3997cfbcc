-- The used part of a buffer, and the parts of it that are lent and come back. Assumes nothing.
use mathlib.Core.Path.{◌≡◌, ◌∙◌, sym, refl}
use mathlib.Core.List.{List, [], ◌++◌}
use Prim.Native.Nat.{ℕ, ◌+◌, ◌-◌, ◌<◌, ◌≤◌}
use native.Mathlib.Omega.{arith}
use lib.ListN.{length, take, drop, get_or}
use lib.Seq.{length-take-le, drop-drop, get_or-take, get_or-drop}
use borrow.Rule.Slice.PartMut.{mid_of, put_mid}
use borrow.Author.Tests.{ne_eqb}
use Rattle.scope.specs.Outcome.{answer}
use Rattle.scope.specs.Calls.{decode_used, table_count}
use Rattle.adding.specs.Added.{used_count}

-- nothing is used: no nodes; something is: the count of that table
pub none-count : (t : List ℕ) → length t ≡ 0 → used_count t ≡ answer 0
unfolding decode_used
none-count t e = rw e

some-count : (t : List ℕ) → (length t ≡ 0 → ⊥) → used_count t ≡ table_count t
unfolding decode_used table_count
some-count t e = rw (ne_eqb (length t) 0 e)

pub none_used : (buf : List ℕ) (used : ℕ) → used ≡ 0 → used_count (take used buf) ≡ answer 0
none_used buf used e = rw e (none-count [] refl)

pub some_used : (buf : List ℕ) (used : ℕ) → used ≤ length buf → (used ≡ 0 → ⊥) → used_count (take used buf) ≡ table_count (take used buf)
some_used buf used h e = some-count (take used buf) (λ z. e (sym (length-take-le used buf h) ∙ z))

-- the n elements from a up to e were lent, and came back as f of them
pub mid_back : (f : List ℕ → List ℕ) (xs : List ℕ) (a e n : ℕ) {ys : List ℕ} → a + n ≡ e → ys ≡ f (mid_of a (e - a) xs)
    → put_mid a (e - a) xs ys ≡ take a xs ++ (f (take n (drop a xs)) ++ drop e xs)
mid_back f xs a e n s p =
    let k : e - a ≡ n = omega arith in
    simp (p, k, drop-drop, s)

-- an element of a part that starts at a
pub part_at : (xs : List ℕ) (a k i : ℕ) → i < k → get_or (mid_of a k xs) i 0 ≡ get_or xs (a + i) 0
part_at xs a k i h = get_or-take k (drop a xs) i 0 h ∙ get_or-drop a xs i 0
