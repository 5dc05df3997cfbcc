-- What is copied: the goals into the list, and the indices kept to the front. Assumes nothing.
use mathlib.Core.Path.{◌≡◌, ap, ◌∙◌}
use mathlib.Core.List.{List, ◌++◌}
use Prim.Native.Nat.{ℕ, ◌+◌, ◌-◌}
use native.Mathlib.Omega.{arith}
use lib.ListN.{length, take, drop, replicate, length-drop}
use lib.Seq.{take_all}
use Rattle.std.proofs.lemmas.List.{drop-replicate}
use Rattle.std.proofs.lemmas.Slice.{between-put_mid}
use borrow.Rule.Slice.PartMut.{put_mid}
use Rattle.calculus.specs.Model.{most_goals}
use Rattle.clashing.specs.Walks.{list_size, Held}
use Rattle.clashing.specs.Clashes.{counted_kept}
use Rattle.clashing.specs.declared.Clashed.{Clashed}

-- ---- copy

pub copied : {goals part : List ℕ} (list : List ℕ) → length list ≡ list_size → part ≡ goals
    → take (length goals) (drop most_goals (put_mid most_goals (most_goals + length goals - most_goals) list part)) ≡ goals
copied {goals} list size e =
    let k : ℕ = most_goals + length goals - most_goals in
    let z : length goals ≡ k = omega arith in
    rw e
    (ap (λ (m : ℕ). take m (drop most_goals (put_mid most_goals k list goals))) z
    ∙ between-put_mid most_goals k list goals (most_goals + length goals) (omega (arith, size)) z)

-- ---- give

pub given : {held front : List ℕ} {first : ℕ} → Held held first → front ≡ take (most_goals - first) (drop first held)
    → record { count = most_goals - first; kept = front ++ drop (most_goals - first) (replicate most_goals 0) } ≡ counted_kept (drop first held)
given {held} {front} {first} h e =
    let z : length (drop first held) ≡ most_goals - first = length-drop first held ∙ ap (◌- first) h.size in
    let f : front ≡ drop first held = e ∙ take_all (most_goals - first) (drop first held) (omega (arith, z)) in
    rw (f, z) (ap (λ (l : List ℕ). clashed (drop first held ++ l)) (drop-replicate (most_goals - first) most_goals 0))
  where
    clashed : List ℕ → Clashed
    clashed l = record { count = most_goals - first; kept = l }
