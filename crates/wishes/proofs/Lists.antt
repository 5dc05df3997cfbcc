-- The two lists: their rows, and how they are gathered in one. Assumes nothing.
use mathlib.Core.Path.{◌≡◌, refl, sym, ap, ◌∙◌}
use mathlib.Core.List.{List, ◌++◌}
use Rattle.std.specs.Prelude.{Result}
use Prim.Native.Nat.{ℕ, ◌+◌, ◌-◌, ◌≤◌}
use native.Mathlib.Omega.{arith}
use lib.ListN.{length, take, length-append}
use lib.Seq.{length-take-le, take-take, take-append_seam}
use Rattle.std.proofs.lemmas.Slice.{take-put_mid}
use borrow.Rule.Slice.PartMut.{put_mid}
use borrow.Author.Tests.{leb-true}
use Rattle.scope.specs.declared.Refusal.{Refusal}
use Rattle.scope.specs.Outcome.{Outcome, answer, refused, fine}
use Rattle.scope.proofs.Tests.{required, then_first, then_next}
use Rattle.calculus.specs.Decide.{list_row}
use Rattle.calculus.proofs.Asked.{list_met}
use Rattle.asking.specs.Within.{Within}
use Rattle.asking.proofs.Answers.{within_other}
use Rattle.wishing.specs.Call.{most_wishes, lists_row}
use Rattle.wishes.specs.Wishes.{Copied, Gathers, WishesAsk}

-- ---- the rows

module _ (goals wishes : List ℕ) where
  pub rows_met : lists_row goals wishes ≡ fine → (length goals ≤ 64) × (length wishes ≤ most_wishes)
  rows_met e =
      ((list_met goals (then_first (list_row goals) _ e)).1, leb-true (length wishes) most_wishes (required _ 66 0 (then_next (list_row goals) _ e)))

-- ---- a copy

pub copied : {from part : List ℕ} (list : List ℕ) (at : ℕ) → at + length from ≤ length list → part ≡ from
    → Copied from list at (put_mid at (at + length from - at) list part)
copied {from} {part} list at room e = rw e (take-put_mid at (at + length from - at) list from (at + length from) refl (omega arith))

-- ---- both lists

module _ (goals wishes : List ℕ) where
  -- the list begins with the goals
  gathered-goals : (list : List ℕ) (r : ℕ) → r ≤ length list → take r list ≡ goals ++ wishes → take (length goals) list ≡ goals
  gathered-goals list r few e =
      let size : r ≡ length goals + length wishes = sym (length-take-le r list few) ∙ ap length e ∙ length-append goals wishes in
      sym (take-take (length goals) r list (omega arith)) ∙ ap (take (length goals)) e ∙ take-append_seam goals wishes

  pub asked-both : (t : List ℕ) (points area : ℕ) (list x : List ℕ) (r : ℕ) (c : Result ℕ Refusal) → Gathers goals wishes list r
      → Within (lists_row goals wishes) t (take (r - 0) list) 1024 points area x c → WishesAsk t goals wishes points area list x c
  asked-both t points area list x r c g a = record { asks = go (lists_row goals wishes) refl; gathered = λ e. gathered-goals list r g.few (g.both e) }
    where
      whole : r - 0 ≡ r
      whole = omega arith

      go : (o : Outcome (Unit {0})) → lists_row goals wishes ≡ o → Within (lists_row goals wishes) t (goals ++ wishes) 1024 points area x c
      go (answer tt) e = rw (whole, g.both e) at a
      go (refused number place) e = within_other (lists_row goals wishes) t (take (r - 0) list) (goals ++ wishes) 1024 points area e a
