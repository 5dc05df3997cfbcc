-- Laws of a block's heading: what makes it wrong, what is left to test, and the room that it leaves.
-- Assumes nothing.
use mathlib.Core.Path.{◌≡◌}
use mathlib.Core.List.{List}
use mathlib.Core.Bool.{Bool, true, false, ◌||◌, and-false}
use Prim.Native.Nat.{ℕ, ◌*◌, ◌<◌, ◌≤◌}
use native.Mathlib.Nat.{le_refl, le_trans, mul-le-mul}
use native.Mathlib.Omega.{arith}
use lib.Dec.{eqb, ltb}
use lib.ListN.{get_or}
use borrow.Author.Tests.{leb-true, lt-ltb, le-ltb, le-leb, lt-leb, eq-eqb, ne_eqb}
use Rattle.scope.specs.declared.Format.{Format}
use Rattle.scope.specs.Block.{word_at, head_ok}
use Rattle.scope.proofs.Tests.{and_left, and_right}
use Rattle.block.specs.Format.{Fitting}

module _ (F : Format) (b : List ℕ) (index : ℕ) (last : Bool) where
  -- one part that is wrong is enough, whatever the others say
  pub bad_letter : (get_or b 0 0 ≡ F.letter → ⊥) → head_ok F b index last ≡ false
  unfolding head_ok
  bad_letter h = simp (ne_eqb (get_or b 0 0) F.letter h)

  pub bad_index : (word_at b 2 ≡ index → ⊥) → head_ok F b index last ≡ false
  unfolding head_ok
  bad_index h = simp (ne_eqb (word_at b 2) index h, and-false)

  pub no_record : get_or b 1 0 ≡ 0 → head_ok F b index last ≡ false
  unfolding head_ok
  no_record h = simp (le-ltb 0 (get_or b 1 0) (omega arith), and-false)

  pub too_many : F.capacity < get_or b 1 0 → head_ok F b index last ≡ false
  unfolding head_ok
  too_many h = simp (lt-leb (get_or b 1 0) F.capacity h, and-false)

  -- letter, index and count are right: only the last block may be short
  pub full_or_last : {t : Bool} → get_or b 0 0 ≡ F.letter → word_at b 2 ≡ index → 0 < get_or b 1 0 → get_or b 1 0 ≤ F.capacity → last ≡ t
      → head_ok F b index last ≡ (t || eqb (get_or b 1 0) F.capacity)
  unfolding head_ok
  full_or_last l i n m e =
      simp (
        eq-eqb (get_or b 0 0) F.letter l,
        eq-eqb (word_at b 2) index i,
        lt-ltb 0 (get_or b 1 0) n,
        le-leb (get_or b 1 0) F.capacity m,
        e,
      )

  -- a right heading states no more records than a block can hold
  pub few-records : head_ok F b index last ≡ true → get_or b 1 0 ≤ F.capacity
  unfolding head_ok
  few-records h =
      let letter = and_right (eqb (get_or b 0 0) F.letter) _ h in
      let place = and_right (eqb (word_at b 2) index) _ letter in
      leb-true (get_or b 1 0) F.capacity (and_left _ _ (and_right (ltb 0 (get_or b 1 0)) _ place))

  -- .. so they fit
  pub records_fit : Fitting F → head_ok F b index last ≡ true → F.width * get_or b 1 0 ≤ 506
  records_fit fits h = le_trans (mul-le-mul (le_refl F.width) (few-records h)) fits.room
