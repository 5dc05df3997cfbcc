-- One byte of a block changed: its check fails, and the block's test says so before it looks at anything else. Assumes nothing.
use mathlib.Core.Path.{◌≡◌, sym}
use mathlib.Core.List.{List}
use mathlib.Core.Bool.{Bool, true, false}
use Prim.Native.Nat.{ℕ, ◌<◌}
use native.Mathlib.Omega.{arith}
use native.Mathlib.Decide.{ℕ_discrete, dec_lt}
use lib.ListN.{length, get_or}
use borrow.Author.Tests.{eqb-true, ne_eqb}
use Rattle.scope.specs.declared.Format.{Format}
use Rattle.scope.specs.Outcome.{refused}
use Rattle.scope.specs.Block.{weighted, check_of, check_ok, block_test, word_at}
use Rattle.scope.specs.OneByte.{OneByte}
use Rattle.scope.proofs.Units.{same_multiple, sum_past, sum_before}

module _ (b c : List ℕ) (i : ℕ) (size : length b ≡ 512) (old : (j : ℕ) → get_or b j 0 < 256) (new : (j : ℕ) → get_or c j 0 < 256)
    (o : OneByte b c i) (ok : check_ok b ≡ true) where
  was : check_of b ≡ word_at b 510
  unfolding check_ok
  was = eqb-true (check_of b) (word_at b 510) ok

  -- the check of the changed block is not the word that stands in it: a byte before changes the one, bytes 510 and 511 the other
  unequal : check_of c ≡ word_at c 510 → ⊥
  unfolding check_of
  unequal e = on (dec_lt i 510) (ℕ_discrete i 510)
    where
      on : Dec (i < 510) → Dec (i ≡ 510) → ⊥
      on (yes h) q =
          let low = o.rest 510 (λ z. omega arith) in
          let high = o.rest 511 (λ z. omega arith) in
          o.other (sym (same_multiple i (get_or b i 0) (get_or c i 0) (weighted b 510) (weighted c 510) (old i) (new i)
          (sum_past b c i o 510 h) (omega (arith, was))))
      on (no h) (yes q) =
          let high = o.rest 511 (λ z. omega arith) in
          let sum = sum_before b c i o 510 (omega arith) in
          o.other (rw q (omega (arith, was)))
      on (no h) (no q) =
          let z : i ≡ 511 = omega (arith, o.inside) in
          let low = o.rest 510 (λ z. omega arith) in
          let sum = sum_before b c i o 510 (omega arith) in
          o.other (rw z (omega (arith, was)))

  pub check_fails : check_ok c ≡ false
  unfolding check_ok
  check_fails = ne_eqb (check_of c) (word_at c 510) unequal

  -- the check is the first row of a block, of whatever format: 11, 41
  pub test_refuses : (F : Format) (index : ℕ) (last : Bool) → block_test F c index last ≡ refused F.number index
  unfolding block_test
  test_refuses F index last = rw check_fails
