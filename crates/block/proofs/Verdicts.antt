-- Laws of a block's tests: which refusal is the first. Assumes nothing.
use mathlib.Core.Path.{◌≡◌}
use mathlib.Core.List.{List}
use mathlib.Core.Bool.{Bool, true, false}
use Prim.Native.Nat.{ℕ, ◌+◌, ◌-◌, ◌*◌}
use native.Mathlib.Omega.{arith}
use lib.ListN.{get_or}
use Rattle.scope.specs.declared.Format.{Format}
use Rattle.scope.specs.Outcome.{refused, fine}
use Rattle.scope.specs.Block.{check_ok, head_ok, zeros, padding_ok, block_test}

-- the padding by its start, as the code tests it
abbrev padding : Format → List ℕ → Bool
padding F b = zeros b (4 + F.width * get_or b 1 0) (510 - (4 + F.width * get_or b 1 0))

padding_from : (F : Format) (b : List ℕ) → padding_ok F b ≡ padding F b
unfolding padding_ok
padding_from F b =
    let n : 506 - F.width * get_or b 1 0 ≡ 510 - (4 + F.width * get_or b 1 0) = omega arith in
    rw n

module _ (F : Format) (b : List ℕ) (index : ℕ) (last : Bool) where
  pub bad_check : check_ok b ≡ false → block_test F b index last ≡ refused F.number index
  unfolding block_test
  bad_check c = simp c

  pub bad_head : check_ok b ≡ true → head_ok F b index last ≡ false → block_test F b index last ≡ refused (F.number + 1) index
  unfolding block_test
  bad_head c h = simp (c, h)

  pub bad_padding : check_ok b ≡ true → head_ok F b index last ≡ true → padding F b ≡ false
      → block_test F b index last ≡ refused (F.number + 2) index
  unfolding block_test
  bad_padding c h p = simp (c, h, padding_from F b, p)

  pub all_right : check_ok b ≡ true → head_ok F b index last ≡ true → padding F b ≡ true → block_test F b index last ≡ fine
  unfolding block_test
  all_right c h p = simp (c, h, padding_from F b, p)
