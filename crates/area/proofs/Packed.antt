-- Two things in one number: a literal below `notes`, and a flag that is a multiple of it. Assumes nothing.
use mathlib.Core.Path.{◌≡◌}
use Prim.Native.Nat.{ℕ, ◌+◌, ◌%◌, ◌<◌}
use native.Mathlib.Omega.{arith}
use Rattle.area.specs.Area.{notes, flag_of}

-- a literal alone has no flag
pub flag_none : (v : ℕ) → flag_of (v % notes) ≡ 0
flag_none v = omega arith

pub literal_twice : (v : ℕ) → v % notes % notes ≡ v % notes
literal_twice v = omega arith

-- a number below `notes` is a literal alone
module _ (v : ℕ) (b : v < notes) where
  pub bare_literal : v % notes ≡ v
  bare_literal = omega (arith, b)

  pub bare_flag : flag_of v ≡ 0
  bare_flag = omega (arith, b)

-- a flag more, the same literal
module _ (v kind : ℕ) (z : kind % notes ≡ 0) where
  pub flagged_literal : (v + (notes + kind)) % notes ≡ v % notes
  flagged_literal = omega (arith, z)

  pub flagged_flag : flag_of v ≡ 0 → flag_of (v + (notes + kind)) ≡ notes + kind
  flagged_flag f = omega (arith, z, f)
