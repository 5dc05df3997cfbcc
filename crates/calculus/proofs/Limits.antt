-- A count that stops at its limit. Assumes nothing.
use mathlib.Core.Path.{◌≡◌, sym, ap, ◌∙◌}
use Prim.Native.Nat.{ℕ, ◌+◌, ◌<◌, ◌≤◌}
use native.Mathlib.Omega.{arith}
use native.Mathlib.Decide.{dec_lt}
use borrow.Author.Tests.{lt-ltb, le-ltb}
use Rattle.calculus.specs.Count.{at_most}

module _ (cap s : ℕ) where
  pub most_under : s < cap → s ≡ at_most cap s
  most_under h = simp (lt-ltb s cap h)

  pub most_over : cap ≤ s → cap ≡ at_most cap s
  most_over h = simp (le-ltb s cap h)

pub most_low : (cap s : ℕ) → at_most cap s ≤ cap
most_low cap s = go (dec_lt s cap)
  where
    go : Dec (s < cap) → at_most cap s ≤ cap
    go (yes h) = omega (arith, most_under cap s h)
    go (no h) = omega (arith, most_over cap s (omega (arith, h)))

-- a limit that was met is met later
pub most_more : (cap a b : ℕ) → at_most cap (at_most cap a + b) ≡ at_most cap (a + b)
most_more cap a b = go (dec_lt a cap)
  where
    go : Dec (a < cap) → at_most cap (at_most cap a + b) ≡ at_most cap (a + b)
    go (yes h) = ap (λ (m : ℕ). at_most cap (m + b)) (sym (most_under cap a h))
    go (no h) =
        let e = most_over cap a (omega (arith, h)) in
        sym (most_over cap (at_most cap a + b) (omega (arith, e))) ∙ most_over cap (a + b) (omega (arith, h))

-- what is less stays so
pub most_less : (cap a b : ℕ) → a ≤ b → at_most cap a ≤ at_most cap b
most_less cap a b h = go (dec_lt b cap)
  where
    go : Dec (b < cap) → at_most cap a ≤ at_most cap b
    go (yes k) = omega (arith, most_under cap a (omega arith), most_under cap b k)
    go (no k) = omega (arith, most_low cap a, most_over cap b (omega (arith, k)))
