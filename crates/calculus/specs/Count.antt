-- How many numbers pass a test, and a count that stops. Assumes nothing.
use Rattle.std.specs.Prelude.{Bool, true, false, cond, ℕ, zero, suc, ◌+◌, ltb}

abbrev pub one : Bool → ℕ
one true = 1
one false = 0

-- how many numbers below m pass the test
unfoldable pub tally : (ℕ → Bool) → ℕ → ℕ
tally p zero = 0
tally p (suc m) = one (p m) + tally p m

-- a count that stops at its limit
abbrev pub at_most : ℕ → ℕ → ℕ
at_most cap s = cond (ltb s cap) s cap
