-- How many subsets there are, and questions that are refused all at once. Assumes nothing.
use Rattle.std.specs.Prelude.{◌≡◌, List, cond, ℕ, zero, suc, ◌+◌, ◌-◌, ◌<◌, ltb, length, get_or}
use Rattle.scope.specs.Table.{list_from}
use Rattle.calculus.specs.Expansion.{neg}
use Rattle.wishing.specs.Walk.{Stage as Way, asking, stopped}

-- how many subsets of s of n wishes there are
unfoldable pub choose : ℕ → ℕ → ℕ
choose n zero = 1
choose zero (suc s) = 0
choose (suc n) (suc s) = choose n s + choose n (suc s)

-- .. of up to 15 wishes: a row for each number of wishes
unfoldable pub counts : List (List ℕ)
counts = list_from (λ n. list_from (choose n) 0 16) 0 16

-- c questions of a size that are all refused: each counts, and where the allowance does not last for them all, the walk stops at it
abbrev pub refusals : List ℕ → ℕ → ℕ → ℕ → ℕ → Way
refusals first c size put left =
    cond (ltb left c) (stopped (record { standing = first; k = 0; u = size; questions = put + left })) (asking (put + c) (left - c))

-- the negation of l is in a list
abbrev pub Opposed : List ℕ → ℕ → Type 0
Opposed q l = (k : ℕ) × (k < length q) × (get_or q k 0 ≡ neg l)
