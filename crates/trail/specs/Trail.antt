-- The trail of a work area: 0 how many literals are held true, 1 + q the literal at position q, in the order they joined, 2017 + m the
-- entry of node m. 'G is the list of literals held true'. Assumes nothing.
use Rattle.std.specs.Prelude.{◌≡◌, cond, List, [], ◌∷◌, ℕ, zero, suc, ◌+◌, ◌-◌, ◌*◌, ◌/◌, ◌%◌, ◌<◌, ◌≤◌, eqb}
use Rattle.calculus.specs.Order.{Value, holds, fails, undecided, value_of}
use Rattle.calculus.specs.Model.{Good}

-- of a trail r: the literal at position q, and the entry of node m
abbrev pub lit_at : (ℕ → ℕ) → ℕ → ℕ
lit_at r q = r (1 + q)

abbrev pub entry_of : (ℕ → ℕ) → ℕ → ℕ
entry_of r m = r (2017 + m)

-- the literals at the first positions, the newest first
unfoldable pub trail : ℕ → (ℕ → ℕ) → List ℕ
trail zero r = []
trail (suc q) r = lit_at r q ∷ trail q r

-- the literals held true
abbrev pub held : (ℕ → ℕ) → List ℕ
held r = trail (r 0) r

-- a literal's value by its node's entry, 2 × position + sign + 1 or 0, and its sign
abbrev pub side : ℕ → ℕ → Value
side e s = cond (eqb e 0) undecided (cond (eqb ((e - 1) % 2) s) holds fails)

-- a value as a number
abbrev pub value_code : Value → ℕ
value_code undecided = 0
value_code holds = 1
value_code fails = 2

-- the entries give the values of the literals of n nodes
abbrev pub Vals : ℕ → (ℕ → ℕ) → Type 0
Vals n r = (l : ℕ) → l < 2 * n → side (entry_of r (l / 2)) (l % 2) ≡ value_of (held r) l

-- the literals and the entries agree
pub record Trail (n : ℕ) (r : ℕ → ℕ) : Type 0 where
  pub good : Good n (held r)
  pub vals : Vals n r
  pub place : (q : ℕ) → q < r 0 → entry_of r (lit_at r q / 2) ≡ 2 * q + lit_at r q % 2 + 1
  pub low : (m : ℕ) → m < n → entry_of r m ≤ 2 * r 0
  pub from : (m : ℕ) → m < n → (entry_of r m ≡ 0 → ⊥) → lit_at r ((entry_of r m - 1) / 2) / 2 ≡ m
