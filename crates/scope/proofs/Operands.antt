-- Laws of a node's operands, by its kind. Assumes nothing.
use mathlib.Core.Path.{◌≡◌, refl}
use mathlib.Core.List.{[], ◌∷◌}
use mathlib.Core.Bool.{Bool, true, false, cond}
use Prim.Native.Nat.{ℕ, zero, suc, ◌<◌, ◌≤◌}
use native.Mathlib.Omega.{arith}
use lib.Dec.{ltb}
use lib.ListN.{length, get_or, take}
use lib.Seq.{get_or-take}
use borrow.Author.Tests.{lt-ltb, le-ltb}
use Rattle.scope.specs.declared.Node.{Node}
use Rattle.scope.specs.Table.{arity, operands}

module _ (kind : ℕ) where
  pub arity-none : kind < 3 → arity kind ≡ 0
  unfolding arity
  arity-none h = simp (lt-ltb kind 3 h)

  pub arity-two : 2 < kind → kind < 7 → arity kind ≡ 2
  unfolding arity
  arity-two h k = simp (le-ltb kind 3 h, lt-ltb kind 7 k)

  pub arity-three : 7 ≤ kind → arity kind ≡ 3
  unfolding arity
  arity-three h = simp (le-ltb kind 3 (omega arith), le-ltb kind 7 h)

  pub arity_pair : kind < 7 → arity kind ≤ 2
  unfolding arity
  arity_pair h = rw (lt-ltb kind 7 h) (go (ltb kind 3))
    where
      go : (p : Bool) → cond p 0 2 ≤ 2
      go true = omega arith
      go false = omega arith

  pub arity_most : arity kind ≤ 3
  unfolding arity
  arity_most = go (ltb kind 3) (ltb kind 7)
    where
      go : (p q : Bool) → cond p 0 (cond q 2 3) ≤ 3
      go true q = omega arith
      go false true = omega arith
      go false false = omega arith

module _ (x : Node) where
  pub operands-none : x.kind < 3 → operands x ≡ []
  unfolding operands
  operands-none h = rw (arity-none x.kind h)

  pub operands-two : 2 < x.kind → x.kind < 7 → operands x ≡ x.a ∷ x.b ∷ []
  unfolding operands
  operands-two h k = rw (arity-two x.kind h k)

  pub operands-three : 7 ≤ x.kind → operands x ≡ x.a ∷ x.b ∷ x.c ∷ []
  unfolding operands
  operands-three h = rw (arity-three x.kind h)

  -- an operation has two, and what comes after them
  pub operands-some : 2 < x.kind → operands x ≡ x.a ∷ x.b ∷ cond (ltb x.kind 7) [] (x.c ∷ [])
  unfolding operands arity
  operands-some h = simp (le-ltb x.kind 3 h) (go (ltb x.kind 7))
    where
      go : (p : Bool) → take (cond p 2 3) (x.a ∷ x.b ∷ x.c ∷ []) ≡ x.a ∷ x.b ∷ cond p [] (x.c ∷ [])
      go true = refl
      go false = refl

  -- as many as the kind has
  pub operands-length : length (operands x) ≡ arity x.kind
  unfolding operands
  operands-length = go (arity x.kind) (arity_most x.kind)
    where
      go : (k : ℕ) → k ≤ 3 → length (take k (x.a ∷ x.b ∷ x.c ∷ [])) ≡ k
      go zero h = refl
      go (suc zero) h = refl
      go (suc (suc zero)) h = refl
      go (suc (suc (suc zero))) h = refl
      go (suc (suc (suc (suc k)))) h = absurd (omega arith)

  -- and they are the fields in order
  pub operand_at : (i d : ℕ) → i < arity x.kind → get_or (operands x) i d ≡ get_or (x.a ∷ x.b ∷ x.c ∷ []) i d
  unfolding operands
  operand_at i d h = get_or-take (arity x.kind) (x.a ∷ x.b ∷ x.c ∷ []) i d h
