-- What each test of a record's fields says in each of its cases. Assumes nothing.
use mathlib.Core.Path.{◌≡◌, refl}
use mathlib.Core.Bool.{Bool, true, false, cond, not, and-true, and-false}
use Prim.Native.Nat.{ℕ, ◌/◌, ◌<◌, ◌≤◌}
use native.Mathlib.Omega.{arith}
use lib.Dec.{eqb, ltb}
use borrow.Author.Tests.{lt-ltb, le-ltb, ne_eqb}
use Rattle.scope.specs.declared.Node.{Node}
use Rattle.scope.specs.Table.{form_ok, range_ok, order_ok}
use Rattle.scope.proofs.Operands.{operands-none, operands-two, operands-three, operands-some}

pub form_one : (x : Node) (one : ℕ) → (one ≡ 0 → ⊥) → false ≡ form_ok x one
unfolding form_ok
form_one x one p = simp (ne_eqb one 0 p)

module _ (x : Node) {one : ℕ} (p : one ≡ 0) where
  -- kinds 7 and 8: no field must be 0
  pub form_three : 6 < x.kind → ltb x.kind 9 ≡ form_ok x one
  unfolding form_ok
  form_three k = simp (p, ne_eqb x.kind 1 (λ e. omega arith), ne_eqb x.kind 2 (λ e. omega arith), le-ltb x.kind 7 k)

  -- the others: c is 0
  pub form_c : x.kind ≤ 6 → (x.c ≡ 0 → ⊥) → false ≡ form_ok x one
  unfolding form_ok
  form_c k h = simp (p, lt-ltb x.kind 7 (omega arith), ne_eqb x.c 0 h, and-false) (go (eqb x.kind 1) (eqb x.kind 2))
    where
      go : (s t : Bool) → false ≡ cond s false (cond t false false)
      go true t = refl
      go false true = refl
      go false false = refl

  module _ (z : x.c ≡ 0) where
    -- kinds 3 to 6: nothing else
    pub form-two : 2 < x.kind → x.kind ≤ 6 → true ≡ form_ok x one
    unfolding form_ok
    form-two l k =
        simp (p, z, ne_eqb x.kind 1 (λ e. omega arith), ne_eqb x.kind 2 (λ e. omega arith), lt-ltb x.kind 7 (omega arith), lt-ltb 2 x.kind l)

    -- kinds 1 and 2: b is 0, and there is no kind 0
    pub form-b : x.kind ≤ 2 → (x.b ≡ 0 → ⊥) → false ≡ form_ok x one
    unfolding form_ok
    form-b k h =
        simp (p, z, ne_eqb x.b 0 h, lt-ltb x.kind 7 (omega arith), le-ltb 2 x.kind k, and-false) (go (eqb x.kind 1) (eqb x.kind 2))
      where
        go : (s t : Bool) → false ≡ cond s false (cond t false false)
        go true t = refl
        go false true = refl
        go false false = refl

    module _ (y : x.b ≡ 0) where
      pub form-atom : x.kind ≡ 2 → true ≡ form_ok x one
      unfolding form_ok
      form-atom k = simp (p, y, z, k)

      -- kind 1: a is 0
      pub form-a : x.kind ≤ 2 → (x.kind ≡ 2 → ⊥) → (x.a ≡ 0 → ⊥) → false ≡ form_ok x one
      unfolding form_ok
      form-a k t h =
          simp (p, y, z, ne_eqb x.kind 2 t, ne_eqb x.a 0 h, lt-ltb x.kind 7 (omega arith), le-ltb 2 x.kind k) (go (eqb x.kind 1))
        where
          go : (s : Bool) → false ≡ cond s false false
          go true = refl
          go false = refl

      pub form-true : x.kind ≤ 2 → (x.kind ≡ 2 → ⊥) → x.a ≡ 0 → eqb x.kind 1 ≡ form_ok x one
      unfolding form_ok
      form-true k t h = simp (p, y, z, h, ne_eqb x.kind 2 t, lt-ltb x.kind 7 (omega arith), le-ltb 2 x.kind k) (go (eqb x.kind 1))
        where
          go : (s : Bool) → s ≡ cond s true false
          go true = refl
          go false = refl

module _ (x : Node) (n : ℕ) where
  -- kind 1 has no operands
  pub range_true : x.kind < 2 → true ≡ range_ok x n
  unfolding range_ok
  range_true k = simp (ne_eqb x.kind 2 (λ e. omega arith), operands-none x (omega arith))

  pub range_atom : x.kind ≡ 2 → ltb x.a 1024 ≡ range_ok x n
  unfolding range_ok
  range_atom k = simp k

  -- the others have two, and 7 and 8 three
  module _ (k : 2 ≤ x.kind) (t : x.kind ≡ 2 → ⊥) where
    pub range-a : n ≤ x.a / 2 → false ≡ range_ok x n
    unfolding range_ok
    range-a h = simp (ne_eqb x.kind 2 t, operands-some x (omega arith), le-ltb (x.a / 2) n h)

    module _ (a : x.a / 2 < n) where
      pub range_b : n ≤ x.b / 2 → false ≡ range_ok x n
      unfolding range_ok
      range_b h = simp (ne_eqb x.kind 2 t, operands-some x (omega arith), lt-ltb (x.a / 2) n a, le-ltb (x.b / 2) n h)

      module _ (b : x.b / 2 < n) where
        pub range-two : x.kind < 7 → true ≡ range_ok x n
        unfolding range_ok
        range-two h =
            simp (ne_eqb x.kind 2 t, operands-some x (omega arith), lt-ltb (x.a / 2) n a, lt-ltb (x.b / 2) n b, lt-ltb x.kind 7 h)

        pub range-c : 7 ≤ x.kind → ltb (x.c / 2) n ≡ range_ok x n
        unfolding range_ok
        range-c h =
            simp (ne_eqb x.kind 2 t, operands-some x (omega arith), lt-ltb (x.a / 2) n a, lt-ltb (x.b / 2) n b, le-ltb x.kind 7 h, and-true)

module _ (x : Node) where
  -- kinds 1 and 2 have no operands
  pub order_leaf : x.kind < 3 → true ≡ order_ok x
  unfolding order_ok
  order_leaf k = simp (ne_eqb x.kind 5 (λ e. omega arith), operands-none x k)

  pub order_imp : x.kind ≡ 5 → not (eqb (x.a / 2) (x.b / 2)) ≡ order_ok x
  unfolding order_ok
  order_imp k = simp k

  module _ (k : 3 ≤ x.kind) (t : x.kind ≡ 5 → ⊥) where
    pub order-two : x.kind < 7 → ltb (x.a / 2) (x.b / 2) ≡ order_ok x
    unfolding order_ok
    order-two h = simp (ne_eqb x.kind 5 t, operands-two x k h, and-true)

    pub order-ab : 7 ≤ x.kind → x.b / 2 ≤ x.a / 2 → false ≡ order_ok x
    unfolding order_ok
    order-ab h a = simp (ne_eqb x.kind 5 t, operands-three x h, le-ltb (x.a / 2) (x.b / 2) a)

    pub order-bc : 7 ≤ x.kind → x.a / 2 < x.b / 2 → ltb (x.b / 2) (x.c / 2) ≡ order_ok x
    unfolding order_ok
    order-bc h a = simp (ne_eqb x.kind 5 t, operands-three x h, lt-ltb (x.a / 2) (x.b / 2) a, and-true)
