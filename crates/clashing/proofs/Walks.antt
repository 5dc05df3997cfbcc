-- The walk, over any test of lists of indices: a turn of it, and what holds of the list that it ends on. Assumes nothing.
use mathlib.Core.Path.{◌≡◌, refl, sym, ap, ◌∙◌}
use mathlib.Core.List.{List, [], ◌∷◌, ◌++◌}
use mathlib.Core.Bool.{Bool, true, false, cond, false≢true}
use Prim.Native.Nat.{ℕ, zero, suc, ◌<◌, ◌≤◌}
use native.Mathlib.Omega.{arith}
use native.Mathlib.Decide.{dec_le}
use Rattle.calculus.specs.Model.{All}
use Rattle.calculus.proofs.Lists.{all_append, all_left, all_right}
use Rattle.questions.specs.Indices.{Rising, up_to}
use Rattle.questions.proofs.Indices.{rising-from, all_up_to, up_to_all, up_to_below}
use Rattle.clashing.specs.Clash.{walk}
use Rattle.clashing.specs.Walks.{Among, Grows}

-- ---- lists of the same indices and more

-- those kept with the indices before m are among them with more indices in front, and none but those before m and those kept
among_more : (m i : ℕ) (kept : List ℕ) → m ≤ i → Among (kept ++ up_to m []) (up_to i kept)
among_more m i kept h p a =
    let P : ℕ → Type 0 = λ k. p k ≡ true in
    let u = up_to_all P i kept a in
    all_append P kept (up_to m []) u.0 (all_up_to P m [] tt (λ k b. u.1 k (omega arith)))

among_same : (m : ℕ) (kept : List ℕ) → Among (up_to m kept) (kept ++ up_to m [])
among_same m kept p a =
    let P : ℕ → Type 0 = λ k. p k ≡ true in
    all_up_to P m kept (all_left P kept (up_to m []) a) (up_to_all P m [] (all_right P kept (up_to m []) a)).1

-- an index less
pub among-less : (i : ℕ) (is : List ℕ) → Among (up_to i is) (up_to i (i ∷ is))
among-less i is p a =
    let P : ℕ → Type 0 = λ k. p k ≡ true in
    let u = up_to_all P i (i ∷ is) a in
    all_up_to P i is u.0.1 u.1

-- ---- the walk

module _ (test : List ℕ → Bool) where
  -- a turn: what is left of the walk
  pub walk_drops : (i : ℕ) (kept : List ℕ) → test (up_to i kept) ≡ true → walk test (suc i) kept ≡ walk test i kept
  unfolding walk
  walk_drops i kept e = rw e

  pub walk_keeps : (i : ℕ) (kept : List ℕ) → test (up_to i kept) ≡ false → walk test (suc i) kept ≡ walk test i (i ∷ kept)
  unfolding walk
  walk_keeps i kept e = rw e

  pub walk_ends : (kept : List ℕ) → walk test 0 kept ≡ kept
  unfolding walk
  walk_ends kept = refl

  -- where the test holds with the goals before m and with more, the walk comes to m
  walk-over : (i m : ℕ) (kept : List ℕ) → m ≤ i → ((j : ℕ) → m ≤ j → j < i → test (up_to j kept) ≡ true) → walk test i kept ≡ walk test m kept
  walk-over zero m kept h f =
      let z : 0 ≡ m = omega arith in
      ap (λ (k : ℕ). walk test k kept) z
  walk-over (suc i) m kept h f = go (dec_le m i) (λ b. walk-over i m kept b (λ j a c. f j a (omega arith)))
    where
      go : Dec (m ≤ i) → (m ≤ i → walk test i kept ≡ walk test m kept) → walk test (suc i) kept ≡ walk test m kept
      go (yes b) r = walk_drops i kept (f i b (omega arith)) ∙ r b
      go (no b) r =
          let z : suc i ≡ m = omega arith in
          ap (λ (k : ℕ). walk test k kept) z

  -- so it does where the test holds with those, and grows
  module _ (w : ℕ) (grows : Grows w test) (kept : List ℕ) (below : All (λ k. k < w) kept) (m : ℕ) where
    pub walk-passes : (i : ℕ) → m ≤ i → i ≤ w → test (kept ++ up_to m []) ≡ true → walk test i kept ≡ walk test m kept
    walk-passes i h b e =
        walk-over i m kept h
        (λ j a c. grows (kept ++ up_to m []) (up_to j kept) (among_more m j kept a) (up_to_below j w kept (omega arith) below) e)

    -- where it does not hold, it does not hold of the walk's own list
    pub walk-waits : m ≤ w → test (kept ++ up_to m []) ≡ false → test (up_to m kept) ≡ false
    walk-waits h e = go (test (up_to m kept)) refl
      where
        go : (b : Bool) → test (up_to m kept) ≡ b → b ≡ false
        go false q = refl
        go true q =
            let P : ℕ → Type 0 = λ k. k < w in
            absurd (false≢true (sym e
            ∙ grows (up_to m kept) (kept ++ up_to m []) (among_same m kept) (all_append P kept (up_to m []) below (all_up_to P m [] tt (λ k b. omega arith))) q))

  -- tests that agree on indices below w walk alike
  pub walk_same : (other : List ℕ → Bool) (w : ℕ) → ((is : List ℕ) → All (λ k. k < w) is → test is ≡ other is) → (i : ℕ) (kept : List ℕ) → i ≤ w → All (λ k. k < w) kept
      → walk test i kept ≡ walk other i kept
  unfolding walk
  walk_same other w same zero kept h a = refl
  walk_same other w same (suc i) kept h a =
      rw (same (up_to i kept) (up_to_below i w kept (omega arith) a), walk_same other w same i kept (omega arith) a, walk_same other w same i (i ∷ kept) (omega arith) (h, a))

  -- 'in rising order'
  pub walk_rises : (w i : ℕ) (kept : List ℕ) → i ≤ w → Rising i w kept → Rising 0 w (walk test i kept)
  unfolding walk
  walk_rises w zero kept h r = r
  walk_rises w (suc i) kept h r =
      go (test (up_to i kept)) (walk_rises w i kept (omega arith) (rising-from i (suc i) w kept (omega arith) r)) (walk_rises w i (i ∷ kept) (omega arith) (omega arith, (h, r)))
    where
      go : (b : Bool) → Rising 0 w (walk test i kept) → Rising 0 w (walk test i (i ∷ kept)) → Rising 0 w (cond b (walk test i kept) (walk test i (i ∷ kept)))
      go true x y = x
      go false x y = y

  -- where the test holds at the start, it holds at the end
  pub walk-clashes : (i : ℕ) (kept : List ℕ) → test (up_to i kept) ≡ true → test (walk test i kept) ≡ true
  unfolding walk up_to
  walk-clashes zero kept e = e
  walk-clashes (suc i) kept e = go (test (up_to i kept)) refl (walk-clashes i kept) (walk-clashes i (i ∷ kept) e)
    where
      go : (b : Bool) → test (up_to i kept) ≡ b → (test (up_to i kept) ≡ true → test (walk test i kept) ≡ true) → test (walk test i (i ∷ kept)) ≡ true
          → test (cond b (walk test i kept) (walk test i (i ∷ kept))) ≡ true
      go true z x y = x z
      go false z x y = y

  -- each of those kept is needed: without it, and with all before i, the test fails
  abbrev pub Needed : ℕ → List ℕ → Type 0
  Needed i kept = (a b : List ℕ) (j : ℕ) → kept ≡ a ++ j ∷ b → test (up_to i (a ++ b)) ≡ false

  needed_more : (i : ℕ) (kept : List ℕ) → test (up_to i kept) ≡ false → Needed (suc i) kept → Needed i (i ∷ kept)
  unfolding up_to
  needed_more i kept z f [] b j e =
      let s : kept ≡ b = cc in
      rw s at z
  needed_more i kept z f (x ∷ a) b j e =
      let s : kept ≡ a ++ j ∷ b = cc in
      let t : x ≡ i = cc in
      rw t (f a b j s)

  -- where a test that fails still fails with an index less, each of those that the walk ends on is needed
  module _ (fewer : (i : ℕ) (is : List ℕ) → test (up_to i (i ∷ is)) ≡ false → test (up_to i is) ≡ false) where
    pub walk-needed : (i : ℕ) (kept : List ℕ) → Needed i kept → Needed 0 (walk test i kept)
    unfolding walk up_to
    walk-needed zero kept f = f
    walk-needed (suc i) kept f =
        go (test (up_to i kept)) refl (walk-needed i kept (λ a b j e. fewer i (a ++ b) (f a b j e))) (walk-needed i (i ∷ kept))
      where
        go : (b : Bool) → test (up_to i kept) ≡ b → Needed 0 (walk test i kept) → (Needed i (i ∷ kept) → Needed 0 (walk test i (i ∷ kept)))
            → Needed 0 (cond b (walk test i kept) (walk test i (i ∷ kept)))
        go true z x y = x
        go false z x y = y (needed_more i kept z f)
