-- Where a node stands in a list, and valid lists that are one node longer, or shorter. Assumes nothing.
use mathlib.Core.Path.{◌≡◌, ◌∙◌, ap, refl}
use mathlib.Core.List.{List, [], ◌∷◌, ◌++◌}
use mathlib.Core.Bool.{false}
use Prim.Native.Nat.{ℕ, zero, suc, ◌+◌, ◌<◌, ◌≤◌}
use native.Mathlib.Omega.{arith}
use lib.ListN.{length, get_or, length-append, get_or-append}
use lib.Seq.{get_or-append_seam}
use lib.Dec.{ltb}
use borrow.Author.Tests.{lt-ltb, le-ltb, ltb-true, ltb-false}
use Rattle.scope.specs.declared.Node.{Node}
use Rattle.scope.specs.Outcome.{answer}
use Rattle.scope.specs.Table.{node_bytes, read_record, same_node}
use Rattle.scope.specs.Calls.{no_node, index_of}
use Rattle.codec.specs.Valid.{Valid, with_node, node_given, with_all}
use Rattle.codec.proofs.Rows.{by_test}
use Rattle.codec.proofs.Records.{same_is, same_self}
use Rattle.codec.proofs.Files.{by_last}

-- where a node stands
module _ (x : Node) where
  not_first : (y : Node) (rs : List Node) → length (y ∷ rs) ≤ index_of x (y ∷ rs) → (same_node y x ≡ false) × (length rs ≤ index_of x rs)
  unfolding index_of
  not_first y rs h =
      by_test (same_node y x)
      (λ e. absurd (let none : suc (length rs) ≤ 0 = rw e at h in omega arith))
      (λ e. let more : suc (length rs) ≤ suc (index_of x rs) = rw e at h in (e, omega arith))

  -- a node that was not found differs from each
  pub not_found : (rs : List Node) (m : ℕ) → length rs ≤ index_of x rs → m < length rs → same_node (get_or rs m no_node) x ≡ false
  not_found [] m h l = absurd (omega arith)
  not_found (y ∷ rs) zero h l = (not_first y rs h).0
  not_found (y ∷ rs) (suc m) h l = not_found rs m (not_first y rs h).1 (omega arith)

  -- .. and the other way
  pub index_none : (rs : List Node) → ((m : ℕ) → m < length rs → same_node (get_or rs m no_node) x ≡ false) → index_of x rs ≡ length rs
  unfolding index_of
  index_none [] h = refl
  index_none (y ∷ rs) h = rw (h 0 (omega arith)) (ap suc (index_none rs (λ m l. h (suc m) (omega arith))))

  -- at the end of a list where it does not stand yet
  pub index_last : (rs : List Node) → length rs ≤ index_of x rs → index_of x (rs ++ x ∷ []) ≡ length rs
  unfolding index_of
  index_last [] h = rw (same_self x)
  index_last (y ∷ rs) h = rw (not_first y rs h).0 (ap suc (index_last rs (not_first y rs h).1))

  -- where it was found, it stands
  pub index_at : (rs : List Node) → index_of x rs < length rs → get_or rs (index_of x rs) no_node ≡ x
  unfolding index_of
  index_at [] h = absurd (omega arith)
  index_at (y ∷ rs) h =
      by_test (same_node y x)
      (λ e. rw e (same_is y x e))
      (λ e. let more : suc (index_of x rs) < suc (length rs) = rw e at h in rw e (index_at rs (omega arith)))

  -- .. also where another one joins behind
  index_front : (rs : List Node) (y : Node) → index_of x rs < length rs → index_of x (rs ++ y ∷ []) ≡ index_of x rs
  unfolding index_of
  index_front [] y h = absurd (omega arith)
  index_front (z ∷ rs) y h =
      by_test (same_node z x)
      (λ e. rw e)
      (λ e. let more : suc (index_of x rs) < suc (length rs) = rw e at h in rw e (ap suc (index_front rs y (omega arith))))

by_found : {P : Type 0} (i n : ℕ) → (i < n → P) → (n ≤ i → P) → P
by_found i n f g = by_test (ltb i n) (λ e. f (ltb-true i n e)) (λ e. g (ltb-false i n e))

-- the nodes after an add: the same, or one more
module _ (rs : List Node) (x : Node) where
  pub with_found : index_of x rs < length rs → with_node rs x ≡ rs
  unfolding with_node
  with_found here = rw (lt-ltb (index_of x rs) (length rs) here)

  pub with_more : length rs ≤ index_of x rs → with_node rs x ≡ rs ++ x ∷ []
  unfolding with_node
  with_more new = rw (le-ltb (index_of x rs) (length rs) new)

  -- the node stands there
  pub with_in : index_of x (with_node rs x) < length (with_node rs x)
  with_in =
      by_found (index_of x rs) (length rs)
      (λ here. rw (with_found here) here)
      (λ new. rw (with_more new, index_last x rs new, length-append) (omega arith))

  -- where a node was found it stays
  pub with_keeps : (y : Node) → index_of y rs < length rs → (index_of y (with_node rs x) ≡ index_of y rs) × (index_of y (with_node rs x) < length (with_node rs x))
  with_keeps y h =
      by_found (index_of x rs) (length rs)
      (λ here. rw (with_found here) (refl, h))
      (λ new. rw (with_more new, index_front y rs x h, length-append) (refl, omega arith))

pub all_keep : (given : List (List ℕ)) (rs : List Node) (y : Node) → index_of y rs < length rs → index_of y (with_all rs given) ≡ index_of y rs
unfolding with_all
all_keep [] rs y h = refl
all_keep (r ∷ given) rs y h =
    let k = with_keeps rs (node_given r) y h in
    all_keep given (with_node rs (node_given r)) y k.1 ∙ k.0

-- valid lists: the last node of a longer one
snoc_last : (rs : List Node) (x : Node) (n : ℕ) → n ≡ length rs → get_or (rs ++ x ∷ []) n no_node ≡ x
snoc_last rs x n e = rw e (get_or-append_seam rs x [] no_node)

module _ (rs : List Node) (x : Node) (held : 0 < length rs → Valid rs) (room : length rs < 2016)
    (reads-x : read_record (node_bytes x) (length rs) ≡ answer x) (new : length rs ≤ index_of x rs) where
  -- one new node more
  pub valid_more : Valid (rs ++ x ∷ [])
  valid_more =
      let size : length (rs ++ x ∷ []) ≡ length rs + 1 = length-append rs (x ∷ []) in
      record {
        some = omega arith;
        few = omega arith;
        each = λ n h.
            by_last n (length rs + 1) (omega arith)
            (λ e. let last : n ≡ length rs = omega arith in rw (snoc_last rs x n last, last) reads-x)
            (λ e. rw (get_or-append rs (x ∷ []) no_node n (omega arith)) ((held (omega arith)).each n (omega arith)));
        once = λ m n l h.
            by_last n (length rs + 1) (omega arith)
            (λ e. rw (snoc_last rs x n (omega arith), get_or-append rs (x ∷ []) no_node m (omega arith)) (not_found x rs m new (omega arith)))
            (λ e. rw (get_or-append rs (x ∷ []) no_node n (omega arith), get_or-append rs (x ∷ []) no_node m (omega arith))
            ((held (omega arith)).once m n l (omega arith)));
      }

module _ (ps qs : List Node) (valid : Valid (ps ++ qs)) where
  -- the nodes before others
  pub valid_front : 0 < length ps → Valid ps
  valid_front some =
      let size : length (ps ++ qs) ≡ length ps + length qs = length-append ps qs in
      let few = valid.few in
      record {
        some = some;
        few = omega arith;
        each = λ n h. rw get_or-append at (valid.each n (omega arith));
        once = λ m n l h.
            rw (get_or-append ps qs no_node n h, get_or-append ps qs no_node m (omega arith)) at (valid.once m n l (omega arith));
      }
