-- Laws of the parts of a list, one for each question: a part that is lent comes back in its place, and no other changes. Assumes nothing.
use mathlib.Core.Path.{◌≡◌, sym, ap, ◌∙◌, subst}
use mathlib.Core.Logic.{◌⊎◌, inl, inr}
use mathlib.Core.List.{List, ◌++◌}
use Prim.Native.Nat.{ℕ, ◌+◌, ◌-◌, ◌*◌, ◌<◌, ◌≤◌}
use native.Mathlib.Nat.{mul-suc, mul-le-mul_left}
use native.Mathlib.Omega.{arith}
use native.Mathlib.Decide.{dec_lt}
use lib.ListN.{length, get_or, set, take, drop, length-take, length-drop, length-set}
use lib.Seq.{length-take-le, get_or-take, get_or-drop, ext_get_or, get_or-set_other, take-set-lt, drop-set-add, take_at, drop_at}
use borrow.Rule.Slice.PartMut.{mid_of, post_of, put_mid, same_len_mid, take_put, drop_put}
use Rattle.roomareas.specs.Areas.{part_of}
use Rattle.roomareas.specs.Changes.{Beside}

over : (a b : ℕ) → a + b - a ≡ b
over a b = omega arith

-- parts do not overlap
apart : (size i j : ℕ) → j < i → size * j + size ≤ size * i
apart size i j h = subst (λ (k : ℕ). k ≤ size * i) (mul-suc size j) (mul-le-mul_left size h)

-- a part that is whole
pub part_length : (size i : ℕ) (xs : List ℕ) → size * i + size ≤ length xs → length (part_of size i xs) ≡ size
part_length size i xs h = length-take-le size (drop (size * i) xs) (simp length-drop (room (size * i) size (length xs) h))
  where
    room : (a b c : ℕ) → a + b ≤ c → b ≤ c - a
    room a b c h = omega arith

-- its elements
pub part_at : (size i : ℕ) (xs : List ℕ) (k : ℕ) → k < size → get_or (part_of size i xs) k 0 ≡ get_or xs (size * i + k) 0
part_at size i xs k h = get_or-take size (drop (size * i) xs) k 0 h ∙ get_or-drop (size * i) xs k 0

-- one part alone is the whole
pub part-whole : (size : ℕ) (xs : List ℕ) → length xs ≡ size → part_of size 0 xs ≡ xs
part-whole size xs e =
    ext_get_or 0 (part_of size 0 xs) xs (full ∙ sym e)
    (λ k h. part_at size 0 xs k (omega (arith, full)) ∙ ap (λ (j : ℕ). get_or xs j 0) (none k))
  where
    none : (k : ℕ) → size * 0 + k ≡ k
    none k = omega arith

    full : length (part_of size 0 xs) ≡ size
    full = part_length size 0 xs (omega arith)

part_same : (size j : ℕ) (xs ys : List ℕ) → length ys ≡ length xs
    → ((k : ℕ) → size * j ≤ k → k < size * j + size → get_or ys k 0 ≡ get_or xs k 0) → part_of size j ys ≡ part_of size j xs
part_same size j xs ys e same =
    ext_get_or 0 (part_of size j ys) (part_of size j xs) (simp (length-take, length-drop, e))
    (λ k h. let b : k < size = short k h in part_at size j ys k b ∙ same (size * j + k) (low (size * j) k) (high (size * j) k size b) ∙ sym (part_at size j xs k b))
  where
    short : (k : ℕ) → k < length (part_of size j ys) → k < size
    short k h = omega (arith, length-take size (drop (size * j) ys))

    low : (a k : ℕ) → a ≤ a + k
    low a k = omega arith

    high : (a k b : ℕ) → k < b → a + k < a + b
    high a k b h = omega arith

-- an element of another part is outside this one
outside : (size i j k : ℕ) → (j ≡ i → ⊥) → size * j ≤ k → k < size * j + size → (k < size * i) ⊎ (size * i + size ≤ k)
outside size i j k d l h = by (dec_lt j i)
  where
    by : Dec (j < i) → (k < size * i) ⊎ (size * i + size ≤ k)
    by (yes c) = inl (less k (size * j + size) (size * i) h (apart size i j c))
      where
        less : (a b c : ℕ) → a < b → b ≤ c → a < c
        less a b c p q = omega arith
    by (no c) = inr (more (size * i + size) (size * j) k (apart size j i (omega arith)) l)
      where
        more : (a b c : ℕ) → a ≤ b → b ≤ c → a ≤ c
        more a b c p q = omega arith

-- ---- a part is lent

module _ (size i : ℕ) (xs : List ℕ) where
  pub lent : mid_of (size * i) (size * i + size - size * i) xs ≡ part_of size i xs
  lent = ap (λ (k : ℕ). take k (drop (size * i) xs)) (over (size * i) size)

  module _ (ys : List ℕ) (fits : size * i + size ≤ length xs) (e : length ys ≡ size) where
    -- as it is when the part is back
    abbrev backed : List ℕ
    backed = put_mid (size * i) (size * i + size - size * i) xs ys

    starts : size * i ≤ length xs
    starts = less (size * i) size (length xs) fits
      where
        less : (a b c : ℕ) → a + b ≤ c → a ≤ c
        less a b c h = omega arith

    pub part_back : part_of size i backed ≡ ys
    part_back =
        ap (take size) (drop_at (take (size * i) xs) (ys ++ post_of (size * i) (size * i + size - size * i) xs) (size * i) (length-take-le (size * i) xs starts))
        ∙ take_at ys (post_of (size * i) (size * i + size - size * i) xs) size e

    as_long : length backed ≡ length xs
    as_long = same_len_mid (size * i) (size * i + size - size * i) xs ys (e ∙ sym (ap length lent ∙ part_length size i xs fits))

    out-same : (k : ℕ) → (k < size * i) ⊎ (size * i + size ≤ k) → get_or backed k 0 ≡ get_or xs k 0
    out-same k (inl h) =
        sym (get_or-take (size * i) backed k 0 h) ∙ ap (λ (l : List ℕ). get_or l k 0) (take_put (size * i) (size * i + size - size * i) xs ys starts)
        ∙ get_or-take (size * i) xs k 0 h
    out-same k (inr h) =
        let z : size * i + size + (k - (size * i + size)) ≡ k = whole (size * i + size) k h in
        ap (λ (q : ℕ). get_or backed q 0) (sym z) ∙ sym (get_or-drop (size * i + size) backed (k - (size * i + size)) 0)
        ∙ ap (λ (l : List ℕ). get_or l (k - (size * i + size)) 0)
        (drop_put (size * i) (size * i + size) xs ys (low (size * i) size) fits (e ∙ sym (over (size * i) size)))
        ∙ get_or-drop (size * i + size) xs (k - (size * i + size)) 0 ∙ ap (λ (q : ℕ). get_or xs q 0) z
      where
        whole : (a k : ℕ) → a ≤ k → a + (k - a) ≡ k
        whole a k h = omega arith

        low : (a k : ℕ) → a ≤ a + k
        low a k = omega arith

    pub beside_back : Beside size i xs backed
    beside_back = record {
      length = as_long;
      other = λ j d. part_same size j xs backed as_long (λ k l h. out-same k (outside size i j k d l h));
    }

-- ---- a number of a part is stored

module _ (size i c : ℕ) (v : ℕ) (xs : List ℕ) (h : c < size) where
  pub part-set : part_of size i (set xs (size * i + c) v) ≡ set (part_of size i xs) c v
  part-set = ap (take size) (drop-set-add (size * i) xs c v) ∙ take-set-lt size (drop (size * i) xs) c v h

  pub part-set_other : (j : ℕ) → (j ≡ i → ⊥) → part_of size j (set xs (size * i + c) v) ≡ part_of size j xs
  part-set_other j d =
      part_same size j xs (set xs (size * i + c) v) (length-set xs (size * i + c) v)
      (λ k l b. get_or-set_other xs (size * i + c) k v 0 (λ e. away k e (outside size i j k d l b)))
    where
      away : (k : ℕ) → k ≡ size * i + c → (k < size * i) ⊎ (size * i + size ≤ k) → ⊥
      away k e (inl a) = no_less (size * i) c k e a
        where
          no_less : (a c k : ℕ) → k ≡ a + c → k < a → ⊥
          no_less a c k e h = omega arith
      away k e (inr a) = no_more (size * i) c size k e h a
        where
          no_more : (a c s k : ℕ) → k ≡ a + c → c < s → a + s ≤ k → ⊥
          no_more a c s k e h l = omega arith
