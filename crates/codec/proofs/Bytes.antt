-- Laws of bytes, and of lists by their elements. Assumes nothing.
use mathlib.Core.Path.{◌≡◌, ◌∙◌, ap, sym, refl}
use mathlib.Core.List.{List, [], ◌∷◌, ◌++◌}
use Prim.Native.Nat.{ℕ, zero, suc, ◌+◌, ◌*◌, ◌/◌, ◌%◌, ◌<◌, ◌≤◌}
use native.Mathlib.Nat.{zero-add, suc-add}
use native.Mathlib.Omega.{arith}
use lib.Dec.{lit<}
use lib.ListN.{length, get_or, take, drop, replicate}
use lib.Seq.{drop-cons, get_or-drop, take-length, take-nil}
use Rattle.scope.specs.Block.{word_bytes}
use Rattle.scope.specs.Table.{list_from}
use Rattle.scope.proofs.Lists.{zeros-at}
use Rattle.codec.specs.Valid.{Bytes}

-- k elements from n on, each read by its index
pub listed : {A : Type 0} (d : A) (r : List A) (k n : ℕ) → n + k ≤ length r → take k (drop n r) ≡ list_from (λ i. get_or r i d) n k
unfolding list_from
listed d r zero n h = refl
listed d r (suc k) n h = rw (drop-cons r n d (omega arith)) (ap (get_or r n d ∷◌) (listed d r k (suc n) (omega arith)))

-- .. and all of them
pub listed_all : {A : Type 0} (d : A) (r : List A) → r ≡ list_from (λ i. get_or r i d) 0 (length r)
listed_all d r = sym (take-length r) ∙ listed d r (length r) 0 (omega arith)

pub drop-take : {A : Type 0} (n m : ℕ) (l : List A) → drop n (take (n + m) l) ≡ take m (drop n l)
drop-take zero m l = rw zero-add
drop-take (suc n) m [] = rw (suc-add, take-nil m)
drop-take (suc n) m (x ∷ l) = rw suc-add (drop-take n m l)

-- two bytes are those of their number, and a number is that of its two bytes
pub low_byte : (a b : ℕ) → a < 256 → (a + 256 * b) % 256 ≡ a
low_byte a b h = omega arith

pub high_byte : (a b : ℕ) → a < 256 → (a + 256 * b) / 256 ≡ b
high_byte a b h = omega arith

pub word_of : (a b : ℕ) → a < 256 → word_bytes (a + 256 * b) ≡ a ∷ b ∷ []
word_of a b h = rw (low_byte a b h, high_byte a b h)

pub of_word : (n : ℕ) → n % 256 + 256 * (n / 256) ≡ n
of_word n = omega arith

-- bytes: in none, in one more, in two lists, in a part, in zeros, in a number
pub bytes_nil : Bytes []
bytes_nil i = lit< tt

pub bytes_cons : (x : ℕ) (t : List ℕ) → x < 256 → Bytes t → Bytes (x ∷ t)
bytes_cons x t h b zero = h
bytes_cons x t h b (suc i) = b i

pub bytes_append : (s t : List ℕ) → Bytes s → Bytes t → Bytes (s ++ t)
bytes_append [] t a b i = b i
bytes_append (x ∷ s) t a b zero = a zero
bytes_append (x ∷ s) t a b (suc i) = bytes_append s t (λ k. a (suc k)) b i

pub bytes_take : (n : ℕ) (t : List ℕ) → Bytes t → Bytes (take n t)
bytes_take zero t b i = lit< tt
bytes_take (suc n) [] b i = lit< tt
bytes_take (suc n) (x ∷ t) b zero = b zero
bytes_take (suc n) (x ∷ t) b (suc i) = bytes_take n t (λ k. b (suc k)) i

pub bytes_drop : (n : ℕ) (t : List ℕ) → Bytes t → Bytes (drop n t)
bytes_drop n t b i = rw get_or-drop (b (n + i))

pub bytes_zeros : (n : ℕ) → Bytes (replicate n 0)
bytes_zeros n i = rw (zeros-at n i) (lit< tt)

pub bytes_word : (n : ℕ) → n < 65536 → Bytes (word_bytes n)
bytes_word n h = bytes_cons (n % 256) (n / 256 ∷ []) (omega arith) (bytes_cons (n / 256) [] (omega arith) bytes_nil)
