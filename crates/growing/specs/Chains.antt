-- The chains by which a number is found among those of the nodes. Assumes nothing.
use Rattle.std.specs.Prelude.{◌≡◌, List, ℕ, suc, ◌-◌, ◌*◌, ◌/◌, ◌%◌, ◌<◌, ◌≤◌, length, get_or, Option, Some, None}

-- the hash of a number, below 4,096
unfoldable pub hash_of : ℕ → ℕ
hash_of k = 2654435769 * k / 1048576 % 4096

-- the links from s on lead to node m; s is one more than the first node, and 0 ends the chain
pub data To (next : List ℕ) : ℕ → ℕ → Type 0 where
  here : (m : ℕ) → To next (suc m) m
  on : (s m : ℕ) → To next (get_or next s 0) m → To next (suc s) m

-- from the head of its hash the links lead to each of the first n numbers
pub record Chains (keys head next : List ℕ) (n : ℕ) : Type 0 where
  pub size : length keys ≡ 2016
  pub heads : length head ≡ 4096
  pub links : length next ≡ 2016
  pub most : n ≤ 2016
  pub low : (h : ℕ) → get_or head h 0 ≤ n
  pub falls : (m : ℕ) → m < n → get_or next m 0 ≤ m
  pub leads : (m : ℕ) → m < n → To next (get_or head (hash_of (get_or keys m 0)) 0) m

-- a place as a link: one more, or 0 for none
abbrev pub slot_of : Option ℕ → ℕ
slot_of None = 0
slot_of (Some s) = suc s

-- a search for k: 0 where none of the first n numbers is k, or one more than the place of one that is
pub record Finds (keys : List ℕ) (n k s : ℕ) : Type 0 where
  pub none : s ≡ 0 → (m : ℕ) → m < n → get_or keys m 0 ≡ k → ⊥
  pub some : (s ≡ 0 → ⊥) → get_or keys (s - 1) 0 ≡ k
  pub within : s ≤ n
