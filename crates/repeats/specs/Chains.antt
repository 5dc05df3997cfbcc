-- Keys of records, and the chains by which a repeat is found. Assumes nothing.
use Rattle.std.specs.Prelude.{◌≡◌, List, [], ◌∷◌, cond, ℕ, zero, suc, ◌+◌, ◌*◌, ◌/◌, ◌%◌, ◌<◌, ◌≤◌, eqb, length, get_or}
use Rattle.record.specs.Place.{place_of}
use Rattle.record.specs.Halves.{double_at}

-- two numbers of 32 bits as one; the record of node n as one number
abbrev pub joint : ℕ → ℕ → ℕ
joint low high = low + 4294967296 * high

abbrev pub key_at : List ℕ → ℕ → ℕ
key_at t n = joint (double_at t (place_of n)) (double_at t (place_of n + 4))

-- the hash of a key, below 4,096
unfoldable pub hash_of : ℕ → ℕ
hash_of k = (3266489917 * (k % 4294967296) + 668265263 * (k / 4294967296)) / 1048576 % 4096

-- the nodes below n whose key's hash is h, the last first
unfoldable pub with_hash : List ℕ → ℕ → ℕ → List ℕ
with_hash t h zero = []
with_hash t h (suc n) = cond (eqb (hash_of (key_at t n)) h) (n ∷ with_hash t h n) (with_hash t h n)

-- the chains are 6,112 numbers: a head for each hash, then a link for each node
abbrev pub chain_cells : ℕ
chain_cells = 6112

abbrev pub link_of : List ℕ → ℕ → ℕ
link_of c m = get_or c (4096 + m) 0

-- the links from s on lead through these nodes; s is one more than the first, and 0 ends the chain
pub data Chain (c : List ℕ) : ℕ → List ℕ → Type 0 where
  stop : Chain c 0 []
  link : (s : ℕ) (l : List ℕ) → link_of c s ≤ s → Chain c (link_of c s) l → Chain c (suc s) (s ∷ l)

-- byte 1 of the record of node n is 0
abbrev pub Plain : List ℕ → ℕ → Type 0
Plain t n = get_or t (place_of n + 1) 0 ≡ 0

-- no record is entered: zeros
pub record Unlinked (c : List ℕ) : Type 0 where
  pub size : length c ≡ chain_cells
  pub zeros : (i : ℕ) → i < chain_cells → get_or c i 0 ≡ 0

-- from each head the chain leads through the nodes below n with that hash
pub record Chains (t c : List ℕ) (n : ℕ) : Type 0 where
  pub size : length c ≡ chain_cells
  pub low : (h : ℕ) → h < 4096 → get_or c h 0 ≤ n
  pub leads : (h : ℕ) → h < 4096 → Chain c (get_or c h 0) (with_hash t h n)
  pub plain : (m : ℕ) → m < n → Plain t m
