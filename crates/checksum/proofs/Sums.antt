-- The rows of a block make up its weighted sum, modulo 65,521. Assumes nothing.
use mathlib.Core.Path.{◌≡◌, ◌∙◌, ap, sym, refl}
use mathlib.Core.List.{List}
use Prim.Native.Nat.{ℕ, zero, suc, ◌+◌, ◌*◌, ◌/◌, ◌%◌, ◌<◌, ◌≤◌}
use native.Mathlib.Nat.{add-zero, add-suc, mul-zero, mul-suc, mul_comm, mul-one, mul-add, mul_assoc, mul_left_comm, mul-le-mul, mod-lt, add-mod, div-add-mod, mul-add-mod_self_left}
use native.Mathlib.Numerals.{add-one}
use native.Mathlib.Omega.{arith}
use lib.Dec.{lit<}
use lib.ListN.{get_or, drop}
use lib.Seq.{drop-drop, get_or-drop}
use Rattle.scope.specs.Block.{weight, weighted, check_of}
use Rattle.checksum.specs.Sums.{Rows, rows_sum}

-- a factor may be taken modulo 65,521
mul_mod : (a b : ℕ) → (a * (b % 65521)) % 65521 ≡ (a * b) % 65521
mul_mod a b =
    let whole : a * b ≡ 65521 * (a * (b / 65521)) + a * (b % 65521) =
    ap (a *◌) (sym (div-add-mod b 65521)) ∙ mul-add a (65521 * (b / 65521)) (b % 65521) ∙ ap (◌+ a * (b % 65521)) (mul_left_comm a 65521 (b / 65521)) in
    sym (ap (◌% 65521) whole ∙ mul-add-mod_self_left 65521 (a * (b / 65521)) (a * (b % 65521)))

-- .. and so may the parts of a sum
sum_mod : (x y u v : ℕ) → x % 65521 ≡ u % 65521 → y % 65521 ≡ v % 65521 → (x + y) % 65521 ≡ (u + v) % 65521
sum_mod x y u v p q = rw (add-mod x y, add-mod u v, p, q)

-- The weights

pub weight_small : (i : ℕ) → weight i < 65521
unfolding weight
weight_small zero = lit< tt
weight_small (suc i) = mod-lt (3 * weight i) (lit< tt)

-- the power is carried on: the weight of a sum of positions is the product of their weights
pub weight-add : (m n : ℕ) → weight (m + n) ≡ (weight m * weight n) % 65521
unfolding weight
weight-add m zero = rw (add-zero, mul-one) (sym (mod-small m))
  where
    mod-small : (i : ℕ) → weight i % 65521 ≡ weight i
    mod-small i = omega (arith, weight_small i)
weight-add m (suc n) = rw (add-suc, weight-add m n, mul_mod 3 (weight m * weight n), mul_mod (weight m) (3 * weight n), mul_left_comm 3)

-- from a position on, the weights are those from 0 on times the one there
weighted-from : (b : List ℕ) (m n : ℕ) → (weighted b m + weight m * weighted (drop m b) n) % 65521 ≡ weighted b (m + n) % 65521
unfolding weighted
weighted-from b m zero = rw (add-zero, mul-zero, add-zero)
weighted-from b m (suc n) =
    let here : (weight m * (get_or b (m + n) 0 * weight n)) % 65521 ≡ (get_or b (m + n) 0 * weight (m + n)) % 65521 =
    rw (weight-add m n, mul_mod (get_or b (m + n) 0), mul_left_comm (weight m)) in
    let apart : weighted b m + weight m * (weighted (drop m b) n + get_or b (m + n) 0 * weight n)
    ≡ weighted b m + weight m * weighted (drop m b) n + weight m * (get_or b (m + n) 0 * weight n) =
    rw mul-add (omega arith) in
    rw (add-suc, get_or-drop m b n 0, apart) (sum_mod _ _ _ _ (weighted-from b m n) here)

-- Parts

pub part_none : (b : List ℕ) (at first : ℕ) → 133728361 % 65521 ≡ (first * weighted (drop at b) 0) % 65521
unfolding weighted
part_none b at first = rw mul-zero

pub power_first : (first : ℕ) → first < 65521 → first ≡ (first * weight 0) % 65521
unfolding weight
power_first first h = rw mul-one (omega arith)

pub power_next : {power : ℕ} (first j : ℕ) → power ≡ (first * weight j) % 65521 → (power * 3) % 65521 ≡ (first * weight (j + 1)) % 65521
unfolding weight
power_next {power} first j p =
    rw (add-one, p, mul_comm ((first * weight j) % 65521) 3, mul_mod 3 (first * weight j), mul_mod first (3 * weight j), mul_left_comm 3)

-- one byte more
pub part_more : {power : ℕ} (sum r : ℕ) (b : List ℕ) (at first j : ℕ)
    → sum % 65521 ≡ (first * weighted (drop at b) j) % 65521 → power ≡ (first * weight j) % 65521
    → r % 65521 ≡ (sum + get_or b (at + j) 0 * power) % 65521 → r % 65521 ≡ (first * weighted (drop at b) (j + 1)) % 65521
unfolding weighted
part_more {power} sum r b at first j p q s =
    let x : ℕ = get_or b (at + j) 0 in
    let here : (x * power) % 65521 ≡ (first * (x * weight j)) % 65521 = rw (q, mul_mod x (first * weight j), mul_left_comm x first) in
    s ∙ rw (add-one, get_or-drop at b j 0, mul-add) (sum_mod _ _ _ _ p here)

-- Rows

-- sixteen bytes more of a row
pub row_more : (x y : ℕ) (b : List ℕ) (at m power : ℕ)
    → power ≡ (5 * weight m) % 65521
    → x % 65521 ≡ (5 * weighted (drop at b) m) % 65521 → y % 65521 ≡ (power * weighted (drop (at + m) b) 16) % 65521
    → (x + y) % 65521 ≡ (5 * weighted (drop at b) (m + 16)) % 65521
row_more x y b at m power p q r =
    let c : List ℕ = drop at b in
    let w : ℕ = weight m * weighted (drop m c) 16 in
    let here : (power * weighted (drop (at + m) b) 16) % 65521 ≡ (5 * w) % 65521 =
    rw (p, sym (drop-drop m at b), mul_comm ((5 * weight m) % 65521), mul_mod _ (5 * weight m), mul_left_comm _ 5, mul_comm (weighted (drop m c) 16)) in
    let whole : (5 * weighted c m + 5 * w) % 65521 ≡ (5 * weighted c (m + 16)) % 65521 =
    rw (sym (mul-add 5 (weighted c m) w), sym (mul_mod 5 (weighted c m + w)), weighted-from c m 16, mul_mod 5 (weighted c (m + 16))) in
    sum_mod _ _ _ _ q (r ∙ here) ∙ whole

-- the four parts of a row
pub row_parts : (s t u v : ℕ) (b : List ℕ) (at : ℕ)
    → s % 65521 ≡ (5 * weighted (drop at b) 16) % 65521 → t % 65521 ≡ (62641 * weighted (drop (at + 16) b) 16) % 65521
    → u % 65521 ≡ (20855 * weighted (drop (at + 32) b) 16) % 65521 → v % 65521 ≡ (43384 * weighted (drop (at + 48) b) 16) % 65521
    → (s + t + u + v) % 65521 ≡ (5 * weighted (drop at b) 64) % 65521
unfolding weight
row_parts s t u v b at p q r w =
    row_more (s + t + u) v b at 48 43384 refl (row_more (s + t) u b at 32 20855 refl (row_more s t b at 16 62641 refl p q) r) w

-- The sum of the rows

pub fifth_first : 52417 ≡ (52417 * weight 0) % 65521
unfolding weight
fifth_first = refl

pub fifth_next : {power : ℕ} (r : ℕ) → power ≡ (52417 * weight (64 * r)) % 65521 → (power * 34176) % 65521 ≡ (52417 * weight (64 * (r + 1))) % 65521
unfolding weight
fifth_next r p =
    let e : 64 * (r + 1) ≡ 64 * r + 64 = omega arith in
    rw (e, p, mul_comm _ 34176, mul_mod 34176 (52417 * weight (64 * r)), weight-add (64 * r) 64, mul_mod 52417, mul_left_comm 34176 52417, mul_comm 34176)

pub sum-none : (s : List ℕ) → 0 ≡ rows_sum s 0
unfolding rows_sum
sum-none s = refl

pub sum_more : {sum power : ℕ} (s : List ℕ) (r : ℕ)
    → sum ≡ rows_sum s r → power ≡ (52417 * weight (64 * r)) % 65521 → sum + get_or s r 0 * power ≡ rows_sum s (r + 1)
unfolding rows_sum
sum_more s r p q = rw (add-one, p, q)

-- what a row adds to the sum
pub row_small : (x power : ℕ) → x < 4294967296 → power < 65521 → x * power ≤ 281406257168400
row_small x power h l = mul-le-mul {n₂ = 4294967295} {m₂ = 65520} (omega arith) (omega arith)

-- a row by a fifth of its weight is what it adds to the block's sum
fifth : (x w whole : ℕ) → x % 65521 ≡ (5 * whole) % 65521 → (x * ((52417 * w) % 65521)) % 65521 ≡ (w * whole) % 65521
fifth x w whole p =
    let one : 52417 * w * (5 * whole) ≡ 65521 * (4 * (w * whole)) + w * whole = rw (mul_assoc 52417 w, mul_left_comm w 5 whole) (omega arith) in
    rw (mul_mod x (52417 * w), mul_comm x, sym (mul_mod (52417 * w) x), p, mul_mod (52417 * w) (5 * whole), one)
    (mul-add-mod_self_left 65521 (4 * (w * whole)) (w * whole))

rows-sum : {b s : List ℕ} → Rows b s → (r : ℕ) → r ≤ 8 → rows_sum s r % 65521 ≡ weighted b (64 * r) % 65521
unfolding rows_sum weighted
rows-sum h zero l = refl
rows-sum {b} {s} h (suc r) l =
    rw mul-suc
    (sum_mod _ _ _ _ (rows-sum h r (omega arith)) (fifth _ (weight (64 * r)) _ (h.each r (omega arith))) ∙ weighted-from b (64 * r) 64)

-- two bytes more
two_more : (b : List ℕ) (n : ℕ) → weighted b (n + 2) ≡ weighted b n + get_or b n 0 * weight n + get_or b (n + 1) 0 * weight (n + 1)
unfolding weighted
two_more b n =
    let e : n + 2 ≡ suc (suc n) = omega arith in
    rw (e, add-one)

last_weights : (weight 510 ≡ 35764) × (weight 511 ≡ 41771)
unfolding weight
last_weights = (refl, refl)

-- without the check's own bytes it is the block's check
lacking : (x y z : ℕ) → (x + y * 35764 + z * 41771 + (29757 * y + 23750 * z)) % 65521 ≡ x % 65521
lacking x y z =
    let e : x + y * 35764 + z * 41771 + (29757 * y + 23750 * z) ≡ 65521 * (y + z) + x = omega arith in
    ap (◌% 65521) e ∙ mul-add-mod_self_left 65521 (y + z) x

pub rows-check : {b s : List ℕ} {sum : ℕ} → Rows b s → sum ≡ rows_sum s 8
    → (sum + (29757 * get_or b 510 0 + 23750 * get_or b 511 0)) % 65521 ≡ check_of b
unfolding check_of
rows-check {b} {s} {sum} h p =
    let whole : sum % 65521 ≡ (weighted b 510 + get_or b 510 0 * 35764 + get_or b 511 0 * 41771) % 65521 =
    ap (◌% 65521) p ∙ rows-sum h 8 (omega arith) ∙ ap (◌% 65521) (two_more b 510 ∙ rw (last_weights.0, last_weights.1)) in
    sum_mod _ _ _ _ whole refl ∙ lacking (weighted b 510) (get_or b 510 0) (get_or b 511 0)
