-- Laws of a stack of numbers: pushing, popping, a copy. Assumes nothing.
use mathlib.Core.Path.{◌≡◌, sym, ap, ◌∙◌}
use mathlib.Core.List.{List, [], ◌∷◌}
use Prim.Native.Nat.{ℕ, suc, ◌+◌, ◌-◌, ◌<◌, ◌≤◌}
use native.Mathlib.Omega.{arith}
use native.Mathlib.Numerals.{add-one}
use lib.ListN.{length, get_or, set, take, drop, length-set, length-take, length-drop}
use lib.Seq.{get_or-set_same, get_or-set_other, length-take-le, get_or-take, get_or-drop}
use Rattle.trail.specs.Trail.{trail}
use Rattle.trail.proofs.Trails.{trail-length, trail-suc, trail_same}
use Rattle.state.specs.Work.{area, tail, g_of}
use Rattle.replaying.specs.Standing.{stack_size, stack_of}

-- the numbers of a list as a trail
abbrev pub numbers : List ℕ → ℕ → ℕ
numbers o i = get_or o i 0

pub stack_length : (o : List ℕ) → length (stack_of o) ≡ get_or o 0 0
stack_length o = trail-length (get_or o 0 0) (numbers o)

pub stack_none : (o : List ℕ) → get_or o 0 0 ≡ 0 → stack_of o ≡ []
unfolding trail
stack_none o e = ap (λ (k : ℕ). trail k (numbers o)) e

-- a number is pushed
pub pushed : (o : List ℕ) (h : ℕ) → length o ≡ stack_size → get_or o 0 0 < 2016
    → stack_of (set (set o (1 + get_or o 0 0) h) 0 (get_or o 0 0 + 1)) ≡ h ∷ stack_of o
pushed o h size room =
    let k : ℕ = get_or o 0 0 in
    let o₁ : List ℕ = set o (1 + k) h in
    let o₂ : List ℕ = set o₁ 0 (k + 1) in
    let count : get_or o₂ 0 0 ≡ suc k = get_or-set_same o₁ 0 (k + 1) 0 (omega (arith, length-set o (1 + k) h)) ∙ add-one k in
    let top : get_or o₂ (1 + k) 0 ≡ h = get_or-set_other o₁ 0 (1 + k) (k + 1) 0 (λ e. omega arith) ∙ get_or-set_same o (1 + k) h 0 (omega arith) in
    ap (λ (j : ℕ). trail j (numbers o₂)) count ∙ trail-suc k (numbers o₂) ∙ ap (◌∷ trail k (numbers o₂)) top
    ∙ ap (h ∷◌) (trail_same k (numbers o₂) (numbers o) (λ q l. get_or-set_other o₁ 0 (1 + q) (k + 1) 0 (λ e. omega arith) ∙ get_or-set_other o (1 + k) (1 + q) h 0 (λ e. omega arith)))

-- the newest is popped
pub popped : (o : List ℕ) → length o ≡ stack_size → (get_or o 0 0 ≡ 0 → ⊥) → stack_of o ≡ get_or o (get_or o 0 0) 0 ∷ stack_of (set o 0 (get_or o 0 0 - 1))
popped o size some =
    let j : ℕ = get_or o 0 0 - 1 in
    let o₁ : List ℕ = set o 0 j in
    let k : get_or o 0 0 ≡ suc j = omega arith in
    let i : 1 + j ≡ get_or o 0 0 = omega arith in
    let count : get_or o₁ 0 0 ≡ j = get_or-set_same o 0 j 0 (omega arith) in
    ap (λ (k : ℕ). trail k (numbers o)) k ∙ trail-suc j (numbers o) ∙ ap (λ (x : ℕ). get_or o x 0 ∷ trail j (numbers o)) i
    ∙ ap (get_or o (get_or o 0 0) 0 ∷◌)
    (trail_same j (numbers o) (numbers o₁) (λ q l. sym (get_or-set_other o 0 (1 + q) j 0 (λ e. omega arith))) ∙ ap (λ (k : ℕ). trail k (numbers o₁)) (sym count))

-- all are popped
pub emptied : (o : List ℕ) → length o ≡ stack_size → stack_of (set o 0 0) ≡ []
emptied o size = stack_none (set o 0 0) (get_or-set_same o 0 0 0 (omega arith))

-- the numbers of a stack, oldest first, as a slice has them
pub oldest-first : (o : List ℕ) (h q : ℕ) → q < length (take (1 + h - 1) (drop 1 o)) → get_or (take (1 + h - 1) (drop 1 o)) q 0 ≡ get_or o (1 + q) 0
oldest-first o h q l = get_or-take (1 + h - 1) (drop 1 o) q 0 (omega (arith, length-take (1 + h - 1) (drop 1 o))) ∙ get_or-drop 1 o q 0

-- ---- a copy of the literals held

-- c holds the literals that stand in w, with their count
pub record Copied (w c : List ℕ) : Type 0 where
  pub size : length c ≡ stack_size
  pub numbers : (i : ℕ) → i < stack_size → get_or c i 0 ≡ tail w i

pub copied : {w c : List ℕ} → area ≤ length w → c ≡ take stack_size (drop 4 w) → Copied w c
copied {w} {c} h e = rw e (record {
  size = length-take-le stack_size (drop 4 w) (omega (arith, length-drop 4 w));
  numbers = λ i l. get_or-take stack_size (drop 4 w) i 0 l ∙ get_or-drop 4 w i 0;
})

module _ {w c : List ℕ} (s : Copied w c) where
  pub copied_count : get_or c 0 0 ≡ tail w 0
  copied_count = s.numbers 0 (omega arith)

  pub copied_list : tail w 0 ≤ 2016 → stack_of c ≡ g_of w
  copied_list h =
      ap (λ (k : ℕ). trail k (numbers c)) copied_count ∙ trail_same (tail w 0) (numbers c) (tail w) (λ q l. s.numbers (1 + q) (omega arith))
