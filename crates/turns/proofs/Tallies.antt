-- Laws of the counts and sums that a round goes by, and of the first number that passes a test. Assumes nothing.
use mathlib.Core.Path.{◌≡◌, refl, sym, ap, ◌∙◌}
use mathlib.Core.Logic.{◌⊎◌, inl, inr}
use mathlib.Core.Bool.{Bool, true, false, cond, true≢false}
use Prim.Native.Nat.{ℕ, zero, suc, ◌+◌, ◌-◌, ◌<◌, ◌≤◌}
use native.Mathlib.Nat.{add-zero, add-suc}
use native.Mathlib.Omega.{arith}
use native.Mathlib.Decide.{ℕ_discrete, dec_le}
use lib.Dec.{eqb, leb}
use borrow.Author.Tests.{eq-eqb, ne_eqb, le-leb, lt-leb}
use Rattle.calculus.specs.Count.{one, tally}
use Rattle.turns.specs.Round.{seek, total}

-- ---- the first that passes

-- w is the first of n numbers from i on that passes, or i + n
pub record Sought (p : ℕ → Bool) (i n w : ℕ) : Type 0 where
  pub low : i ≤ w
  pub high : w ≤ i + n
  pub here : w < i + n → p w ≡ true
  pub before : (j : ℕ) → i ≤ j → j < w → p j ≡ false

pub sought : (p : ℕ → Bool) (i n : ℕ) → Sought p i n (seek p i n)
unfolding seek
sought p i zero = record { low = omega arith; high = omega arith; here = λ h. absurd (omega arith); before = λ j a b. absurd (omega arith) }
sought p i (suc n) = on (p i) refl (sought p (suc i) n)
  where
    on : (b : Bool) → p i ≡ b → Sought p (suc i) n (seek p (suc i) n) → Sought p i (suc n) (cond b i (seek p (suc i) n))
    on true e s = record { low = omega arith; high = omega arith; here = λ h. e; before = λ j a b. absurd (omega arith) }
    on false e s = record {
      low = omega (arith, s.low);
      high = omega (arith, s.high);
      here = λ h. s.here (omega arith);
      before = λ j a b. first j (ℕ_discrete j i) a b;
    }
      where
        first : (j : ℕ) → Dec (j ≡ i) → i ≤ j → j < seek p (suc i) n → p j ≡ false
        first j (yes z) a b = ap p z ∙ e
        first j (no z) a b = s.before j (omega arith) b

-- ---- counts

-- none passes, and one does
pub tally-none : (p : ℕ → Bool) (m : ℕ) → ((j : ℕ) → j < m → p j ≡ false) → tally p m ≡ 0
unfolding tally
tally-none p zero h = refl
tally-none p (suc m) h = rw (h m (omega arith)) (omega (arith, tally-none p m (λ j k. h j (omega arith))))

pub tally-some : (p : ℕ → Bool) (m k : ℕ) → k < m → p k ≡ true → 0 < tally p m
unfolding tally
tally-some p zero k h e = absurd (omega arith)
tally-some p (suc m) k h e = on (ℕ_discrete m k) (tally-some p m k)
  where
    on : Dec (m ≡ k) → (k < m → p k ≡ true → 0 < tally p m) → 0 < one (p m) + tally p m
    on (yes q) r = rw (ap p q ∙ e) (omega arith)
    on (no q) r = omega (arith, r (omega arith) e)

-- ---- counts from a to b

module _ (p : ℕ → Bool) where
  grows : (a d : ℕ) → tally p a ≤ tally p (a + d)
  unfolding tally
  grows a zero = rw add-zero (omega arith)
  grows a (suc d) = rw add-suc (omega (arith, grows a d))

  pub tally_grows : (a b : ℕ) → a ≤ b → tally p a ≤ tally p b
  tally_grows a b h =
      let z : a + (b - a) ≡ b = omega arith in
      rw z at (grows a (b - a))

  pub tally_next : (a : ℕ) → p a ≡ true → tally p (suc a) ≡ suc (tally p a)
  unfolding tally
  tally_next a e = rw e (omega arith)

  flat : (a d : ℕ) → ((j : ℕ) → a ≤ j → j < a + d → p j ≡ false) → tally p (a + d) ≡ tally p a
  unfolding tally
  flat a zero h = rw add-zero
  flat a (suc d) h = rw (add-suc, h (a + d) (omega arith) (omega arith)) (omega (arith, flat a d (λ j x y. h j x (omega arith))))

  -- none passes from a to b
  pub tally-flat : (a b : ℕ) → a ≤ b → ((j : ℕ) → a ≤ j → j < b → p j ≡ false) → tally p b ≡ tally p a
  tally-flat a b h f =
      let z : a + (b - a) ≡ b = omega arith in
      rw z at (flat a (b - a) (λ j x y. f j x (omega arith)))

-- tests that agree from a to b count as many there
module _ (p r : ℕ → Bool) where
  same : (a d : ℕ) → ((j : ℕ) → a ≤ j → j < a + d → r j ≡ p j) → tally r (a + d) + tally p a ≡ tally p (a + d) + tally r a
  unfolding tally
  same a zero h = rw add-zero (omega arith)
  same a (suc d) h = rw (add-suc, h (a + d) (omega arith) (omega arith)) (omega (arith, same a d (λ j x y. h j x (omega arith))))

  pub tally_agree : (a b : ℕ) → a ≤ b → ((j : ℕ) → a ≤ j → j < b → r j ≡ p j) → tally r b + tally p a ≡ tally p b + tally r a
  tally_agree a b h f =
      let z : a + (b - a) ≡ b = omega arith in
      rw z at (same a (b - a) (λ j x y. f j x (omega arith)))

-- ---- sums

-- no more, where w is none of them
pub total-none : (w : ℕ) (f : ℕ → ℕ) (n : ℕ) → n ≤ w → total (λ i. one (eqb i w) + f i) n ≡ total f n
unfolding total
total-none w f zero h = refl
total-none w f (suc n) h =
    let z : one (eqb n w) ≡ 0 = ap one (ne_eqb n w (λ e. omega arith)) in
    omega (arith, z, total-none w f n (omega arith))

-- one more at w
pub total-one : (w : ℕ) (f : ℕ → ℕ) (n : ℕ) → w < n → total (λ i. one (eqb i w) + f i) n ≡ suc (total f n)
unfolding total
total-one w f zero h = absurd (omega arith)
total-one w f (suc n) h = on (ℕ_discrete n w) (total-one w f n)
  where
    on : Dec (n ≡ w) → (w < n → total (λ i. one (eqb i w) + f i) n ≡ suc (total f n))
        → one (eqb n w) + f n + total (λ i. one (eqb i w) + f i) n ≡ suc (f n + total f n)
    on (yes e) r =
        let z : one (eqb n w) ≡ 1 = ap one (eq-eqb n w e) in
        omega (arith, z, total-none w f n (omega arith))
    on (no e) r =
        let z : one (eqb n w) ≡ 0 = ap one (ne_eqb n w e) in
        omega (arith, z, r (omega arith))

pub total-zero : (n : ℕ) → total (λ i. 0) n ≡ 0
unfolding total
total-zero zero = refl
total-zero (suc n) = omega (arith, total-zero n)

-- each no more, and one less
pub total_most : (f g : ℕ → ℕ) (n : ℕ) → ((i : ℕ) → i < n → f i ≤ g i) → total f n ≤ total g n
unfolding total
total_most f g zero h = omega arith
total_most f g (suc n) h = omega (arith, h n (omega arith), total_most f g n (λ i l. h i (omega arith)))

pub total-less : (f g : ℕ → ℕ) (n k : ℕ) → ((i : ℕ) → i < n → f i ≤ g i) → k < n → f k < g k → total f n < total g n
unfolding total
total-less f g zero k h l s = absurd (omega arith)
total-less f g (suc n) k h l s = on (ℕ_discrete n k) (total-less f g n k (λ i l. h i (omega arith)))
  where
    on : Dec (n ≡ k) → (k < n → f k < g k → total f n < total g n) → f n + total f n < g n + total g n
    on (yes e) r =
        let a : f n ≡ f k = ap f e in
        let b : g n ≡ g k = ap g e in
        omega (arith, a, b, s, total_most f g n (λ i l. h i (omega arith)))
    on (no e) r = omega (arith, h n (omega arith), r (omega arith) s)

-- ---- how many stand before i, from `next` on, round after q

abbrev pub ahead : (ℕ → Bool) → ℕ → ℕ → ℕ → ℕ
ahead p q next i = cond (leb next i) (tally p i - tally p next) (tally p q - tally p next + tally p i)

-- fewer than pass in all
pub ahead_few : (p : ℕ → Bool) (q next i : ℕ) → i < q → p i ≡ true → ahead p q next i < tally p q
ahead_few p q next i h e = on (dec_le next i)
  where
    on : Dec (next ≤ i) → ahead p q next i < tally p q
    on (yes c) = rw (le-leb next i c) (omega (arith, tally_next p i e, tally_grows p (suc i) q h))
    on (no c) = rw (lt-leb next i (omega arith)) (omega (arith, tally_next p i e, tally_grows p (suc i) q h, tally_grows p (suc i) next (omega arith)))

-- no number from a to b passes
abbrev pub None : (ℕ → Bool) → ℕ → ℕ → Type 0
None p a b = (j : ℕ) → a ≤ j → j < b → p j ≡ false

-- w is the first that passes from `next` on; or none does, and it is the first of all
abbrev pub Line : (ℕ → Bool) → ℕ → ℕ → ℕ → Type 0
Line p q next w = ((next ≤ w) × (w < q) × None p next w) ⊎ (None p next q × None p 0 w)

-- w is served, so that tests p become r: one fewer stands before i
module _ (p r : ℕ → Bool) (q next w i : ℕ) (h : w < q) (e : p w ≡ true) (same : (j : ℕ) → (j ≡ w → ⊥) → r j ≡ p j)
    (k : i < q) (f : p i ≡ true) (o : i ≡ w → ⊥) where
  -- a number that passes is not where none does
  outside : (a b : ℕ) → None p a b → a ≤ i → i < b → ⊥
  outside a b none x y = true≢false (sym f ∙ none i x y)

  passed : suc w ≤ i → tally r i + suc (tally p w) ≡ tally p i + tally r (suc w)
  passed c = omega (arith, tally_next p w e, tally_agree p r (suc w) i c (λ j x y. same j (λ z. omega arith)))

  behind : i < w → (tally r q + suc (tally p w) ≡ tally p q + tally r (suc w)) × (tally r i ≡ tally p i)
  unfolding tally
  behind c = (
    omega (arith, tally_next p w e, tally_agree p r (suc w) q h (λ j x y. same j (λ z. omega arith))),
    omega (arith, tally_agree p r 0 i (omega arith) (λ j x y. same j (λ z. omega arith))),
  )

  pub ahead_less : Line p q next w → ahead r q (suc w) i < ahead p q next i
  unfolding tally
  ahead_less (inl (a, b, none)) = on (dec_le next i)
    where
      on : Dec (next ≤ i) → ahead r q (suc w) i < ahead p q next i
      on (yes c) =
          let d : suc w ≤ i = after (dec_le (suc w) i) in
          rw (le-leb next i c, le-leb (suc w) i d)
          (omega (arith, passed d, tally-flat p next w a none, tally_grows p (suc w) i d, tally_grows r (suc w) i d, tally_next p w e))
        where
          after : Dec (suc w ≤ i) → suc w ≤ i
          after (yes d) = d
          after (no d) = absurd (outside next w none c (omega arith))
      on (no c) =
          let d = behind (omega arith) in
          rw (lt-leb next i (omega arith), lt-leb (suc w) i (omega arith))
          (omega (arith, d.0, d.1, tally-flat p next w a none, tally_grows p (suc w) q h, tally_grows r (suc w) q h, tally_next p w e))
  ahead_less (inr (none, first)) =
      let c : i < next = before (dec_le next i) in
      let d : suc w ≤ i = after (dec_le (suc w) i) in
      rw (lt-leb next i c, le-leb (suc w) i d)
      (omega (arith, passed d, tally-flat p 0 w (omega arith) first, tally_grows p (suc w) i d, tally_grows r (suc w) i d, tally_next p w e))
    where
      before : Dec (next ≤ i) → i < next
      before (yes c) = absurd (outside next q none c k)
      before (no c) = omega arith

      after : Dec (suc w ≤ i) → suc w ≤ i
      after (yes d) = d
      after (no d) = absurd (outside 0 w first (omega arith) (omega arith))
