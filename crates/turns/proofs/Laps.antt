-- Searches don't touch each other, so the turns of a round may be made question by question: where each has made its turns of so many laps,
-- the round is as if they had gone round. Assumes nothing.
use mathlib.Core.Path.{◌≡◌, refl, sym, ap, ◌∙◌}
use mathlib.Core.Logic.{◌⊎◌, inl, inr}
use mathlib.Core.Bool.{Bool, true, false, true≢false}
use Prim.Native.Nat.{ℕ, zero, suc, ◌+◌, ◌<◌, ◌≤◌}
use native.Mathlib.Numerals.{add-one}
use native.Mathlib.Omega.{arith}
use native.Mathlib.Decide.{ℕ_discrete, dec_lt, dec_le}
use lib.Dec.{eqb, ltb}
use borrow.Author.Tests.{eq-eqb, ne_eqb, lt-ltb, le-ltb}
use Rattle.calculus.specs.Count.{one}
use Rattle.turns.specs.Turn.{Search, is_running, times}
use Rattle.turns.specs.Round.{Round, runs, remaining, total, whose, serve, spend, turns_for}
use Rattle.turns.proofs.Tallies.{tally-some, total-less, None, Line}
use Rattle.turns.proofs.Rounds.{up, serve-none, serve-one, serve-other, spend_next, turns_next, turns_made_lem, turns_spent, turns_most, turns_enough}

-- all are none
total-none : (c : ℕ → ℕ) (n : ℕ) → ((i : ℕ) → i < n → c i ≡ 0) → total c n ≡ 0
unfolding total
total-none c zero h = refl
total-none c (suc n) h = omega (arith, h n (omega arith), total-none c n (λ i l. h i (omega arith)))

-- ---- laps

-- of the numbers below q, those before `next` have made lap j, if they still pass p, and the others the lap before; c counts laps
pub record Lap (p : ℕ → Bool) (q next j : ℕ) (c : ℕ → ℕ) : Type 0 where
  pub low : (i : ℕ) → i < q → i < next → c i ≤ j
  pub even : (i : ℕ) → i < q → i < next → p i ≡ true → c i ≡ j
  pub high : (i : ℕ) → i < q → next ≤ i → c i < j
  pub behind : (i : ℕ) → i < q → next ≤ i → p i ≡ true → suc (c i) ≡ j

-- w, the next in line, makes its turn: it has then made the newest lap
module _ {p r : ℕ → Bool} {q next j w : ℕ} {c d : ℕ → ℕ} (a : Lap p q next j c) (h : w < q) (e : p w ≡ true)
    (same : (i : ℕ) → (i ≡ w → ⊥) → r i ≡ p i) (here : d w ≡ suc (c w)) (others : (i : ℕ) → (i ≡ w → ⊥) → d i ≡ c i) where
  -- at a number that passes no longer nothing is asked
  stopped : (i : ℕ) → (i ≡ w → ⊥) → p i ≡ false → r i ≡ true → ⊥
  stopped i o f g = true≢false (sym g ∙ same i o ∙ f)

  top_on : next ≤ w → d w ≡ j
  top_on l = here ∙ a.behind w h l e

  early : None p next q → w < next
  early none = on (dec_lt w next)
    where
      on : Dec (w < next) → w < next
      on (yes k) = k
      on (no k) = absurd (true≢false (sym e ∙ none w (omega arith) h))

  top_again : None p next q → d w ≡ suc j
  top_again none = here ∙ ap suc (a.even w h (early none) e)

  lap_on : next ≤ w → None p next w → Lap r q (suc w) j d
  lap_on l none = record {
    low = λ i x y. low i x y (ℕ_discrete i w) (dec_lt i next);
    even = λ i x y z. even i x y z (ℕ_discrete i w) (dec_lt i next);
    high = λ i x y. omega (arith, others i (λ z. omega arith), a.high i x (omega arith));
    behind = λ i x y z.
        let o : i ≡ w → ⊥ = λ u. omega arith in
        ap suc (others i o) ∙ a.behind i x (omega arith) (sym (same i o) ∙ z);
  }
    where
      low : (i : ℕ) → i < q → i < suc w → Dec (i ≡ w) → Dec (i < next) → d i ≤ j
      low i x y (yes z) k = rw z (omega (arith, top_on l))
      low i x y (no z) (yes k) = omega (arith, others i z, a.low i x k)
      low i x y (no z) (no k) = omega (arith, others i z, a.high i x (omega arith))

      even : (i : ℕ) → i < q → i < suc w → r i ≡ true → Dec (i ≡ w) → Dec (i < next) → d i ≡ j
      even i x y g (yes z) k = rw z (top_on l)
      even i x y g (no z) (yes k) = others i z ∙ a.even i x k (sym (same i z) ∙ g)
      even i x y g (no z) (no k) = absurd (stopped i z (none i (omega arith) (omega arith)) g)

  lap_again : None p next q → None p 0 w → Lap r q (suc w) (suc j) d
  lap_again none first = record {
    low = λ i x y. low i x y (ℕ_discrete i w);
    even = λ i x y z. even i x y z (ℕ_discrete i w);
    high = λ i x y. high i x (λ z. omega arith) (dec_lt i next);
    behind = λ i x y z. behind i x (λ u. omega arith) z (dec_lt i next);
  }
    where
      low : (i : ℕ) → i < q → i < suc w → Dec (i ≡ w) → d i ≤ suc j
      low i x y (yes z) = rw z (omega (arith, top_again none))
      low i x y (no z) = omega (arith, others i z, a.low i x (omega (arith, early none)))

      even : (i : ℕ) → i < q → i < suc w → r i ≡ true → Dec (i ≡ w) → d i ≡ suc j
      even i x y g (yes z) = rw z (top_again none)
      even i x y g (no z) = absurd (stopped i z (first i (omega arith) (omega arith)) g)

      high : (i : ℕ) → i < q → (i ≡ w → ⊥) → Dec (i < next) → d i < suc j
      high i x o (yes k) = omega (arith, others i o, a.low i x k)
      high i x o (no k) = omega (arith, others i o, a.high i x (omega arith))

      behind : (i : ℕ) → i < q → (i ≡ w → ⊥) → r i ≡ true → Dec (i < next) → suc (d i) ≡ suc j
      behind i x o g (yes k) = ap suc (others i o ∙ a.even i x k (sym (same i o) ∙ g))
      behind i x o g (no k) = absurd (stopped i o (none i (omega arith) x) g)

module _ (turn_of : ℕ → Search → Search) (q : ℕ) (R : Round) where
  -- what has come of m turns, and the laps of each: those before R's next one have one more
  abbrev after : ℕ → Round
  after m = spend turn_of q m R

  abbrev count : ℕ → ℕ → ℕ
  count m i = turns_for turn_of q m R i

  abbrev pub laps_of : (ℕ → ℕ) → ℕ → ℕ
  laps_of c i = c i + one (ltb i R.next)

  -- after m turns: the laps, and who made the last turn
  record At (m j : ℕ) : Type 0 where
    laps : Lap (runs (after m)) q (after m).next j (laps_of (count m))
    last : ((j ≡ 1) × ((i : ℕ) → i < q → count m i ≡ 0)) ⊎ ((w : ℕ) × ((after m).next ≡ suc w) × (w < q) × (laps_of (count m) w ≡ j))

  at_start : At 0 1
  unfolding spend turns_for
  at_start = record {
    laps = record {
      low = λ i h l. rw (lt-ltb i R.next l) (omega arith);
      even = λ i h l e. rw (lt-ltb i R.next l);
      high = λ i h l. rw (le-ltb i R.next l) (omega arith);
      behind = λ i h l e. rw (le-ltb i R.next l);
    };
    last = inl (refl, λ i h. refl);
  }

  -- one turn more
  module _ (m j : ℕ) (a : At m j) where
    abbrev S : Round
    S = after m

    abbrev w : ℕ
    w = whose q S

    more : after (m + 1) ≡ serve turn_of q S
    more = spend_next turn_of q m R

    counts : (i : ℕ) → count (m + 1) i ≡ count m i + one (eqb i w)
    counts i = turns_next turn_of q m R i

    others : (i : ℕ) → (i ≡ w → ⊥) → laps_of (count (m + 1)) i ≡ laps_of (count m) i
    others i o = omega (arith, counts i, ap one (ne_eqb i w o))

    here : laps_of (count (m + 1)) w ≡ suc (laps_of (count m) w)
    here = omega (arith, counts w, ap one (eq-eqb w w refl))

    same : (i : ℕ) → (i ≡ w → ⊥) → runs (after (m + 1)) i ≡ runs S i
    same i o = ap (λ (T : Round). is_running (T.searches i)) more ∙ ap is_running (serve-other turn_of q S i o)

    idle : q ≤ w → At (m + 1) j
    idle h =
        let stays : after (m + 1) ≡ S = more ∙ serve-none turn_of q S h in
        let keeps : (i : ℕ) → i < q → count (m + 1) i ≡ count m i = λ i l. omega (arith, counts i, ap one (ne_eqb i w (λ z. omega arith))) in
        record {
          laps = record {
            low = λ i l x. omega (arith, keeps i l, a.laps.low i l (rw stays at x));
            even = λ i l x e. ap (λ (z : ℕ). z + one (ltb i R.next)) (keeps i l) ∙ a.laps.even i l (rw stays at x) (rw stays at e);
            high = λ i l x. omega (arith, keeps i l, a.laps.high i l (rw stays at x));
            behind = λ i l x e. ap (λ (z : ℕ). suc (z + one (ltb i R.next))) (keeps i l) ∙ a.laps.behind i l (rw stays at x) (rw stays at e);
          };
          last = on a.last stays keeps;
        }
      where
        on : ((j ≡ 1) × ((i : ℕ) → i < q → count m i ≡ 0)) ⊎ ((v : ℕ) × (S.next ≡ suc v) × (v < q) × (laps_of (count m) v ≡ j))
            → after (m + 1) ≡ S → ((i : ℕ) → i < q → count (m + 1) i ≡ count m i)
            → ((j ≡ 1) × ((i : ℕ) → i < q → count (m + 1) i ≡ 0)) ⊎ ((v : ℕ) × ((after (m + 1)).next ≡ suc v) × (v < q) × (laps_of (count (m + 1)) v ≡ j))
        on (inl x) stays keeps = inl (x.0, λ i l. keeps i l ∙ x.1 i l)
        on (inr x) stays keeps = inr (x.0, ap (λ (T : Round). T.next) stays ∙ x.1, x.2, ap (λ (z : ℕ). z + one (ltb x.0 R.next)) (keeps x.0 x.2) ∙ x.3)

    module _ (h : w < q) where
      passes : runs S w ≡ true
      passes = (up (runs S) q S.next).passes h

      then : (after (m + 1)).next ≡ suc w
      then = ap (λ (T : Round). T.next) (more ∙ serve-one turn_of q S h)

      goes : Line (runs S) q S.next w → (k : ℕ) × At (m + 1) k
      goes (inl x) =
          let b = lap_on a.laps h passes same here others x.0 x.2 in
          (j, record { laps = rw then b; last = inr (w, then, h, top_on a.laps h passes same here others x.0) })
      goes (inr x) =
          let b = lap_again a.laps h passes same here others x.0 x.1 in
          (suc j, record { laps = rw then b; last = inr (w, then, h, top_again a.laps h passes same here others x.0) })

    at_next : (k : ℕ) × At (m + 1) k
    at_next = on (dec_lt w q)
      where
        on : Dec (w < q) → (k : ℕ) × At (m + 1) k
        on (yes h) = goes h (up (runs S) q S.next).line
        on (no h) = (j, idle (omega arith))

  at : (m : ℕ) → (j : ℕ) × At m j
  at zero = (1, at_start)
  at (suc m) =
      let z : m + 1 ≡ suc m = add-one m in
      let b = at_next m (at m).0 (at m).1 in
      rw z at b

  -- ---- each question makes its turns of so many laps, if it runs so long: c counts them

  module _ (c : ℕ → ℕ) (J : ℕ) (ran : (i : ℕ) → i < q → (k : ℕ) → k < c i → is_running (times (turn_of i) k (R.searches i)) ≡ true)
      (level : (i : ℕ) → i < q → is_running (times (turn_of i) (c i) (R.searches i)) ≡ true → laps_of c i ≡ J)
      (most : (i : ℕ) → i < q → laps_of c i ≤ J) (some : 1 ≤ J) where
    -- the turns of all
    abbrev sum : ℕ
    sum = total c q

    abbrev k : ℕ → ℕ
    k i = count sum i

    -- a question that has finished in the round has all its turns
    finished : (i : ℕ) → i < q → runs (after sum) i ≡ false → c i ≤ k i
    finished i h e = on (dec_le (c i) (k i))
      where
        on : Dec (c i ≤ k i) → c i ≤ k i
        on (yes l) = l
        on (no l) = absurd (true≢false (sym (ran i h (k i) (omega arith)) ∙ ap is_running (sym (turns_made_lem turn_of q sum R i h)) ∙ e))

    -- not more laps: no question has more turns
    fewer : (j : ℕ) → At sum j → j ≤ J → (i : ℕ) → i < q → k i ≤ c i
    fewer j a l i h = on (is_running (times (turn_of i) (c i) (R.searches i))) refl (dec_lt i (after sum).next)
      where
        on : (b : Bool) → is_running (times (turn_of i) (c i) (R.searches i)) ≡ b → Dec (i < (after sum).next) → k i ≤ c i
        on true e (yes x) = omega (arith, level i h e, a.laps.low i h x)
        on true e (no x) = omega (arith, level i h e, a.laps.high i h (omega arith))
        on false e x = turns_enough turn_of q sum (c i) R i h e

    -- more laps: none has fewer
    greater : (j : ℕ) → At sum j → J < j → (i : ℕ) → i < q → c i ≤ k i
    greater j a l i h = on (runs (after sum) i) refl (dec_lt i (after sum).next)
      where
        on : (b : Bool) → runs (after sum) i ≡ b → Dec (i < (after sum).next) → c i ≤ k i
        on true e (yes x) = omega (arith, most i h, a.laps.even i h x e)
        on true e (no x) = omega (arith, most i h, a.laps.behind i h (omega arith) e)
        on false e x = finished i h e

    within : (j : ℕ) → At sum j → j ≤ J
    within j a = on (dec_le j J) a.last
      where
        on : Dec (j ≤ J) → ((j ≡ 1) × ((i : ℕ) → i < q → k i ≡ 0)) ⊎ ((w : ℕ) × ((after sum).next ≡ suc w) × (w < q) × (laps_of k w ≡ j)) → j ≤ J
        on (yes l) x = l
        on (no l) (inl x) = omega (arith, x.0)
        on (no l) (inr x) =
            absurd (omega (arith, turns_most turn_of q sum R, total-less c k q x.0 (greater j a (omega arith)) x.2 (omega (arith, most x.0 x.2, x.3))))

    -- so each has exactly its turns
    pub laps-counts : (i : ℕ) → i < q → k i ≡ c i
    laps-counts i h = on (dec_lt (k i) (c i))
      where
        few : (i : ℕ) → i < q → k i ≤ c i
        few = fewer (at sum).0 (at sum).1 (within (at sum).0 (at sum).1)

        on : Dec (k i < c i) → k i ≡ c i
        on (no l) = omega (arith, few i h)
        on (yes l) = absurd (all (dec_lt 0 (remaining q (after sum))))
          where
            less : total k q < sum
            less = total-less k c q i few h l

            all : Dec (0 < remaining q (after sum)) → ⊥
            all (yes x) = omega (arith, less, turns_spent turn_of q sum R x)
            all (no x) = by (runs (after sum) i) refl
              where
                by : (b : Bool) → runs (after sum) i ≡ b → ⊥
                by true e = omega (arith, x, tally-some (runs (after sum)) q i h e)
                by false e = omega (arith, finished i h e, l)

    pub laps-searches : (i : ℕ) → i < q → (after sum).searches i ≡ times (turn_of i) (c i) (R.searches i)
    laps-searches i h = turns_made_lem turn_of q sum R i h ∙ ap (λ (n : ℕ). times (turn_of i) n (R.searches i)) (laps-counts i h)

    -- the last turn was that of v, which has the most laps, and none after it has as many
    module _ (v : ℕ) (h : v < q) (first : (i : ℕ) → i < q → laps_of c i ≤ laps_of c v) (then : (i : ℕ) → i < q → v < i → laps_of c i < laps_of c v)
        (made : 0 < sum) where
      laps-same : (i : ℕ) → i < q → laps_of k i ≡ laps_of c i
      laps-same i l = ap (λ (z : ℕ). z + one (ltb i R.next)) (laps-counts i l)

      pub laps-next : (after sum).next ≡ suc v
      laps-next = on (at sum).0 (at sum).1 (at sum).1.last
        where
          on : (j : ℕ) → At sum j → ((j ≡ 1) × ((i : ℕ) → i < q → k i ≡ 0)) ⊎ ((w : ℕ) × ((after sum).next ≡ suc w) × (w < q) × (laps_of k w ≡ j))
              → (after sum).next ≡ suc v
          on j a (inl x) = absurd (omega (arith, made, total-none c q (λ i l. sym (laps-counts i l) ∙ x.1 i l)))
          on j a (inr x) = x.1 ∙ ap suc (by (dec_lt x.0 v) (dec_lt v x.0))
            where
              by : Dec (x.0 < v) → Dec (v < x.0) → x.0 ≡ v
              by (yes l) z = absurd (omega (arith, first x.0 x.2, laps-same x.0 x.2, x.3, laps-same v h, a.laps.high v h (omega (arith, x.1))))
              by (no l) (yes z) = absurd (omega (arith, then x.0 x.2 z, laps-same x.0 x.2, x.3, laps-same v h, a.laps.low v h (omega (arith, x.1))))
              by (no l) (no z) = omega arith
