-- Rounds: calls of any allowances are one, turns add up to those spent, and no question waits long. Assumes nothing.
use mathlib.Core.Path.{◌≡◌, refl, sym, ap, ◌∙◌}
use mathlib.Core.Logic.{inl, inr}
use mathlib.Core.List.{List, [], ◌∷◌}
use mathlib.Core.Bool.{Bool, true, false, cond, true≢false}
use Prim.Native.Nat.{ℕ, zero, suc, ◌+◌, ◌-◌, ◌<◌, ◌≤◌}
use native.Mathlib.Nat.{zero-add, suc-add}
use native.Mathlib.Numerals.{add-one}
use native.Mathlib.Omega.{arith}
use native.Mathlib.Decide.{ℕ_discrete, dec_lt, dec_le}
use lib.Dec.{eqb, ltb}
use borrow.Author.Tests.{eq-eqb, ne_eqb, lt-ltb, le-ltb}
use Rattle.calculus.specs.Count.{one}
use Rattle.turns.specs.Turn.{Search, is_running, times}
use Rattle.turns.specs.Round.{Round, runs, remaining, seek, up_next, total, whose, served, serve, spend, turns_for, calls, sum}
use Rattle.turns.proofs.Tallies.{Sought, sought, tally-none, total-zero, total-none, total-one, ahead, ahead_few, Line, ahead_less}

-- ---- whose turn it is

-- w is the number that is up next; q where none passes
pub record Up (p : ℕ → Bool) (q next w : ℕ) : Type 0 where
  pub most : w ≤ q
  pub passes : w < q → p w ≡ true
  pub line : Line p q next w

pub up : (p : ℕ → Bool) (q next : ℕ) → Up p q next (up_next p q next)
unfolding up_next
up p q next = on (seek p next (q - next)) (seek p 0 q) (sought p next (q - next)) (sought p 0 q)
  where
    on : (v w : ℕ) → Sought p next (q - next) v → Sought p 0 q w → Up p q next (cond (ltb v q) v w)
    on v w s z = by (dec_lt v q)
      where
        by : Dec (v < q) → Up p q next (cond (ltb v q) v w)
        by (yes h) =
            rw (lt-ltb v q h) (record { most = omega arith; passes = λ l. s.here (omega (arith, s.low)); line = inl (s.low, h, s.before) })
        by (no h) =
            rw (le-ltb v q (omega arith))
            (record { most = omega (arith, z.high); passes = λ l. z.here (omega arith); line = inr (λ j a b. s.before j a (omega arith), z.before) })

abbrev whose-turn : (q : ℕ) (R : Round) → Up (runs R) q R.next (whose q R)
whose-turn q R = up (runs R) q R.next

-- code goes by tests of its own, as a verdict's byte
module _ (p r : ℕ → Bool) where
  seek_same : (i n : ℕ) → ((j : ℕ) → i ≤ j → j < i + n → p j ≡ r j) → seek p i n ≡ seek r i n
  unfolding seek
  seek_same i zero f = refl
  seek_same i (suc n) f = rw (f i (omega arith) (omega arith), seek_same (suc i) n (λ j a h. f j (omega arith) (omega arith)))

  pub up_same : (q next : ℕ) → ((j : ℕ) → j < q → p j ≡ r j) → up_next p q next ≡ up_next r q next
  unfolding up_next
  up_same q next f = rw (later (dec_le next q), seek_same 0 q (λ j a l. f j (omega arith)))
    where
      later : Dec (next ≤ q) → seek p next (q - next) ≡ seek r next (q - next)
      later (yes h) = seek_same next (q - next) (λ j a l. f j (omega arith))
      later (no h) =
          let z : q - next ≡ 0 = omega arith in
          ap (seek p next) z ∙ seek_same next 0 (λ j a l. absurd (omega arith)) ∙ sym (ap (seek r next) z)

-- where none is to be served, none runs
module _ (q : ℕ) (R : Round) (h : q ≤ whose q R) where
  pub all_finished : (i : ℕ) → i < q → runs R i ≡ false
  all_finished i k = on (whose-turn q R).line
    where
      on : Line (runs R) q R.next (whose q R) → runs R i ≡ false
      on (inl x) = absurd (omega (arith, x.1, h))
      on (inr x) = x.1 i (omega arith) (omega arith)

  none-remaining : remaining q R ≡ 0
  none-remaining = tally-none (runs R) q all_finished

-- for a loop that looks for the first: what is left at i, up to e
module _ (p : ℕ → Bool) (i e : ℕ) where
  pub seek_stops : i < e → p i ≡ true → seek p i (e - i) ≡ i
  unfolding seek
  seek_stops h f =
      let z : e - i ≡ suc (e - (i + 1)) = omega arith in
      simp (z, f)

  pub seek_goes : i < e → p i ≡ false → seek p i (e - i) ≡ seek p (i + 1) (e - (i + 1))
  unfolding seek
  seek_goes h f =
      let z : e - i ≡ suc (e - (i + 1)) = omega arith in
      simp (z, f, add-one)

  pub seek-done : e ≤ i → seek p i (e - i) ≡ i
  unfolding seek
  seek-done h =
      let z : e - i ≡ 0 = omega arith in
      simp z

module _ (turn_of : ℕ → Search → Search) (q : ℕ) where
  abbrev after : Round → Round
  after R = serve turn_of q R

  abbrev spent : ℕ → Round → Round
  spent m R = spend turn_of q m R

  abbrev count : ℕ → Round → ℕ → ℕ
  count m R i = turns_for turn_of q m R i

  -- ---- one turn

  module _ (R : Round) where
    -- all are finished: nothing happens
    pub serve-none : q ≤ whose q R → after R ≡ R
    unfolding serve
    serve-none h = rw (le-ltb (whose q R) q h)

    pub serve-one : whose q R < q → after R ≡ served turn_of q (whose q R) R
    unfolding serve
    serve-one h = rw (lt-ltb (whose q R) q h)

    module _ (i : ℕ) where
      -- the search of the question served, and those of the others
      pub serve-same : whose q R < q → i ≡ whose q R → (after R).searches i ≡ turn_of i (R.searches i)
      unfolding serve
      serve-same h e = rw (lt-ltb (whose q R) q h, eq-eqb i (whose q R) e)

      pub serve-other : (i ≡ whose q R → ⊥) → (after R).searches i ≡ R.searches i
      unfolding serve
      serve-other o = on (ltb (whose q R) q)
        where
          on : (b : Bool) → (cond b (served turn_of q (whose q R) R) R).searches i ≡ R.searches i
          on true = rw (ne_eqb i (whose q R) o)
          on false = refl

  -- ---- an allowance

  -- for a loop that serves: what is left of an allowance e after k turns
  module _ (k e : ℕ) (R : Round) (h : k < e) where
    pub spend-turn : spent (e - k) R ≡ spent (e - (k + 1)) (after R)
    unfolding spend
    spend-turn =
        let z : e - k ≡ suc (e - (k + 1)) = omega arith in
        rw z

    pub turns-turn : (i : ℕ) → count (e - k) R i ≡ one (eqb i (whose q R)) + count (e - (k + 1)) (after R) i
    unfolding turns_for
    turns-turn i =
        let z : e - k ≡ suc (e - (k + 1)) = omega arith in
        rw z

  -- all are finished: no turn is made
  pub spend_none : (m : ℕ) (R : Round) → q ≤ whose q R → spent m R ≡ R
  unfolding spend
  spend_none zero R h = refl
  spend_none (suc m) R h = rw (serve-none R h) (spend_none m R h)

  -- an allowance may be spent in parts
  pub spend_add : (m n : ℕ) (R : Round) → spent (m + n) R ≡ spent n (spent m R)
  unfolding spend
  spend_add zero n R = ap (λ (k : ℕ). spent k R) (zero-add n)
  spend_add (suc m) n R = rw (suc-add m n) (spend_add m n (after R))

  pub turns_add : (m n : ℕ) (R : Round) (i : ℕ) → count (m + n) R i ≡ count m R i + count n (spent m R) i
  unfolding turns_for spend
  turns_add zero n R i = ap (λ (k : ℕ). count k R i) (zero-add n) ∙ sym (zero-add (count n R i))
  turns_add (suc m) n R i = rw (suc-add m n) (omega (arith, turns_add m n (after R) i))

  -- .. turn by turn
  pub spend_next : (k : ℕ) (R : Round) → spent (k + 1) R ≡ after (spent k R)
  unfolding spend
  spend_next k R = spend_add k 1 R

  pub turns_next : (k : ℕ) (R : Round) (i : ℕ) → count (k + 1) R i ≡ count k R i + one (eqb i (whose q (spent k R)))
  unfolding turns_for
  turns_next k R i = omega (arith, turns_add k 1 R i)

  pub turns_none : (m : ℕ) (R : Round) (i : ℕ) → q ≤ whose q R → i < q → count m R i ≡ 0
  unfolding turns_for
  turns_none zero R i h l = refl
  turns_none (suc m) R i h l = rw (serve-none R h, ne_eqb i (whose q R) (λ e. omega arith)) (omega (arith, turns_none m R i h l))

  -- so calls are one call with the sum of their allowances
  pub calls_spend : (ms : List ℕ) (R : Round) → calls turn_of q ms R ≡ spent (sum ms) R
  unfolding calls sum spend
  calls_spend [] R = refl
  calls_spend (m ∷ ms) R = calls_spend ms (spent m R) ∙ sym (spend_add m (sum ms) R)

  -- 'one turn of the plain order further for each turn reported'
  pub turns_made_lem : (m : ℕ) (R : Round) (i : ℕ) → i < q → (spent m R).searches i ≡ times (turn_of i) (count m R i) (R.searches i)
  unfolding spend turns_for times
  turns_made_lem zero R i h = refl
  turns_made_lem (suc m) R i h = turns_made_lem m (after R) i h ∙ on (ℕ_discrete i (whose q R)) (count m (after R) i)
    where
      on : Dec (i ≡ whose q R) → (k : ℕ) → times (turn_of i) k ((after R).searches i) ≡ times (turn_of i) (one (eqb i (whose q R)) + k) (R.searches i)
      on (yes e) k =
          let z : 1 + k ≡ suc k = omega arith in
          rw (serve-same R i (omega arith) e, eq-eqb i (whose q R) e, z)
      on (no e) k = rw (serve-other R i e, ne_eqb i (whose q R) e, zero-add k)

  -- '.. and add up to those spent', all of the allowance 'unless every question is finished'
  pub turns_spent : (m : ℕ) (R : Round) → 0 < remaining q (spent m R) → total (count m R) q ≡ m
  unfolding spend turns_for
  turns_spent zero R h = total-zero q
  turns_spent (suc m) R h = on (dec_lt (whose q R) q) (turns_spent m (after R) h)
    where
      on : Dec (whose q R < q) → total (count m (after R)) q ≡ m → total (λ i. one (eqb i (whose q R)) + count m (after R) i) q ≡ suc m
      on (yes c) r = total-one (whose q R) (count m (after R)) q c ∙ ap suc r
      on (no c) r =
          let z : spent m (after R) ≡ R = ap (spent m) (serve-none R (omega arith)) ∙ spend_none m R (omega arith) in
          absurd (omega (arith, h, ap (remaining q) z, none-remaining q R (omega arith)))

  pub turns_most : (m : ℕ) (R : Round) → total (count m R) q ≤ m
  unfolding turns_for
  turns_most zero R = omega (arith, total-zero q)
  turns_most (suc m) R = on (dec_lt (whose q R) q) (turns_most m (after R))
    where
      on : Dec (whose q R < q) → total (count m (after R)) q ≤ m → total (λ i. one (eqb i (whose q R)) + count m (after R) i) q ≤ suc m
      on (yes c) r = omega (arith, total-one (whose q R) (count m (after R)) q c)
      on (no c) r = omega (arith, total-none (whose q R) (count m (after R)) q (omega arith))

  one_most : (b : Bool) → one b ≤ 1
  one_most true = omega arith
  one_most false = omega arith

  -- .. so each count fits an allowance
  pub turns_fit : (m : ℕ) (R : Round) (i : ℕ) → count m R i ≤ m
  unfolding turns_for
  turns_fit zero R i = omega arith
  turns_fit (suc m) R i = omega (arith, one_most (eqb i (whose q R)), turns_fit m (after R) i)

  -- a question has no more turns than it takes to finish
  pub turns_enough : (m k : ℕ) (R : Round) (i : ℕ) → i < q → is_running (times (turn_of i) k (R.searches i)) ≡ false → count m R i ≤ k
  unfolding turns_for times
  turns_enough zero k R i h e = omega arith
  turns_enough (suc m) k R i h e = on (ℕ_discrete i (whose q R)) k e (λ k. turns_enough m k (after R) i h)
    where
      on : Dec (i ≡ whose q R) → (k : ℕ) → is_running (times (turn_of i) k (R.searches i)) ≡ false
          → ((k : ℕ) → is_running (times (turn_of i) k ((after R).searches i)) ≡ false → count m (after R) i ≤ k)
          → one (eqb i (whose q R)) + count m (after R) i ≤ k
      on (yes d) zero e r = absurd (true≢false (sym ((whose-turn q R).passes (omega arith)) ∙ ap (runs R) (sym d) ∙ e))
      on (yes d) (suc k) e r =
          rw (eq-eqb i (whose q R) d) (omega (arith, r k (ap (λ (s : Search). is_running (times (turn_of i) k s)) (serve-same R i (omega arith) d) ∙ e)))
      on (no d) k e r = rw (ne_eqb i (whose q R) d) (omega (arith, r k (ap (λ (s : Search). is_running (times (turn_of i) k s)) (serve-other R i d) ∙ e)))

  -- ---- no question waits long

  module _ (R : Round) (i : ℕ) (h : i < q) (e : runs R i ≡ true) where
    one-served : whose q R < q
    one-served = on (dec_lt (whose q R) q)
      where
        on : Dec (whose q R < q) → whose q R < q
        on (yes c) = c
        on (no c) = absurd (true≢false (sym e ∙ all_finished q R (omega arith) i h))

    -- another's turn: one fewer stands before i
    turn-nearer : (i ≡ whose q R → ⊥) → ahead (runs (after R)) q (after R).next i < ahead (runs R) q R.next i
    turn-nearer o =
        rw (ap (λ (S : Round). S.next) (serve-one R one-served))
        (ahead_less (runs R) (runs (after R)) q R.next (whose q R) i one-served ((whose-turn q R).passes one-served)
        (λ j d. ap is_running (serve-other R j d)) h e o (whose-turn q R).line)

  -- with at most a unfinished questions before it, a question is served in a + 1 turns
  soon : (a : ℕ) (R : Round) (i : ℕ) → i < q → runs R i ≡ true → ahead (runs R) q R.next i ≤ a → 0 < count (suc a) R i
  unfolding turns_for
  soon zero R i h e l = on (ℕ_discrete i (whose q R))
    where
      on : Dec (i ≡ whose q R) → 0 < one (eqb i (whose q R)) + 0
      on (yes d) = rw (eq-eqb i (whose q R) d) (omega arith)
      on (no d) = absurd (omega (arith, turn-nearer R i h e d))
  soon (suc a) R i h e l = on (ℕ_discrete i (whose q R)) (soon a (after R) i h)
    where
      on : Dec (i ≡ whose q R) → (runs (after R) i ≡ true → ahead (runs (after R)) q (after R).next i ≤ a → 0 < count (suc a) (after R) i)
          → 0 < one (eqb i (whose q R)) + count (suc a) (after R) i
      on (yes d) r = rw (eq-eqb i (whose q R) d) (omega arith)
      on (no d) r = rw (ne_eqb i (whose q R) d) (omega (arith, r (ap is_running (serve-other R i d) ∙ e) (omega (arith, turn-nearer R i h e d))))

  module _ (R : Round) (i : ℕ) (h : i < q) (e : runs R i ≡ true) where
    -- with r unfinished, each of them has one of the next r turns
    pub served-soon : 0 < count (remaining q R) R i
    served-soon =
        let l = ahead_few (runs R) q R.next i h e in
        let z : suc (remaining q R - 1) ≡ remaining q R = omega arith in
        rw z at (soon (remaining q R - 1) R i h e (omega arith))

    -- 'With r unfinished, a question waits for at most r − 1 turns of others while allowance lasts.'
    pub waits-few : (m : ℕ) → count m R i ≡ 0 → m < remaining q R
    waits-few m z = on (dec_lt m (remaining q R))
      where
        on : Dec (m < remaining q R) → m < remaining q R
        on (yes c) = c
        on (no c) =
            let s : m ≡ remaining q R + (m - remaining q R) = omega arith in
            let u = sym z ∙ ap (λ (k : ℕ). count k R i) s ∙ turns_add (remaining q R) (m - remaining q R) R i in
            absurd (omega (arith, served-soon))
