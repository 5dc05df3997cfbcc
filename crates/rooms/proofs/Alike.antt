-- Rounds that agree on their questions stay so, turn by turn, also where the turns are made over other clauses. Assumes nothing.
use mathlib.Core.Path.{◌≡◌, refl, sym, ap, ◌∙◌}
use Prim.Native.Nat.{ℕ, zero, suc, ◌<◌, ◌≤◌}
use native.Mathlib.Omega.{arith}
use native.Mathlib.Decide.{ℕ_discrete, dec_lt}
use lib.Dec.{eqb}
use Rattle.calculus.specs.Count.{one}
use Rattle.turns.specs.Turn.{Search, is_running}
use Rattle.turns.specs.Round.{Round, runs, up_next, whose, serve, spend, turns_for}
use Rattle.turns.proofs.Rounds.{up_same, serve-none, serve-one, serve-same, serve-other}

module _ (f g : ℕ → Search → Search) (q : ℕ) (P : ℕ → Search → Type 0) (keeps : (i : ℕ) (s : Search) → i < q → P i s → P i (f i s))
    (agree : (i : ℕ) (s : Search) → i < q → P i s → f i s ≡ g i s) where
  -- the same searches, which have the property, and the same next
  pub record Alike (R S : Round) : Type 0 where
    pub searches : (i : ℕ) → i < q → R.searches i ≡ S.searches i
    pub next : R.next ≡ S.next
    pub good : (i : ℕ) → i < q → P i (R.searches i)

  whose-alike : {R S : Round} → Alike R S → whose q R ≡ whose q S
  whose-alike {R} {S} a = up_same (runs R) (runs S) q R.next (λ j h. ap is_running (a.searches j h)) ∙ ap (up_next (runs S) q) a.next

  serve_alike : {R S : Round} → Alike R S → Alike (serve f q R) (serve g q S)
  serve_alike {R} {S} a = on (dec_lt (whose q R) q)
    where
      w : whose q R ≡ whose q S
      w = whose-alike a

      moved : (i : ℕ) → i < q → whose q R < q → Dec (i ≡ whose q R) → (serve f q R).searches i ≡ (serve g q S).searches i
      moved i l h (yes e) =
          serve-same f q R i h e ∙ agree i (R.searches i) l (a.good i l) ∙ ap (g i) (a.searches i l)
          ∙ sym (serve-same g q S i (omega (arith, w)) (e ∙ w))
      moved i l h (no e) = serve-other f q R i e ∙ a.searches i l ∙ sym (serve-other g q S i (λ z. e (z ∙ sym w)))

      stays : (i : ℕ) → i < q → whose q R < q → Dec (i ≡ whose q R) → P i ((serve f q R).searches i)
      stays i l h (yes e) = rw (serve-same f q R i h e) (keeps i (R.searches i) l (a.good i l))
      stays i l h (no e) = rw (serve-other f q R i e) (a.good i l)

      on : Dec (whose q R < q) → Alike (serve f q R) (serve g q S)
      on (yes h) = record {
        searches = λ i l. moved i l h (ℕ_discrete i (whose q R));
        next =
            ap (λ (T : Round). T.next) (serve-one f q R h) ∙ ap suc w ∙ sym (ap (λ (T : Round). T.next) (serve-one g q S (omega (arith, w))));
        good = λ i l. stays i l h (ℕ_discrete i (whose q R));
      }
      on (no h) = rw (serve-none f q R (omega arith), serve-none g q S (omega (arith, w))) a

  pub spend_alike : (m : ℕ) {R S : Round} → Alike R S → Alike (spend f q m R) (spend g q m S)
  unfolding spend
  spend_alike zero a = a
  spend_alike (suc m) a = spend_alike m (serve_alike a)

  pub turns_alike : (m : ℕ) {R S : Round} → Alike R S → (i : ℕ) → turns_for f q m R i ≡ turns_for g q m S i
  unfolding turns_for
  turns_alike zero a i = refl
  turns_alike (suc m) a i = omega (arith, ap (λ (w : ℕ). one (eqb i w)) (whose-alike a), turns_alike m (serve_alike a) i)

-- who is next stays low
module _ (f : ℕ → Search → Search) (q most : ℕ) (few : q ≤ most) where
  next_low : (R : Round) → R.next ≤ most → (serve f q R).next ≤ most
  next_low R h = on (dec_lt (whose q R) q)
    where
      on : Dec (whose q R < q) → (serve f q R).next ≤ most
      on (yes l) = omega (arith, ap (λ (T : Round). T.next) (serve-one f q R l))
      on (no l) = omega (arith, ap (λ (T : Round). T.next) (serve-none f q R (omega arith)))

  pub spend_low : (m : ℕ) (R : Round) → R.next ≤ most → (spend f q m R).next ≤ most
  unfolding spend
  spend_low zero R h = h
  spend_low (suc m) R h = spend_low m (serve f q R) (next_low R h)
