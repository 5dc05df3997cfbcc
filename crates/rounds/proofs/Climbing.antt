-- Question by question: each makes its turns of so many laps, and the call has then come to the round after as many turns. Assumes nothing.
use mathlib.Core.Path.{◌≡◌, refl, sym, ap, ◌∙◌}
use mathlib.Core.Bool.{Bool, true, false, true≢false}
use mathlib.Core.List.{List}
use Prim.Native.Nat.{ℕ, zero, suc, ◌+◌, ◌-◌, ◌*◌, ◌/◌, ◌<◌, ◌≤◌}
use native.Mathlib.Nat.{mul-zero, mul-one, mul-suc, mul_comm, mul-le-mul_left, div-add-mod}
use native.Mathlib.Numerals.{add-one}
use native.Mathlib.Omega.{arith}
use native.Mathlib.Decide.{ℕ_discrete}
use lib.Dec.{eqb, ltb}
use lib.ListN.{length, get_or, set, take}
use lib.Seq.{get_or-set_same, get_or-set_other}
use borrow.Author.Tests.{eq-eqb, ne_eqb}
use Rattle.std.specs.Prelude.{◌==◌, count_by}
use Rattle.std.proofs.lemmas.List.Sums.{count_by_more_no, count_by_more_yes}
use Rattle.scope.specs.declared.Node.{Node}
use Rattle.scope.specs.Table.{list_from}
use Rattle.calculus.specs.Count.{one, tally}
use Rattle.calculus.specs.Expansion.{expand}
use Rattle.calculus.specs.Decide.{settings_on}
use Rattle.units.specs.Units.{words}
use Rattle.state.specs.Work.{g_of}
use Rattle.turns.specs.Turn.{Search, running, found, closed, verdict_of, number_of, is_running, times}
use Rattle.turns.specs.Round.{total, turn_for, spend, turns_for, written}
use Rattle.turns.proofs.Tallies.{tally_grows}
use Rattle.turns.proofs.Laps.{laps-counts, laps-searches, laps-next}
use Rattle.replaying.specs.Standing.{stack_size, search_by, Stands}
use Rattle.replaying.proofs.Standings.{made_stands}
use Rattle.roomareas.specs.Areas.{area_size, points_size, part_of, goal_of, goals_of}
use Rattle.roomareas.specs.Changes.{Beside, search_at, Sits}
use Rattle.roomareas.proofs.Sitting.{search_here, search-other}
use Rattle.rounds.proofs.Spending.{idle}
use Rattle.rounds.specs.Spent.{runs_by, turns_at, Served, round_in, round_after, turns_after, Spent, Apart, laps_by, Climbs, LastOf}

-- ---- sums

one_most : (b : Bool) → one b ≤ 1
one_most true = omega arith
one_most false = omega arith

pub ahead_most : (i first : ℕ) {r : ℕ} → r ≡ one (ltb i first) → r ≤ 1
ahead_most i first e = omega (arith, e, one_most (ltb i first))

-- each is at most all
total-part : (f : ℕ → ℕ) (n i : ℕ) → i < n → f i ≤ total f n
unfolding total
total-part f zero i h = absurd (omega arith)
total-part f (suc n) i h = on (ℕ_discrete i n) (total-part f n i)
  where
    on : Dec (i ≡ n) → (i < n → f i ≤ total f n) → f i ≤ f n + total f n
    on (yes e) r = rw e (omega arith)
    on (no e) r = omega (arith, r (omega arith))

total_same : (f g : ℕ → ℕ) (n : ℕ) → ((i : ℕ) → i < n → f i ≡ g i) → total f n ≡ total g n
unfolding total
total_same f g zero h = refl
total_same f g (suc n) h = omega (arith, h n (omega arith), total_same f g n (λ i l. h i (omega arith)))

-- ---- how many laps

-- a share, taken as often as it was shared out
pub share_fits : (a c : ℕ) → (c ≡ 0 → ⊥) → a / c * c ≤ a
share_fits a c d = omega (arith, div-add-mod a c, mul_comm (a / c) c)

pub share_none : (a c : ℕ) → 0 * c ≤ a
share_none a c = omega (arith, mul_comm 0 c, mul-zero c)

pub share_few : (a c : ℕ) → (c ≡ 0 → ⊥) → a / c ≤ a
share_few a c d =
    let some : 1 ≤ c = omega arith in
    let z : a / c * 1 ≤ a / c * c = mul-le-mul_left (a / c) some in
    omega (arith, mul-one (a / c), share_fits a c d)

-- counting the questions that run

pub tally_counts : (v : List ℕ) (q : ℕ) → q ≤ length v → count_by (λ x. x == 2) (take q v) ≡ tally (runs_by v) q
unfolding tally
tally_counts v zero h = refl
tally_counts v (suc q) h = on (eqb (get_or v q 0) 2) refl (tally_counts v q (omega arith))
  where
    on : (b : Bool) → eqb (get_or v q 0) 2 ≡ b → count_by (λ x. x == 2) (take q v) ≡ tally (runs_by v) q
        → count_by (λ x. x == 2) (take (suc q) v) ≡ one (eqb (get_or v q 0) 2) + tally (runs_by v) q
    on true e r = rw (e, ← add-one q) (omega (arith, count_by_more_yes (λ x. x == 2) v q 0 (omega arith) e, r))
    on false e r = rw (e, ← add-one q) (omega (arith, count_by_more_no (λ x. x == 2) v q 0 (omega arith) e, r))

-- ---- who had the last turn

-- of the first i questions: the most laps, and the number after that of the last one with so many
pub record Seen (first : ℕ) (turns : List ℕ) (i next most : ℕ) : Type 0 where
  pub zero : i ≡ 0 → most ≡ 0
  pub top : (j : ℕ) → j < i → laps_by first turns j ≤ most
  pub later : (j : ℕ) → j < i → next ≤ j → laps_by first turns j < most
  pub here : 0 < i → (0 < next) × (next ≤ i) × (laps_by first turns (next - 1) ≡ most)

pub seen_none : (first : ℕ) (turns : List ℕ) → Seen first turns 0 0 0
seen_none first turns = record {
  zero = λ e. refl;
  top = λ j h. absurd (omega arith);
  later = λ j h l. absurd (omega arith);
  here = λ h. absurd (omega arith);
}

module _ {first : ℕ} {turns : List ℕ} {i next most : ℕ} (a : Seen first turns i next most) where
  -- the next has as many, or fewer
  pub seen_more : {made : ℕ} → made ≡ laps_by first turns i → most ≤ made → Seen first turns (i + 1) (i + 1) made
  seen_more {made} e h = record {
    zero = λ z. absurd (omega arith);
    top = λ j l. on j (ℕ_discrete j i) l;
    later = λ j l x. absurd (omega arith);
    here = λ l. (omega arith, omega arith, ap (laps_by first turns) (back refl) ∙ sym e);
  }
    where
      back : i ≡ i → i + 1 - 1 ≡ i
      back z = omega arith

      on : (j : ℕ) → Dec (j ≡ i) → j < i + 1 → laps_by first turns j ≤ made
      on j (yes z) l = rw z (omega (arith, e))
      on j (no z) l = omega (arith, a.top j (omega arith))

  pub seen_less : {made : ℕ} → made < most → made ≡ laps_by first turns i → Seen first turns (i + 1) next most
  seen_less {made} h e = record {
    zero = λ z. absurd (omega arith);
    top = λ j l. on j (ℕ_discrete j i) l;
    later = λ j l x. by j (ℕ_discrete j i) l x;
    here = λ l. let b = a.here (some (ℕ_discrete i 0)) in (b.0, omega (arith, b.1), b.2);
  }
    where
      some : Dec (i ≡ 0) → 0 < i
      some (yes z) = absurd (omega (arith, a.zero z))
      some (no z) = omega arith

      on : (j : ℕ) → Dec (j ≡ i) → j < i + 1 → laps_by first turns j ≤ most
      on j (yes z) l = rw z (omega (arith, e))
      on j (no z) l = a.top j (omega arith)

      by : (j : ℕ) → Dec (j ≡ i) → j < i + 1 → next ≤ j → laps_by first turns j < most
      by j (yes z) l x = rw z (omega (arith, e))
      by j (no z) l x = a.later j (omega arith) x

  pub seen_all : {q k : ℕ} → i ≡ q → (k ≡ 0 → ⊥) → LastOf q first turns k next
  seen_all {q} {k} e d = record {
    none = λ z. absurd (d z);
    one = λ x h. ((a.here (omega arith)).0, omega (arith, (a.here (omega arith)).1));
    most = λ x j h. omega (arith, a.top j (omega arith), (a.here (omega arith)).2);
    later = λ x j h l. omega (arith, a.later j (omega arith) l, (a.here (omega arith)).2);
  }

pub last_none : (q first : ℕ) (turns : List ℕ) {k : ℕ} → k ≡ 0 → LastOf q first turns k first
last_none q first turns e = record {
  none = λ z. refl;
  one = λ x h. absurd (omega arith);
  most = λ x j h. absurd (omega arith);
  later = λ x j h l. absurd (omega arith);
}

-- ---- each question in turn

-- the first i questions have made their turns of so many laps
pub record Climbing (t : ℕ → Node) (n : ℕ) (questions s₀ v₀ : List ℕ) (before : ℕ → Search) (first laps i : ℕ) (s v turns : List ℕ) (stand : ℕ → Search)
    (spent : ℕ) : Type 0 where
  pub apart : Apart t n questions s₀ v₀ before s v turns stand
  pub most : (j : ℕ) → j < i → laps_by first turns j ≤ laps
  pub level : (j : ℕ) → j < i → is_running (stand j) ≡ true → laps_by first turns j ≡ laps
  pub all : spent ≡ total (λ j. get_or turns j 0) i
  pub few : spent ≤ laps * tally (runs_by v₀) i
  -- the others have made none
  pub rest : (j : ℕ) → i ≤ j → (get_or turns j 0 ≡ 0) × (get_or v j 0 ≡ get_or v₀ j 0)

pub climbing_none : {t : ℕ → Node} {n : ℕ} {questions : List ℕ} (s v turns : List ℕ) (before : ℕ → Search) (first laps : ℕ)
    → ((i : ℕ) → i < length questions → get_or v i 0 ≡ number_of (before i)) → ((i : ℕ) → get_or turns i 0 ≡ 0)
    → Climbing t n questions s v before first laps 0 s v turns before 0
unfolding times total
climbing_none {t} {n} s v turns before first laps h z = record {
  apart = record {
    searches = λ i l. rw (z i);
    ran = λ i l j x. absurd (omega (arith, z i));
    numbers = h;
    settings = λ i l. idle (list_from t 0 n) (before i) (part_of points_size i s);
    beyond = λ i l. (refl, refl, z i);
  };
  most = λ j l. absurd (omega arith);
  level = λ j l e. absurd (omega arith);
  all = refl;
  few = omega arith;
  rest = λ j l. (z j, refl);
}

number-two : (x : Search) → 2 ≡ number_of x → is_running x ≡ true
number-two (running G) e = refl
number-two (found G) e = absurd (omega arith)
number-two closed e = absurd (omega arith)

number-over : (x : Search) → is_running x ≡ true → number_of x ≡ 2
number-over (running G) e = refl
number-over (found G) e = absurd (true≢false (sym e))
number-over closed e = absurd (true≢false (sym e))

module _ {t : ℕ → Node} {n : ℕ} {questions s₀ v₀ : List ℕ} {before : ℕ → Search} {first laps i : ℕ} {s v turns : List ℕ} {stand : ℕ → Search} {spent : ℕ}
    (a : Climbing t n questions s₀ v₀ before first laps i s v turns stand spent) (some : 1 ≤ laps) where
  abbrev turn_of : ℕ → Search → Search
  turn_of = turn_for (expand t) (goal_of questions)

  -- it is as it was
  stood : i < length questions → stand i ≡ before i
  unfolding times
  stood h = a.apart.searches i h ∙ rw (a.rest i (omega arith)).0

  -- question i is over
  pub climbing_past : i < length questions → (get_or v i 0 ≡ 2 → ⊥) → Climbing t n questions s₀ v₀ before first laps (i + 1) s v turns stand spent
  unfolding total tally
  climbing_past h d = record {
    apart = a.apart;
    most = λ j l. most j (ℕ_discrete j i) l;
    level = λ j l e. level j (ℕ_discrete j i) l e;
    all = rw (add-one i) (omega (arith, a.all, (a.rest i (omega arith)).0));
    few = rw (add-one i, ne_eqb (get_or v₀ i 0) 2 (λ e. d ((a.rest i (omega arith)).1 ∙ e))) (few refl);
    rest = λ j l. a.rest j (omega arith);
  }
    where
      few : i ≡ i → spent ≤ laps * (0 + tally (runs_by v₀) i)
      few z =
          let y : 0 + tally (runs_by v₀) i ≡ tally (runs_by v₀) i = omega arith in
          rw y a.few

      most : (j : ℕ) → Dec (j ≡ i) → j < i + 1 → laps_by first turns j ≤ laps
      most j (yes z) l = rw z (omega (arith, (a.rest i (omega arith)).0, one_most (ltb i first)))
      most j (no z) l = a.most j (omega arith)

      level : (j : ℕ) → Dec (j ≡ i) → j < i + 1 → is_running (stand j) ≡ true → laps_by first turns j ≡ laps
      level j (yes z) l e = absurd (d (a.apart.numbers i h ∙ number-over (stand i) (rw z at e)))
      level j (no z) l e = a.level j (omega arith) e

  -- question i has made its turns, and no other has
  module _ (h : i < length questions) (up : get_or v i 0 ≡ 2) {k most r : ℕ} {s' : List ℕ} {stand' : ℕ → Search}
      (here : stand' i ≡ times (turn_of i) k (before i)) (others : (j : ℕ) → (j ≡ i → ⊥) → stand' j ≡ stand j) (number : r ≡ number_of (stand' i))
      (ran : (j : ℕ) → j < k → is_running (times (turn_of i) j (before i)) ≡ true) (few : k ≤ most) (whole : is_running (stand' i) ≡ true → k ≡ most)
      (laid : most ≡ laps - one (ltb i first))
      (setting : part_of points_size i s' ≡ settings_on (list_from t 0 n) (part_of points_size i s) (verdict_of (stand' i))) (beside : Beside points_size i s s')
      (l : i < length v) (z : i < length turns) where
    ran-before : is_running (before i) ≡ true
    ran-before = number-two (before i) (sym up ∙ a.apart.numbers i h ∙ ap number_of (stood h))

    bytes : part_of points_size i s ≡ part_of points_size i s₀
    bytes =
        a.apart.settings i h ∙ ap (λ (x : Search). written (list_from t 0 n) (before i) x (part_of points_size i s₀)) (stood h)
        ∙ sym (idle (list_from t 0 n) (before i) (part_of points_size i s₀))

    abbrev more : List ℕ
    more = set turns i k

    made-here : get_or more i 0 ≡ k
    made-here = get_or-set_same turns i k 0 z

    made_other : (j : ℕ) → (j ≡ i → ⊥) → get_or more j 0 ≡ get_or turns j 0
    made_other j d = get_or-set_other turns i j k 0 d

    apart_more : Apart t n questions s₀ v₀ before s' (set v i r) more stand'
    apart_more = record {
      searches = λ j x. searches j x (ℕ_discrete j i);
      ran = λ j x. rans j x (ℕ_discrete j i);
      numbers = λ j x. numbers j x (ℕ_discrete j i);
      settings = λ j x. settings j x (ℕ_discrete j i);
      beyond = λ j x.
          let d : j ≡ i → ⊥ = λ y. omega arith in (
            beside.other j d ∙ (a.apart.beyond j x).0,
            get_or-set_other v i j r 0 d ∙ (a.apart.beyond j x).1,
            made_other j d ∙ (a.apart.beyond j x).2,
          );
    }
      where
        searches : (j : ℕ) → j < length questions → Dec (j ≡ i) → stand' j ≡ times (turn_of j) (get_or more j 0) (before j)
        searches j x (yes d) = rw (d, made-here) here
        searches j x (no d) = rw (made_other j d) (others j d ∙ a.apart.searches j x)

        rans : (j : ℕ) → j < length questions → Dec (j ≡ i) → (m : ℕ) → m < get_or more j 0 → is_running (times (turn_of j) m (before j)) ≡ true
        rans j x (yes d) m y = rw d (ran m (omega (arith, ap (λ (u : ℕ). get_or more u 0) d, made-here)))
        rans j x (no d) m y = a.apart.ran j x m (omega (arith, made_other j d))

        numbers : (j : ℕ) → j < length questions → Dec (j ≡ i) → get_or (set v i r) j 0 ≡ number_of (stand' j)
        numbers j x (yes d) = rw d (get_or-set_same v i r 0 l ∙ number)
        numbers j x (no d) = get_or-set_other v i j r 0 d ∙ a.apart.numbers j x ∙ ap number_of (sym (others j d))

        settings : (j : ℕ) → j < length questions → Dec (j ≡ i)
            → part_of points_size j s' ≡ written (list_from t 0 n) (before j) (stand' j) (part_of points_size j s₀)
        settings j x (yes d) = rw (d, ran-before) (setting ∙ ap (λ (p : List ℕ). settings_on (list_from t 0 n) p (verdict_of (stand' i))) bytes)
        settings j x (no d) =
            beside.other j d ∙ a.apart.settings j x
            ∙ ap (λ (y : Search). written (list_from t 0 n) (before j) y (part_of points_size j s₀)) (sym (others j d))

    pub climbing-more : Climbing t n questions s₀ v₀ before first laps (i + 1) s' (set v i r) more stand' (spent + k)
    unfolding total tally
    climbing-more = record {
      apart = apart_more;
      most = λ j x. mosts j (ℕ_discrete j i) x;
      level = λ j x e. levels j (ℕ_discrete j i) x e;
      all =
          rw (add-one i)
          (omega (arith, a.all, made-here, total_same (λ j. get_or more j 0) (λ j. get_or turns j 0) i (λ j x. made_other j (λ y. omega arith))));
      few = rw (add-one i, eq-eqb (get_or v₀ i 0) 2 (sym (a.rest i (omega arith)).1 ∙ up)) (fewer refl);
      rest = λ j x.
          let d : j ≡ i → ⊥ = λ y. omega arith in
          (made_other j d ∙ (a.rest j (omega arith)).0, get_or-set_other v i j r 0 d ∙ (a.rest j (omega arith)).1);
    }
      where
        fewer : i ≡ i → spent + k ≤ laps * (1 + tally (runs_by v₀) i)
        fewer y =
            let u : 1 + tally (runs_by v₀) i ≡ suc (tally (runs_by v₀) i) = omega arith in
            rw (u, mul-suc) (omega (arith, a.few, few, laid))

        mosts : (j : ℕ) → Dec (j ≡ i) → j < i + 1 → laps_by first more j ≤ laps
        mosts j (yes d) x = rw (d, made-here) (omega (arith, few, laid, one_most (ltb i first)))
        mosts j (no d) x = rw (made_other j d) (a.most j (omega arith))

        levels : (j : ℕ) → Dec (j ≡ i) → j < i + 1 → is_running (stand' j) ≡ true → laps_by first more j ≡ laps
        levels j (yes d) x e = rw (d, made-here) (omega (arith, whole (rw d at e), laid, one_most (ltb i first)))
        levels j (no d) x e = rw (made_other j d) (a.level j (omega arith) (sym (ap is_running (others j d)) ∙ e))

  -- all have
  pub climbing_all : {allowance : ℕ} → laps ≤ allowance → laps * tally (runs_by v₀) (length questions) ≤ allowance → i ≡ length questions
      → Climbs t n questions s₀ v₀ before first allowance s v turns stand spent
  climbing_all {allowance} x y e = record {
    apart = a.apart;
    all = a.all ∙ ap (total (λ j. get_or turns j 0)) e;
    within = omega (arith, a.few, ap (λ (q : ℕ). laps * tally (runs_by v₀) q) e);
    laps = laps;
    few = x;
    level = λ h. record { some = some; most = λ j l. a.most j (omega arith); level = λ j l. a.level j (omega arith) };
  }

  -- what is spent fits the allowance
  pub climbing_fits : {allowance k m : ℕ} → laps * tally (runs_by v₀) (length questions) ≤ allowance → i < length questions → get_or v i 0 ≡ 2 → k ≤ m
      → m ≤ laps → spent + k ≤ allowance
  unfolding tally
  climbing_fits {allowance} {k} {m} y h e x z =
      let u : 1 + tally (runs_by v₀) i ≡ suc (tally (runs_by v₀) i) = omega arith in
      let w : tally (runs_by v₀) (suc i) ≡ suc (tally (runs_by v₀) i) = rw (eq-eqb (get_or v₀ i 0) 2 (sym (a.rest i (omega arith)).1 ∙ e)) u in
      let g = mul-le-mul_left laps (tally_grows (runs_by v₀) (suc i) (length questions) h) in
      omega (arith, a.few, y, g, ap (laps *◌) w, mul-suc laps (tally (runs_by v₀) i))

-- no laps
nothing : (turns : List ℕ) → ((i : ℕ) → get_or turns i 0 ≡ 0) → (q : ℕ) → total (λ i. get_or turns i 0) q ≡ 0
unfolding total
nothing turns z zero = refl
nothing turns z (suc q) = omega (arith, z q, nothing turns z q)

pub climbs_none : {t : ℕ → Node} {n : ℕ} {questions : List ℕ} (s v turns : List ℕ) (before : ℕ → Search) (first allowance : ℕ)
    → ((i : ℕ) → i < length questions → get_or v i 0 ≡ number_of (before i)) → ((i : ℕ) → get_or turns i 0 ≡ 0)
    → Climbs t n questions s v before first allowance s v turns before 0
climbs_none {questions = questions} s v turns before first allowance h z = record {
  apart = (climbing_none s v turns before first 0 h z).apart;
  all = sym (nothing turns z (length questions));
  within = omega arith;
  laps = 0;
  few = omega arith;
  level = λ x. absurd (omega arith);
}

-- ---- the searches in the areas

module _ {t : ℕ → Node} {n : ℕ} {questions s₀ v₀ : List ℕ} {before : ℕ → Search} {first laps i : ℕ} {s : List ℕ} (w m o : List ℕ) {v turns : List ℕ} {spent : ℕ}
    (a : Climbing t n questions s₀ v₀ before first laps i s v turns (search_at w v) spent) (b : Sits t n questions w m o v) (some : 1 ≤ laps)
    (h : i < length questions) (up : get_or v i 0 ≡ 2) where
  pub climb_stands : Stands t n (goals_of questions i) (part_of area_size i w) (part_of words i m) (part_of stack_size i o)
  climb_stands = made_stands (search_at w v i) (b i h) up

  module _ {most k : ℕ} {s' w' m' o' : List ℕ} {r : ℕ} (x : Served t n questions i most k s w m o s' w' m' o' r) (laid : most ≡ laps - one (ltb i first))
      (l : i < length v) (z : i < length turns) where
    -- it went on from where it stood
    start : running (g_of (part_of area_size i w)) ≡ before i
    unfolding search_by
    start = sym (ap (λ (u : ℕ). search_by u (g_of (part_of area_size i w))) up) ∙ stood a some h

    abbrev now : ℕ → Search
    now = search_at w' (set v i r)

    there : now i ≡ turns_at t questions i k w
    there = search_here questions v x.made l

    pub climbed-more : Climbing t n questions s₀ v₀ before first laps (i + 1) s' (set v i r) (set turns i k) now (spent + k)
    climbed-more =
        climbing-more a some h up (there ∙ ap (times (turn_for (expand t) (goal_of questions) i) k) start) (λ j d. search-other questions v x.made l d)
        (x.made.made.number ∙ ap number_of (sym there)) (rw start at x.turned.ran) x.turned.few (λ e. x.turned.whole (sym (ap is_running there) ∙ e)) laid
        (x.setting ∙ ap (λ (y : Search). settings_on (list_from t 0 n) (part_of points_size i s) (verdict_of y)) (sym there)) x.others l z

-- ---- .. are those of the round

module _ {t : ℕ → Node} {n : ℕ} {questions s v : List ℕ} {before : ℕ → Search} {first allowance : ℕ} {s' v' turns : List ℕ} {stand : ℕ → Search} {k : ℕ}
    (a : Climbs t n questions s v before first allowance s' v' turns stand k) where
  abbrev made : ℕ → ℕ
  made i = get_or turns i 0

  -- the laps fit where the allowance does
  pub laps_fit : {top : ℕ} → allowance < top → 1 < top → (i : ℕ) → i < length questions → laps_by first turns i < top
  laps_fit {top} x y i h = on (ℕ_discrete k 0)
    where
      on : Dec (k ≡ 0) → laps_by first turns i < top
      on (yes e) = omega (arith, a.all, total-part made (length questions) i h, one_most (ltb i first))
      on (no e) = omega (arith, a.few, (a.level (omega arith)).most i h)

  module _ {next : ℕ} (b : LastOf (length questions) first turns k next) where
    abbrev turning : ℕ → Search → Search
    turning = turn_for (expand t) (goal_of questions)

    none_made : k ≡ 0 → Spent t n questions s v before first 0 s' v' turns stand next
    unfolding spend turns_for times
    none_made e =
        let zero-at : (i : ℕ) → i < length questions → made i ≡ 0 = λ i h. omega (arith, a.all, total-part made (length questions) i h) in
        let same : (i : ℕ) → i < length questions → stand i ≡ before i = λ i h. a.apart.searches i h ∙ rw (zero-at i h) in
        record {
          next = b.none e;
          searches = same;
          numbers = a.apart.numbers;
          turns = zero-at;
          settings = λ i h. a.apart.settings i h ∙ ap (λ (x : Search). written (list_from t 0 n) (before i) x (part_of points_size i s)) (same i h);
          beyond = a.apart.beyond;
        }

    module _ (some : 0 < k) where
      levels : (i : ℕ) → i < length questions → is_running (times (turning i) (made i) (before i)) ≡ true → laps_by first turns i ≡ a.laps
      levels i h e = (a.level some).level i h (ap is_running (a.apart.searches i h) ∙ e)

      counted : (i : ℕ) → i < length questions → turns_after t questions before first k i ≡ made i
      counted i h =
          ap (λ (m : ℕ). turns_after t questions before first m i) a.all
          ∙ laps-counts turning (length questions) (round_in before first) made a.laps a.apart.ran levels (a.level some).most (a.level some).some i h

      stands : (i : ℕ) → i < length questions → (round_after t questions before first k).searches i ≡ stand i
      stands i h =
          ap (λ (m : ℕ). (round_after t questions before first m).searches i) a.all
          ∙ laps-searches turning (length questions) (round_in before first) made a.laps a.apart.ran levels (a.level some).most (a.level some).some i h
          ∙ sym (a.apart.searches i h)

      asked : 0 < length questions
      unfolding total
      asked = on (length questions) a.all
        where
          on : (q : ℕ) → k ≡ total made q → 0 < q
          on zero e = absurd (omega arith)
          on (suc q) e = omega arith

      upped : (round_after t questions before first k).next ≡ next
      upped =
          let c = b.one some asked in
          ap (λ (m : ℕ). (round_after t questions before first m).next) a.all
          ∙ laps-next turning (length questions) (round_in before first) made a.laps a.apart.ran levels (a.level some).most (a.level some).some
          (next - 1) (omega arith) (b.most some) (λ i h l. b.later some i h (omega arith)) (omega (arith, a.all)) ∙ omega arith

      some-made : Spent t n questions s v before first k s' v' turns stand next
      some-made = record {
        next = sym upped;
        searches = λ i h. sym (stands i h);
        numbers = a.apart.numbers;
        turns = λ i h. sym (counted i h);
        settings = λ i h. a.apart.settings i h ∙ ap (λ (x : Search). written (list_from t 0 n) (before i) x (part_of points_size i s)) (sym (stands i h));
        beyond = a.apart.beyond;
      }

    pub spent-climbed : Spent t n questions s v before first k s' v' turns stand next
    spent-climbed = on (ℕ_discrete k 0)
      where
        on : Dec (k ≡ 0) → Spent t n questions s v before first k s' v' turns stand next
        on (yes e) = rw (sym e) at (none_made e)
        on (no e) = some-made (omega arith)
