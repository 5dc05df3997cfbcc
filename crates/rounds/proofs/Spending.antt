-- Turn by turn: what the call has come to after k turns is the round after k turns. Assumes nothing.
use mathlib.Core.Path.{◌≡◌, refl, sym, ap, ◌∙◌}
use mathlib.Core.Bool.{Bool, true, false, cond, true≢false}
use mathlib.Core.List.{List}
use Prim.Native.Nat.{ℕ, suc, ◌+◌, ◌-◌, ◌<◌, ◌≤◌}
use native.Mathlib.Numerals.{add-one}
use native.Mathlib.Omega.{arith}
use native.Mathlib.Decide.{ℕ_discrete}
use lib.Dec.{eqb}
use lib.ListN.{length, get_or, set, length-set}
use lib.Seq.{get_or-set_same, get_or-set_other}
use borrow.Author.Tests.{eq-eqb, ne_eqb, eqb-true, lt-ltb, le-ltb}
use Rattle.std.specs.Prelude.{Option, Some, None}
use Rattle.scope.specs.declared.Node.{Node}
use Rattle.scope.specs.Table.{list_from}
use Rattle.calculus.specs.Count.{one}
use Rattle.calculus.specs.Decide.{settings_on}
use Rattle.calculus.specs.Expansion.{expand}
use Rattle.units.specs.Units.{words}
use Rattle.state.specs.Work.{g_of}
use Rattle.turns.specs.Turn.{Search, running, found, closed, verdict_of, number_of, is_running, times, taken_up, resumed}
use Rattle.turns.specs.Round.{Round, runs, seek, up_next, whose, turn_for, serve, spend, turns_for, written}
use Rattle.turns.proofs.Replay.{turn_resumes, resumed_resumes, resumes_resumed}
use Rattle.turns.proofs.Rounds.{up, up_same, serve-one, serve-same, serve-other, spend_add, spend_none, spend_next, turns_add, turns_next, turns_none, turns_fit}
use Rattle.turns.proofs.Rooms.{written_parts, finished_stays}
use Rattle.replaying.specs.Standing.{stack_size, search_by, Stands, Turned}
use Rattle.replaying.proofs.Standings.{made_stands}
use Rattle.roomareas.specs.Areas.{area_size, points_size, part_of, stored, goal_of, goals_of, search_in}
use Rattle.roomareas.specs.Changes.{Beside, search_at, SitsAt, Sits}
use Rattle.roomareas.proofs.Sitting.{search_here, sits_here, search-other, sits-other}
use Rattle.rounds.specs.Spent.{runs_by, turns_at, Served, next_in, SteppedAt, round_in, round_after, turns_after, Spent, Sought}

-- who is up, by two looks
module _ (p : ℕ → Bool) (q next : ℕ) where
  pub sought_early : {i : ℕ} → Sought (seek p next (q - next)) q (Some i) → Sought (up_next p q next) q (Some i)
  unfolding up_next
  sought_early {i} s = (rw (← s.0, lt-ltb i q s.1) refl, s.1)

  pub sought_late : Sought (seek p next (q - next)) q None → (o : Option ℕ) → Sought (seek p 0 (q - 0)) q o → Sought (up_next p q next) q o
  unfolding up_next
  sought_late s o d =
      let z : q - 0 ≡ q = omega arith in
      rw (le-ltb (seek p next (q - next)) q s) (rw z at d)

-- where a search stays, its setting bytes do
pub idle : (rs : List Node) (x : Search) (p : List ℕ) → p ≡ written rs x x p
idle rs (running G) p = refl
idle rs (found G) p = refl
idle rs closed p = refl

-- at the start no turn is spent
pub spent_starts : {t : ℕ → Node} {n : ℕ} {questions : List ℕ} (s v turns : List ℕ) (before : ℕ → Search) (first : ℕ)
    → ((i : ℕ) → i < length questions → get_or v i 0 ≡ number_of (before i)) → ((i : ℕ) → get_or turns i 0 ≡ 0)
    → Spent t n questions s v before first 0 s v turns before first
unfolding spend turns_for
spent_starts {t} {n} s v turns before first h z = record {
  next = refl;
  searches = λ i l. refl;
  numbers = h;
  turns = λ i l. z i;
  settings = λ i l. idle (list_from t 0 n) (before i) (part_of points_size i s);
  beyond = λ i l. (refl, refl, z i);
}

number-runs : (s : Search) {r : ℕ} → r ≡ number_of s → eqb r 2 ≡ is_running s
number-runs (running G) e = rw e
number-runs (found G) e = rw e
number-runs closed e = rw e

module _ {t : ℕ → Node} {n : ℕ} {questions s₀ v₀ : List ℕ} {before : ℕ → Search} {first k : ℕ} {s v turns : List ℕ} {stand : ℕ → Search} {next : ℕ}
    (a : Spent t n questions s₀ v₀ before first k s v turns stand next) where
  -- how many questions there are, the turn of each, and the round now
  abbrev count : ℕ
  count = length questions

  abbrev turn_of : ℕ → Search → Search
  turn_of = turn_for (expand t) (goal_of questions)

  abbrev now : Round
  now = round_after t questions before first k

  runs_by_lem : (j : ℕ) → j < count → runs_by v j ≡ runs now j
  runs_by_lem j h = number-runs (stand j) (a.numbers j h) ∙ ap is_running (a.searches j h)

  -- each has had no more turns than were spent
  pub turns_few : (i : ℕ) → i < count → get_or turns i 0 ≤ k
  turns_few i h = omega (arith, a.turns i h, turns_fit turn_of count k (round_in before first) i)

  module _ {i : ℕ} (e : i ≡ up_next (runs_by v) count next) where
    up_is : i ≡ whose count now
    up_is = e ∙ ap (up_next (runs_by v) count) a.next ∙ up_same (runs_by v) (runs now) count now.next runs_by_lem

    -- none is up: however much is left, nothing more happens
    module _ (h : count ≤ i) (m' : ℕ) (l : k ≤ m') where
      over : count ≤ whose count now
      over = omega (arith, up_is)

      parts : m' ≡ k + (m' - k)
      parts = omega arith

      still : round_after t questions before first m' ≡ now
      still =
          ap (λ (j : ℕ). round_after t questions before first j) parts ∙ spend_add turn_of count k (m' - k) (round_in before first)
          ∙ spend_none turn_of count (m' - k) now over

      no-turns : (j : ℕ) → j < count → turns_after t questions before first m' j ≡ turns_after t questions before first k j
      no-turns j b =
          ap (λ (q : ℕ). turns_after t questions before first q j) parts
          ∙ omega (arith, turns_add turn_of count k (m' - k) (round_in before first) j, turns_none turn_of count (m' - k) now j over b)

      pub spent_all : Spent t n questions s₀ v₀ before first m' s v turns stand next
      spent_all = record {
        next = a.next ∙ ap (λ (R : Round). R.next) (sym still);
        searches = λ j b. a.searches j b ∙ ap (λ (R : Round). R.searches j) (sym still);
        numbers = a.numbers;
        turns = λ j b. a.turns j b ∙ sym (no-turns j b);
        settings = λ j b. a.settings j b ∙ ap (λ (R : Round). written (list_from t 0 n) (before j) (R.searches j) (part_of points_size j s₀)) (sym still);
        beyond = a.beyond;
      }

    -- question i is up
    module _ (h : i < count) where
      up-runs : runs now i ≡ true
      up-runs = rw up_is ((up (runs now) count now.next).passes (omega (arith, up_is)))

      pub up-number : get_or v i 0 ≡ 2
      up-number = eqb-true (get_or v i 0) 2 (runs_by_lem i h ∙ up-runs)

      -- the round one turn further
      abbrev then : Round
      then = round_after t questions before first (k + 1)

      further : then ≡ serve turn_of count now
      further = spend_next turn_of count k (round_in before first)

      then-here : then.searches i ≡ turn_of i (stand i)
      then-here =
          ap (λ (R : Round). R.searches i) further ∙ serve-same turn_of count now i (omega (arith, up_is)) up_is
          ∙ ap (turn_of i) (sym (a.searches i h))

      then-other : (j : ℕ) → (j ≡ i → ⊥) → then.searches j ≡ now.searches j
      then-other j d = ap (λ (R : Round). R.searches j) further ∙ serve-other turn_of count now j (λ z. d (z ∙ sym up_is))

      then_next : then.next ≡ i + 1
      then_next =
          ap (λ (R : Round). R.next) further ∙ ap (λ (R : Round). R.next) (serve-one turn_of count now (omega (arith, up_is)))
          ∙ ap suc (sym up_is) ∙ sym (add-one i)

      -- it has made a turn, and no other has
      module _ {s' : List ℕ} {r : ℕ} {stand' : ℕ → Search} (here : stand' i ≡ turn_of i (stand i)) (others : (j : ℕ) → (j ≡ i → ⊥) → stand' j ≡ stand j)
          (number : r ≡ number_of (turn_of i (stand i)))
          (setting : part_of points_size i s' ≡ settings_on (list_from t 0 n) (part_of points_size i s) (verdict_of (turn_of i (stand i))))
          (beside : Beside points_size i s s') (l : i < length v) (z : i < length turns) where
        abbrev more : List ℕ
        more = set turns i (get_or turns i 0 + 1)

        numbered : (j : ℕ) → j < count → Dec (j ≡ i) → get_or (set v i r) j 0 ≡ number_of (stand' j)
        numbered j b (yes d) = rw d (get_or-set_same v i r 0 l ∙ number ∙ ap number_of (sym here))
        numbered j b (no d) = get_or-set_other v i j r 0 d ∙ a.numbers j b ∙ ap number_of (sym (others j d))

        moved : (j : ℕ) → j < count → Dec (j ≡ i) → stand' j ≡ then.searches j
        moved j b (yes d) = rw d (here ∙ sym then-here)
        moved j b (no d) = others j d ∙ a.searches j b ∙ sym (then-other j d)

        counted : (j : ℕ) → j < count → Dec (j ≡ i) → get_or more j 0 ≡ turns_after t questions before first (k + 1) j
        counted j b (yes d) =
            rw d
            (get_or-set_same turns i (get_or turns i 0 + 1) 0 z
            ∙ omega (arith, a.turns i h, turns_next turn_of count k (round_in before first) i, ap one (eq-eqb i (whose count now) up_is)))
        counted j b (no d) =
            get_or-set_other turns i j (get_or turns i 0 + 1) 0 d
            ∙ omega (arith, a.turns j b, turns_next turn_of count k (round_in before first) j, ap one (ne_eqb j (whose count now) (λ y. d (y ∙ sym up_is))))

        set-bytes : (j : ℕ) → j < count → Dec (j ≡ i)
            → part_of points_size j s' ≡ written (list_from t 0 n) (before j) (then.searches j) (part_of points_size j s₀)
        set-bytes j b (yes d) =
            rw d
            (setting ∙ sym (rw (up-runs, then-here))
            ∙ ap (written (list_from t 0 n) (now.searches i) (then.searches i)) (a.settings i h)
            ∙ written_parts (list_from t 0 n) (part_of points_size i s₀) (before i) (now.searches i) (then.searches i)
            (finished_stays (expand t) (goal_of questions) count k (round_in before first) i h) (λ y. absurd (true≢false (sym up-runs ∙ y))))
        set-bytes j b (no d) =
            beside.other j d ∙ a.settings j b
            ∙ ap (λ (y : Search). written (list_from t 0 n) (before j) y (part_of points_size j s₀)) (sym (then-other j d))

        pub spent-more : Spent t n questions s₀ v₀ before first (k + 1) s' (set v i r) more stand' (i + 1)
        spent-more = record {
          next = sym then_next;
          searches = λ j b. moved j b (ℕ_discrete j i);
          numbers = λ j b. numbered j b (ℕ_discrete j i);
          turns = λ j b. counted j b (ℕ_discrete j i);
          settings = λ j b. set-bytes j b (ℕ_discrete j i);
          beyond = λ j b.
              let d : j ≡ i → ⊥ = λ y. omega arith in (
                beside.other j d ∙ (a.beyond j b).0,
                get_or-set_other v i j r 0 d ∙ (a.beyond j b).1,
                get_or-set_other turns i j (get_or turns i 0 + 1) 0 d ∙ (a.beyond j b).2,
              );
        }

-- ---- where the searches are all taken up

-- a question has made turns: the others stay
pub sits_served : {t : ℕ → Node} {n : ℕ} {questions s w m o : List ℕ} (v : List ℕ) {i most k : ℕ} {s' w' m' o' : List ℕ} {r : ℕ} → Sits t n questions w m o v
    → Served t n questions i most k s w m o s' w' m' o' r → i < length v → Sits t n questions w' m' o' (set v i r)
sits_served {t} {n} {questions} v {i} {w' = w'} {m'} {o'} {r} b x l j c = on (ℕ_discrete j i)
  where
    on : Dec (j ≡ i) → SitsAt t n questions w' m' o' (set v i r) j
    on (yes d) = rw d (sits_here questions v x.made l)
    on (no d) = sits-other questions v x.made l d (b j c)

-- of one turn, a search that runs makes one
one_made : {f : Search → Search} {G : List ℕ} {k : ℕ} → Turned f (running G) 1 k → k ≡ 1
unfolding times
one_made {f} {G} {k} a = on (ℕ_discrete k 0)
  where
    on : Dec (k ≡ 0) → k ≡ 1
    on (yes z) = a.whole (rw z)
    on (no z) = omega (arith, a.few)

module _ {t : ℕ → Node} {n : ℕ} {questions s₀ v₀ : List ℕ} {before : ℕ → Search} {first k : ℕ} {s : List ℕ} (w m o : List ℕ) {v turns : List ℕ} {next : ℕ}
    (a : Spent t n questions s₀ v₀ before first k s v turns (search_at w v) next) (b : Sits t n questions w m o v) {i : ℕ}
    (e : i ≡ up_next (runs_by v) (length questions) next) (h : i < length questions) where
  pub up_stands : Stands t n (goals_of questions i) (part_of area_size i w) (part_of words i m) (part_of stack_size i o)
  up_stands = made_stands (search_at w v i) (b i h) (up-number a e h)

  up_search : search_at w v i ≡ running (g_of (part_of area_size i w))
  unfolding search_by
  up_search = ap (λ (x : ℕ). search_by x (g_of (part_of area_size i w))) (up-number a e h)

  module _ {k' : ℕ} {s' w' m' o' : List ℕ} {r : ℕ} (x : Served t n questions i 1 k' s w m o s' w' m' o' r) (l : i < length v) (z : i < length turns) where
    turned : turns_at t questions i k' w ≡ turn_for (expand t) (goal_of questions) i (search_at w v i)
    unfolding times
    turned = rw (one_made x.turned) (ap (turn_for (expand t) (goal_of questions) i) (sym up_search))

    pub served-more : Spent t n questions s₀ v₀ before first (k + 1) s' (set v i r) (set turns i (get_or turns i 0 + 1)) (search_at w' (set v i r)) (i + 1)
    served-more =
        spent-more a e h (search_here questions v x.made l ∙ turned) (λ j d. search-other questions v x.made l d)
        (x.made.made.number ∙ ap number_of turned) (x.setting ∙ ap (λ (y : Search). settings_on (list_from t 0 n) (part_of points_size i s) (verdict_of y)) turned)
        x.others l z

-- ---- where each is taken up for its turn

taken_number : (e : ℕ → List (List ℕ)) (goals : List ℕ) (v : ℕ) (G : List ℕ) → 2 ≡ number_of (resumed e goals (search_by v G))
    → resumed e goals (search_by v G) ≡ running (taken_up e goals G)
unfolding search_by
taken_number e goals v G = on (eqb v 0) (eqb v 1)
  where
    on : (b c : Bool) → 2 ≡ number_of (resumed e goals (cond b closed (cond c (found G) (running G))))
        → resumed e goals (cond b closed (cond c (found G) (running G))) ≡ running (taken_up e goals G)
    on true c z = absurd (omega arith)
    on false true z = absurd (omega arith)
    on false false z = refl

module _ {t : ℕ → Node} {n : ℕ} {questions s₀ v₀ : List ℕ} {before : ℕ → Search} {first k : ℕ} {s w v turns : List ℕ} {next : ℕ}
    (a : Spent t n questions s₀ v₀ before first k s v turns (search_in (expand t) questions w) next) {i : ℕ}
    (e : i ≡ up_next (runs_by v) (length questions) next) (h : i < length questions) {s' w' : List ℕ} {r : ℕ}
    (x : SteppedAt t n (goals_of questions i) i s w s' w' r) (l : i < length v) (z : i < length turns) where
  -- what it was taken up as
  taken : search_in (expand t) questions w i ≡ running (taken_up (expand t) (goals_of questions i) (g_of (part_of area_size i w)))
  taken =
      taken_number (expand t) (goals_of questions i) (get_or (part_of area_size i w) 0 0) (g_of (part_of area_size i w)) (sym (up-number a e h) ∙ a.numbers i h)

  turned_in : next_in t (goals_of questions i) (part_of area_size i w) ≡ turn_for (expand t) (goal_of questions) i (search_in (expand t) questions w i)
  turned_in = ap (turn_for (expand t) (goal_of questions) i) (sym taken)

  -- it can go on, so it is there as it was put down
  stays : search_in (expand t) questions w' i ≡ turn_for (expand t) (goal_of questions) i (search_in (expand t) questions w i)
  stays =
      ap (resumed (expand t) (goals_of questions i)) (x.here.search ∙ turned_in)
      ∙ resumes_resumed (expand t) (goals_of questions i) (turn_for (expand t) (goal_of questions) i (search_in (expand t) questions w i))
      (turn_resumes (expand t) (goals_of questions i) (search_in (expand t) questions w i) (resumed_resumes (expand t) (goals_of questions i) (stored (part_of area_size i w))))

  pub stepped_more : Spent t n questions s₀ v₀ before first (k + 1) s' (set v i r) (set turns i (get_or turns i 0 + 1)) (search_in (expand t) questions w') (i + 1)
  stepped_more =
      spent-more a e h stays (λ j d. ap (λ (p : List ℕ). resumed (expand t) (goals_of questions j) (stored p)) (x.areas.other j d))
      (x.here.number ∙ ap number_of turned_in) (x.here.setting ∙ ap (λ (y : Search). settings_on (list_from t 0 n) (part_of points_size i s) (verdict_of y)) turned_in)
      x.points l z

-- ---- the lengths of what is lent stay

pub record Long (s₀ w₀ m₀ o₀ v₀ u₀ s w m o v u : List ℕ) : Type 0 where
  pub settings : length s ≡ length s₀
  pub work : length w ≡ length w₀
  pub masks : length m ≡ length m₀
  pub stacks : length o ≡ length o₀
  pub verdicts : length v ≡ length v₀
  pub turns : length u ≡ length u₀

pub long_starts : (s w m o v u : List ℕ) → Long s w m o v u s w m o v u
long_starts s w m o v u = record { settings = refl; work = refl; masks = refl; stacks = refl; verdicts = refl; turns = refl }

pub long_more : {s₀ w₀ m₀ o₀ v₀ u₀ s w m o v u s' w' m' o' : List ℕ} (i r y : ℕ) → Long s₀ w₀ m₀ o₀ v₀ u₀ s w m o v u → length s' ≡ length s
    → length w' ≡ length w → length m' ≡ length m → length o' ≡ length o → Long s₀ w₀ m₀ o₀ v₀ u₀ s' w' m' o' (set v i r) (set u i y)
long_more {v = v} {u = u} i r y a b c d e = record {
  settings = b ∙ a.settings;
  work = c ∙ a.work;
  masks = d ∙ a.masks;
  stacks = e ∙ a.stacks;
  verdicts = length-set v i r ∙ a.verdicts;
  turns = length-set u i y ∙ a.turns;
}
