-- A search that stands, one literal further: what each way of joining leaves, and what each turn of the replay comes to. Assumes nothing.
use mathlib.Core.Path.{◌≡◌, refl, sym, ap, ◌∙◌}
use mathlib.Core.Bool.{Bool, true, false, or-true, false≢true}
use mathlib.Core.List.{List, [], ◌∷◌}
use Prim.Native.Nat.{ℕ, zero, suc, ◌+◌, ◌<◌, ◌≤◌}
use native.Mathlib.Omega.{arith}
use native.Mathlib.Decide.{ℕ_discrete}
use native.Mathlib.Numerals.{add-one}
use lib.Dec.{eqb}
use lib.ListN.{length, get_or, set, length-set}
use borrow.Author.Tests.{eq-eqb, ne_eqb}
use Rattle.scope.specs.declared.Node.{Node}
use Rattle.calculus.specs.Expansion.{neg, expand}
use Rattle.calculus.specs.Order.{move}
use Rattle.calculus.specs.Model.{Table, Below, Goals, Fresh, Good}
use Rattle.calculus.specs.declared.Move.{Move}
use Rattle.calculus.specs.declared.Move.TheVariants.{Conflict, Unit as Single, Done, Split}
use Rattle.calculus.proofs.Count.{room}
use Rattle.index.specs.Index.{most_nodes}
use Rattle.trail.specs.Trail.{trail}
use Rattle.trail.proofs.Trails.{trail-length}
use Rattle.state.specs.Work.{tail, g_of}
use Rattle.state.specs.Holds.{Holds}
use Rattle.turns.specs.Turn.{Search, running, found, closed, is_running, number_of, is_open, follows, back, opens, made, turn, times, replays, taken_up}
use Rattle.turns.proofs.Turns.{turn_by, times-add}
use Rattle.turns.proofs.Splits.{opens-split, opens-past, opens_short}
use Rattle.turns.proofs.Replay.{replays_more, may-join, replays_short}
use Rattle.replaying.specs.declared.Verdict.{Verdict}
use Rattle.replaying.specs.declared.Verdict.TheVariants.{Impossible, Possible, Unfinished}
use Rattle.replaying.specs.Standing.{number_by, stack_size, stack_of, Stands, Followed, Replayed, search_by, Made, Turned}
use Rattle.replaying.proofs.Stacks.{numbers, stack_length, emptied, Copied, copied_count, copied_list}

-- ---- the literals that a move lets join

-- tests by the move's case
follows_unit : (k u l : ℕ) → u ≡ l → follows (Single k u) l ≡ true
follows_unit k u l e = eq-eqb l u (sym e)

strays_unit : (k u l : ℕ) → (u ≡ l → ⊥) → follows (Single k u) l ≡ false
strays_unit k u l e = ne_eqb l u (λ q. e (sym q))

follows-left : (s l : ℕ) → s ≡ l → follows (Split s) l ≡ true
follows-left s l e = rw (eq-eqb l s (sym e))

follows_right : (s l : ℕ) → neg s ≡ l → follows (Split s) l ≡ true
follows_right s l e = rw (eq-eqb l (neg s) (sym e)) (or-true (eqb l s))

strays_split : (s l : ℕ) → (s ≡ l → ⊥) → (neg s ≡ l → ⊥) → follows (Split s) l ≡ false
strays_split s l e f = rw (ne_eqb l s (λ q. e (sym q)), ne_eqb l (neg s) (λ q. f (sym q)))

shut_split : (s l : ℕ) → (s ≡ l → ⊥) → is_open (Split s) l ≡ false
shut_split s l e = ne_eqb l s (λ q. e (sym q))

-- ---- a search that stands

module _ {t : ℕ → Node} {n : ℕ} {goals w m o : List ℕ} (s : Stands t n goals w m o) where
  abbrev pub move_at : Move
  move_at = move (expand t) goals (g_of w)

  pub good : Good n (g_of w)
  good = s.holds.ready.trail.good

  -- looking at the next move leaves it
  pub looked : {w₁ : List ℕ} → Holds t n goals w₁ m → g_of w₁ ≡ g_of w → Stands t n goals w₁ m o
  looked h g = record { holds = h; replayed = rw g s.replayed; size = s.size; splits = rw g s.splits }

  -- the stack has no more splits than literals are held
  pub few_open : get_or o 0 0 ≤ length (g_of w)
  few_open = omega (arith, stack_length o, ap length s.splits, opens_short (expand t) goals (g_of w))

  module _ (T : Table n t) (B : Below n goals) (l : ℕ) (f : follows move_at l ≡ true) where
    pub joins-fresh : Fresh n (g_of w) l
    joins-fresh = may-join n t goals T B (g_of w) l good f

    pub stack-room : n ≤ most_nodes → get_or o 0 0 < most_nodes
    stack-room few = omega (arith, few_open, room n (g_of w) l good joins-fresh)

  -- a literal joins: one that opens no split, or that of a split
  module _ {l : ℕ} {w' m' : List ℕ} (h : Holds t n goals w' m') (g : g_of w' ≡ l ∷ g_of w) where
    pub stands_joined : follows move_at l ≡ true → is_open move_at l ≡ false → Stands t n goals w' m' o
    stands_joined f p = record {
      holds = h;
      replayed = rw g (replays_more (expand t) goals (g_of w) l s.replayed f);
      size = s.size;
      splits = rw g (s.splits ∙ sym (opens-past (expand t) goals (g_of w) l p));
    }

    pub stands-forked : move_at ≡ Split l → {c : ℕ} {o' : List ℕ} → c ≡ length (g_of w) → length o' ≡ length o → stack_of o' ≡ c ∷ stack_of o
        → Stands t n goals w' m' o'
    stands-forked e {c} {o'} k z p = record {
      holds = h;
      replayed = rw g (replays_more (expand t) goals (g_of w) l s.replayed (rw e (follows-left l l refl)));
      size = z ∙ s.size;
      splits = rw g (p ∙ ap (◌∷ stack_of o) k ∙ ap (length (g_of w) ∷◌) s.splits ∙ sym (opens-split (expand t) goals (g_of w) l e));
    }

  -- a literal that does not follow, and one that does
  strayed : {l : ℕ} {w' m' o' : List ℕ} → follows move_at l ≡ false → Followed t n goals w w' m' o' l false
  strayed e = record { told = sym e; stands = λ q. absurd (false≢true q); list = λ q. absurd (false≢true q) }

  went : {l : ℕ} {w' m' o' : List ℕ} → follows move_at l ≡ true → Stands t n goals w' m' o' → g_of w' ≡ l ∷ g_of w → Followed t n goals w w' m' o' l true
  went e h g = record { told = sym e; stands = λ q. h; list = λ q. g }

  -- by the case of the move
  module _ {l : ℕ} {w' m' o' : List ℕ} where
    pub strayed-conflict : {k : ℕ} → move_at ≡ Conflict k → Followed t n goals w w' m' o' l false
    strayed-conflict e = strayed (rw e)

    pub strayed-done : move_at ≡ Done → Followed t n goals w w' m' o' l false
    strayed-done e = strayed (rw e)

    pub strayed-unit : {k u : ℕ} → move_at ≡ Single k u → (u ≡ l → ⊥) → Followed t n goals w w' m' o' l false
    strayed-unit {k} {u} e d = strayed (rw e (strays_unit k u l d))

    pub strayed-split : {u : ℕ} → move_at ≡ Split u → (u ≡ l → ⊥) → (neg u ≡ l → ⊥) → Followed t n goals w w' m' o' l false
    strayed-split {u} e d f = strayed (rw e (strays_split u l d f))

    pub went-left : {u : ℕ} → move_at ≡ Split u → u ≡ l → Stands t n goals w' m' o' → g_of w' ≡ l ∷ g_of w → Followed t n goals w w' m' o' l true
    went-left {u} e d h g = went (rw e (follows-left u l d)) h g

  pub unit_follows : {k u l : ℕ} → move_at ≡ Single k u → u ≡ l → follows move_at l ≡ true
  unit_follows {k} {u} {l} e d = rw e (follows_unit k u l d)

  pub right_follows : {u l : ℕ} → move_at ≡ Split u → neg u ≡ l → follows move_at l ≡ true
  right_follows {u} {l} e d = rw e (follows_right u l d)

  pub left-follows : {l : ℕ} → move_at ≡ Split l → follows move_at l ≡ true
  left-follows {l} e = rw e (follows-left l l refl)

  module _ {l : ℕ} {w' m' : List ℕ} (h : Holds t n goals w' m') (g : g_of w' ≡ l ∷ g_of w) where
    pub went-unit : {k u : ℕ} → move_at ≡ Single k u → u ≡ l → Followed t n goals w w' m' o l true
    went-unit e d = let f = unit_follows e d in went f (stands_joined h g f (rw e)) g

    pub went-right : {u : ℕ} → move_at ≡ Split u → (u ≡ l → ⊥) → neg u ≡ l → Followed t n goals w w' m' o l true
    went-right {u} e x d = let f = right_follows e d in went f (stands_joined h g f (rw e (shut_split u l x))) g

  -- the unit that was picked has joined, and it is the literal
  pub went_picked : {k u l : ℕ} {w' m' : List ℕ} → move_at ≡ Single k u → u ≡ l → Holds t n goals w' m' → g_of w' ≡ u ∷ g_of w
      → Followed t n goals w w' m' o l true
  went_picked e d h g = went-unit h (g ∙ ap (◌∷ g_of w) d) e d

-- the move was looked at first
pub followed_looked : {t : ℕ → Node} {n : ℕ} {goals w w₁ w' m' o' : List ℕ} {l : ℕ} {r : Bool} → g_of w₁ ≡ g_of w
    → Followed t n goals w₁ w' m' o' l r → Followed t n goals w w' m' o' l r
followed_looked {l = l} g f = record { told = rw g at f.told; stands = f.stands; list = λ q. f.list q ∙ ap (l ∷◌) g }

-- at its start: nothing is held, and no split is open
pub stands_none : {t : ℕ → Node} {n : ℕ} {goals w m : List ℕ} (o : List ℕ) → Holds t n goals w m → g_of w ≡ [] → length o ≡ stack_size → Stands t n goals w m (set o 0 0)
unfolding replays opens
stands_none o h g z = record { holds = h; replayed = rw g; size = length-set o 0 0 ∙ z; splits = rw g (emptied o z) }

-- ---- literals one after another

-- the first q of the literals c have joined
pub record Going (t : ℕ → Node) (n : ℕ) (goals c w₀ m₀ o₀ w m o : List ℕ) (q : ℕ) : Type 0 where
  pub stands : Stands t n goals w m o
  pub list : g_of w ≡ trail q (numbers c)
  pub work : length w ≡ length w₀
  pub masks : length m ≡ length m₀
  pub opens : length o ≡ length o₀

pub going_none : {t : ℕ → Node} {n : ℕ} {goals c w m o : List ℕ} → Stands t n goals w m o → g_of w ≡ [] → Going t n goals c w m o w m o 0
unfolding trail
going_none s g = record { stands = s; list = g; work = refl; masks = refl; opens = refl }

-- what does not replay never will
cut : (e : ℕ → List (List ℕ)) (goals : List ℕ) (r : ℕ → ℕ) (q k : ℕ) → q ≤ k → replays e goals (trail q r) ≡ false → replays e goals (trail k r) ≡ false
unfolding trail replays
cut e goals r q zero h f =
    let z : q ≡ 0 = omega arith in
    rw z at f
cut e goals r q (suc k) h f = on (ℕ_discrete q (suc k)) (cut e goals r q k)
  where
    on : Dec (q ≡ suc k) → (q ≤ k → replays e goals (trail q r) ≡ false → replays e goals (trail k r) ≡ false) → replays e goals (trail (suc k) r) ≡ false
    on (yes z) c = rw z at f
    on (no z) c = rw (c (omega arith) f)

module _ {t : ℕ → Node} {n : ℕ} {goals c w₀ m₀ o₀ w m o : List ℕ} {q : ℕ} (g : Going t n goals c w₀ m₀ o₀ w m o q) where
  module _ {l : ℕ} (z : l ≡ get_or c (1 + q) 0) {w' m' o' : List ℕ} {r : Bool} (f : Followed t n goals w w' m' o' l r) where
    pub going_more : r ≡ true → length w' ≡ length w → length m' ≡ length m → length o' ≡ length o → Going t n goals c w₀ m₀ o₀ w' m' o' (q + 1)
    unfolding trail
    going_more e a b d = record {
      stands = f.stands e;
      list = f.list e ∙ ap (◌∷ g_of w) z ∙ ap (get_or c (1 + q) 0 ∷◌) g.list ∙ rw (add-one q);
      work = a ∙ g.work;
      masks = b ∙ g.masks;
      opens = d ∙ g.opens;
    }

    strays : r ≡ false → replays (expand t) goals (trail (suc q) (numbers c)) ≡ false
    unfolding trail replays
    strays e = rw (← g.list, g.stands.replayed, ← z) (sym f.told ∙ e)

    pub replay-stops : q < get_or c 0 0 → r ≡ false → Replayed t n goals (stack_of c) w' m' o' false
    replay-stops h e = record {
      told = sym (cut (expand t) goals (numbers c) (suc q) (get_or c 0 0) h (strays e));
      stands = λ z. absurd (false≢true z);
      list = λ z. absurd (false≢true z);
    }

  pub replay_ends : q ≡ get_or c 0 0 → Replayed t n goals (stack_of c) w m o true
  replay_ends e =
      let l : g_of w ≡ stack_of c = g.list ∙ ap (λ (k : ℕ). trail k (numbers c)) e in
      record { told = sym g.stands.replayed ∙ ap (replays (expand t) goals) l; stands = λ z. g.stands; list = λ z. l }

-- ---- taking up

module _ (e : ℕ → List (List ℕ)) (goals G : List ℕ) where
  taken_none : replays e goals G ≡ false → taken_up e goals G ≡ []
  taken_none z = rw z

  taken_all : replays e goals G ≡ true → taken_up e goals G ≡ G
  taken_all z = rw z

module _ {t : ℕ → Node} {n : ℕ} {goals w c : List ℕ} (T : Table n t) (B : Goals n goals) (few : n ≤ most_nodes) (k : Copied w c) where
  -- more literals than nodes do not replay
  pub taken_long : n < length (g_of w) → taken_up (expand t) goals (g_of w) ≡ []
  taken_long h = on (replays (expand t) goals (g_of w)) refl
    where
      on : (b : Bool) → replays (expand t) goals (g_of w) ≡ b → taken_up (expand t) goals (g_of w) ≡ []
      on true z = absurd (omega (arith, replays_short n t goals T B.below (g_of w) z))
      on false z = taken_none (expand t) goals (g_of w) z

  module _ (h : length (g_of w) ≤ n) where
    few-held : tail w 0 ≤ most_nodes
    few-held = omega (arith, trail-length (tail w 0) (tail w))

    pub few-copied : get_or c 0 0 ≤ most_nodes
    few-copied = omega (arith, copied_count k, few-held)

    whole : stack_of c ≡ g_of w
    whole = copied_list k few-held

    module _ {w' m' o' : List ℕ} {r : Bool} (a : Replayed t n goals (stack_of c) w' m' o' r) where
      told : r ≡ replays (expand t) goals (g_of w)
      told = a.told ∙ ap (replays (expand t) goals) whole

      pub taken-up : r ≡ true → g_of w' ≡ taken_up (expand t) goals (g_of w)
      taken-up e = a.list e ∙ whole ∙ sym (taken_all (expand t) goals (g_of w) (sym told ∙ e))

      pub taken_back : r ≡ false → taken_up (expand t) goals (g_of w) ≡ []
      taken_back e = taken_none (expand t) goals (g_of w) (sym told ∙ e)

-- ---- a turn, by its move

module _ {t : ℕ → Node} {n : ℕ} {goals w m o G : List ℕ} (s : Stands t n goals w m o) (g : g_of w ≡ G) where
  turned : (x : Move) → move_at s ≡ x → turn (expand t) goals (running G) ≡ made (expand t) goals x G
  turned x e = turn_by (expand t) goals G x (rw g at e)

  pub made_back : {k : ℕ} → move_at s ≡ Conflict k → {w' m' o' : List ℕ} {r : ℕ} → Made t n goals w' m' o' (back (expand t) goals (g_of w)) r
      → Made t n goals w' m' o' (turn (expand t) goals (running G)) r
  made_back {k} e a = rw (turned (Conflict k) e, ← g) a

  pub made_unit : {k l : ℕ} → move_at s ≡ Single k l → {w' m' : List ℕ} → Holds t n goals w' m' → g_of w' ≡ l ∷ g_of w
      → Made t n goals w' m' o (turn (expand t) goals (running G)) 2
  made_unit {k} {l} e h q =
      rw (turned (Single k l) e) (record { number = refl; at = (stands_joined s h q (unit_follows s e refl) (rw e), q ∙ ap (l ∷◌) g) })

  pub made_done : move_at s ≡ Done → Made t n goals w m o (turn (expand t) goals (running G)) 1
  made_done e = rw (turned Done e) (record { number = refl; at = g })

  pub made_split : {l : ℕ} → move_at s ≡ Split l → {w' m' o' : List ℕ} → Stands t n goals w' m' o' → g_of w' ≡ l ∷ g_of w
      → Made t n goals w' m' o' (turn (expand t) goals (running G)) 2
  made_split {l} e a q = rw (turned (Split l) e) (record { number = refl; at = (a, q ∙ ap (l ∷◌) g) })

-- ---- what a turn leaves says where the search is

module _ {t : ℕ → Node} {n : ℕ} {goals w m o : List ℕ} where
  pub made_search : (s : Search) {r : ℕ} → Made t n goals w m o s r → search_by r (g_of w) ≡ s
  unfolding search_by
  made_search (running G) a = rw (a.number, a.at.1)
  made_search (found G) a = rw (a.number, a.at)
  made_search closed a = rw a.number

  pub made_stands : (s : Search) {r : ℕ} → Made t n goals w m o s r → r ≡ 2 → Stands t n goals w m o
  made_stands (running G) a e = a.at.0
  made_stands (found G) a e = absurd (omega (arith, a.number))
  made_stands closed a e = absurd (omega (arith, a.number))

-- the number of one that found a model, and of one that is not over
pub by_one : (v : Verdict) → number_by v ≡ 1 → v ≡ Possible
by_one Impossible e = absurd (omega arith)
by_one Possible e = refl
by_one Unfinished e = absurd (omega arith)

pub by-two : (v : Verdict) → number_by v ≡ 2 → v ≡ Unfinished
by-two Impossible e = absurd (omega arith)
by-two Possible e = absurd (omega arith)
by-two Unfinished e = refl

-- ---- turns one after another

-- k turns were made, and the search still runs
pub record Running (t : ℕ → Node) (n : ℕ) (goals w₀ m₀ o₀ w m o : List ℕ) (k : ℕ) : Type 0 where
  pub stands : Stands t n goals w m o
  pub at : times (turn (expand t) goals) k (running (g_of w₀)) ≡ running (g_of w)
  pub ran : (j : ℕ) → j < k → is_running (times (turn (expand t) goals) j (running (g_of w₀))) ≡ true
  pub work : length w ≡ length w₀
  pub masks : length m ≡ length m₀
  pub opens : length o ≡ length o₀

pub running_none : {t : ℕ → Node} {n : ℕ} {goals w m o : List ℕ} → Stands t n goals w m o → Running t n goals w m o w m o 0
unfolding times
running_none s = record { stands = s; at = refl; ran = λ j h. absurd (omega arith); work = refl; masks = refl; opens = refl }

running_number : (s : Search) → is_running s ≡ true → number_of s ≡ 2
running_number (running G) e = refl
running_number (found G) e = absurd (false≢true e)
running_number closed e = absurd (false≢true e)

module _ {t : ℕ → Node} {n : ℕ} {goals w₀ m₀ o₀ w m o : List ℕ} {k : ℕ} (g : Running t n goals w₀ m₀ o₀ w m o k) where
  abbrev from : ℕ → Search
  from j = times (turn (expand t) goals) j (running (g_of w₀))

  next_is : from (k + 1) ≡ turn (expand t) goals (running (g_of w))
  unfolding times
  next_is = times-add (turn (expand t) goals) k 1 (running (g_of w₀)) ∙ ap (turn (expand t) goals) g.at

  ran_on : (j : ℕ) → j < k + 1 → is_running (from j) ≡ true
  ran_on j h = on (ℕ_discrete j k)
    where
      on : Dec (j ≡ k) → is_running (from j) ≡ true
      on (yes z) = rw (z, g.at)
      on (no z) = g.ran j (omega arith)

  module _ {w' m' o' : List ℕ} {r : ℕ} (a : Made t n goals w' m' o' (turn (expand t) goals (running (g_of w))) r) where
    -- .. one more
    pub running_more : r ≡ 2 → length w' ≡ length w → length m' ≡ length m → length o' ≡ length o → Running t n goals w₀ m₀ o₀ w' m' o' (k + 1)
    unfolding search_by
    running_more e x y z = record {
      stands = made_stands (turn (expand t) goals (running (g_of w))) a e;
      at = next_is ∙ sym (made_search (turn (expand t) goals (running (g_of w))) a) ∙ rw e;
      ran = ran_on;
      work = x ∙ g.work;
      masks = y ∙ g.masks;
      opens = z ∙ g.opens;
    }

    -- .. or it is over
    pub made-over : Made t n goals w' m' o' (from (k + 1)) r
    made-over = rw next_is a

    pub turned-over : (r ≡ 2 → ⊥) → {most : ℕ} → k < most → Turned (turn (expand t) goals) (running (g_of w₀)) most (k + 1)
    turned-over d {most} h = record {
      few = omega arith;
      ran = ran_on;
      whole = λ e. absurd (d (made-over.number ∙ running_number (from (k + 1)) e));
    }

  -- .. or no turn is left
  pub made_whole : Made t n goals w m o (from k) 2
  made_whole = rw g.at (record { number = refl; at = (g.stands, refl) })

  pub turned-whole : {most : ℕ} → k ≡ most → Turned (turn (expand t) goals) (running (g_of w₀)) most k
  turned-whole e = record { few = omega arith; ran = g.ran; whole = λ x. e }
