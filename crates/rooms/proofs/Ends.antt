-- Where the calls end: at the first row's refusal, or with what was made of the round; and what follows for the turns. Assumes nothing.
use mathlib.Core.Path.{◌≡◌, refl, sym, ap, ◌∙◌}
use mathlib.Core.Bool.{cond}
use mathlib.Core.List.{List, [], ◌∷◌}
use Prim.Native.Nat.{ℕ, zero, suc, ◌<◌, ◌≤◌}
use native.Mathlib.Nat.{zero-add}
use native.Mathlib.Omega.{arith}
use native.Mathlib.Decide.{dec_lt}
use lib.Dec.{ltb}
use lib.ListN.{length, get_or}
use lib.Seq.{ext_get_or}
use borrow.Author.Tests.{lt-ltb, le-ltb}
use Rattle.scope.specs.declared.Node.{Node}
use Rattle.scope.specs.declared.Refusal.{Refusal}
use Rattle.scope.specs.Outcome.{answer, refused}
use Rattle.scope.specs.Table.{list_from}
use Rattle.scope.proofs.Lists.{length_list_from, get_d_list_from, zeros-at}
use Rattle.scope.proofs.Tests.{refused_no}
use Rattle.calculus.specs.Expansion.{expand}
use Rattle.calculus.specs.Decide.{nodes_of, list_row}
use Rattle.calculus.specs.Model.{Below}
use Rattle.calculus.proofs.Tally.{tally_same}
use Rattle.index.specs.Index.{index_node}
use Rattle.asking.specs.Asks.{Prepared}
use Rattle.asking.proofs.Nodes.{listed, goals_in}
use Rattle.turns.specs.Turn.{Search, is_running, number_of, replays, times}
use Rattle.turns.specs.Round.{Round, runs, total, turn_for, spend, turns_for}
use Rattle.turns.proofs.Rounds.{turns_made_lem, turns_spent, turns_most, waits-few}
use Rattle.roomareas.specs.Areas.{goal_of, goals_of, round_of}
use Rattle.roomareas.specs.Changes.{most_questions, Opened}
use Rattle.roomareas.proofs.Sitting.{goal_below}
use Rattle.rooms.specs.Rooms.{Turned, admitted, eight, open_rooms, round_after, turns_after, turn_rooms}
use Rattle.rooms.specs.Calls.{Went, Reported, OpensRooms, TurnsRooms}
use Rattle.rooms.proofs.Goes.{went_same, reported_same}
use Rattle.rooms.proofs.Rows.{admitted-few}

-- ---- eight values

eight-at : (q : ℕ) (f : ℕ → ℕ) (k : ℕ) → k < most_questions → get_or (eight q f) k 0 ≡ cond (ltb k q) (f k) 0
eight-at q f k h = get_d_list_from (λ i. cond (ltb i q) (f i) 0) most_questions 0 k 0 h ∙ ap (λ (i : ℕ). cond (ltb i q) (f i) 0) (zero-add k)

eight_is : (q : ℕ) (f : ℕ → ℕ) (l : List ℕ) → length l ≡ most_questions → ((i : ℕ) → i < q → get_or l i 0 ≡ f i) → ((i : ℕ) → q ≤ i → get_or l i 0 ≡ 0) → l ≡ eight q f
eight_is q f l z a b =
    ext_get_or 0 l (eight q f) (z ∙ sym (length_list_from (λ i. cond (ltb i q) (f i) 0) most_questions 0))
    (λ k h. on k (dec_lt k q) ∙ sym (eight-at q f k (omega (arith, z))))
  where
    on : (k : ℕ) → Dec (k < q) → get_or l k 0 ≡ cond (ltb k q) (f k) 0
    on k (yes h) = rw (lt-ltb k q h) (a k h)
    on k (no h) = rw (le-ltb k q (omega arith)) (b k (omega arith))

-- nothing but 0
abbrev pub none : List ℕ
none = 0 ∷ 0 ∷ 0 ∷ 0 ∷ 0 ∷ 0 ∷ 0 ∷ 0 ∷ []

pub none-zero : (i : ℕ) → get_or none i 0 ≡ 0
none-zero i = zeros-at 8 i

-- an answer's values
abbrev pub turned : ℕ → ℕ → ℕ → List ℕ → List ℕ → Turned
turned number place count turns verdicts = record { number = number; place = place; count = count; turns = turns; verdicts = verdicts }

-- sums of the same values
total_same : (f g : ℕ → ℕ) (q : ℕ) → ((i : ℕ) → i < q → f i ≡ g i) → total f q ≡ total g q
unfolding total
total_same f g zero h = refl
total_same f g (suc q) h = omega (arith, h q (omega arith), total_same f g q (λ i l. h i (omega arith)))

module _ (t questions s w : List ℕ) where
  -- ---- the first call

  module _ (f : Refusal) (e : admitted t questions (length s) (length w) ≡ refused f.number f.place) where
    pub open-refused : OpensRooms t questions s w w (turned f.number f.place 0 (eight 0 (λ i. 0)) (eight 0 (λ i. 0)))
    unfolding open_rooms
    open-refused = record {
      answered = rw e;
      refuses = λ n p z. refl;
      searches = λ rs z. refused_no (sym e ∙ z);
      next = λ rs z. refused_no (sym e ∙ z);
    }

    pub turn-refused : (m : ℕ) → TurnsRooms t questions s w m s w (turned f.number f.place 0 (eight 0 (λ i. 0)) (eight 0 (λ i. 0)))
    unfolding turn_rooms
    turn-refused m = record {
      answered = rw e;
      refuses = λ n p z. (refl, refl);
      went = λ rs z. refused_no (sym e ∙ z);
      made = λ rs z. refused_no (sym e ∙ z);
      spent = λ rs z. refused_no (sym e ∙ z);
      most = λ rs z. refused_no (sym e ∙ z);
      verdicts = λ rs z. refused_no (sym e ∙ z);
      waits = λ rs z. refused_no (sym e ∙ z);
    }

  module _ {rs : List Node} (e : admitted t questions (length s) (length w) ≡ answer rs) where
    pub open_done : {w' v' : List ℕ} → Opened (length questions) w' none v' → length v' ≡ most_questions → OpensRooms t questions s w w' (turned 0 0 (length questions) none v')
    unfolding open_rooms replays
    open_done {w'} {v'} o z = record {
      answered =
          rw e
          (ap (λ (l : List ℕ). turned 0 0 (length questions) l v') (eight_is (length questions) (λ i. 0) none refl (λ i h. none-zero i) (λ i h. none-zero i))
          ∙ ap (turned 0 0 (length questions) (eight (length questions) (λ i. 0)))
          (eight_is (length questions) (λ i. 2) v' z o.verdicts (λ i h. o.beyond i h ∙ none-zero i)));
      refuses = λ n p y. refused_no (sym y ∙ e);
      searches = λ rs y i h. rw (o.searches i h);
      next = λ rs y. o.next;
    }

    -- ---- a later call

    module _ (m : ℕ) {s' w' turns verdicts : List ℕ} (a : Went (expand (nodes_of rs)) rs questions s w m s' w')
        (b : Reported (expand (nodes_of rs)) questions w m turns verdicts) where
      abbrev turn_of : ℕ → Search → Search
      turn_of = turn_for (expand (nodes_of rs)) (goal_of questions)

      abbrev begun : Round
      begun = round_of rs questions w

      -- the areas hold as many unfinished searches as the round
      running_same : (i : ℕ) → i < length questions → runs (round_of rs questions w') i ≡ runs (spend turn_of (length questions) m begun) i
      running_same i l = ap is_running (a.searches i l)

      sums : total (λ i. get_or turns i 0) (length questions) ≡ total (turns_for turn_of (length questions) m begun) (length questions)
      sums = total_same (λ i. get_or turns i 0) (turns_for turn_of (length questions) m begun) (length questions) b.made

      one_table : {qs : List Node} → admitted t questions (length s) (length w) ≡ answer qs → rs ≡ qs
      one_table {qs} z = let y : answer rs ≡ answer qs = sym e ∙ z in cc

      pub turn-done : TurnsRooms t questions s w m s' w' (turned 0 0 (length questions) turns verdicts)
      unfolding turn_rooms
      turn-done = record {
        answered =
            rw e
            (ap (λ (l : List ℕ). turned 0 0 (length questions) l verdicts)
            (eight_is (length questions) (turns_after rs questions m begun) turns b.turns_size b.made (λ i h. (b.none i h).0))
            ∙ ap (turned 0 0 (length questions) (eight (length questions) (turns_after rs questions m begun)))
            (eight_is (length questions) (λ i. number_of ((round_after rs questions m begun).searches i)) verdicts b.verdicts_size b.reached
            (λ i h. (b.none i h).1)));
        refuses = λ n p y. refused_no (sym y ∙ e);
        went = λ qs z. rw (sym (one_table z)) a;
        made = λ qs z i l.
            rw (sym (one_table z))
            (a.searches i l ∙ turns_made_lem turn_of (length questions) m begun i l
            ∙ ap (λ (k : ℕ). times (turn_of i) k (begun.searches i)) (sym (b.made i l)));
        spent = λ qs z h.
            sums
            ∙ turns_spent turn_of (length questions) m begun
            (omega (arith, rw (sym (one_table z)) at h, tally_same (runs (round_of rs questions w')) (runs (spend turn_of (length questions) m begun)) (length questions) running_same));
        most = λ qs z. omega (arith, sums, turns_most turn_of (length questions) m begun);
        verdicts = λ qs z i l. rw (sym (one_table z)) (b.reached i l ∙ ap number_of (sym (a.searches i l)));
        waits = λ qs z i l h y. rw (sym (one_table z)) (waits-few turn_of (length questions) begun i l (rw (sym (one_table z)) at h) m (sym (b.made i l) ∙ y));
      }

    -- the turns reported of a question, of whatever call
    pub turns-told : (m : ℕ) {s' w' : List ℕ} {r : Turned} → TurnsRooms t questions s w m s' w' r → (i : ℕ) → i < length questions
        → get_or r.turns i 0 ≡ turns_after rs questions m (round_of rs questions w) i
    unfolding turn_rooms
    turns-told m a i l =
        ap (λ (x : Turned). get_or x.turns i 0) (rw e at a.answered)
        ∙ eight-at (length questions) (turns_after rs questions m (round_of rs questions w)) i (omega (arith, admitted-few t questions (length s) (length w) e))
        ∙ rw (lt-ltb i (length questions) l)

-- over the index that was asked for
module _ {t questions : List ℕ} {needed lent room : ℕ} {x : List ℕ} {n : ℕ} (p : Prepared (list_row questions) t questions needed lent room x n) (w : List ℕ) (m : ℕ) where
  below : (i : ℕ) → i < length questions → Below n (goals_of questions i)
  below i l = (goal_below (goals_in p) l, tt)

  pub index_went : {s s' w' : List ℕ} → Went (expand (index_node x)) (list_from (index_node x) 0 n) questions s w m s' w'
      → Went (expand (nodes_of p.nodes)) p.nodes questions s w m s' w'
  index_went a = went_same p.same p.indexed.table questions below w m (rw (listed p) at a)

  pub index_reported : {turns verdicts : List ℕ} → Reported (expand (index_node x)) questions w m turns verdicts
      → Reported (expand (nodes_of p.nodes)) questions w m turns verdicts
  index_reported a = reported_same p.same p.indexed.table questions below w m a
