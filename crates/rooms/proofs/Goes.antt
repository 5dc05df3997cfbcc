-- The searches are taken up, turns are spent on them, and they are put down: the areas hold the round after these turns. Assumes nothing.
use mathlib.Core.Path.{◌≡◌, refl, sym, ap, ◌∙◌}
use mathlib.Core.Bool.{true}
use mathlib.Core.List.{List}
use Prim.Native.Nat.{ℕ, ◌+◌, ◌*◌, ◌/◌, ◌%◌, ◌<◌, ◌≤◌}
use native.Mathlib.Omega.{arith}
use lib.ListN.{length, get_or, drop, length-drop}
use lib.Seq.{get_or-drop, ext_get_or}
use Rattle.scope.specs.declared.Node.{Node}
use Rattle.scope.specs.Table.{list_from}
use Rattle.calculus.specs.Expansion.{expand}
use Rattle.calculus.specs.Model.{Table, Below}
use Rattle.turns.specs.Turn.{Search, number_of, resumes, resumed}
use Rattle.turns.specs.Round.{Round, turn_for, spend, turns_for}
use Rattle.turns.proofs.Replay.{turn_resumes, resumed_resumes, resumes_resumed}
use Rattle.turns.proofs.Rooms.{spend_resumes}
use Rattle.roomareas.specs.Areas.{points_size, part_of, stored, next_at, goal_of, goals_of, search_in, round_by}
use Rattle.roomareas.specs.Changes.{most_questions, search_at, TakenUp, PutDown, Looked, NextPut}
use Rattle.roomareas.proofs.Parts.{part_at}
use Rattle.rounds.specs.Spent.{round_in, Spent}
use Rattle.rooms.specs.Calls.{Went, Reported}
use Rattle.rooms.proofs.Alike.{Alike, spend_alike, turns_alike, spend_low}
use Rattle.rooms.proofs.Same.{resumed_alike, turn-alike}

-- setting bytes behind those of the questions
parts_beyond : (q : ℕ) (xs ys : List ℕ) → length ys ≡ length xs → ((j : ℕ) → q ≤ j → part_of points_size j ys ≡ part_of points_size j xs)
    → drop (points_size * q) ys ≡ drop (points_size * q) xs
parts_beyond q xs ys e same =
    ext_get_or 0 (drop (points_size * q) ys) (drop (points_size * q) xs) (simp (length-drop, e))
    (λ k h. get_or-drop (points_size * q) ys k 0 ∙ at (points_size * q + k) (omega arith) ∙ sym (get_or-drop (points_size * q) xs k 0))
  where
    at : (k : ℕ) → points_size * q ≤ k → get_or ys k 0 ≡ get_or xs k 0
    at k h =
        let z : points_size * (k / 1024) + k % 1024 ≡ k = omega arith in
        let b : k % 1024 < points_size = omega arith in
        ap (λ (j : ℕ). get_or ys j 0) (sym z) ∙ sym (part_at points_size (k / 1024) ys (k % 1024) b)
        ∙ ap (λ (l : List ℕ). get_or l (k % 1024) 0) (same (k / 1024) (omega arith)) ∙ part_at points_size (k / 1024) xs (k % 1024) b
        ∙ ap (λ (j : ℕ). get_or xs j 0) z

-- a search that can go on, and its turn
abbrev Resumes : (ℕ → List (List ℕ)) → List ℕ → ℕ → Search → Type 0
Resumes e questions i s = resumes e (goals_of questions i) s ≡ true

-- ---- one call

module _ {t : ℕ → Node} {n : ℕ} {questions s w v₀ w₁ m₁ o₁ v₁ : List ℕ} {first k : ℕ} {s' v₂ turns : List ℕ} {stand : ℕ → Search} {up : ℕ}
    (first-is : first ≡ get_or w next_at 0) (a : TakenUp t n questions w v₀ w₁ m₁ o₁ v₁) (b : Spent t n questions s v₁ (search_at w₁ v₁) first k s' v₂ turns stand up) where
  abbrev count : ℕ
  count = length questions

  abbrev turn_of : ℕ → Search → Search
  turn_of = turn_for (expand t) (goal_of questions)

  abbrev begun : Round
  begun = round_by (expand t) questions w

  abbrev over : Round
  over = spend turn_of count k begun

  -- what the call starts from is what the areas held
  alike : Alike turn_of turn_of count (Resumes (expand t) questions) (λ i x l r. turn_resumes (expand t) (goals_of questions i) x r) (λ i x l r. refl) (round_in (search_at w₁ v₁) first) begun
  alike = record {
    searches = a.searches;
    next = first-is;
    good = λ i l. rw (a.searches i l) (resumed_resumes (expand t) (goals_of questions i) (stored (part_of 32768 i w)));
  }

  ends : Alike turn_of turn_of count (Resumes (expand t) questions) (λ i x l r. turn_resumes (expand t) (goals_of questions i) x r) (λ i x l r. refl)
      (spend turn_of count k (round_in (search_at w₁ v₁) first)) over
  ends = spend_alike turn_of turn_of count (Resumes (expand t) questions) (λ i x l r. turn_resumes (expand t) (goals_of questions i) x r) (λ i x l r. refl) k alike

  reached : (i : ℕ) → i < count → stand i ≡ over.searches i
  reached i l = b.searches i l ∙ ends.searches i l

  pub up_low : first ≤ 65535 → count ≤ most_questions → up ≤ 65535
  up_low h f = omega (arith, b.next, spend_low turn_of count 65535 (omega arith) k (round_in (search_at w₁ v₁) first) h)

  module _ {w₂ v₃ w₃ : List ℕ} (d : PutDown count up w₂ v₃ w₃) (same : (i : ℕ) → search_at w₂ v₃ i ≡ stand i) (z : length s' ≡ length s) where
    held : (i : ℕ) → i < count → search_in (expand t) questions w₃ i ≡ over.searches i
    held i l =
        ap (resumed (expand t) (goals_of questions i)) (d.searches i l ∙ same i ∙ reached i l)
        ∙ resumes_resumed (expand t) (goals_of questions i) (over.searches i)
        (spend_resumes (expand t) (goal_of questions) count k begun i l (resumed_resumes (expand t) (goals_of questions i) (stored (part_of 32768 i w))))

    pub went : Went (expand t) (list_from t 0 n) questions s w k s' w₃
    went = record {
      searches = held;
      next = d.next ∙ b.next ∙ ends.next;
      settings = λ i l. b.settings i l ∙ rw (a.searches i l, ends.searches i l, held i l);
      beyond = parts_beyond count s s' z (λ j h. (b.beyond j h).0);
    }

  pub reported : length turns ≡ most_questions → length v₂ ≡ most_questions → ((i : ℕ) → get_or v₀ i 0 ≡ 0) → Reported (expand t) questions w k turns v₂
  reported x y z = record {
    turns_size = x;
    verdicts_size = y;
    made = λ i l.
        b.turns i l
        ∙ turns_alike turn_of turn_of count (Resumes (expand t) questions) (λ i x l r. turn_resumes (expand t) (goals_of questions i) x r) (λ i x l r. refl) k alike i;
    reached = λ i l. b.numbers i l ∙ ap number_of (reached i l);
    none = λ i l. ((b.beyond i l).2, (b.beyond i l).1 ∙ a.beyond i l ∙ z i);
  }

-- ---- one call, where each search is taken up for its turn

-- whose turn is next was put down: the searches are there as before
pub next_kept : (e : ℕ → List (List ℕ)) (questions : List ℕ) {up : ℕ} {w₂ w₃ : List ℕ} → NextPut up w₂ w₃ → (i : ℕ)
    → search_in e questions w₃ i ≡ search_in e questions w₂ i
next_kept e questions d i = ap (resumed e (goals_of questions i)) (d.searches i)

module _ (questions : List ℕ) {w v₀ v₁ : List ℕ} (a : Looked (length questions) w v₀ v₁) where
  module _ {t : ℕ → Node} {n : ℕ} {s : List ℕ} {first k : ℕ} {s' v₂ turns : List ℕ} {stand : ℕ → Search} {up : ℕ} (first-is : first ≡ get_or w next_at 0)
      (b : Spent t n questions s v₁ (search_in (expand t) questions w) first k s' v₂ turns stand up) where
    -- the call starts from what the areas held
    starts : round_in (search_in (expand t) questions w) first ≡ round_by (expand t) questions w
    starts = ap (round_in (search_in (expand t) questions w)) first-is

    ended-few : spend (turn_for (expand t) (goal_of questions)) (length questions) k (round_in (search_in (expand t) questions w) first)
        ≡ spend (turn_for (expand t) (goal_of questions)) (length questions) k (round_by (expand t) questions w)
    ended-few = ap (spend (turn_for (expand t) (goal_of questions)) (length questions) k) starts

    pub few-low : first ≤ 65535 → length questions ≤ most_questions → up ≤ 65535
    few-low h f =
        omega (arith, b.next, spend_low (turn_for (expand t) (goal_of questions)) (length questions) 65535 (omega arith) k (round_in (search_in (expand t) questions w) first) h)

    module _ {w₃ : List ℕ} (puts : (i : ℕ) → search_in (expand t) questions w₃ i ≡ stand i) (up_is : get_or w₃ next_at 0 ≡ up) (z : length s' ≡ length s) where
      pub went-few : Went (expand t) (list_from t 0 n) questions s w k s' w₃
      went-few = record {
        searches = λ i l. puts i ∙ b.searches i l ∙ ap (λ (R : Round). R.searches i) ended-few;
        next = up_is ∙ b.next ∙ ap (λ (R : Round). R.next) ended-few;
        settings = λ i l. b.settings i l ∙ rw (puts i, b.searches i l);
        beyond = parts_beyond (length questions) s s' z (λ j h. (b.beyond j h).0);
      }

    pub reported-few : length turns ≡ most_questions → length v₂ ≡ most_questions → ((i : ℕ) → get_or v₀ i 0 ≡ 0) → Reported (expand t) questions w k turns v₂
    reported-few x y z = record {
      turns_size = x;
      verdicts_size = y;
      made = λ i l. b.turns i l ∙ ap (λ (R : Round). turns_for (turn_for (expand t) (goal_of questions)) (length questions) k R i) starts;
      reached = λ i l. b.numbers i l ∙ ap number_of (b.searches i l ∙ ap (λ (R : Round). R.searches i) ended-few);
      none = λ i l. ((b.beyond i l).2, (b.beyond i l).1 ∙ a.beyond i l ∙ z i);
    }

-- ---- over the table's nodes instead of the index

module _ {n : ℕ} {t u : ℕ → Node} (same : (i : ℕ) → i < n → t i ≡ u i) (T : Table n t) (questions : List ℕ)
    (below : (i : ℕ) → i < length questions → Below n (goals_of questions i)) (w : List ℕ) (k : ℕ) where
  abbrev before : ℕ → Search → Search
  before = turn_for (expand t) (goal_of questions)

  abbrev after : ℕ → Search → Search
  after = turn_for (expand u) (goal_of questions)

  resumed_same : (v : List ℕ) (i : ℕ) → i < length questions → search_in (expand t) questions v i ≡ search_in (expand u) questions v i
  resumed_same v i l = resumed_alike n t u same T (goals_of questions i) (below i l) (stored (part_of 32768 i v))

  rounds : Alike before after (length questions) (Resumes (expand t) questions) (λ i x l r. turn_resumes (expand t) (goals_of questions i) x r)
      (λ i x l r. turn-alike n t u same T (goals_of questions i) (below i l) x r) (round_by (expand t) questions w) (round_by (expand u) questions w)
  rounds = record {
    searches = resumed_same w;
    next = refl;
    good = λ i l. resumed_resumes (expand t) (goals_of questions i) (stored (part_of 32768 i w));
  }

  ended : Alike before after (length questions) (Resumes (expand t) questions) (λ i x l r. turn_resumes (expand t) (goals_of questions i) x r)
      (λ i x l r. turn-alike n t u same T (goals_of questions i) (below i l) x r) (spend before (length questions) k (round_by (expand t) questions w))
      (spend after (length questions) k (round_by (expand u) questions w))
  ended =
      spend_alike before after (length questions) (Resumes (expand t) questions) (λ i x l r. turn_resumes (expand t) (goals_of questions i) x r)
      (λ i x l r. turn-alike n t u same T (goals_of questions i) (below i l) x r) k rounds

  pub went_same : {rs : List Node} {s s' w' : List ℕ} → Went (expand t) rs questions s w k s' w' → Went (expand u) rs questions s w k s' w'
  went_same {s = s} {s'} {w'} a = record {
    searches = λ i l. sym (resumed_same w' i l) ∙ a.searches i l ∙ ended.searches i l;
    next = a.next ∙ ended.next;
    settings = λ i l. a.settings i l ∙ rw (resumed_same w i l, resumed_same w' i l);
    beyond = a.beyond;
  }

  pub reported_same : {turns verdicts : List ℕ} → Reported (expand t) questions w k turns verdicts → Reported (expand u) questions w k turns verdicts
  reported_same a = record {
    turns_size = a.turns_size;
    verdicts_size = a.verdicts_size;
    made = λ i l.
        a.made i l
        ∙ turns_alike before after (length questions) (Resumes (expand t) questions) (λ i x l r. turn_resumes (expand t) (goals_of questions i) x r)
        (λ i x l r. turn-alike n t u same T (goals_of questions i) (below i l) x r) k rounds i;
    reached = λ i l. a.reached i l ∙ ap number_of (ended.searches i l);
    none = a.none;
  }
