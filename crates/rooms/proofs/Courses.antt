-- 'Split into calls of any allowances, each verdict and setting equal decide's for that question'; and over such calls no question waits
-- long. Assumes nothing.
use mathlib.Core.Path.{◌≡◌, refl, sym, ap, ◌∙◌}
use mathlib.Core.Bool.{true, cond}
use mathlib.Core.List.{List, [], ◌∷◌}
use Prim.Native.Nat.{ℕ, ◌+◌, ◌*◌, ◌<◌, ◌≤◌}
use native.Mathlib.Omega.{arith}
use lib.Dec.{ltb}
use lib.ListN.{length}
use Rattle.scope.specs.declared.Node.{Node}
use Rattle.scope.specs.Outcome.{answer}
use Rattle.scope.specs.Table.{decode}
use Rattle.codec.specs.Valid.{Bytes}
use Rattle.calculus.specs.Expansion.{expand}
use Rattle.calculus.specs.Order.{unfinished, answer_of}
use Rattle.calculus.specs.Model.{Below}
use Rattle.calculus.specs.Decide.{nodes_of, search_of, settings_on, Decided, decide}
use Rattle.calculus.proofs.Lists.{all_at}
use Rattle.asking.proofs.Models.{table_of}
use Rattle.meaning.proofs.Decisions.{decide-plain}
use Rattle.turns.specs.Turn.{Search, running, found, closed, verdict_of, resumes, replays, turns_of}
use Rattle.turns.specs.Round.{Round, opening, runs, remaining, turn_for, spend, turns_for, total, sum, written}
use Rattle.turns.proofs.Rounds.{spend_add, turns_add, waits-few}
use Rattle.turns.proofs.Replay.{turn_resumes, resumed_resumes}
use Rattle.turns.proofs.Rooms.{written_parts, finished_stays, room-verdict, rooms-end}
use Rattle.roomareas.specs.Areas.{area_size, points_size, part_of, stored, goal_of, goals_of, round_of}
use Rattle.rooms.specs.Course.{Later, none, turned, reported, Course}
use Rattle.rooms.proofs.Alike.{Alike, spend_alike, turns_alike}
use Rattle.rooms.proofs.Ends.{turns-told}
use Rattle.rooms.proofs.Rows.{admitted-read}

-- questions over the nodes of a table
module _ (questions : List ℕ) (rs : List Node) where
  abbrev turn_of : ℕ → Search → Search
  turn_of = turn_for (expand (nodes_of rs)) (goal_of questions)

  -- the round after k turns
  abbrev pub spent : ℕ → Round → Round
  spent k R = spend turn_of (length questions) k R

  abbrev Resumes : ℕ → Search → Type 0
  Resumes i s = resumes (expand (nodes_of rs)) (goals_of questions i) s ≡ true

  abbrev keeps : (i : ℕ) (s : Search) → i < length questions → Resumes i s → Resumes i (turn_of i s)
  keeps i s l r = turn_resumes (expand (nodes_of rs)) (goals_of questions i) s r

  -- the rounds have the same searches, which can go on, and the same next
  abbrev pub Agree : Round → Round → Type 0
  Agree R S = Alike turn_of turn_of (length questions) Resumes keeps (λ i s l r. refl) R S

  agree_trans : {R S T : Round} → Agree R S → Agree S T → Agree R T
  agree_trans a b = record { searches = λ i l. a.searches i l ∙ b.searches i l; next = a.next ∙ b.next; good = a.good }

  spent_agree : (k : ℕ) {R S : Round} → Agree R S → Agree (spent k R) (spent k S)
  spent_agree k a = spend_alike turn_of turn_of (length questions) Resumes keeps (λ i s l r. refl) k a

  -- whatever areas hold can go on
  held_agree : (w : List ℕ) → Agree (round_of rs questions w) (round_of rs questions w)
  held_agree w = record {
    searches = λ i l. refl;
    next = refl;
    good = λ i l. resumed_resumes (expand (nodes_of rs)) (goals_of questions i) (stored (part_of area_size i w));
  }

-- setting bytes where no turn was made
written_none : (rs : List Node) (s : List ℕ) (x : Search) → s ≡ written rs x x s
written_none rs s (running G) = refl
written_none rs s (found G) = refl
written_none rs s closed = refl

-- ---- later calls, from any settings and areas on

module _ {t questions : List ℕ} {rs : List Node} {s₀ w₀ : List ℕ} where
  -- the areas hold the round after the sum of the allowances, whatever they are
  pub later_round : {ms s w : List ℕ} → Later t questions rs s₀ w₀ ms s w → Agree questions rs (round_of rs questions w) (spent questions rs (sum ms) (round_of rs questions w₀))
  unfolding spend sum
  later_round none = held_agree questions rs w₀
  later_round {ms = m ∷ ms} (turned {w = w} {w' = w'} b e a) = on (later_round b)
    where
      on : Agree questions rs (round_of rs questions w) (spent questions rs (sum ms) (round_of rs questions w₀))
          → Agree questions rs (round_of rs questions w') (spent questions rs (m + sum ms) (round_of rs questions w₀))
      on r =
          let k = spent_agree questions rs m r in
          let z : sum ms + m ≡ m + sum ms = omega arith in
          let y : spent questions rs m (spent questions rs (sum ms) (round_of rs questions w₀)) ≡ spent questions rs (m + sum ms) (round_of rs questions w₀) =
          sym (spend_add (turn_of questions rs) (length questions) (sum ms) m (round_of rs questions w₀)) ∙ ap (λ (n : ℕ). spent questions rs n (round_of rs questions w₀)) z in
          let g = a.went rs e in
          record {
            searches = λ i l. g.searches i l ∙ k.searches i l ∙ ap (λ (R : Round). R.searches i) y;
            next = g.next ∙ k.next ∙ ap (λ (R : Round). R.next) y;
            good = λ i l. rw (g.searches i l) (k.good i l);
          }

  -- the turns reported are those of one call with the sum of the allowances
  pub later_turns : {ms s w : List ℕ} (b : Later t questions rs s₀ w₀ ms s w) (i : ℕ) → i < length questions
      → reported b i ≡ turns_for (turn_of questions rs) (length questions) (sum ms) (round_of rs questions w₀) i
  unfolding turns_for sum
  later_turns none i l = refl
  later_turns {ms = m ∷ ms} (turned {s = s} {w = w} b e a) i l =
      let z : sum ms + m ≡ m + sum ms = omega arith in
      let here = turns-told t questions s w e m a i l in
      let same = turns_alike (turn_of questions rs) (turn_of questions rs) (length questions) (Resumes questions rs) (keeps questions rs) (λ i s l r. refl) m (later_round b) i in
      let both = turns_add (turn_of questions rs) (length questions) (sum ms) m (round_of rs questions w₀) i in
      omega (arith, later_turns b i l, ap (λ (n : ℕ). turns_for (turn_of questions rs) (length questions) n (round_of rs questions w₀) i) z)

  -- 'With r unfinished, a question waits for at most r − 1 turns of others while allowance lasts', over any calls: those that report no turn
  -- of it have fewer turns together
  pub later-waits : {ms s w : List ℕ} (b : Later t questions rs s₀ w₀ ms s w) (i : ℕ) → i < length questions → runs (round_of rs questions w₀) i ≡ true
      → reported b i ≡ 0 → sum ms < remaining (length questions) (round_of rs questions w₀)
  later-waits {ms} b i l h z = waits-few (turn_of questions rs) (length questions) (round_of rs questions w₀) i l h (sum ms) (sym (later_turns b i l) ∙ z)

  -- the setting bytes of a question changed with the turn that reached its verdict, and only then
  later_settings : {ms s w : List ℕ} → Later t questions rs s₀ w₀ ms s w → (i : ℕ) → i < length questions
      → part_of points_size i s ≡ written rs ((round_of rs questions w₀).searches i) ((round_of rs questions w).searches i) (part_of points_size i s₀)
  later_settings none i l = written_none rs (part_of points_size i s₀) ((round_of rs questions w₀).searches i)
  later_settings {ms = m ∷ ms} (turned {s = s} {w = w} {w' = w'} b e a) i l =
      let g = a.went rs e in
      g.settings i l ∙ ap (written rs ((round_of rs questions w).searches i) ((round_of rs questions w').searches i)) (later_settings b i l)
      ∙ written_parts rs (part_of points_size i s₀) ((round_of rs questions w₀).searches i) ((round_of rs questions w).searches i) ((round_of rs questions w').searches i)
      (λ z. (later_round b).searches i l ∙ finished_stays (expand (nodes_of rs)) (goal_of questions) (length questions) (sum ms) (round_of rs questions w₀) i l z)
      (λ z. g.searches i l ∙ finished_stays (expand (nodes_of rs)) (goal_of questions) (length questions) m (round_of rs questions w) i l z)

-- ---- from the first call on

module _ {t questions : List ℕ} {rs : List Node} {s₀ : List ℕ} {ms s w : List ℕ} (b : Course t questions rs s₀ ms s w) where
  starts : (i : ℕ) → i < length questions → (round_of rs questions b.areas).searches i ≡ running []
  starts i l = b.opened.searches rs b.read i l

  opened_agree : Agree questions rs (round_of rs questions b.areas) opening
  unfolding replays
  opened_agree = record { searches = starts; next = b.opened.next rs b.read; good = λ i l. rw (starts i l) }

  -- the areas hold the round after the sum of the allowances, from the start on, whatever they are
  pub course_round : Agree questions rs (round_of rs questions w) (spent questions rs (sum ms) opening)
  course_round = agree_trans questions rs (later_round b.later) (spent_agree questions rs (sum ms) opened_agree)

  pub course_settings : (i : ℕ) → i < length questions
      → part_of points_size i s ≡ written rs (running []) ((round_of rs questions w).searches i) (part_of points_size i s₀)
  course_settings i l =
      later_settings b.later i l
      ∙ ap (λ (x : Search). written rs x ((round_of rs questions w).searches i) (part_of points_size i s₀)) (starts i l)

  -- the table reads, and each question is a literal of it
  course_read : (decode t ≡ answer rs) × Below (length rs) questions
  course_read = admitted-read t questions (length s₀) (length b.lent) b.read

  module _ (all : Bytes t) (i : ℕ) (l : i < length questions) where
    -- how many turns all searches take
    abbrev pub enough : ℕ
    enough = total (λ i. turns_of (search_of rs (goals_of questions i))) (length questions)

    goals-below : (j : ℕ) → j < length questions → goal_of questions j < 2 * length rs
    goals-below j h = all_at (λ x. x < 2 * length rs) questions j 0 course_read.1 h

    -- a verdict that is there is that of the plain order
    pub course-verdict : verdict_of ((round_of rs questions w).searches i)
        ≡ cond (ltb (turns_for (turn_of questions rs) (length questions) (sum ms) opening i) (turns_of (search_of rs (goals_of questions i)))) unfinished (answer_of (search_of rs (goals_of questions i)))
    course-verdict =
        ap verdict_of (course_round.searches i l)
        ∙ room-verdict (length rs) (nodes_of rs) (table_of t rs all course_read.0) (goal_of questions) (length questions) goals-below (sum ms) i l

    -- .. and with enough turns it is there, with its setting
    module _ (h : enough ≤ sum ms) where
      pub course-ends : verdict_of ((round_of rs questions w).searches i) ≡ answer_of (search_of rs (goals_of questions i))
      course-ends =
          ap verdict_of (course_round.searches i l)
          ∙ rooms-end (length rs) (nodes_of rs) (table_of t rs all course_read.0) (goal_of questions) (length questions) goals-below (sum ms) h i l

      pub course-written : part_of points_size i s ≡ settings_on rs (part_of points_size i s₀) (answer_of (search_of rs (goals_of questions i)))
      course-written = course_settings i l ∙ ap (settings_on rs (part_of points_size i s₀)) course-ends

      -- .. as decide answers, lent the question's settings bytes
      pub course-decides : (v : List ℕ) {d : Decided} → decide t (goals_of questions i) (part_of points_size i s₀) v ≡ answer d
          → (verdict_of ((round_of rs questions w).searches i) ≡ d.verdict) × (part_of points_size i s ≡ d.settings)
      course-decides v {d} e =
          let p = decide-plain t (goals_of questions i) (part_of points_size i s₀) v all e in
          let reads : decode t ≡ answer p.0 = p.1 in
          let known : decode t ≡ answer rs = course_read.0 in
          let same : p.0 ≡ rs = cc in
          let verdict : d.verdict ≡ answer_of (search_of rs (goals_of questions i)) = p.2.verdict ∙ ap (λ (qs : List Node). answer_of (search_of qs (goals_of questions i))) same in
          let settings : d.settings ≡ settings_on rs (part_of points_size i s₀) (answer_of (search_of rs (goals_of questions i))) =
          p.2.settings ∙ ap (λ (qs : List Node). settings_on qs (part_of points_size i s₀) (answer_of (search_of qs (goals_of questions i)))) same in
          (course-ends ∙ sym verdict, course-written ∙ sym settings)
