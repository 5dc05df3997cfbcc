-- One question makes a turn, and its setting bytes change where that finds a model. Assumes nothing.
use mathlib.Core.Path.{◌≡◌, refl, sym, ap, ◌∙◌}
use mathlib.Core.Bool.{true}
use mathlib.Core.List.{List, [], ◌∷◌, ◌++◌}
use Prim.Native.Nat.{ℕ, ◌+◌, ◌*◌, ◌<◌, ◌≤◌}
use native.Mathlib.Omega.{arith}
use lib.ListN.{length, get_or, set, drop}
use Rattle.scope.specs.declared.Node.{Node}
use Rattle.scope.specs.Table.{list_from}
use Rattle.calculus.specs.Expansion.{expand}
use Rattle.calculus.specs.Order.{possible, setting_of}
use Rattle.calculus.specs.Decide.{settings_on}
use Rattle.units.specs.Units.{words}
use Rattle.state.specs.Work.{g_of}
use Rattle.turns.specs.Turn.{Search, running, found, closed, verdict_of, is_running, number_of, turn, taken_up}
use Rattle.turns.specs.Round.{seek, up_next, whose, turn_for, spend}
use Rattle.turns.proofs.Rounds.{serve-same}
use Rattle.replaying.specs.Standing.{stack_size, search_by, Stands, Made, Turned}
use Rattle.roomareas.specs.Areas.{area_size, points_size, part_of, goal_of, goals_of}
use Rattle.roomareas.specs.Changes.{Beside, MadeAt, search_at, Sits}
use Rattle.roomareas.proofs.Parts.{part-whole, lent, part_back, beside_back}
use Rattle.roomareas.proofs.Resting.{stored_verdict}
use Rattle.roomareas.proofs.Lends.{lent_of, back_of, lent_length}
use Rattle.rounds.specs.Spent.{MarkedAt, turns_at, Served, next_in, VerdictPut, Stepped, SteppedAt, round_in, round_after, Spent}

-- ---- what a number says of a search

module _ {t : ℕ → Node} {n : ℕ} {goals w m o : List ℕ} where
  made_found : (s : Search) {r : ℕ} → Made t n goals w m o s r → r ≡ 1 → verdict_of s ≡ possible (g_of w)
  made_found (running G) a e = absurd (omega (arith, a.number))
  made_found (found G) a e = ap possible (sym a.at)
  made_found closed a e = absurd (omega (arith, a.number))

  made_else : (rs : List Node) (p : List ℕ) (s : Search) {r : ℕ} → Made t n goals w m o s r → (r ≡ 1 → ⊥) → settings_on rs p (verdict_of s) ≡ p
  made_else rs p (running G) a e = refl
  made_else rs p (found G) a e = absurd (e a.number)
  made_else rs p closed a e = refl

-- ---- the setting bytes

-- they are lent, and come back
pub marked-at : {t : ℕ → Node} {n : ℕ} (i : ℕ) (w s : List ℕ) {ys : List ℕ} → points_size * (i + 1) ≤ length s → length ys ≡ length (lent_of points_size i s)
    → ys ≡ setting_of (list_from t 0 n) (g_of (lent_of area_size i w)) ++ drop 1024 (lent_of points_size i s) → MarkedAt t n i w s (back_of points_size i s ys)
marked-at i w s {ys} h z e =
    let f : points_size * i + points_size ≤ length s = omega arith in
    let y : length ys ≡ points_size = z ∙ lent_length points_size i s f in
    record {
      setting = part_back points_size i s ys f y ∙ rw (← lent area_size i w, ← lent points_size i s) e;
      others = beside_back points_size i s ys f y;
    }

beside_self : (size i : ℕ) (xs : List ℕ) → Beside size i xs xs
beside_self size i xs = record { length = refl; other = λ j d. refl }

module _ {t : ℕ → Node} {n i most k : ℕ} (questions s : List ℕ) {w m o w' m' o' : List ℕ} {r : ℕ}
    (a : MadeAt t n (goals_of questions i) i w m o w' m' o' (turns_at t questions i k w) r)
    (b : Turned (turn (expand t) (goals_of questions i)) (running (g_of (part_of area_size i w))) most k) where
  pub served_found : {s' : List ℕ} → r ≡ 1 → MarkedAt t n i w' s s' → Served t n questions i most k s w m o s' w' m' o' r
  served_found e x = record {
    made = a;
    turned = b;
    setting = x.setting ∙ sym (ap (settings_on (list_from t 0 n) (part_of points_size i s)) (made_found (turns_at t questions i k w) a.made e));
    others = x.others;
  }

  pub served_else : (r ≡ 1 → ⊥) → Served t n questions i most k s w m o s w' m' o' r
  served_else e = record {
    made = a;
    turned = b;
    setting = sym (made_else (list_from t 0 n) (part_of points_size i s) (turns_at t questions i k w) a.made e);
    others = beside_self points_size i s;
  }

-- ---- a search is taken up from its area for a turn, and put down: one question's turns are those of a round of its own

lone : (xs : List ℕ) → length xs ≡ 1 → goals_of xs 0 ≡ xs
lone [] e = absurd (omega arith)
lone (x ∷ []) e = refl
lone (x ∷ y ∷ xs) e = absurd (omega arith)

-- room for one
pub room_for : (size : ℕ) {q k : ℕ} → q ≡ 1 → k ≡ size → size * q ≤ k
room_for size {q} {k} a b =
    let z : size * 1 ≡ size = omega arith in
    rw (a, z) (omega arith)

running_at : (v w : List ℕ) → get_or v 0 0 ≡ 2 → search_at w v 0 ≡ running (g_of (part_of area_size 0 w))
unfolding search_by
running_at v w e = rw e

pub sits_one : {t : ℕ → Node} {n : ℕ} {goals w m o : List ℕ} (v : List ℕ) → length goals ≡ 1 → get_or v 0 0 ≡ 2 → length w ≡ area_size → length m ≡ words
    → Stands t n goals w m o → Sits t n goals w m o v
sits_one {t} {n} {goals} {w} {m} {o} v one e a b s i h =
    let z : i ≡ 0 = omega arith in
    rw z
    (rw (running_at v w e, e, part-whole area_size w a, part-whole words m b, part-whole stack_size o s.size, lone goals one)
    (record { number = refl; at = (s, refl) }))

whose-one : (goals v w : List ℕ) → length goals ≡ 1 → get_or v 0 0 ≡ 2 → whose (length goals) (round_in (search_at w v) 0) ≡ 0
unfolding up_next seek
whose-one goals v w one e =
    let runs : is_running (search_at w v 0) ≡ true = rw (running_at v w e) in
    rw (one, runs)

turned-one : (t : ℕ → Node) (goals v w w₁ : List ℕ) → length goals ≡ 1 → get_or v 0 0 ≡ 2 → length w₁ ≡ area_size → g_of w₁ ≡ taken_up (expand t) goals (g_of w)
    → (round_after t goals (search_at w₁ v) 0 1).searches 0 ≡ next_in t goals w
unfolding spend
turned-one t goals v w w₁ one e a taken =
    let up = whose-one goals v w₁ one e in
    serve-same (turn_for (expand t) (goal_of goals)) (length goals) (round_in (search_at w₁ v) 0) 0 (omega (arith, up)) (sym up)
    ∙ ap (turn (expand t) (goals_of goals 0)) (running_at v w₁ e) ∙ rw (part-whole area_size w₁ a, lone goals one, taken)

-- it has made its turn, and is put down
pub stepped : {t : ℕ → Node} {n : ℕ} {goals : List ℕ} (w : List ℕ) {w₁ m o s v s' v' turns w' w'' : List ℕ} {up : ℕ} → length goals ≡ 1 → get_or v 0 0 ≡ 2
    → length w₁ ≡ area_size → length w' ≡ area_size → length s ≡ points_size → length s' ≡ points_size → Stands t n goals w₁ m o
    → g_of w₁ ≡ taken_up (expand t) goals (g_of w) → Spent t n goals s v (search_at w₁ v) 0 1 s' v' turns (search_at w' v') up
    → VerdictPut (get_or v' 0 0) w' w'' → Stepped t n goals s w s' w'' (get_or v' 0 0)
stepped {t} {n} {goals} w {w₁} {s = s} {v} {s'} {v'} {w' = w'} one e a c d f x taken b p =
    let first : 0 < length goals = omega arith in
    let turned = turned-one t goals v w w₁ one e a taken in
    let here : search_at w' v' 0 ≡ next_in t goals w = b.searches 0 first ∙ turned in
    let runs : is_running (search_at w₁ v 0) ≡ true = rw (running_at v w₁ e) in
    record {
      number = b.numbers 0 first ∙ ap number_of here;
      search = p.search ∙ ap (λ (u : List ℕ). search_by (get_or v' 0 0) (g_of u)) (sym (part-whole area_size w' c)) ∙ here;
      setting = sym (part-whole points_size s' f) ∙ b.settings 0 first ∙ rw (runs, turned, part-whole points_size s d);
    }

pub verdict_put : (w : List ℕ) (v : ℕ) → 0 < length w → VerdictPut v w (set w 0 v)
verdict_put w v h = record { search = stored_verdict w v h }

-- its area and its setting bytes are lent, and come back
pub stepped_at : {t : ℕ → Node} {n : ℕ} {goals : List ℕ} (i : ℕ) (s w : List ℕ) {ys zs : List ℕ} {r : ℕ} → points_size * (i + 1) ≤ length s
    → area_size * (i + 1) ≤ length w → length ys ≡ length (lent_of points_size i s) → length zs ≡ length (lent_of area_size i w)
    → Stepped t n goals (lent_of points_size i s) (lent_of area_size i w) ys zs r
    → SteppedAt t n goals i s w (back_of points_size i s ys) (back_of area_size i w zs) r
stepped_at i s w {ys} {zs} p q y z x =
    let f : points_size * i + points_size ≤ length s = omega arith in
    let g : area_size * i + area_size ≤ length w = omega arith in
    let b : length ys ≡ points_size = y ∙ lent_length points_size i s f in
    let d : length zs ≡ area_size = z ∙ lent_length area_size i w g in
    record {
      here = rw (part_back points_size i s ys f b, part_back area_size i w zs g d, ← lent points_size i s, ← lent area_size i w) x;
      areas = beside_back area_size i w zs g d;
      points = beside_back points_size i s ys f b;
    }
