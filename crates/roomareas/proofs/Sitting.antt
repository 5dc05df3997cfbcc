-- The questions' searches in a call: one is changed, and the others stay. Assumes nothing.
use mathlib.Core.Path.{◌≡◌, refl, ap, ◌∙◌}
use mathlib.Core.Bool.{Bool, true, false, cond}
use mathlib.Core.List.{List}
use Prim.Native.Nat.{ℕ, ◌+◌, ◌*◌, ◌<◌, ◌≤◌}
use native.Mathlib.Omega.{arith}
use native.Mathlib.Decide.{ℕ_discrete}
use lib.Dec.{eqb}
use lib.ListN.{length, get_or, set, length-set}
use lib.Seq.{get_or-set_same, get_or-set_other}
use Rattle.scope.specs.declared.Node.{Node}
use Rattle.calculus.specs.Expansion.{expand}
use Rattle.calculus.specs.Model.{Goals}
use Rattle.calculus.proofs.Lists.{all_at}
use Rattle.state.specs.Work.{g_of}
use Rattle.turns.specs.Turn.{Search, running, found, closed, number_of, taken_up, resumed}
use Rattle.replaying.specs.declared.Verdict.{Verdict}
use Rattle.replaying.specs.declared.Verdict.TheVariants.{Unfinished}
use Rattle.replaying.specs.Standing.{number_by, search_by, Stands, Made}
use Rattle.replaying.proofs.Standings.{by-two, made_search}
use Rattle.roomareas.specs.Areas.{area_size, part_of, stored, goal_of, goals_of, search_in}
use Rattle.roomareas.specs.Changes.{MadeAt, search_at, SitsAt, TakenUp}

-- each question's goal is a literal of the nodes
pub goal_below : {n : ℕ} {questions : List ℕ} → Goals n questions → {i : ℕ} → i < length questions → goal_of questions i < 2 * n
goal_below {n} {questions} g {i} h = all_at (λ l. l < 2 * n) questions i 0 g.below h

-- ---- one search is taken up

module _ {t : ℕ → Node} {n : ℕ} {goals : List ℕ} (w : List ℕ) {m o : List ℕ} {v : Verdict}
    (e : (G : List ℕ) → number_by v ≡ number_of (search_by (get_or w 0 0) G)) where
  -- it is over
  pub taken_over : (v ≡ Unfinished → ⊥) → Made t n goals w m o (resumed (expand t) goals (stored w)) (number_by v)
  unfolding search_by
  taken_over d = by (eqb (get_or w 0 0) 0) (eqb (get_or w 0 0) 1) (e (g_of w))
    where
      by : (a b : Bool) → number_by v ≡ number_of (cond a closed (cond b (found (g_of w)) (running (g_of w))))
          → Made t n goals w m o (resumed (expand t) goals (cond a closed (cond b (found (g_of w)) (running (g_of w))))) (number_by v)
      by true b z = record { number = z; at = tt }
      by false true z = record { number = z; at = refl }
      by false false z = absurd (d (by-two v z))

  -- it goes on
  pub taken_running : v ≡ Unfinished → {w' : List ℕ} → Stands t n goals w' m o → g_of w' ≡ taken_up (expand t) goals (g_of w)
      → Made t n goals w' m o (resumed (expand t) goals (stored w)) (number_by v)
  unfolding search_by
  taken_running u {w'} s g = by (eqb (get_or w 0 0) 0) (eqb (get_or w 0 0) 1) (e (g_of w))
    where
      two : number_by v ≡ 2
      two = ap number_by u

      by : (a b : Bool) → number_by v ≡ number_of (cond a closed (cond b (found (g_of w)) (running (g_of w))))
          → Made t n goals w' m o (resumed (expand t) goals (cond a closed (cond b (found (g_of w)) (running (g_of w))))) (number_by v)
      by true b z = absurd (omega (arith, two))
      by false true z = absurd (omega (arith, two))
      by false false z = record { number = z; at = (s, g) }

-- ---- one search is changed

module _ {t : ℕ → Node} {n : ℕ} (questions v : List ℕ) {w m o w' m' o' : List ℕ} {i r : ℕ} {s : Search}
    (a : MadeAt t n (goals_of questions i) i w m o w' m' o' s r) (l : i < length v) where
  -- its verdict is stored
  abbrev now : List ℕ
  now = set v i r

  verdict_here : get_or now i 0 ≡ r
  verdict_here = get_or-set_same v i r 0 l

  pub search_here : search_at w' now i ≡ s
  search_here = rw verdict_here (made_search s a.made)

  pub sits_here : SitsAt t n questions w' m' o' now i
  sits_here = rw (search_here, verdict_here) a.made

  module _ {j : ℕ} (d : j ≡ i → ⊥) where
    pub verdict-other : get_or now j 0 ≡ get_or v j 0
    verdict-other = get_or-set_other v i j r 0 d

    pub search-other : search_at w' now j ≡ search_at w v j
    search-other = rw (verdict-other, a.work.other j d)

    pub sits-other : SitsAt t n questions w m o v j → SitsAt t n questions w' m' o' now j
    sits-other s = rw (verdict-other, a.work.other j d, a.masks.other j d, a.stacks.other j d) s

-- ---- one after another

-- the first i have been taken up
pub record Taking (t : ℕ → Node) (n : ℕ) (questions w₀ m₀ o₀ v₀ w m o v : List ℕ) (i : ℕ) : Type 0 where
  pub sits : (j : ℕ) → j < i → SitsAt t n questions w m o v j
  pub searches : (j : ℕ) → j < i → search_at w v j ≡ search_in (expand t) questions w₀ j
  pub rest : (j : ℕ) → i ≤ j → part_of area_size j w ≡ part_of area_size j w₀
  pub beyond : (j : ℕ) → i ≤ j → get_or v j 0 ≡ get_or v₀ j 0
  pub work : length w ≡ length w₀
  pub masks : length m ≡ length m₀
  pub stacks : length o ≡ length o₀
  pub verdicts : length v ≡ length v₀

pub taking_none : (t : ℕ → Node) (n : ℕ) (questions w m o v : List ℕ) → Taking t n questions w m o v w m o v 0
taking_none t n questions w m o v = record {
  sits = λ j h. absurd (omega arith);
  searches = λ j h. absurd (omega arith);
  rest = λ j h. refl;
  beyond = λ j h. refl;
  work = refl;
  masks = refl;
  stacks = refl;
  verdicts = refl;
}

module _ {t : ℕ → Node} {n : ℕ} {questions w₀ m₀ o₀ v₀ w m o v : List ℕ} {i : ℕ} (k : Taking t n questions w₀ m₀ o₀ v₀ w m o v i) where
  pub taking_more : {w' m' o' : List ℕ} {r : ℕ} → i < length v₀
      → MadeAt t n (goals_of questions i) i w m o w' m' o' (search_in (expand t) questions w i) r
      → Taking t n questions w₀ m₀ o₀ v₀ w' m' o' (set v i r) (i + 1)
  taking_more {w'} {m'} {o'} {r} h a =
      let l : i < length v = omega (arith, k.verdicts) in
      record {
        sits = λ j b. sit j b l (ℕ_discrete j i);
        searches = λ j b. seek j b l (ℕ_discrete j i);
        rest = λ j b. a.work.other j (λ e. omega arith) ∙ k.rest j (omega arith);
        beyond = λ j b. get_or-set_other v i j r 0 (λ e. omega arith) ∙ k.beyond j (omega arith);
        work = a.work.length ∙ k.work;
        masks = a.masks.length ∙ k.masks;
        stacks = a.stacks.length ∙ k.stacks;
        verdicts = length-set v i r ∙ k.verdicts;
      }
    where
      sit : (j : ℕ) → j < i + 1 → i < length v → Dec (j ≡ i) → SitsAt t n questions w' m' o' (set v i r) j
      sit j b l (yes e) = rw e (sits_here questions v a l)
      sit j b l (no e) = sits-other questions v a l e (k.sits j (omega arith))

      seek : (j : ℕ) → j < i + 1 → i < length v → Dec (j ≡ i) → search_at w' (set v i r) j ≡ search_in (expand t) questions w₀ j
      seek j b l (yes e) = rw e (search_here questions v a l ∙ rw (k.rest i (omega arith)))
      seek j b l (no e) = search-other questions v a l e ∙ k.searches j (omega arith)

  pub taking_all : i ≡ length questions → TakenUp t n questions w₀ v₀ w m o v
  taking_all e = record {
    sits = λ j h. k.sits j (omega arith);
    searches = λ j h. k.searches j (omega arith);
    beyond = λ j h. k.beyond j (omega arith);
  }
