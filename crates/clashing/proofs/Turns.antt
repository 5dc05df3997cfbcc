-- The turns of the walk in code: the question that is put, its answer, and the indices kept. Assumes nothing.
use mathlib.Core.Path.{◌≡◌, refl, sym, ap, ap₂, ◌∙◌}
use mathlib.Core.List.{List, [], ◌∷◌, ◌++◌, map-append, append-nil}
use mathlib.Core.Bool.{Bool, true, false}
use Prim.Native.Nat.{ℕ, suc, ◌+◌, ◌-◌, ◌*◌, ◌<◌, ◌≤◌}
use native.Mathlib.Omega.{arith}
use lib.ListN.{length, get_or, set, take, drop, replicate, length-set, length-drop, length-map}
use lib.Seq.{take-take, take-append-add, length-take-le, drop-cons, drop-set-lt, get_or-set_same}
use Rattle.scope.specs.declared.Node.{Node}
use Rattle.scope.specs.Outcome.{answer, refused}
use Rattle.calculus.specs.Order.{Answer}
use Rattle.calculus.specs.Model.{All, most_goals, Goals}
use Rattle.calculus.proofs.Lists.{all_append}
use Rattle.rules.specs.Derive.{is_impossible}
use Rattle.state.specs.Work.{g_of}
use Rattle.questions.specs.Indices.{Rising, picked, up_to}
use Rattle.questions.specs.Asking.{asks}
use Rattle.questions.proofs.Indices.{rising-from, rising_below, rising-few, up_to_below, picked_all, picked_up_to}
use Rattle.searching.specs.Search.{found_of, Solved}
use Rattle.searching.specs.declared.Found.{Found}
use Rattle.searching.specs.declared.Found.TheVariants.{Model, Closed}
use Rattle.clashing.specs.Clash.{clashes, walk, argued}
use Rattle.clashing.specs.Walks.{list_size, refuted, Passed, Held, Grows}
use Rattle.clashing.specs.Clashes.{clashed_of}
use Rattle.clashing.proofs.Walks.{walk_keeps, walk_ends, walk-passes, walk-waits}
use Rattle.clashing.proofs.Keeps.{refuted-some, clashes-refuted}

-- ---- an answer

-- all goals may be put together
pub together : {n : ℕ} {goals : List ℕ} → Passed n goals → Goals n goals
together g = record { most = omega (arith, g.most); below = g.below }

module _ {t : ℕ → Node} {n : ℕ} {goals work : List ℕ} {r : Found} (s : Solved t n goals work r) where
  whole : {y : Found} → r ≡ y → asks t n goals ≡ found_of y (g_of work)
  whole e = sym s.answered ∙ ap (λ (y : Found). found_of y (g_of work)) e

  module _ (some : length goals ≡ 0 → ⊥) where
    put : {y : Found} → r ≡ y → refuted (asks t n) goals ≡ is_impossible (found_of y (g_of work))
    put e = refuted-some (asks t n) goals (omega arith) ∙ ap is_impossible (whole e)

    pub refutes : r ≡ Closed → true ≡ refuted (asks t n) goals
    refutes e = sym (put e)

    pub refutes-not : r ≡ Model → false ≡ refuted (asks t n) goals
    refutes-not e = sym (put e)

  -- of all goals
  pub argued_model : r ≡ Model → clashed_of (refused 63 0) ≡ clashed_of (argued (asks t n) goals)
  argued_model e = rw (whole e)

  pub argued_closed : r ≡ Closed → clashed_of (answer (walk (clashes (asks t n) goals) (length goals) [])) ≡ clashed_of (argued (asks t n) goals)
  argued_closed e = rw (whole e)

-- ---- the question

-- the walk looks at the goals before i: those kept rise behind them, and in the list their literals stand in front of all goals
pub record Walked (goals kept : List ℕ) (first : ℕ) (list : List ℕ) (i : ℕ) : Type 0 where
  pub held : Held kept first
  pub rising : Rising i (length goals) (drop first kept)
  pub within : i ≤ length goals
  pub size : length list ≡ list_size
  pub literals : take (most_goals - first + length goals) (drop first list) ≡ picked goals (drop first kept) ++ goals

module _ {n : ℕ} {goals kept : List ℕ} {first : ℕ} {list : List ℕ} {i : ℕ} (g : Passed n goals) (w : Walked goals kept first list i) where
  kept_size : length (drop first kept) ≡ most_goals - first
  kept_size = length-drop first kept ∙ ap (◌- first) w.held.size

  pub kept_below : All (λ k. k < length goals) (drop first kept)
  kept_below = rising_below i (length goals) (drop first kept) w.rising

  -- no more literals than goals
  pub few : i + (most_goals - first) ≤ length goals
  few = omega (arith, rising-few i (length goals) (drop first kept) w.within w.rising, kept_size)

  module _ {m : ℕ} (h : m < i) where
    -- what is put: the goals kept and those before m
    pub question : take (most_goals + m - first) (drop first list) ≡ picked goals (drop first kept ++ up_to m [])
    question =
        let c : ℕ = most_goals - first in
        let z : most_goals + m - first ≡ c + m = omega (arith, w.held.within) in
        let k : length (picked goals (drop first kept)) ≡ c = length-map (drop first kept) (λ i. get_or goals i 0) ∙ kept_size in
        ap (λ (j : ℕ). take j (drop first list)) z
        ∙ sym (take-take (c + m) (c + length goals) (drop first list) (omega (arith, w.within)))
        ∙ ap (take (c + m)) w.literals
        ∙ ap (λ (j : ℕ). take (j + m) (picked goals (drop first kept) ++ goals)) (sym k)
        ∙ take-append-add (picked goals (drop first kept)) goals m
        ∙ ap (picked goals (drop first kept) ++◌) (sym (picked_up_to goals m [] (omega (arith, w.within)) ∙ append-nil (take m goals)))
        ∙ sym (map-append (λ i. get_or goals i 0) (drop first kept) (up_to m []))

    pub ends-in : (first ≤ most_goals + m) × (most_goals + m ≤ length list)
    ends-in = (omega (arith, w.held.within), omega (arith, w.within, g.most, w.size))

    pub asking : Goals n (take (most_goals + m - first) (drop first list))
    asking =
        let b : All (λ k. k < length goals) (drop first kept ++ up_to m []) =
        all_append (λ k. k < length goals) (drop first kept) (up_to m []) kept_below (up_to_below m (length goals) [] (omega (arith, w.within)) tt) in
        record {
          most =
              omega (
                arith,
                few,
                g.most,
                w.held.within,
                length-take-le (most_goals + m - first) (drop first list) (omega (arith, ends-in.0, ends-in.1, length-drop first list)),
              );
          below = rw question (picked_all (λ l. l < 2 * n) goals (drop first kept ++ up_to m []) g.below b);
        }

    -- the answer is the test's
    pub tested : (ask : List ℕ → Answer) {b : Bool} → b ≡ refuted ask (take (most_goals + m - first) (drop first list))
        → clashes ask goals (drop first kept ++ up_to m []) ≡ b
    tested ask e = clashes-refuted ask goals (drop first kept ++ up_to m []) ∙ sym (e ∙ ap (refuted ask) question)

-- ---- the turns

-- before a turn: what is left of the walk gives what all of it does, and the test does not hold with fewer goals than `floor`
pub record Narrowing (test : List ℕ → Bool) (goals kept : List ℕ) (first : ℕ) (list : List ℕ) (i floor : ℕ) : Type 0 where
  pub walked : Walked goals kept first list i
  pub left : walk test i (drop first kept) ≡ walk test (length goals) []
  pub low : floor ≤ i
  pub needed : (j : ℕ) → floor ≡ suc j → test (up_to j (drop first kept)) ≡ false

pub narrowing_none : (test : List ℕ → Bool) (goals list : List ℕ) → length list ≡ list_size → take (length goals) (drop most_goals list) ≡ goals
    → Narrowing test goals (replicate most_goals 0) most_goals list (length goals) 0
narrowing_none test goals list z e = record {
  walked = record {
    held = record { size = refl; within = omega arith };
    rising = tt;
    within = omega arith;
    size = z;
    literals =
        let q : most_goals - most_goals + length goals ≡ length goals = omega arith in
        ap (λ (k : ℕ). take k (drop most_goals list)) q ∙ e;
  };
  left = refl;
  low = omega arith;
  needed = λ j q. absurd (omega arith);
}

module _ {test : List ℕ → Bool} {n : ℕ} {goals kept : List ℕ} {first : ℕ} {list : List ℕ} {i floor : ℕ}
    (g : Passed n goals) (t : Narrowing test goals kept first list i floor) where
  module _ (grows : Grows (length goals) test) {m : ℕ} (h : m < i) where
    -- the goals before m are enough: those behind them are dropped
    pub turn-passes : floor ≤ m → test (drop first kept ++ up_to m []) ≡ true → Narrowing test goals kept first list m floor
    turn-passes b e =
        let w = t.walked in
        record {
          walked = record {
            held = w.held;
            rising = rising-from m i (length goals) (drop first kept) (omega arith) w.rising;
            within = omega (arith, w.within);
            size = w.size;
            literals = w.literals;
          };
          left = sym (walk-passes test (length goals) grows (drop first kept) (kept_below g w) m i (omega arith) w.within e) ∙ t.left;
          low = b;
          needed = t.needed;
        }

    -- they are not
    pub turn-waits : test (drop first kept ++ up_to m []) ≡ false → Narrowing test goals kept first list i (m + 1)
    turn-waits e = record {
      walked = t.walked;
      left = t.left;
      low = omega arith;
      needed = λ j q.
          let z : m ≡ j = omega arith in
          rw (← z) (walk-waits test (length goals) grows (drop first kept) (kept_below g t.walked) m (omega (arith, t.walked.within)) e);
    }

  module _ (b : 0 < i) where
    -- there is room for an index more, which is small
    pub turn-room : (0 < first) × (first ≤ most_goals) × (i ≤ most_goals)
    turn-room = (omega (arith, few g t.walked, g.most), t.walked.held.within, omega (arith, t.walked.within, g.most))

    front : (l : List ℕ) (v : ℕ) → first ≤ length l → drop (first - 1) (set l (first - 1) v) ≡ v ∷ drop first l
    front l v h =
        let z : suc (first - 1) ≡ first = omega (arith, turn-room.0) in
        drop-cons (set l (first - 1) v) (first - 1) 0 (omega (arith, turn-room.0, length-set l (first - 1) v))
        ∙ ap₂ ◌∷◌ (get_or-set_same l (first - 1) v 0 (omega (arith, turn-room.0)))
        (drop-set-lt (suc (first - 1)) l (first - 1) v (omega arith) ∙ ap (λ (k : ℕ). drop k l) z)

    -- no fewer goals are enough: the last of them is kept, and stands in front of those kept before
    pub turn-keeps : i ≤ floor
        → Narrowing test goals (set kept (first - 1) (i - 1)) (first - 1) (set list (first - 1) (get_or goals (i - 1) 0)) (i - 1) 0
    turn-keeps h =
        let w = t.walked in
        let v : ℕ = get_or goals (i - 1) 0 in
        let last : suc (i - 1) ≡ i = omega arith in
        let q : drop (first - 1) (set kept (first - 1) (i - 1)) ≡ (i - 1) ∷ drop first kept = front kept (i - 1) (omega (arith, w.held.size, w.held.within)) in
        let l : drop (first - 1) (set list (first - 1) v) ≡ v ∷ drop first list = front list v (omega (arith, w.size, w.held.within)) in
        let c : most_goals - (first - 1) + length goals ≡ suc (most_goals - first + length goals) = omega (arith, turn-room.0, turn-room.1) in
        record {
          walked = record {
            held = record { size = length-set kept (first - 1) (i - 1) ∙ w.held.size; within = omega (arith, turn-room.1) };
            rising = rw (q, last) (omega arith, (omega (arith, w.within), w.rising));
            within = omega (arith, w.within);
            size = length-set list (first - 1) v ∙ w.size;
            literals = rw (q, l, c) (ap (v ∷◌) w.literals);
          };
          left =
              rw q (sym (walk_keeps test (i - 1) (drop first kept) (t.needed (i - 1) (omega (arith, t.low))))
              ∙ ap (λ (k : ℕ). walk test k (drop first kept)) last ∙ t.left);
          low = omega arith;
          needed = λ j e. absurd (omega arith);
        }

-- no goal is left to look at
pub turn-none : {test : List ℕ → Bool} {goals kept : List ℕ} {first : ℕ} {list : List ℕ} {i floor : ℕ} → i ≡ 0 → Narrowing test goals kept first list i floor
    → drop first kept ≡ walk test (length goals) []
turn-none {test} {kept = kept} {first} z t = sym (walk_ends test (drop first kept)) ∙ ap (λ (k : ℕ). walk test k (drop first kept)) (sym z) ∙ t.left
