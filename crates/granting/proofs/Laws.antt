-- A step, a visit and the walk through the sizes, by their cases. Assumes nothing.
use mathlib.Core.Path.{◌≡◌, refl, sym, ap, ◌∙◌}
use mathlib.Core.List.{List, [], ◌∷◌, ◌++◌}
use Prim.Native.Nat.{ℕ, zero, suc, ◌+◌, ◌-◌, ◌*◌, ◌<◌, ◌≤◌}
use native.Mathlib.Numerals.{add-one}
use native.Mathlib.Omega.{arith}
use lib.ListN.{length, get_or, take, set, length-append, length-set}
use lib.Seq.{length-take-le, take-suc-set, take-take, take-set-le}
use borrow.Author.Tests.{ne_eqb}
use Rattle.calculus.specs.Order.{Answer, impossible}
use Rattle.calculus.specs.Model.{Table, Below, Goals}
use Rattle.calculus.proofs.Lists.{all_append, all_at}
use Rattle.index.specs.Index.{most_nodes, index_node}
use Rattle.state.specs.Work.{Ready}
use Rattle.searching.specs.declared.Found.TheVariants.{Model, Closed}
use Rattle.searching.specs.Search.{Solved}
use Rattle.questions.specs.Asking.{asks}
use Rattle.wishing.specs.Wish.{Wished}
use Rattle.wishing.specs.Walk.{Stage, asking, stopped, heard, step, visit, visits, finish}
use Rattle.wishing.proofs.Walks.{visit_none, visit_stopped}
use Rattle.wishing.proofs.Wishes.{granted_walks}
use Rattle.granting.specs.Counts.{Opposed}
use Rattle.granting.specs.Visits.{wished_of, stage_of, Spends, Listed, Gathered, Stepped, Refused, Visited, Grants}
use Rattle.granting.specs.declared.Way.{Way}
use Rattle.std.specs.declared.ops.ControlFlow.{ControlFlow}
use Rattle.std.specs.declared.ops.ControlFlow.TheVariants.{Continue, Break}
use Rattle.granting.specs.declared.Grant.{Grant}
use Rattle.granting.proofs.Opposites.{opposite_impossible}
use Rattle.granting.proofs.Refusals.{visit_refused}

-- ---- a step

module _ (ask : List ℕ → Answer) (first : List ℕ) (g : ℕ) (q : List ℕ) where
  step-asks : (put left : ℕ) → (left ≡ 0 → ⊥) → step ask first g q (asking put left) ≡ heard (ask q) (length q - g) put (left - 1)
  unfolding step
  step-asks put zero h = absurd (h refl)
  step-asks put (suc l) h =
      let z : l ≡ suc l - 1 = omega arith in
      ap (heard (ask q) (length q - g) put) z

  step_ends : (put left : ℕ) → left ≡ 0 → step ask first g q (asking put left) ≡ stopped (record { standing = first; k = 0; u = length q - g; questions = put })
  unfolding step
  step_ends put zero h = refl
  step_ends put (suc l) h = absurd (omega arith)

module _ (x : List ℕ) (n g : ℕ) (q w : List ℕ) (on : Way) where
  pub step_spent : Ready n w → on.left ≡ 0 → Stepped x n g q w w on (Break (record { met = 0; bound = length q - g; questions = on.put }))
  step_spent y h = record {
    stage = λ first. sym (step_ends (asks (index_node x) n) first g q on.put on.left h);
    room = omega arith;
    ready = y;
  }

  module _ (w' : List ℕ) (h : on.left ≡ 0 → ⊥) where
    -- what the answer makes of the stage
    hears : {a : Answer} → a ≡ asks (index_node x) n q → (first : List ℕ)
        → heard a (length q - g) on.put (on.left - 1) ≡ step (asks (index_node x) n) first g q (asking on.put on.left)
    hears {a} z first =
        ap (λ (y : Answer). heard y (length q - g) on.put (on.left - 1)) z ∙ sym (step-asks (asks (index_node x) n) first g q on.put on.left h)

    pub step-found : g < length q → Solved (index_node x) n q w' Model
        → Stepped x n g q w w' on (Break (record { met = length q - g; bound = length q - g; questions = on.put + 1 }))
    step-found b s = record {
      stage = λ first. rw (ne_eqb (length q - g) 0 (λ z. omega arith), add-one on.put) (hears s.answered first);
      room = omega arith;
      ready = s.ready;
    }

    pub step_refused : Solved (index_node x) n q w' Closed → Stepped x n g q w w' on (Continue (record { put = on.put + 1; left = on.left - 1 }))
    step_refused s = record {
      stage = λ first. rw (add-one on.put) (hears s.answered first);
      room = omega arith;
      ready = s.ready;
    }

-- ---- questions refused at once

-- what is put and left of a stage on the way is that of those before
spends_on : {st : ControlFlow Grant Way} {on : Way} (mid : ControlFlow Grant Way) → st ≡ Continue on → Spends mid (on.put + on.left) → (k : ℕ) → Spends st k → Spends mid k
spends_on {on = on} mid e a k z =
    let y : on.put + on.left ≡ k = rw e at z in
    rw y at a

-- ---- a visit

module _ (ask : List ℕ → Answer) (first : List ℕ) (g : ℕ) (wishes : List ℕ) where
  visit_splits : (lo n s : ℕ) (c : List ℕ) (st : Stage) → 0 < s → s ≤ n
      → visit ask first g wishes lo n s c st
      ≡ visit ask first g wishes (lo + 1) (n - 1) s c (visit ask first g wishes (lo + 1) (n - 1) (s - 1) (c ++ get_or wishes lo 0 ∷ []) st)
  unfolding visit
  visit_splits lo n zero c st h l = absurd (omega arith)
  visit_splits lo zero (suc s) c st h l = absurd (omega arith)
  visit_splits lo (suc n) (suc s) c st h l =
      let x : suc n - 1 ≡ n = omega arith in
      let y : suc s - 1 ≡ s = omega arith in
      rw (add-one lo, x, y)

  visit_parts : (lo s : ℕ) (c : List ℕ) (st : Stage) → 0 < s → s ≤ length wishes - lo
      → visit ask first g wishes lo (length wishes - lo) s c st
      ≡ visit ask first g wishes (lo + 1) (length wishes - (lo + 1)) s c
      (visit ask first g wishes (lo + 1) (length wishes - (lo + 1)) (s - 1) (c ++ get_or wishes lo 0 ∷ []) st)
  visit_parts lo s c st h l =
      let z : length wishes - lo - 1 ≡ length wishes - (lo + 1) = omega arith in
      rw z at (visit_splits lo (length wishes - lo) s c st h l)

  visit_leaf : (lo n s : ℕ) (c : List ℕ) (st : Stage) → s ≡ 0 → visit ask first g wishes lo n s c st ≡ step ask first g c st
  unfolding visit
  visit_leaf lo n zero c st h = refl
  visit_leaf lo n (suc s) c st h = absurd (omega arith)

-- the list at hand: as a question, and with one wish more
module _ (n g : ℕ) (wishes list w : List ℕ) (lo s at : ℕ) (p : Listed n g wishes list w lo s at) where
  -- the part from 0 to `at`, as it is lent
  pub leaf_asked : s ≡ 0 → Goals n (take (at - 0) list) × (g < length (take (at - 0) list))
  leaf_asked h =
      let z : at - 0 ≡ at = omega arith in
      let l : length (take at list) ≡ at = length-take-le at list (omega (arith, p.size, p.room)) in
      rw z (record { most = omega (arith, l, p.room); below = p.literals }, omega (arith, l, p.some))

  module _ (h : 0 < s) (l : s ≤ length wishes - lo) where
    abbrev longer : List ℕ
    longer = set list at (get_or wishes lo 0)

    more : take (at + 1) longer ≡ take at list ++ get_or wishes lo 0 ∷ []
    more = rw (add-one at) (take-suc-set list at (get_or wishes lo 0) (omega (arith, p.size, p.room)))

    -- the wish is a literal that a table may have
    pub listed-literal : n ≤ most_nodes → get_or wishes lo 0 < 2 * most_nodes
    listed-literal m = omega (arith, all_at (λ l. l < 2 * n) wishes lo 0 p.wishes_fit (omega arith))

    -- it may also be left out
    pub listed_same : Listed n g wishes list w (lo + 1) s at
    listed_same = record {
      size = p.size;
      literals = p.literals;
      wishes_fit = p.wishes_fit;
      left = omega arith;
      few = p.few;
      room = p.room;
      goals = p.goals;
      some = p.some;
      ready = p.ready;
    }

    pub listed_more : Listed n g wishes longer w (lo + 1) (s - 1) (at + 1)
    listed_more = record {
      size = length-set list at (get_or wishes lo 0) ∙ p.size;
      literals = rw more
          (all_append (λ l. l < 2 * n) (take at list) (get_or wishes lo 0 ∷ []) p.literals
          (all_at (λ l. l < 2 * n) wishes lo 0 p.wishes_fit (omega arith), tt));
      wishes_fit = p.wishes_fit;
      left = omega arith;
      few = p.few;
      room = omega (arith, p.room);
      goals = omega (arith, p.goals);
      some = omega (arith, p.some);
      ready = p.ready;
    }

module _ (x : List ℕ) (n g : ℕ) (wishes list w : List ℕ) (lo s at : ℕ) (st : ControlFlow Grant Way) (p : Listed n g wishes list w lo s at) where
  pub visited_stopped : (r : Grant) → st ≡ Break r → Visited x n g wishes list list w w lo s at st st
  visited_stopped r e = record {
    stage = λ first. rw e (sym (visit_stopped (asks (index_node x) n) first g wishes lo (length wishes - lo) s (take at list) _));
    room = λ k e. e;
    kept = refl;
    ready = p.ready;
  }

  pub visited_few : length wishes - lo < s → Visited x n g wishes list list w w lo s at st st
  visited_few h = record {
    stage = λ first. sym (visit_none (asks (index_node x) n) first g wishes lo (length wishes - lo) s (take at list) (stage_of first w st) h);
    room = λ k e. e;
    kept = refl;
    ready = p.ready;
  }

  pub visited_leaf : (on : Way) → st ≡ Continue on → (w' : List ℕ) (r : ControlFlow Grant Way) → s ≡ 0 → Stepped x n g (take (at - 0) list) w w' on r
      → Visited x n g wishes list list w w' lo s at st r
  visited_leaf on e w' r h q =
      let z : at - 0 ≡ at = omega arith in
      record {
        stage = λ first.
            rw e ((rw z at (q.stage first))
            ∙ sym (visit_leaf (asks (index_node x) n) first g wishes lo (length wishes - lo) s (take at list) (asking on.put on.left) h));
        room = spends_on r e q.room;
        kept = refl;
        ready = q.ready;
      }

  module _ (h : 0 < s) (l : s ≤ length wishes - lo) (list₁ w₁ : List ℕ) (mid : ControlFlow Grant Way) (size : length list₁ ≡ length (longer n g wishes list w lo s at p h l))
      (a : Visited x n g wishes (longer n g wishes list w lo s at p h l) list₁ w w₁ (lo + 1) (s - 1) (at + 1) st mid) where
    below : take at list₁ ≡ take at list
    below =
        sym (take-take at (at + 1) list₁ (omega arith)) ∙ ap (take at) a.kept ∙ take-take at (at + 1) (set list at (get_or wishes lo 0)) (omega arith)
        ∙ take-set-le at list at (get_or wishes lo 0) (omega arith)

    pub listed-other : Listed n g wishes list₁ w₁ (lo + 1) s at
    listed-other = record {
      size = size ∙ length-set list at (get_or wishes lo 0) ∙ p.size;
      literals = rw below p.literals;
      wishes_fit = p.wishes_fit;
      left = omega arith;
      few = p.few;
      room = p.room;
      goals = p.goals;
      some = p.some;
      ready = a.ready;
    }

    pub visited-both : (list₂ w₂ : List ℕ) (r : ControlFlow Grant Way) → Visited x n g wishes list₁ list₂ w₁ w₂ (lo + 1) s at mid r
        → Visited x n g wishes list list₂ w w₂ lo s at st r
    visited-both list₂ w₂ r b = record {
      stage = λ first.
          b.stage first
          ∙ rw (visit_parts (asks (index_node x) n) first g wishes lo s (take at list) (stage_of first w st) h l, below, a.stage first, more n g wishes list w lo s at p h l);
      room = λ k z. b.room k (a.room k z);
      kept = b.kept ∙ below;
      ready = b.ready;
    }

  -- behind a literal and its negation all questions are refused
  module _ (h : 0 < s) (l : s ≤ length wishes - lo) where
    module _ (T : Table n (index_node x)) (on : Way) (e : st ≡ Continue on) (o : Opposed (take (at - 0) list) (get_or wishes lo 0)) (mid : ControlFlow Grant Way)
        (a : Refused (length wishes - (lo + 1)) (s - 1) (at + s - g) on mid) where
      abbrev longest : List ℕ
      longest = take at list ++ get_or wishes lo 0 ∷ []

      dead : (m : List ℕ) → Below n m → asks (index_node x) n (longest ++ m) ≡ impossible
      dead m b =
          let z : at - 0 ≡ at = omega arith in
          let k : Opposed (take at list) (get_or wishes lo 0) = rw z at o in
          opposite_impossible n (index_node x) T (take at list) m (get_or wishes lo 0) k.0
          (all_append (λ l. l < 2 * n) longest m (all_append (λ l. l < 2 * n) (take at list) (get_or wishes lo 0 ∷ []) p.literals
          (all_at (λ l. l < 2 * n) wishes lo 0 p.wishes_fit (omega arith), tt)) b) k.1 k.2

      bound : length longest + (s - 1) - g ≡ at + s - g
      bound = omega (arith, length-append (take at list) (get_or wishes lo 0 ∷ []), length-take-le at list (omega (arith, p.size, p.room)))

      refused : (first : List ℕ)
          → stage_of first w mid ≡ visit (asks (index_node x) n) first g wishes (lo + 1) (length wishes - (lo + 1)) (s - 1) longest (asking on.put on.left)
      refused first =
          a.stage first w
          ∙ sym (rw bound at (visit_refused (asks (index_node x) n) first g wishes (λ l. l < 2 * n) p.wishes_fit (lo + 1) (length wishes - (lo + 1)) (s - 1) longest
          on.put on.left (omega arith) dead))

      pub visited-opposed : (list₂ w₂ : List ℕ) (r : ControlFlow Grant Way) → Visited x n g wishes list list₂ w w₂ (lo + 1) s at mid r
          → Visited x n g wishes list list₂ w w₂ lo s at st r
      visited-opposed list₂ w₂ r b = record {
        stage = λ first.
            b.stage first
            ∙ rw e (rw (visit_parts (asks (index_node x) n) first g wishes lo s (take at list) (asking on.put on.left) h l) (rw (refused first)));
        room = λ k z. b.room k (spends_on mid e a.room k z);
        kept = b.kept;
        ready = b.ready;
      }

-- with the wishes from i on, a visit is what it was with those from lo on
pub record Visiting (x : List ℕ) (n g : ℕ) (wishes list₀ w₀ : List ℕ) (lo s at : ℕ) (st₀ : ControlFlow Grant Way) (list w : List ℕ) (st : ControlFlow Grant Way) (i : ℕ) : Type 0 where
  pub listed : Listed n g wishes list w i s at
  pub room : (k : ℕ) → Spends st₀ k → Spends st k
  pub lists : length list ≡ length list₀
  pub works : length w ≡ length w₀
  pub others : (list' w' : List ℕ) (r : ControlFlow Grant Way) → Visited x n g wishes list list' w w' i s at st r → Visited x n g wishes list₀ list' w₀ w' lo s at st₀ r

module _ (x : List ℕ) (n g : ℕ) (wishes list₀ w₀ : List ℕ) (lo s at : ℕ) (st₀ : ControlFlow Grant Way) where
  pub visiting_starts : Listed n g wishes list₀ w₀ lo s at → Visiting x n g wishes list₀ w₀ lo s at st₀ list₀ w₀ st₀ lo
  visiting_starts p = record { listed = p; room = λ k e. e; lists = refl; works = refl; others = λ list' w' r v. v }

  module _ (list w : List ℕ) (st : ControlFlow Grant Way) (i : ℕ) (v : Visiting x n g wishes list₀ w₀ lo s at st₀ list w st i) where
    pub visiting-stopped : (r : Grant) → st ≡ Break r → Visited x n g wishes list₀ list w₀ w lo s at st₀ st
    visiting-stopped r e = v.others list w st (visited_stopped x n g wishes list w i s at st v.listed r e)

    pub visiting-few : length wishes - i < s → Visited x n g wishes list₀ list w₀ w lo s at st₀ st
    visiting-few e = v.others list w st (visited_few x n g wishes list w i s at st v.listed e)

    module _ (h : 0 < s) (l : s ≤ length wishes - i) where
      pub visiting-refused : Table n (index_node x) → (on : Way) → st ≡ Continue on → Opposed (take (at - 0) list) (get_or wishes i 0) → (mid : ControlFlow Grant Way)
          → Refused (length wishes - (i + 1)) (s - 1) (at + s - g) on mid → Visiting x n g wishes list₀ w₀ lo s at st₀ list w mid (i + 1)
      visiting-refused T on e o mid a = record {
        listed = listed_same n g wishes list w i s at v.listed h l;
        room = λ k z. spends_on mid e a.room k (v.room k z);
        lists = v.lists;
        works = v.works;
        others = λ list' w' r b. v.others list' w' r (visited-opposed x n g wishes list w i s at st v.listed h l T on e o mid a list' w' r b);
      }

      pub visiting-goes : (list₁ w₁ : List ℕ) (mid : ControlFlow Grant Way) → length list₁ ≡ length (set list at (get_or wishes i 0)) → length w₁ ≡ length w
          → Visited x n g wishes (set list at (get_or wishes i 0)) list₁ w w₁ (i + 1) (s - 1) (at + 1) st mid
          → Visiting x n g wishes list₀ w₀ lo s at st₀ list₁ w₁ mid (i + 1)
      visiting-goes list₁ w₁ mid d e a = record {
        listed = listed-other x n g wishes list w i s at st v.listed h l list₁ w₁ mid d a;
        room = λ k z. a.room k (v.room k z);
        lists = d ∙ length-set list at (get_or wishes i 0) ∙ v.lists;
        works = e ∙ v.works;
        others = λ list' w' r b. v.others list' w' r (visited-both x n g wishes list w i s at st v.listed h l list₁ w₁ mid d a list' w' r b);
      }

-- ---- all sizes

module _ (ask : List ℕ → Answer) (first : List ℕ) (g : ℕ) (wishes : List ℕ) where
  visits_next : (q : List ℕ) (s : ℕ) (st : Stage) → 0 < s
      → visits ask first g wishes q s st ≡ visits ask first g wishes q (s - 1) (visit ask first g wishes 0 (length wishes - 0) s q st)
  unfolding visits
  visits_next q zero st h = absurd (omega arith)
  visits_next q (suc s) st h =
      let z : suc s - 1 ≡ s = omega arith in
      let y : length wishes - 0 ≡ length wishes = omega arith in
      rw (z, y)

  visits_none : (q : List ℕ) (s : ℕ) (st : Stage) → s ≡ 0 → visits ask first g wishes q s st ≡ st
  unfolding visits
  visits_none q zero st h = refl
  visits_none q (suc s) st h = absurd (omega arith)

  visits_stopped : (q : List ℕ) (s : ℕ) (r : Wished) → visits ask first g wishes q s (stopped r) ≡ stopped r
  unfolding visits
  visits_stopped q zero r = refl
  visits_stopped q (suc s) r = rw (visit_stopped ask first g wishes 0 (length wishes) (suc s) q r) (visits_stopped q s r)

-- the sizes from s on are left: with them, the walk is the whole one
pub record Walked (x : List ℕ) (n g : ℕ) (wishes list₀ w₀ : List ℕ) (m : ℕ) (list w : List ℕ) (st : ControlFlow Grant Way) (s : ℕ) : Type 0 where
  pub stage : (first : List ℕ)
      → visits (asks (index_node x) n) first g wishes (take g list₀) s (stage_of first w st) ≡ visits (asks (index_node x) n) first g wishes (take g list₀) (length wishes) (asking 0 m)
  pub room : Spends st m
  pub kept : take g list ≡ take g list₀
  pub lists : length list ≡ length list₀
  pub works : length w ≡ length w₀
  pub few : s ≤ length wishes
  pub ready : Ready n w

module _ (x : List ℕ) (n g : ℕ) (wishes list₀ w₀ : List ℕ) (m : ℕ) (b : Gathered n g wishes list₀ w₀) where
  pub walked_starts : Walked x n g wishes list₀ w₀ m list₀ w₀ (Continue (record { put = 0; left = m })) (length wishes)
  walked_starts = record { stage = λ first. refl; room = omega arith; kept = refl; lists = refl; works = refl; few = omega arith; ready = b.ready }

  module _ (list w : List ℕ) (st : ControlFlow Grant Way) (s : ℕ) (p : Walked x n g wishes list₀ w₀ m list w st s) where
    pub walked-listed : 0 < s → Listed n g wishes list w 0 s g
    walked-listed h = record {
      size = p.lists ∙ b.size;
      literals = rw p.kept b.literals;
      wishes_fit = b.wishes_fit;
      left = omega arith;
      few = b.few;
      room = omega (arith, p.few, b.room);
      goals = omega arith;
      some = omega arith;
      ready = p.ready;
    }

    pub walked-goes : (list' w' : List ℕ) (r : ControlFlow Grant Way) → 0 < s → length list' ≡ length list → length w' ≡ length w
        → Visited x n g wishes list list' w w' 0 s g st r → Walked x n g wishes list₀ w₀ m list' w' r (s - 1)
    walked-goes list' w' r h d e v = record {
      stage = λ first.
          ap (visits (asks (index_node x) n) first g wishes (take g list₀) (s - 1))
          (v.stage first ∙ ap (λ (q : List ℕ). visit (asks (index_node x) n) first g wishes 0 (length wishes - 0) s q (stage_of first w st)) p.kept)
          ∙ sym (visits_next (asks (index_node x) n) first g wishes (take g list₀) s (stage_of first w st) h) ∙ p.stage first;
      room = v.room m p.room;
      kept = v.kept ∙ p.kept;
      lists = d ∙ p.lists;
      works = e ∙ p.works;
      few = omega (arith, p.few);
      ready = v.ready;
    }

    -- where no turn more changes the stage
    ends : (r : Grant) → ((first : List ℕ) → wished_of first w r ≡ finish first (stage_of first w st))
        → ((first : List ℕ) → visits (asks (index_node x) n) first g wishes (take g list₀) s (stage_of first w st) ≡ stage_of first w st)
        → Grants x n g wishes list₀ m w r
    ends r e h = record {
      wished = λ first.
          e first ∙ ap (finish first) (sym (h first) ∙ p.stage first)
          ∙ rw goals-are at (granted_walks (asks (index_node x) n) (take g list₀) wishes first m);
      ready = p.ready;
    }
      where
        goals-are : length (take g list₀) ≡ g
        goals-are = length-take-le g list₀ (omega (arith, b.size, b.room))

    -- all questions were refused
    pub walked-ends : (on : Way) → st ≡ Continue on → s ≡ 0 → Grants x n g wishes list₀ m w (record { met = 0; bound = 0; questions = on.put })
    walked-ends on e h =
        ends (record { met = 0; bound = 0; questions = on.put }) (λ first. rw e)
        (λ first. visits_none (asks (index_node x) n) first g wishes (take g list₀) s (stage_of first w st) h)

    -- the walk stops
    pub walked-stops : (r : Grant) → st ≡ Break r → Grants x n g wishes list₀ m w r
    walked-stops r e =
        ends r (λ first. rw e)
        (λ first. rw e (visits_stopped (asks (index_node x) n) first g wishes (take g list₀) s (wished_of first w r)))
