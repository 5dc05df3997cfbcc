-- The walk through the subsets, none stored, puts the same questions as the list of them. Assumes nothing.
use mathlib.Core.Path.{◌≡◌, refl, sym, ap, ◌∙◌}
use mathlib.Core.List.{List, [], ◌∷◌, ◌++◌, map, append_assoc, append-nil}
use Prim.Native.Nat.{ℕ, zero, suc, ◌+◌, ◌-◌, ◌<◌}
use native.Mathlib.Nat.{add-zero, add-suc, zero-add, suc-add}
use native.Mathlib.Omega.{arith}
use lib.ListN.{length, get_or, length-append, length-map}
use Rattle.calculus.specs.Order.{Answer, possible, impossible, unfinished}
use Rattle.questions.specs.Indices.{picked}
use Rattle.wishing.specs.Wish.{subsets, queries, Wished, after, spend, question}
use Rattle.wishing.specs.Walk.{Stage, asking, stopped, heard, step, visit, visits, finish}
use Rattle.wishing.proofs.Subsets.{subsets-none}

-- so many questions before
abbrev plus : ℕ → Wished → Wished
plus put r = record { standing = r.standing; k = r.k; u = r.u; questions = put + r.questions }

module _ (ask : List ℕ → Answer) (first : List ℕ) (g : ℕ) (wishes : List ℕ) where
  -- all steps of a list of subsets, each behind the list c
  pub steps : List ℕ → List (List ℕ) → Stage → Stage
  steps c [] st = st
  steps c (q ∷ qs) st = steps c qs (step ask first g (c ++ picked wishes q) st)

  steps_append : (c : List ℕ) (xs ys : List (List ℕ)) (st : Stage) → steps c (xs ++ ys) st ≡ steps c ys (steps c xs st)
  unfolding steps
  steps_append c [] ys st = refl
  steps_append c (x ∷ xs) ys st = steps_append c xs ys (step ask first g (c ++ picked wishes x) st)

  steps_map : (c : List ℕ) (i : ℕ) (xs : List (List ℕ)) (st : Stage) → steps c (map (i ∷◌) xs) st ≡ steps (c ++ get_or wishes i 0 ∷ []) xs st
  unfolding steps
  steps_map c i [] st = refl
  steps_map c i (x ∷ xs) st = rw append_assoc (steps_map c i xs (step ask first g (c ++ get_or wishes i 0 ∷ picked wishes x) st))

  pub visit_steps : (lo n s : ℕ) (c : List ℕ) (st : Stage) → visit ask first g wishes lo n s c st ≡ steps c (subsets lo n s) st
  unfolding visit steps subsets
  visit_steps lo n zero c st = rw append-nil
  visit_steps lo zero (suc s) c st = refl
  visit_steps lo (suc n) (suc s) c st =
      visit_steps (suc lo) n (suc s) c (visit ask first g wishes (suc lo) n s (c ++ get_or wishes lo 0 ∷ []) st)
      ∙ ap (steps c (subsets (suc lo) n (suc s))) (visit_steps (suc lo) n s (c ++ get_or wishes lo 0 ∷ []) st ∙ sym (steps_map c lo (subsets (suc lo) n s) st))
      ∙ sym (steps_append c (map (lo ∷◌) (subsets (suc lo) n s)) (subsets (suc lo) n (suc s)) st)

  visits_steps : (goals : List ℕ) (s : ℕ) (st : Stage) → visits ask first g wishes goals s st ≡ steps goals (queries (length wishes) s) st
  unfolding visits steps queries
  visits_steps goals zero st = refl
  visits_steps goals (suc s) st =
      visits_steps goals s (visit ask first g wishes 0 (length wishes) (suc s) goals st)
      ∙ ap (steps goals (queries (length wishes) s)) (visit_steps 0 (length wishes) (suc s) goals st)
      ∙ sym (steps_append goals (subsets 0 (length wishes) (suc s)) (queries (length wishes) s) st)

  -- the end is kept
  steps_stopped : (c : List ℕ) (qs : List (List ℕ)) (r : Wished) → steps c qs (stopped r) ≡ stopped r
  unfolding steps step
  steps_stopped c [] r = refl
  steps_stopped c (q ∷ qs) r = steps_stopped c qs r

  -- so code may return as soon as it has stopped, and where there are too few wishes
  pub visit_stopped : (lo n s : ℕ) (c : List ℕ) (r : Wished) → visit ask first g wishes lo n s c (stopped r) ≡ stopped r
  visit_stopped lo n s c r = visit_steps lo n s c (stopped r) ∙ steps_stopped c (subsets lo n s) r

  pub visit_none : (lo n s : ℕ) (c : List ℕ) (st : Stage) → n < s → visit ask first g wishes lo n s c st ≡ st
  unfolding steps
  visit_none lo n s c st h = visit_steps lo n s c st ∙ rw (subsets-none lo n s h)

module _ (ask : List ℕ → Answer) (first goals wishes : List ℕ) where
  -- behind the goals stand as many wishes as the subset has
  size : (q : List ℕ) → length (goals ++ picked wishes q) - length goals ≡ length q
  size q = omega (arith, length-append goals (picked wishes q), length-map q (λ i. get_or wishes i 0))

  abbrev asks : List ℕ → Answer
  asks = question ask goals wishes

  steps_spend : (put m : ℕ) (qs : List (List ℕ)) → finish first (steps ask first (length goals) wishes goals qs (asking put m)) ≡ plus put (spend asks first m qs)
  unfolding steps step spend
  steps_spend put m [] = rw add-zero
  steps_spend put zero (q ∷ qs) =
      rw (size q) (ap (finish first) (steps_stopped ask first (length goals) wishes goals qs (record { standing = first; k = 0; u = length q; questions = put })) ∙ rw add-zero)
  steps_spend put (suc m) (q ∷ qs) = rw (size q) (go (asks q) (steps_spend (suc put) m qs))
    where
      go : (x : Answer) → finish first (steps ask first (length goals) wishes goals qs (asking (suc put) m)) ≡ plus (suc put) (spend asks first m qs)
          → finish first (steps ask first (length goals) wishes goals qs (heard x (length q) put m)) ≡ plus put (after x (length q) (spend asks first m qs))
      go (possible G) r =
          ap (finish first) (steps_stopped ask first (length goals) wishes goals qs (record { standing = G; k = length q; u = length q; questions = suc put })) ∙ rw (add-suc, add-zero)
      go impossible r = rw add-suc (rw suc-add at r)
      go unfinished r = rw add-suc (rw suc-add at r)

  -- 'all wishes, then subsets by falling size'
  pub walks : (m s : ℕ) → finish first (visits ask first (length goals) wishes goals s (asking 0 m)) ≡ spend asks first m (queries (length wishes) s)
  walks m s = ap (finish first) (visits_steps ask first (length goals) wishes goals s (asking 0 m)) ∙ steps_spend 0 m (queries (length wishes) s) ∙ rw zero-add
