-- What the contracts of the search that jumps come to at each return, over the literals held with their sets. Assumes nothing.
use mathlib.Core.Path.{◌≡◌, refl, sym, ap, ap₂, ◌∙◌}
use mathlib.Core.List.{List, [], ◌∷◌}
use mathlib.Core.Bool.{Bool, true, false, cond, not, ◌&&◌}
use Prim.Native.Nat.{ℕ, suc, ◌+◌, ◌-◌, ◌*◌, ◌/◌, ◌%◌, ◌<◌, ◌≤◌}
use native.Mathlib.Omega.{arith}
use lib.Dec.{eqb, ltb}
use lib.ListN.{length, get_or}
use borrow.Author.Tests.{lt-ltb}
use native.Mathlib.Decide.{ℕ_discrete}
use Rattle.scope.specs.declared.Node.{Node}
use Rattle.calculus.specs.Expansion.{neg, expand}
use Rattle.calculus.specs.Order.{clauses, move}
use Rattle.calculus.specs.Model.{Table, Below, Goals}
use Rattle.calculus.specs.Jump.{Rests, nothing, both, only, less, Held, hold, literals, rest_of, false_rest, origin_rest, clause_rest, found, closed, Jumped, stop, sides, jump, end_answer, stopped}
use Rattle.calculus.specs.declared.Move.{Move}
use Rattle.calculus.specs.declared.Move.TheVariants.{Conflict, Unit as Single, Done, Split}
use Rattle.calculus.proofs.Limits.{most_more}
use Rattle.calculus.proofs.Count.{at_most}
use Rattle.calculus.proofs.Moves.{conflict_clause, unit_clause}
use Rattle.jumping.proofs.Moves.{jump_conflict, jump_done, jump_unit, jump_split}
use Rattle.jumping.proofs.Answers.{same_answer}
use Rattle.index.specs.Index.{most_nodes}
use Rattle.state.specs.Work.{tail, base_of, g_of, conflict_of, Ready}
use Rattle.state.specs.Holds.{Holds}
use Rattle.state.specs.Picked.{no_unit, Picks}
use Rattle.moves.specs.Place.{On}
use Rattle.moves.proofs.Moves.{on_few, unit_on}
use Rattle.rests.specs.Words.{rest_at, There, Put, Slots, sets_size, SameTo, held_of}
use Rattle.rests.proofs.Held.{held-literals, held_same, put_same, put_slots, held-joined, rests_blank}
use Rattle.grounds.specs.Ground.{Unmet, Grounded}
use Rattle.grounds.proofs.Grounds.{unmet}
use Rattle.searching.specs.Search.{Extends, found_of, Solved}
use Rattle.searching.specs.Jumps.{blank, Aimed, behind, Concluded, Stepped, jumped_from, Propagated, end_of, made_by, found_by, with_left, Jumps, Counted, Opened}
use Rattle.searching.specs.declared.Stop.{Stop}
use Rattle.searching.specs.declared.Stop.TheVariants.{Closed as Shut, Model as Open, Fork}
use Rattle.searching.specs.declared.Found.{Found}
use Rattle.searching.specs.declared.Ended.{Ended}
use Rattle.searching.specs.declared.Ended.TheVariants.{Model, Closed}
use Rattle.searching.proofs.Searches.{Run, run_starts, run_looked, run_room, run-unit, Forked, fork_room, fork_grows, shut_open, shut_fork, open_fork}

-- no more literals are held than there are nodes
pub held_most : {t : ℕ → Node} {n : ℕ} {goals w k : List ℕ} → Holds t n goals w k → length (g_of w) ≤ n
held_most {n = n} {w = w} h = at_most n (g_of w) h.ready.trail.good

-- ---- sets that stay

same_self : (k : ℕ) (m : List ℕ) → SameTo k m m
same_self k m q h = refl

same_on : (k j : ℕ) (m m₁ m₂ : List ℕ) → k ≤ j → SameTo k m m₁ → SameTo j m₁ m₂ → SameTo k m m₂
same_on k j m m₁ m₂ h a b q e = b q (omega arith) ∙ a q e

-- ---- the search from G with its sets, by its next move

module _ (t : ℕ → Node) (n : ℕ) (goals : List ℕ) (d : ℕ) (m G : List ℕ) where
  moved : {v : Move} → move (expand t) goals G ≡ v → move (expand t) goals (literals (held_of m G)) ≡ v
  moved e = rw (held-literals m G) e

  pub from_conflict : {k : ℕ} → move (expand t) goals G ≡ Conflict k → jumped_from t n goals d m G ≡ stop (closed (clause_rest (expand t) goals (held_of m G) k))
  from_conflict e = jump_conflict 128 (expand t) goals d (held_of m G) (n - length G) (moved e)

  from-done : move (expand t) goals G ≡ Done → jumped_from t n goals d m G ≡ stop (found G)
  from-done e = jump_done 128 (expand t) goals d (held_of m G) (n - length G) (moved e) ∙ ap (λ (F : List ℕ). stop (found F)) (held-literals m G)

  module _ (h : length G < n) where
    left-fuel : n - length G ≡ suc (n - suc (length G))
    left-fuel = omega arith

    pub from-unit : {k l : ℕ} {m' : List ℕ} → move (expand t) goals G ≡ Single k l → Put m (suc (length G)) (clause_rest (expand t) goals (held_of m G) k) m'
        → jumped_from t n goals d m G ≡ jumped_from t n goals d m' (l ∷ G)
    from-unit {k} {l} e u =
        ap (λ (f : ℕ). jump 128 (expand t) goals f d (held_of m G)) left-fuel
        ∙ jump_unit 128 (expand t) goals d (held_of m G) (n - suc (length G)) (moved e)
        ∙ ap (jump 128 (expand t) goals (n - suc (length G)) d) (sym (held-joined G l u))

    from-split : {l : ℕ} → move (expand t) goals G ≡ Split l
        → jumped_from t n goals d m G ≡ sides 128 d (jump 128 (expand t) goals (n - suc (length G)) (suc d) (hold l (only 128 d) ∷ held_of m G))
        (λ s. jump 128 (expand t) goals (n - suc (length G)) (suc d) (hold (neg l) (less d s) ∷ held_of m G))
    from-split e =
        ap (λ (f : ℕ). jump 128 (expand t) goals f d (held_of m G)) left-fuel
        ∙ jump_split 128 (expand t) goals d (held_of m G) (n - suc (length G)) (moved e)

-- what is put past the literals held changes nothing
from-put : (t : ℕ → Node) (n : ℕ) (goals : List ℕ) {m m' : List ℕ} {p : ℕ} {s : Rests} → Put m p s m' → (G : List ℕ) → length G < p → (d : ℕ)
    → jumped_from t n goals d m' G ≡ jumped_from t n goals d m G
from-put t n goals {m} {m'} u G h d = ap (jump 128 (expand t) goals (n - length G) d) (held_same m m' G (put_same u (length G) h))

-- ---- before the first split nothing rests on anything

module _ (expand : ℕ → List (List ℕ)) (goals : List ℕ) where
  rest-blank : (G : List ℕ) → 2 * length G + 3 < sets_size → (l : ℕ) → rest_of (held_of blank G) l ≡ nothing
  unfolding held_of rest_of
  rest-blank [] b l = refl
  rest-blank (x ∷ G) b l = rw (rests_blank (suc (length G)) (omega arith), rest-blank G (omega arith) l) (go (eqb l x))
    where
      go : (c : Bool) → cond c nothing nothing ≡ nothing
      go true = refl
      go false = refl

  false-blank : (G : List ℕ) → 2 * length G + 3 < sets_size → (c : List ℕ) → false_rest (held_of blank G) c ≡ nothing
  unfolding false_rest
  false-blank G b [] = refl
  false-blank G b (l ∷ c) = rw (rest-blank G b (neg l), false-blank G b c)

  origin_blank : (G : List ℕ) → 2 * length G + 3 < sets_size → (k : ℕ) → origin_rest expand goals (held_of blank G) k ≡ nothing
  unfolding held_of origin_rest
  origin_blank [] b k = refl
  origin_blank (x ∷ G) b k =
      rw (rests_blank (suc (length G)) (omega arith), origin_blank G (omega arith) k) (go (ltb k (length (clauses expand goals (literals (held_of blank G))))))
    where
      go : (c : Bool) → cond c nothing nothing ≡ nothing
      go true = refl
      go false = refl

  pub put-blank : (G : List ℕ) → 2 * length G + 3 < sets_size → (k p : ℕ) → 2 * p + 1 < sets_size → Put blank p (clause_rest expand goals (held_of blank G) k) blank
  put-blank G b k p i = record {
    size = refl;
    here = rests_blank p i ∙ sym (ap₂ both (false-blank G b (get_or (clauses expand goals (literals (held_of blank G))) k [])) (origin_blank G b k));
    other = λ q e. refl;
  }

-- ---- what comes next

module _ {t : ℕ → Node} {goals w : List ℕ} where
  pub aimed_unit : {u : ℕ} → (u ≡ no_unit → ⊥) → Aimed t goals w u u
  aimed_unit f = record { unit = λ _. refl; conflict = λ e. absurd (f e); free = λ e. absurd (f e) }

  pub aimed_free : {u c : ℕ} → u ≡ no_unit → c ≡ conflict_of w → most_nodes ≤ c → Aimed t goals w u no_unit
  aimed_free e d b = record { unit = λ f. absurd (f e); conflict = λ _ f. absurd (f refl); free = λ _ _. omega (arith, d, b) }

  pub aimed_conflict : {u q j : ℕ} → u ≡ no_unit → q < most_nodes → On t goals w q j (Conflict (base_of (tail w) q + j)) → Aimed t goals w u (65536 * q + 4096 * j)
  aimed_conflict {u} {q} {j} e b o =
      let d : (65536 * q + 4096 * j) / 65536 ≡ q = omega (arith, on_few o) in
      let g : (65536 * q + 4096 * j) / 4096 % 16 ≡ j = omega (arith, on_few o) in
      record { unit = λ f. absurd (f e); conflict = λ _ _. rw (d, g) o; free = λ _ i. absurd (omega (arith, i, b, on_few o)) }

  -- nothing does: there is no unit and no conflict
  pub aimed_none : {u v : ℕ} → Aimed t goals w u v → v ≡ no_unit → (u ≡ no_unit) × (most_nodes ≤ conflict_of w)
  aimed_none {u} A e = go (ℕ_discrete u no_unit)
    where
      go : Dec (u ≡ no_unit) → (u ≡ no_unit) × (most_nodes ≤ conflict_of w)
      go (yes y) = (y, A.free y e)
      go (no y) = absurd (y (sym (A.unit y) ∙ e))

-- ---- the units

-- what holds before each turn
pub record Rested (t : ℕ → Node) (n : ℕ) (goals w k m w' k' m' : List ℕ) : Type 0 where
  pub run : Run t n goals w k w' k'
  pub sets : Slots n m'
  pub words : length m' ≡ length m
  pub kept : SameTo (length (g_of w)) m m'
  pub same : (d : ℕ) → jumped_from t n goals d m' (g_of w') ≡ jumped_from t n goals d m (g_of w)

pub rested_starts : {t : ℕ → Node} {n : ℕ} {goals w k m : List ℕ} → Holds t n goals w k → Slots n m → Rested t n goals w k m w k m
rested_starts {w = w} {m = m} h s = record { run = run_starts h; sets = s; words = refl; kept = same_self (length (g_of w)) m; same = λ d. refl }

pub rested_looked : {t : ℕ → Node} {n : ℕ} {goals w k m w' k' m' w'' : List ℕ} → Rested t n goals w k m w' k' m' → Holds t n goals w'' k' → g_of w'' ≡ g_of w'
    → length w'' ≡ length w' → Rested t n goals w k m w'' k' m'
rested_looked r h g z = record { run = run_looked r.run h g z; sets = r.sets; words = r.words; kept = r.kept; same = rw g r.same }

module _ {t : ℕ → Node} {n : ℕ} {goals w k m w' k' m' : List ℕ} (r : Rested t n goals w k m w' k' m') where
  pub rested_done : move (expand t) goals (g_of w') ≡ Done → Propagated t n goals w m w' k' m' Open
  rested_done e = record {
    holds = r.run.holds;
    grows = r.run.grows;
    sets = r.sets;
    kept = r.kept;
    same = r.same;
    closes = λ q. shut_open (sym q);
    ends = λ _ d. from-done t n goals d m' (g_of w') e;
    forks = λ l q. open_fork q;
  }

  pub rested_split : {l : ℕ} → move (expand t) goals (g_of w') ≡ Split l → Propagated t n goals w m w' k' m' (Fork l)
  rested_split {l} e = record {
    holds = r.run.holds;
    grows = r.run.grows;
    sets = r.sets;
    kept = r.kept;
    same = r.same;
    closes = λ q. shut_fork (sym q);
    ends = λ q. open_fork (sym q);
    forks = λ j q. let z : l ≡ j = cc in e ∙ ap Split z;
  }

  -- what is put past the literals held
  module _ {p : ℕ} {s : Rests} {m'' : List ℕ} (u : Put m' p s m'') (h : length (g_of w') < p) where
    put-kept : SameTo (length (g_of w)) m m''
    put-kept = same_on (length (g_of w)) (length (g_of w')) m m' m'' r.run.grows.more r.kept (put_same u (length (g_of w')) h)

    put-from : (d : ℕ) → jumped_from t n goals d m'' (g_of w') ≡ jumped_from t n goals d m (g_of w)
    put-from d = from-put t n goals u (g_of w') h d ∙ r.same d

  -- the clause of a conflict
  pub rested_conflict : {c : ℕ} {m'' : List ℕ} → move (expand t) goals (g_of w') ≡ Conflict c
      → Put m' (behind (g_of w')) (clause_rest (expand t) goals (held_of m' (g_of w')) c) m'' → Propagated t n goals w m w' k' m'' Shut
  rested_conflict e u = record {
    holds = r.run.holds;
    grows = r.run.grows;
    sets = put_slots r.sets u (omega arith);
    kept = put-kept u (omega arith);
    same = put-from u (omega arith);
    closes = λ _ d. from-put t n goals u (g_of w') (omega arith) d ∙ from_conflict t n goals d m' (g_of w') e ∙ ap (λ (s : Rests). stop (closed s)) (sym u.here);
    ends = λ q. shut_open q;
    forks = λ l q. shut_fork q;
  }

  -- the clause of what comes next: a conflict's, or a unit's, with no true literal
  module _ {q j h : ℕ} (z : h ≡ behind (g_of w')) where
    grounded : {v : Move} → On t goals w' q j v → Unmet (g_of w') (get_or (clauses (expand t) goals (g_of w')) (base_of (tail w') q + j) []) → Grounded t goals w' m' q j h
    grounded o y = record {
      none = r.sets.none;
      held = o.held;
      column = o.column;
      unmet = y;
      past = omega (arith, z);
      there = omega (arith, z, r.sets.size, held_most r.run.holds);
    }

    conflict-grounded : On t goals w' q j (Conflict (base_of (tail w') q + j)) → Grounded t goals w' m' q j h
    conflict-grounded o =
        grounded o (unmet (g_of w') (get_or (clauses (expand t) goals (g_of w')) (base_of (tail w') q + j) [])
        (λ z. absurd (let y = (conflict_clause (expand t) goals (g_of w') (base_of (tail w') q + j) o.next).1 in let x : ◌≡◌ {A = ℕ} 0 1 = cc in omega arith)))

    unit-grounded : {l : ℕ} → On t goals w' q j (Single (base_of (tail w') q + j) l) → Grounded t goals w' m' q j h
    unit-grounded {l} o =
        grounded o (unmet (g_of w') (get_or (clauses (expand t) goals (g_of w')) (base_of (tail w') q + j) [])
        (λ y. absurd (let v = (unit_clause (expand t) goals (g_of w') (base_of (tail w') q + j) l o.next).1 in let x : ◌≡◌ {A = ℕ} 0 1 = cc in omega arith)))

  module _ (few : n ≤ most_nodes) (gs : Goals n goals) {u v h : ℕ} (L : Picks w' k' u) (A : Aimed t goals w' u v) (z : v ≡ no_unit → ⊥) (e : h ≡ behind (g_of w')) where
    pub aimed-grounded : Grounded t goals w' m' (v / 65536) (v / 4096 % 16) h
    aimed-grounded = go (ℕ_discrete u no_unit)
      where
        go : Dec (u ≡ no_unit) → Grounded t goals w' m' (v / 65536) (v / 4096 % 16) h
        go (yes y) = conflict-grounded e (A.conflict y z)
        go (no y) = rw (A.unit y) (unit-grounded e (unit_on few gs r.run.holds (L y)))

    module _ {m'' : List ℕ}
        (p : Put m' h (clause_rest (expand t) goals (held_of m' (g_of w')) (base_of (tail w') (v / 65536) + v / 4096 % 16)) m'') where
      -- a conflict
      pub aimed-closed : u ≡ no_unit → Propagated t n goals w m w' k' m'' Shut
      aimed-closed y = rested_conflict (A.conflict y z).next (rw e at p)

      -- a unit, which joins
      pub aimed-stepped : (u ≡ no_unit → ⊥) → {w'' k'' : List ℕ} → Holds t n goals w'' k'' → g_of w'' ≡ u % 4096 ∷ g_of w' → Stepped t n (u % 4096) goals w' m' w'' k'' m''
      aimed-stepped y a b = record {
        clause = base_of (tail w') (u / 65536) + u / 4096 % 16;
        next = (unit_on few gs r.run.holds (L y)).next;
        holds = a;
        list = b;
        put = rw (e, A.unit y) at p;
      }

  -- a unit has joined
  pub rested_stepped : Table n t → Below n goals → {l : ℕ} {w'' k'' m'' : List ℕ} → Stepped t n l goals w' m' w'' k'' m'' → length w'' ≡ length w'
      → length k'' ≡ length k' → Rested t n goals w k m w'' k'' m''
  rested_stepped T B S x y = record {
    run = run-unit r.run T B S.next S.holds S.list x y;
    sets = put_slots r.sets S.put (omega arith);
    words = S.put.size ∙ r.words;
    kept = put-kept S.put (omega arith);
    same = λ d. rw S.list (sym (from-unit t n goals d m' (g_of w') (run_room r.run T B S.next) S.next S.put) ∙ r.same d);
  }

-- the units end with no conflict
pub rested_concluded : {t : ℕ → Node} {n : ℕ} {goals w k m w' k' m' w'' : List ℕ} → Rested t n goals w k m w' k' m' → (v : Stop) → Concluded t n goals w' w'' k' v
    → length w'' ≡ length w' → Propagated t n goals w m w'' k' m' v
rested_concluded r Shut C z = absurd C.ending
rested_concluded r Open C z = rested_done (rested_looked r C.holds C.list z) C.ending
rested_concluded r (Fork l) C z = rested_split (rested_looked r C.holds C.list z) C.ending

module _ {t : ℕ → Node} {n : ℕ} {goals w k : List ℕ} (few : n ≤ most_nodes) (h : Holds t n goals w k) where
  past_held : 2 * length (g_of w) + 3 < sets_size
  past_held = omega (arith, held_most h, few)

  -- where each set is empty
  pub stepped_blank : {c l : ℕ} {w'' k'' : List ℕ} → move (expand t) goals (g_of w) ≡ Single c l → Holds t n goals w'' k'' → g_of w'' ≡ l ∷ g_of w
      → Stepped t n l goals w blank w'' k'' blank
  stepped_blank {c} e a q = record {
    clause = c;
    next = e;
    holds = a;
    list = q;
    put = put-blank (expand t) goals (g_of w) past_held c (behind (g_of w)) (omega (arith, past_held));
  }

  pub conflict_blank : (c : ℕ) → Put blank (behind (g_of w)) (clause_rest (expand t) goals (held_of blank (g_of w)) c) blank
  conflict_blank c = put-blank (expand t) goals (g_of w) past_held c (behind (g_of w)) (omega (arith, past_held))

-- ---- both sides of a split

-- the count of both sides
pub stopped-both : (a b : ℕ) → stopped (suc (stopped a + stopped b)) ≡ stopped (suc (a + b))
stopped-both a b =
    let x : suc (stopped a + stopped b) ≡ stopped a + suc (stopped b) = omega arith in
    let y : a + suc (stopped b) ≡ stopped b + suc a = omega arith in
    let z : b + suc a ≡ suc (a + b) = omega arith in
    ap stopped x ∙ most_more 4294967295 a (suc (stopped b)) ∙ ap stopped y ∙ most_more 4294967295 b (suc a) ∙ ap stopped z

module _ (d : ℕ) (left : Jumped) (right : Rests → Jumped) where
  sides_model : {G : List ℕ} → left.end ≡ found G → ((sides 128 d left right).end ≡ found G) × ((sides 128 d left right).splits ≡ suc (left.splits + 0))
  sides_model e = (rw e, rw e)

  module _ {s : Rests} (e : left.end ≡ closed s) where
    sides-skips : (ltb d 128 && not (s d)) ≡ true → ((sides 128 d left right).end ≡ closed s) × ((sides 128 d left right).splits ≡ suc (left.splits + 0))
    sides-skips q = (rw (e, q), rw (e, q))

    sides-turns : (ltb d 128 && not (s d)) ≡ false
        → ((sides 128 d left right).end ≡ (right s).end) × ((sides 128 d left right).splits ≡ suc (left.splits + (right s).splits))
    sides-turns q = (rw (e, q), rw (e, q))

-- the slot of the literal that joins at a split
pub slot_there : {t : ℕ → Node} {n : ℕ} {goals G G₁ m : List ℕ} {l h : ℕ} → Forked t n goals G G₁ l → Slots n m → h ≡ suc (length G₁) → There m h
slot_there f s e = omega (arith, s.size, fork_room f)

-- that of the last conflict
pub closed_there : {t : ℕ → Node} {n d : ℕ} {goals w m w' k' m' : List ℕ} {r : Ended} {k : ℕ} → Jumps t n goals d w m w' k' m' r → k ≡ behind (g_of w') → There m' k
closed_there J e = omega (arith, J.sets.size, e, held_most J.holds)

-- where a split that counts is not passed over, its left conflict rests on it
pub rests_on : (d : ℕ) (x : Bool) → (ltb d 128 && not x) ≡ false → d < 128 → x ≡ true
rests_on d x e h = go x (rw (lt-ltb d 128 h) at e)
  where
    go : (y : Bool) → (true && not y) ≡ false → y ≡ true
    go true e = refl
    go false e = sym e

with_end : (s : ℕ) (r : Ended) (G : List ℕ) (c : Rests) → end_of (with_left s r) G c ≡ end_of r G c
with_end s (Model x) G c = refl
with_end s (Closed x) G c = refl

with_made : (s : ℕ) (r : Ended) → made_by (with_left s r) ≡ stopped (suc (s + made_by r))
with_made s (Model x) = refl
with_made s (Closed x) = refl

-- ---- the search

module _ {t : ℕ → Node} {n : ℕ} {goals w m w₁ k₁ m₁ : List ℕ} {r : Stop} (P : Propagated t n goals w m w₁ k₁ m₁ r) (d : ℕ) where
  -- the units end on a conflict
  pub jumps_closed : r ≡ Shut → Jumps t n goals d w m w₁ k₁ m₁ (Closed 0)
  jumps_closed e =
      let z = sym (P.same d) ∙ P.closes e d in
      record { holds = P.holds; grows = P.grows; sets = P.sets; kept = P.kept; ended = ap (λ (j : Jumped). j.end) z; counted = ap (λ (j : Jumped). stopped j.splits) (sym z) }

  -- or on a model
  pub jumps_model : r ≡ Open → Jumps t n goals d w m w₁ k₁ m₁ (Model 0)
  jumps_model e =
      let z = sym (P.same d) ∙ P.ends e d in
      record { holds = P.holds; grows = P.grows; sets = P.sets; kept = P.kept; ended = ap (λ (j : Jumped). j.end) z; counted = ap (λ (j : Jumped). stopped j.splits) (sym z) }

  -- or on a split
  pub jump_forked : Table n t → Below n goals → {l : ℕ} → r ≡ Fork l → Forked t n goals (g_of w) (g_of w₁) l
  jump_forked T B {l} e = record { table = T; below = B; good = P.holds.ready.trail.good; grows = P.grows; splits = P.forks l e }

  -- the left literal rests on it
  module _ {l : ℕ} (f : Forked t n goals (g_of w) (g_of w₁) l) {h : ℕ} (slot : h ≡ suc (length (g_of w₁))) {m₂ : List ℕ} (u : Put m₁ h (only 128 d) m₂) where
    left-put : Put m₁ (suc (length (g_of w₁))) (only 128 d) m₂
    left-put = rw slot at u

    pub left-sets : Slots n m₂
    left-sets = put_slots P.sets left-put (omega arith)

    -- the search of the right side, by what the left conflict rests on
    abbrev right_of : Rests → Jumped
    right_of s = jump 128 (expand t) goals (n - suc (length (g_of w₁))) (suc d) (hold (neg l) (less d s) ∷ held_of m₁ (g_of w₁))

    whole : jumped_from t n goals d m (g_of w) ≡ sides 128 d (jumped_from t n goals (suc d) m₂ (l ∷ g_of w₁)) right_of
    whole =
        sym (P.same d) ∙ from-split t n goals d m₁ (g_of w₁) (fork_room f) f.splits
        ∙ ap (λ (H : List Held). sides 128 d (jump 128 (expand t) goals (n - suc (length (g_of w₁))) (suc d) H) right_of) (sym (held-joined (g_of w₁) l left-put))

    -- the left side, with e splits on its branch
    module _ {e : ℕ} (next : e ≡ suc d) {w₂ w₃ k₃ m₃ : List ℕ} {left : Ended} (q : g_of w₂ ≡ l ∷ g_of w₁) (A : Jumps t n goals e w₂ m₂ w₃ k₃ m₃ left) where
      left-grows : Extends (g_of w) (g_of w₃)
      left-grows = fork_grows f q A.grows

      -- the sets of the literals at the split, and of those at the start
      split-kept : SameTo (length (g_of w₁)) m₁ m₃
      split-kept = same_on (length (g_of w₁)) (length (g_of w₂)) m₁ m₂ m₃ (omega (arith, ap length q)) (put_same left-put (length (g_of w₁)) (omega arith)) A.kept

      left-kept : SameTo (length (g_of w)) m m₃
      left-kept = same_on (length (g_of w)) (length (g_of w₁)) m m₁ m₃ f.grows.more P.kept split-kept

      left_end : (jumped_from t n goals (suc d) m₂ (l ∷ g_of w₁)).end ≡ end_of left (g_of w₃) (rest_at m₃ (behind (g_of w₃)))
      left_end = rw (next, q) at A.ended

      left-made : made_by left ≡ stopped (jumped_from t n goals (suc d) m₂ (l ∷ g_of w₁)).splits
      left-made = rw (next, q) at A.counted

      -- one split more than the left side made
      alone : {s c : ℕ} → made_by left ≡ s → c ≡ stopped (suc (s + 0)) → (jumped_from t n goals d m (g_of w)).splits ≡ suc ((jumped_from t n goals (suc d) m₂ (l ∷ g_of w₁)).splits + 0)
          → c ≡ stopped (jumped_from t n goals d m (g_of w)).splits
      alone {s} x y z =
          y ∙ ap (λ (i : ℕ). stopped (suc (i + 0))) (sym x ∙ left-made) ∙ stopped-both (jumped_from t n goals (suc d) m₂ (l ∷ g_of w₁)).splits 0 ∙ ap stopped (sym z)

      pub left-found : {s c : ℕ} → left ≡ Model s → c ≡ stopped (suc (s + 0)) → Jumps t n goals d w m w₃ k₃ m₃ (Model c)
      left-found x y =
          let b = sides_model d (jumped_from t n goals (suc d) m₂ (l ∷ g_of w₁)) right_of (left_end ∙ ap (λ (r : Ended). end_of r (g_of w₃) (rest_at m₃ (behind (g_of w₃)))) x) in
          record {
            holds = A.holds;
            grows = left-grows;
            sets = A.sets;
            kept = left-kept;
            ended = ap (λ (j : Jumped). j.end) whole ∙ b.0;
            counted = alone (ap made_by x) y (ap (λ (j : Jumped). j.splits) whole ∙ b.1);
          }

      -- k is the slot of the last conflict
      module _ {s k : ℕ} (x : left ≡ Closed s) (slot₃ : k ≡ behind (g_of w₃)) where
        closed-left : (jumped_from t n goals (suc d) m₂ (l ∷ g_of w₁)).end ≡ closed (rest_at m₃ k)
        closed-left = left_end ∙ ap (λ (r : Ended). end_of r (g_of w₃) (rest_at m₃ (behind (g_of w₃)))) x ∙ ap (λ (i : ℕ). closed (rest_at m₃ i)) (sym slot₃)

        pub left-skips : {c : ℕ} → (ltb d 128 && not (rest_at m₃ k d)) ≡ true → c ≡ stopped (suc (s + 0)) → Jumps t n goals d w m w₃ k₃ m₃ (Closed c)
        left-skips g y =
            let b = sides-skips d (jumped_from t n goals (suc d) m₂ (l ∷ g_of w₁)) right_of closed-left g in
            record {
              holds = A.holds;
              grows = left-grows;
              sets = A.sets;
              kept = left-kept;
              ended = ap (λ (j : Jumped). j.end) whole ∙ b.0 ∙ ap (λ (i : ℕ). closed (rest_at m₃ i)) slot₃;
              counted = alone (ap made_by x) y (ap (λ (j : Jumped). j.splits) whole ∙ b.1);
            }

        -- the right literal rests on what the left conflict does, less the split
        module _ (g : (ltb d 128 && not (rest_at m₃ k d)) ≡ false) {m₄ : List ℕ} (v : Put m₃ h (less d (rest_at m₃ k)) m₄) where
          right-put : Put m₃ (suc (length (g_of w₁))) (less d (rest_at m₃ k)) m₄
          right-put = rw slot at v

          right-held : held_of m₄ (neg l ∷ g_of w₁) ≡ hold (neg l) (less d (rest_at m₃ k)) ∷ held_of m₁ (g_of w₁)
          right-held =
              held-joined (g_of w₁) (neg l) right-put
              ∙ ap (hold (neg l) (less d (rest_at m₃ k)) ∷◌) (held_same m₁ m₃ (g_of w₁) split-kept)

          pub right-sets : Slots n m₄
          right-sets = put_slots A.sets right-put (omega arith)

          module _ {w₅ w₆ k₆ m₆ : List ℕ} {right : Ended} (p : g_of w₅ ≡ neg l ∷ g_of w₁) (B : Jumps t n goals e w₅ m₄ w₆ k₆ m₆ right) where
            right-from : jumped_from t n goals (suc d) m₄ (neg l ∷ g_of w₁) ≡ right_of (rest_at m₃ k)
            right-from = ap (jump 128 (expand t) goals (n - suc (length (g_of w₁))) (suc d)) right-held

            right_end : (right_of (rest_at m₃ k)).end ≡ end_of right (g_of w₆) (rest_at m₆ (behind (g_of w₆)))
            right_end = ap (λ (j : Jumped). j.end) (sym right-from) ∙ rw (next, p) at B.ended

            right-made : made_by right ≡ stopped (right_of (rest_at m₃ k)).splits
            right-made = rw (next, p) at B.counted ∙ ap (λ (j : Jumped). stopped j.splits) right-from

            pub right-jumps : Jumps t n goals d w m w₆ k₆ m₆ (with_left s right)
            right-jumps =
                let L : Jumped = jumped_from t n goals (suc d) m₂ (l ∷ g_of w₁) in
                let b = sides-turns d L right_of closed-left g in
                record {
                  holds = B.holds;
                  grows = fork_grows f p B.grows;
                  sets = B.sets;
                  kept = same_on (length (g_of w)) (length (g_of w₁)) m m₃ m₆ f.grows.more left-kept
                      (same_on (length (g_of w₁)) (length (g_of w₅)) m₃ m₄ m₆ (omega (arith, ap length p)) (put_same right-put (length (g_of w₁)) (omega arith)) B.kept);
                  ended = ap (λ (j : Jumped). j.end) whole ∙ b.0 ∙ right_end ∙ sym (with_end s right (g_of w₆) (rest_at m₆ (behind (g_of w₆))));
                  counted =
                      with_made s right ∙ ap₂ (λ (i j : ℕ). stopped (suc (i + j))) (sym (ap made_by x) ∙ left-made) right-made
                      ∙ stopped-both L.splits (right_of (rest_at m₃ k)).splits ∙ ap stopped (sym (ap (λ (j : Jumped). j.splits) whole ∙ b.1));
                }

-- the sets of the literals held are all that a search starts from
pub jumps_from : {t : ℕ → Node} {n d : ℕ} {goals w m m₁ w₂ k₂ m₂ : List ℕ} {e : Ended} → SameTo (length (g_of w)) m m₁ → Jumps t n goals d w m₁ w₂ k₂ m₂ e
    → Jumps t n goals d w m w₂ k₂ m₂ e
jumps_from {t} {n} {d} {goals} {w} {m} {m₁} s J = record {
  holds = J.holds;
  grows = J.grows;
  sets = J.sets;
  kept = λ q b. J.kept q b ∙ s q b;
  ended = ap (λ (H : List Held). (jump 128 (expand t) goals (n - length (g_of w)) d H).end) (sym (held_same m m₁ (g_of w) s)) ∙ J.ended;
  counted = J.counted ∙ ap (λ (H : List Held). stopped (jump 128 (expand t) goals (n - length (g_of w)) d H).splits) (held_same m m₁ (g_of w) s);
}

-- ---- the whole

-- from nothing held, with as much fuel as there are nodes
pub from_nothing : (t : ℕ → Node) (n : ℕ) (goals m : List ℕ) → jumped_from t n goals 0 m [] ≡ jump 128 (expand t) goals n 0 []
unfolding held_of
from_nothing t n goals m =
    let e : n - 0 ≡ n = omega arith in
    ap (λ (k : ℕ). jump 128 (expand t) goals k 0 []) e

module _ {t : ℕ → Node} {n : ℕ} {goals : List ℕ} where
  -- the search from where the goals have joined
  pub counted-whole : {w m w' k' m' : List ℕ} {r : Ended} → jumped_from t n goals 0 m (g_of w) ≡ jumped_from t n goals 0 m [] → Jumps t n goals 0 w m w' k' m' r
      → Counted t n goals w' r
  counted-whole {w} {m} {w'} {m' = m'} {r} z J =
      let e = z ∙ from_nothing t n goals m in
      record {
        ready = J.holds.ready;
        answered = ended r (g_of w') (rest_at m' (behind (g_of w'))) ∙ ap end_answer (sym J.ended ∙ ap (λ (j : Jumped). j.end) e);
        counted = J.counted ∙ ap (λ (j : Jumped). stopped j.splits) e;
      }
    where
      ended : (r : Ended) (G : List ℕ) (c : Rests) → found_of (found_by r) G ≡ end_answer (end_of r G c)
      ended (Model s) G c = refl
      ended (Closed s) G c = refl

  -- the goals close
  pub counted_shut : {w : List ℕ} → Ready n w → (s : Rests) → jumped_from t n goals 0 blank [] ≡ stop (closed s) → Counted t n goals w (Closed 0)
  counted_shut h s z =
      let e = sym z ∙ from_nothing t n goals blank in
      record { ready = h; answered = ap (λ (j : Jumped). end_answer j.end) e; counted = ap (λ (j : Jumped). stopped j.splits) e }

-- the units behind the goals have joined
pub opened : {t : ℕ → Node} {n : ℕ} {goals w w' k' : List ℕ} (v : Stop) → Propagated t n goals w blank w' k' blank v
    → jumped_from t n goals 0 blank (g_of w) ≡ jumped_from t n goals 0 blank [] → Opened t n goals w' v
opened Shut P z = counted-whole z (jumps_closed P 0 refl)
opened Open P z = counted-whole z (jumps_model P 0 refl)
opened {k' = k'} (Fork l) P z =
    ((k', record { holds = P.holds; splits = (l, P.forks l refl); same = P.same 0 ∙ z }), P.forks l refl)

-- it answers as the plain order does
pub solved_plain : {t : ℕ → Node} {n : ℕ} {goals w : List ℕ} {r : Ended} → Table n t → Below n goals → Counted t n goals w r → {f : Found} → f ≡ found_by r
    → Solved t n goals w f
solved_plain {t} {n} {goals} {w} T B C e = record {
  ready = C.ready;
  answered = ap (λ (f : Found). found_of f (g_of w)) e ∙ C.answered ∙ same_answer 128 n t goals T B;
}
