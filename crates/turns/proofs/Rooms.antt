-- Questions of one table: whatever the calls, each comes to decide's answer, and its list replays. Assumes nothing.
use mathlib.Core.Path.{◌≡◌, refl, ap, ◌∙◌}
use mathlib.Core.List.{List, [], ◌∷◌}
use mathlib.Core.Bool.{true, false, cond}
use Prim.Native.Nat.{ℕ, ◌*◌, ◌<◌, ◌≤◌}
use native.Mathlib.Omega.{arith}
use native.Mathlib.Decide.{dec_lt}
use lib.Dec.{ltb}
use borrow.Author.Tests.{lt-ltb, le-ltb}
use Rattle.scope.specs.declared.Node.{Node}
use Rattle.calculus.specs.Expansion.{expand}
use Rattle.calculus.specs.Order.{Tree, tree, unfinished, answer_of}
use Rattle.calculus.specs.Model.{Table}
use Rattle.calculus.specs.Decide.{settings_on}
use Rattle.turns.specs.Turn.{Search, running, found, closed, verdict_of, is_running, resumes, times, turns_of}
use Rattle.turns.specs.Round.{Round, opening, runs, total, turn_for, spend, turns_for, calls, sum, written}
use Rattle.turns.proofs.Turns.{times_stays, turn_stays, turns-run, turns-verdict}
use Rattle.turns.proofs.Replay.{Replays, times_resumes, reached}
use Rattle.turns.proofs.Tallies.{tally-some, total-less}
use Rattle.turns.proofs.Rounds.{calls_spend, turns_made_lem, turns_spent, turns_enough}

-- ---- one call after another

-- setting bytes of two calls, where a finished search stays put
pub written_parts : (rs : List Node) (s : List ℕ) (before mid after : Search)
    → (is_running before ≡ false → mid ≡ before) → (is_running mid ≡ false → after ≡ mid)
    → written rs mid after (written rs before mid s) ≡ written rs before after s
written_parts rs s (running G) (running F) after p q = refl
written_parts rs s (running G) (found F) after p q = rw (q refl)
written_parts rs s (running G) closed after p q = rw (q refl)
written_parts rs s (found G) mid after p q = rw (p refl)
written_parts rs s closed mid after p q = rw (p refl)

module _ (e : ℕ → List (List ℕ)) (goal : ℕ → ℕ) (q m : ℕ) (R : Round) (i : ℕ) (h : i < q) where
  abbrev later : Search
  later = (spend (turn_for e goal) q m R).searches i

  pub finished_stays : is_running (R.searches i) ≡ false → later ≡ R.searches i
  finished_stays f =
      turns_made_lem (turn_for e goal) q m R i h
      ∙ times_stays (turn_for e goal i) (turns_for (turn_for e goal) q m R i) (R.searches i) (turn_stays e (goal i ∷ []) (R.searches i) f)

  -- what can go on can go on after any allowance
  pub spend_resumes : resumes e (goal i ∷ []) (R.searches i) ≡ true → resumes e (goal i ∷ []) later ≡ true
  spend_resumes r = rw (turns_made_lem (turn_for e goal) q m R i h) (times_resumes e (goal i ∷ []) (turns_for (turn_for e goal) q m R i) (R.searches i) r)

-- ---- from the first call on

module _ (n : ℕ) (t : ℕ → Node) (T : Table n t) (goal : ℕ → ℕ) (q : ℕ) (B : (i : ℕ) → i < q → goal i < 2 * n) where
  abbrev turn_of : ℕ → Search → Search
  turn_of = turn_for (expand t) goal

  -- the search of a question in the plain order
  abbrev searched : ℕ → Tree
  searched i = tree (expand t) (goal i ∷ []) n []

  abbrev room : ℕ → ℕ → Search
  room m i = (spend turn_of q m opening).searches i

  abbrev turns_made : ℕ → ℕ → ℕ
  turns_made m i = turns_for turn_of q m opening i

  module _ (m i : ℕ) (h : i < q) where
    made : room m i ≡ times (turn_of i) (turns_made m i) (running [])
    made = turns_made_lem turn_of q m opening i h

    -- it runs while it has had fewer turns than its search takes, and has decide's verdict from then on
    pub room-runs : is_running (room m i) ≡ ltb (turns_made m i) (turns_of (searched i))
    room-runs = ap is_running made ∙ turns-run n t (goal i ∷ []) T (B i h, tt) (turns_made m i)

    pub room-verdict : verdict_of (room m i) ≡ cond (ltb (turns_made m i) (turns_of (searched i))) unfinished (answer_of (searched i))
    room-verdict = ap verdict_of made ∙ turns-verdict n t (goal i ∷ []) T (B i h, tt) (turns_made m i)

    -- never more turns than its search takes
    pub room-turns : turns_made m i ≤ turns_of (searched i)
    room-turns =
        turns_enough turn_of q m (turns_of (searched i)) opening i h
        (turns-run n t (goal i ∷ []) T (B i h, tt) (turns_of (searched i)) ∙ le-ltb (turns_of (searched i)) (turns_of (searched i)) (omega arith))

    -- its list replays
    pub room-replays : Replays (expand t) (goal i ∷ []) (room m i)
    room-replays = rw made (reached (expand t) (goal i ∷ []) (turns_made m i))

  -- an allowance for all searches finishes all
  pub rooms-end : (m : ℕ) → total (λ i. turns_of (searched i)) q ≤ m → (i : ℕ) → i < q → verdict_of (room m i) ≡ answer_of (searched i)
  rooms-end m b i h = on (dec_lt (turns_made m i) (turns_of (searched i)))
    where
      on : Dec (turns_made m i < turns_of (searched i)) → verdict_of (room m i) ≡ answer_of (searched i)
      on (yes c) =
          let r : is_running (room m i) ≡ true = room-runs m i h ∙ lt-ltb (turns_made m i) (turns_of (searched i)) c in
          let s = turns_spent turn_of q m opening (tally-some (runs (spend turn_of q m opening)) q i h r) in
          absurd (omega (arith, s, total-less (turns_made m) (λ i. turns_of (searched i)) q i (room-turns m) h c))
      on (no c) = room-verdict m i h ∙ rw (le-ltb (turns_made m i) (turns_of (searched i)) (omega arith))

  -- .. and its setting bytes are decide's
  pub rooms-written : (rs : List Node) (s : List ℕ) (m : ℕ) → total (λ i. turns_of (searched i)) q ≤ m → (i : ℕ) → i < q
      → written rs (running []) (room m i) s ≡ settings_on rs s (answer_of (searched i))
  rooms-written rs s m b i h = ap (settings_on rs s) (rooms-end m b i h)

  -- 'Split into calls of any allowances, each verdict .. equal decide's for that question'
  pub calls_end : (ms : List ℕ) → total (λ i. turns_of (searched i)) q ≤ sum ms → (i : ℕ) → i < q
      → verdict_of ((calls turn_of q ms opening).searches i) ≡ answer_of (searched i)
  calls_end ms b i h = ap (λ (R : Round). verdict_of (R.searches i)) (calls_spend turn_of q ms opening) ∙ rooms-end (sum ms) b i h
