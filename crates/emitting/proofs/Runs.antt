-- What the contracts of the writing pass come to at each return, over the literals held and the steps pushed. Assumes nothing.
use mathlib.Core.Path.{◌≡◌, refl, sym, ap, ◌∙◌}
use mathlib.Core.List.{List, [], ◌∷◌, ◌++◌, map, append_assoc, append-nil}
use Prim.Native.Nat.{ℕ, ◌+◌, ◌<◌}
use native.Mathlib.Omega.{arith}
use lib.ListN.{length, get_or, set, replicate, length-append, length-map, length-set, length-replicate}
use lib.Seq.{get_or-set_same}
use Rattle.scope.specs.declared.Node.{Node}
use Rattle.calculus.specs.Expansion.{neg, expand}
use Rattle.calculus.specs.Order.{move, impossible}
use Rattle.calculus.specs.Model.{Table, Below, Fresh}
use Rattle.calculus.specs.declared.Move.TheVariants.{Conflict, Unit as Single, Done, Split}
use Rattle.calculus.proofs.Count.{room}
use Rattle.calculus.proofs.Fresh.{unit_fresh, split-fresh}
use Rattle.calculus.proofs.Search.{possible_closed}
use Rattle.rules.specs.declared.Step.{Step}
use Rattle.rules.specs.declared.Version.{Version}
use Rattle.rules.specs.Steps.{U, C, S, G as name}
use Rattle.rules.specs.Derivation.{removed}
use Rattle.calculus.proofs.Sound.{or_closed}
use Rattle.state.specs.Work.{g_of}
use Rattle.state.specs.Holds.{Holds}
use Rattle.gather.specs.declared.Writer.{Writer}
use Rattle.gather.specs.Kept.{gathered, Space, Pushed}
use Rattle.gather.proofs.Pushes.{space-less, space-left, pushed_none, pushed_on}
use Rattle.searching.specs.Search.{result, Extends}
use Rattle.searching.proofs.Searches.{extends_self, extends_more, result-done, result-unit, Forked, fork_grows, fork_result}
use Rattle.counting.specs.Count.{steps_from}
use Rattle.emitting.specs.Trace.{left, Due, Stepped, Emitted, Fits}
use Rattle.std.specs.Prelude.{Option, None, Some}
use Rattle.emitting.proofs.Steps.{steps_conflict, steps-unit, steps-split}

closed_fork : {P : Type 0} {l : ℕ} → ◌≡◌ {A = Option ℕ} None (Some l) → P
closed_fork e = absurd (let z : ◌≡◌ {A = ℕ} 0 1 = cc in omega arith)

-- ---- steps that are due

-- the first of the steps due were pushed, and others are left
pub space-rest : (ss ts : List Step) {rs : List Step} {out : List ℕ} {g : Writer} {out' : List ℕ} {g' : Writer} → ss ++ ts ≡ rs → Space (length rs) out g
    → Pushed ss out g out' g' → Space (length ts) out' g'
space-rest ss ts e s p = space-left (length ts) (space-less (omega (arith, length-append ss ts, ap length e)) s) p

-- room for the first of them
pub space-first : (ss ts : List Step) {rs : List Step} {out : List ℕ} {g : Writer} → rs ≡ ss ++ ts → Space (length rs) out g → Space (length ss) out g
space-first ss ts e s = space-less (omega (arith, length-append ss ts, ap length e)) s

-- ---- a phase

-- what holds before each turn
pub record Run (v : Version) (t : ℕ → Node) (n : ℕ) (goals w m w' m' out out' : List ℕ) (g g' : Writer) : Type 0 where
  pub holds : Holds t n goals w' m'
  pub grows : Extends (g_of w) (g_of w')
  pub steps : List Step
  pub pushed : Pushed steps out g out' g'
  pub whole : steps ++ steps_from v t n goals (g_of w') ≡ steps_from v t n goals (g_of w)
  pub due : Due v t n goals (g_of w') out' g'
  pub size : length w' ≡ length w
  pub sets : length m' ≡ length m

pub run_starts : {v : Version} {t : ℕ → Node} {n : ℕ} {goals w m out : List ℕ} {g : Writer} → Holds t n goals w m → Due v t n goals (g_of w) out g
    → Run v t n goals w m w m out out g g
run_starts {w = w} {out} {g} h d = record {
  holds = h;
  grows = extends_self (g_of w);
  steps = [];
  pushed = pushed_none out g d.space.gathers;
  whole = refl;
  due = d;
  size = refl;
  sets = refl;
}

-- the next move is looked up, which leaves the literals held
pub run_looked : {v : Version} {t : ℕ → Node} {n : ℕ} {goals w m w' m' w'' out out' : List ℕ} {g g' : Writer} → Run v t n goals w m w' m' out out' g g'
    → Holds t n goals w'' m' → g_of w'' ≡ g_of w' → length w'' ≡ length w' → Run v t n goals w m w'' m' out out' g g'
run_looked r h e z = record {
  holds = h;
  grows = rw e r.grows;
  steps = r.steps;
  pushed = r.pushed;
  whole = rw e r.whole;
  due = rw e r.due;
  size = z ∙ r.size;
  sets = r.sets;
}

module _ {v : Version} {t : ℕ → Node} {n : ℕ} {goals w m w' m' out out' : List ℕ} {g g' : Writer} (r : Run v t n goals w m w' m' out out' g g') where
  -- some of the steps that are due are pushed
  more_whole : (ss ts : List Step) → steps_from v t n goals (g_of w') ≡ ss ++ ts → (r.steps ++ ss) ++ ts ≡ steps_from v t n goals (g_of w)
  more_whole ss ts e = append_assoc r.steps ss ts ∙ ap (r.steps ++◌) (sym e) ∙ r.whole

  more_space : (ss ts : List Step) {out₂ : List ℕ} {g₂ : Writer} → steps_from v t n goals (g_of w') ≡ ss ++ ts → Pushed ss out' g' out₂ g₂
      → Space (length ts) out₂ g₂
  more_space ss ts e p = space-rest ss ts (sym e) r.due.space p

  -- a conflict
  module _ {k : ℕ} (e : move (expand t) goals (g_of w') ≡ Conflict k) where
    conflict-steps : steps_from v t n goals (g_of w') ≡ removed v (expand t) goals (g_of w') k ++ C k ∷ []
    conflict-steps = steps_conflict v t goals (g_of w') n e

    pub conflict-space : Space (length (removed v (expand t) goals (g_of w') k) + 1) out' g'
    conflict-space = space-less (omega (arith, ap length conflict-steps, length-append (removed v (expand t) goals (g_of w') k) (C k ∷ []))) r.due.space

    pub run_conflict : {out₂ : List ℕ} {g₂ : Writer} → Pushed (removed v (expand t) goals (g_of w') k ++ C k ∷ []) out' g' out₂ g₂
        → Stepped v t n goals w w' m' out out₂ g g₂ None
    run_conflict p = record {
      holds = r.holds;
      grows = r.grows;
      steps = r.steps ++ (removed v (expand t) goals (g_of w') k ++ C k ∷ []);
      pushed = pushed_on r.pushed p;
      whole = more_whole (removed v (expand t) goals (g_of w') k ++ C k ∷ []) [] (conflict-steps ∙ sym (append-nil (removed v (expand t) goals (g_of w') k ++ C k ∷ [])));
      closes = r.due.closes;
      forks = λ l q. closed_fork q;
    }

  -- there is no model
  pub run_done : move (expand t) goals (g_of w') ≡ Done → ⊥
  run_done e = possible_closed (sym (result-done t goals (g_of w') n e) ∙ r.due.closes)

  module _ (T : Table n t) (B : Below n goals) where
    -- a unit
    module _ {k l : ℕ} (e : move (expand t) goals (g_of w') ≡ Single k l) where
      pub run-fresh : Fresh n (g_of w') l
      run-fresh = unit_fresh n t goals T B (g_of w') r.holds.ready.trail.good k l e

      pub run_room : length (g_of w') < n
      run_room = room n (g_of w') l r.holds.ready.trail.good run-fresh

      unit-steps : steps_from v t n goals (g_of w') ≡ (removed v (expand t) goals (g_of w') k ++ U k ∷ []) ++ steps_from v t n goals (l ∷ g_of w')
      unit-steps =
          steps-unit v t goals (g_of w') n run_room e
          ∙ sym (append_assoc (removed v (expand t) goals (g_of w') k) (U k ∷ []) (steps_from v t n goals (l ∷ g_of w')))

      pub unit-space : Space (length (removed v (expand t) goals (g_of w') k) + 1) out' g'
      unit-space =
          space-less (omega (arith, length-append (removed v (expand t) goals (g_of w') k) (U k ∷ [])))
          (space-first (removed v (expand t) goals (g_of w') k ++ U k ∷ []) (steps_from v t n goals (l ∷ g_of w')) unit-steps r.due.space)

      pub run-unit : {w'' m'' out₂ : List ℕ} {g₂ : Writer} → Pushed (removed v (expand t) goals (g_of w') k ++ U k ∷ []) out' g' out₂ g₂
          → Holds t n goals w'' m'' → g_of w'' ≡ l ∷ g_of w' → length w'' ≡ length w' → length m'' ≡ length m' → Run v t n goals w m w'' m'' out out₂ g g₂
      run-unit p h q z y = record {
        holds = h;
        grows = rw q (extends_more r.grows l);
        steps = r.steps ++ (removed v (expand t) goals (g_of w') k ++ U k ∷ []);
        pushed = pushed_on r.pushed p;
        whole = rw q (more_whole (removed v (expand t) goals (g_of w') k ++ U k ∷ []) (steps_from v t n goals (l ∷ g_of w')) unit-steps);
        due = rw q (record {
          closes = sym (result-unit t goals (g_of w') n run_room e) ∙ r.due.closes;
          space = more_space (removed v (expand t) goals (g_of w') k ++ U k ∷ []) (steps_from v t n goals (l ∷ g_of w')) unit-steps p;
        });
        size = z ∙ r.size;
        sets = y ∙ r.sets;
      }

    -- a split
    module _ {l : ℕ} (e : move (expand t) goals (g_of w') ≡ Split l) where
      split-room : length (g_of w') < n
      split-room =
          let good = r.holds.ready.trail.good in
          room n (g_of w') l good (split-fresh n t goals T B (g_of w') good l e)

      split_steps : steps_from v t n goals (g_of w') ≡ (S l ∷ []) ++ left v t n goals (g_of w') (Some l)
      split_steps = steps-split v t goals (g_of w') n split-room e

      pub split-space : Space 1 out' g'
      split-space = space-first (S l ∷ []) (left v t n goals (g_of w') (Some l)) split_steps r.due.space

      pub run_split : {out₂ : List ℕ} {g₂ : Writer} → Pushed (S l ∷ []) out' g' out₂ g₂ → Stepped v t n goals w w' m' out out₂ g g₂ (Some l)
      run_split p = record {
        holds = r.holds;
        grows = r.grows;
        steps = r.steps ++ S l ∷ [];
        pushed = pushed_on r.pushed p;
        whole = more_whole (S l ∷ []) (left v t n goals (g_of w') (Some l)) split_steps;
        closes = r.due.closes;
        forks = λ k q. let z : l ≡ k = cc in e ∙ ap Split z;
      }

-- ---- the recursion

module _ {v : Version} {t : ℕ → Node} {n : ℕ} {goals w w₁ m₁ out out₁ : List ℕ} {g g₁ : Writer} {split : Option ℕ} (s : Stepped v t n goals w w₁ m₁ out out₁ g g₁ split) where
  -- a phase that ends on a conflict has pushed all steps
  pub emitted_closed : split ≡ None → Emitted v t n goals w w₁ m₁ out out₁ g g₁
  emitted_closed e =
      let z : s.steps ≡ steps_from v t n goals (g_of w) = sym (append-nil s.steps) ∙ rw e at s.whole in
      record { holds = s.holds; grows = s.grows; pushed = rw (← z) s.pushed }

  -- or it ends on a split
  module _ (T : Table n t) (B : Below n goals) {l : ℕ} (e : split ≡ Some l) where
    pub forked : Forked t n goals (g_of w) (g_of w₁) l
    forked = record { table = T; below = B; good = s.holds.ready.trail.good; grows = s.grows; splits = s.forks l e }

    abbrev lefts : List Step
    lefts = steps_from v t n goals (l ∷ g_of w₁)

    abbrev rights : List Step
    rights = steps_from v t n goals (neg l ∷ g_of w₁)

    fork-closes : (result t n goals (l ∷ g_of w₁) ≡ impossible) × (result t n goals (neg l ∷ g_of w₁) ≡ impossible)
    fork-closes = or_closed (result t n goals (l ∷ g_of w₁)) (result t n goals (neg l ∷ g_of w₁)) (fork_result forked ∙ s.closes)

    fork-whole : s.steps ++ (lefts ++ rights) ≡ steps_from v t n goals (g_of w)
    fork-whole = rw e at s.whole

    module _ (d : Space (length (steps_from v t n goals (g_of w))) out g) where
      fork-space : Space (length (lefts ++ rights)) out₁ g₁
      fork-space = space-rest s.steps (lefts ++ rights) fork-whole d s.pushed

      -- the left branch
      pub left-due : {F : List ℕ} → F ≡ l ∷ g_of w₁ → Due v t n goals F out₁ g₁
      left-due q = rw q (record { closes = fork-closes.0; space = space-first lefts rights refl fork-space })

      module _ {w₂ w₃ m₃ out₂ : List ℕ} {g₂ : Writer} (q : g_of w₂ ≡ l ∷ g_of w₁) (a : Emitted v t n goals w₂ w₃ m₃ out₁ out₂ g₁ g₂) where
        left-pushed : Pushed lefts out₁ g₁ out₂ g₂
        left-pushed = rw q at a.pushed

        -- the right branch
        pub right-due : {F : List ℕ} → F ≡ neg l ∷ g_of w₁ → Due v t n goals F out₂ g₂
        right-due r = rw r (record { closes = fork-closes.1; space = space-rest lefts rights refl fork-space left-pushed })

        -- the steps of a phase, of the left branch and of the right are all
        pub emitted-fork : {w₄ w₅ m₅ out₃ : List ℕ} {g₃ : Writer} → g_of w₄ ≡ neg l ∷ g_of w₁ → Emitted v t n goals w₄ w₅ m₅ out₂ out₃ g₂ g₃
            → Emitted v t n goals w w₅ m₅ out out₃ g g₃
        emitted-fork r b = record {
          holds = b.holds;
          grows = fork_grows forked r b.grows;
          pushed = rw (← fork-whole) (pushed_on s.pushed (pushed_on left-pushed (rw r at b.pushed)));
        }

-- ---- the whole

-- an empty block with its letter
abbrev pub empty_block : ℕ → List ℕ
empty_block letter = set (replicate 512 0) 0 letter

pub empty-length : (letter : ℕ) → length (empty_block letter) ≡ 512
empty-length letter = simp length-set (length-replicate {A = ℕ} 512 0)

pub empty_letter : (letter : ℕ) → get_or (empty_block letter) 0 0 ≡ letter
empty_letter letter =
    let h : 0 < length (replicate {A = ℕ} 512 0) = omega (arith, length-replicate {A = ℕ} 512 0) in
    get_or-set_same (replicate 512 0) 0 letter 0 h

-- the first step finds it
start_space : {v : Version} {t : ℕ → Node} {n : ℕ} {goals G d : List ℕ} (block : List ℕ) → length block ≡ 512 → Fits v t n goals G d
    → Space (length goals + length (steps_from v t n goals G)) d (gathered block 0 0)
start_space block l f = record { gathers = record { few = omega arith; whole = l }; lent = omega (arith, f.lent); most = omega (arith, f.most) }

-- the names of the goals fit
pub names_fit : {v : Version} {t : ℕ → Node} {n : ℕ} {goals G d : List ℕ} (block : List ℕ) → length block ≡ 512 → Fits v t n goals G d → Space (length goals) d (gathered block 0 0)
names_fit block l f = space-less (omega arith) (start_space block l f)

-- .. and after them the steps of the search
pub named_due : {v : Version} {t : ℕ → Node} {n : ℕ} {goals G d : List ℕ} (block : List ℕ) → length block ≡ 512 → Fits v t n goals G d
    → {out : List ℕ} {w : Writer} → Pushed (map name goals) d (gathered block 0 0) out w → Due v t n goals G out w
named_due {v} {t} {n} {goals} {G} block l f p = record {
  closes = f.closes;
  space = space-left (length (steps_from v t n goals G)) (rw length-map (start_space block l f)) p;
}

-- .. and then nothing more
pub none_due : {v : Version} {t : ℕ → Node} {n : ℕ} {goals G out out' : List ℕ} {w w' : Writer} → Due v t n goals G out w → Pushed (steps_from v t n goals G) out w out' w'
    → Space 0 out' w'
none_due d p = space-left 0 (space-less (omega arith) d.space) p
