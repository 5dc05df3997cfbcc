-- A run of steps, as the loop goes through it: what is left from step i on is the answer. Assumes nothing.
use mathlib.Core.Path.{◌≡◌, refl, sym, ap, ◌∙◌, subst}
use mathlib.Core.Bool.{true, false, cond}
use mathlib.Core.List.{List, [], ◌∷◌}
use Prim.Native.Nat.{ℕ, suc, ◌+◌, ◌-◌, ◌<◌, ◌≤◌}
use native.Mathlib.Omega.{arith}
use native.Mathlib.Numerals.{add-one}
use native.Mathlib.Decide.{dec_lt}
use lib.Dec.{ltb}
use borrow.Author.Tests.{lt-ltb, le-ltb, eq-eqb, ne_eqb}
use Rattle.scope.specs.declared.Node.{Node}
use Rattle.scope.specs.Outcome.{Outcome, answer, refused, fine}
use Rattle.scope.specs.Table.{list_from}
use Rattle.scope.proofs.Lists.{list_from_turn, list_from_done}
use Rattle.calculus.specs.Expansion.{expand}
use Rattle.rules.specs.declared.Step.{Step}
use Rattle.rules.specs.declared.Version.{Version}
use Rattle.rules.specs.Rules.{Branch, root, Progress, running, complete, is_g, apply_in, advance, ended, run}
use Rattle.replay.specs.declared.Status.{Status}
use Rattle.replay.specs.declared.Status.TheVariants.{Running}
use Rattle.area.specs.Area.{g_of}
use Rattle.branch.specs.Holds.{clauses_in, literals_in, History, branch_of, waits, waiting_of, Holds, fresh}
use Rattle.replay.specs.Ruled.{Says, Ruled}

module _ (v : Version) (e : ℕ → List (List ℕ)) (goals : List ℕ) (n : ℕ) (i : ℕ) (s : Step) (ss : List Step) (b : Branch) (ws : List Branch) where
  run_late : is_g s ≡ true → run v e goals n i (s ∷ ss) (running b ws) ≡ refused 64 i
  unfolding run advance
  run_late q = rw q

  module _ (other : is_g s ≡ false) where
    run-fails : apply_in e goals n v s b ws ≡ refused 45 0 → run v e goals n i (s ∷ ss) (running b ws) ≡ refused 45 i
    unfolding run advance
    run-fails q = rw (other, q)

    run-goes : (p : Progress) → apply_in e goals n v s b ws ≡ answer p → run v e goals n i (s ∷ ss) (running b ws) ≡ run v e goals n (suc i) ss p
    unfolding run advance
    run-goes p q = rw (other, q)

-- whether the step that was read is a G
pub is_name : {s s' : Step} → s ≡ s' → s.rule ≡ 71 → is_g s' ≡ true
is_name {s' = s'} e q = eq-eqb s'.rule 71 (ap (λ (s : Step). s.rule) (sym e) ∙ q)

pub no_name : {s s' : Step} → s ≡ s' → (s.rule ≡ 71 → ⊥) → is_g s' ≡ false
no_name {s' = s'} e q = ne_eqb s'.rule 71 (λ z. q (ap (λ (s : Step). s.rule) e ∙ z))

module _ (v : Version) (t : ℕ → Node) (n : ℕ) (goals : List ℕ) (f : ℕ → Step) (count : ℕ) where
  -- what is left at step i is the answer
  pub record Going (o : Outcome (Unit {0})) (w : List ℕ) (i : ℕ) : Type 0 where
    pub within : i ≤ count
    pub history : History
    pub holds : Holds t n goals w history
    pub same : o ≡ run v (expand t) goals n i (list_from f i (count - i)) (running (branch_of w history) (waiting_of w history))

  root_is : (w : List ℕ) → g_of w ≡ [] → running (branch_of w fresh) (waiting_of w fresh) ≡ running root []
  unfolding clauses_in literals_in waits
  root_is w q = ap (λ (G : List ℕ). running (record { G = G; struck_clauses = []; struck_literals = [] }) []) q

  pub going_starts : (from : ℕ) → from ≤ count → (w : List ℕ) → Holds t n goals w fresh → g_of w ≡ []
      → Going (run v (expand t) goals n from (list_from f from (count - from)) (running root [])) w from
  going_starts from l w h q = record {
    within = l;
    history = fresh;
    holds = h;
    same = ap (run v (expand t) goals n from (list_from f from (count - from))) (sym (root_is w q));
  }

  -- a derivation that is complete
  late : (i : ℕ) (s : Step) (ss : List Step) → run v (expand t) goals n i (s ∷ ss) complete ≡ refused 46 i
  unfolding run advance
  late i s ss = refl

  over : (i : ℕ) → run v (expand t) goals n i [] complete ≡ fine
  unfolding run ended
  over i = refl

  still_open : (i : ℕ) (b : Branch) (ws : List Branch) → run v (expand t) goals n i [] (running b ws) ≡ refused 47 i
  unfolding run ended
  still_open i b ws = refl

  complete_is : (m : ℕ) → m ≤ count → run v (expand t) goals n m (list_from f m (count - m)) complete ≡ cond (ltb m count) (refused 46 m) fine
  complete_is m h = go (dec_lt m count)
    where
      go : Dec (m < count) → run v (expand t) goals n m (list_from f m (count - m)) complete ≡ cond (ltb m count) (refused 46 m) fine
      go (yes q) =
          ap (λ (ss : List Step). run v (expand t) goals n m ss complete) (list_from_turn f m count q) ∙ late m (f m) (list_from f (m + 1) (count - (m + 1)))
          ∙ sym (simp (lt-ltb m count q))
      go (no q) =
          let z : count ≤ m = omega (arith, q) in
          ap (λ (ss : List Step). run v (expand t) goals n m ss complete) (list_from_done f m count z) ∙ over m ∙ sym (simp (le-ltb m count z))

  module _ {o : Outcome (Unit {0})} {w : List ℕ} {i : ℕ} (g : Going o w i) where
    step_is : i < count → o ≡ run v (expand t) goals n i (f i ∷ list_from f (i + 1) (count - (i + 1)))
        (running (branch_of w g.history) (waiting_of w g.history))
    step_is h = g.same ∙ ap (λ (ss : List Step). run v (expand t) goals n i ss (running (branch_of w g.history) (waiting_of w g.history)))
        (list_from_turn f i count h)

    pub going-late : i < count → is_g (f i) ≡ true → refused 64 i ≡ o
    going-late h q =
        sym (step_is h ∙ run_late v (expand t) goals n i (f i) (list_from f (i + 1) (count - (i + 1))) (branch_of w g.history) (waiting_of w g.history) q)

    goes_to : (p : Progress) → i < count → is_g (f i) ≡ false → apply_in (expand t) goals n v (f i) (branch_of w g.history) (waiting_of w g.history) ≡ answer p
        → o ≡ run v (expand t) goals n (i + 1) (list_from f (i + 1) (count - (i + 1))) p
    goes_to p h other q =
        step_is h ∙ run-goes v (expand t) goals n i (f i) (list_from f (i + 1) (count - (i + 1))) (branch_of w g.history) (waiting_of w g.history) other p q
        ∙ ap (λ (m : ℕ). run v (expand t) goals n m (list_from f (i + 1) (count - (i + 1))) p) (sym (add-one i))

    pub going-fails : i < count → is_g (f i) ≡ false → apply_in (expand t) goals n v (f i) (branch_of w g.history) (waiting_of w g.history) ≡ refused 45 0
        → refused 45 i ≡ o
    going-fails h other q =
        sym (step_is h ∙ run-fails v (expand t) goals n i (f i) (list_from f (i + 1) (count - (i + 1))) (branch_of w g.history)
        (waiting_of w g.history) other q)

    pub going-completes : i < count → is_g (f i) ≡ false → apply_in (expand t) goals n v (f i) (branch_of w g.history)
        (waiting_of w g.history) ≡ answer complete
        → cond (ltb (i + 1) count) (refused 46 (i + 1)) fine ≡ o
    going-completes h other q = sym (goes_to complete h other q ∙ complete_is (i + 1) (omega (arith, h)))

    pub going-goes : {w' : List ℕ} → i < count → is_g (f i) ≡ false
        → Says t n goals w' (apply_in (expand t) goals n v (f i) (branch_of w g.history) (waiting_of w g.history)) Running → Going o w' (i + 1)
    going-goes {w'} h other r = record {
      within = omega (arith, h);
      history = r.0;
      holds = r.2;
      same = goes_to (running (branch_of w' r.0) (waiting_of w' r.0)) h other r.1;
    }

    pub going-ends : count ≤ i → refused 47 count ≡ o
    going-ends h =
        let z : i ≡ count = omega (arith, h, g.within) in
        sym (g.same ∙ ap (λ (ss : List Step). run v (expand t) goals n i ss (running (branch_of w g.history) (waiting_of w g.history)))
        (list_from_done f i count h)
        ∙ still_open i (branch_of w g.history) (waiting_of w g.history) ∙ ap (refused 47) z)

-- what a step's function said, of the step that was read
pub step-told : (v : Version) {t : ℕ → Node} {n : ℕ} {goals : List ℕ} {w : List ℕ} (w' : List ℕ) {s s' : Step} {r r' : Status} (h : History)
    → Ruled t n (λ gs. apply_in (expand t) gs n v s) w w' r → s ≡ s' → r ≡ r' → Holds t n goals w h
    → Says t n goals w' (apply_in (expand t) goals n v s' (branch_of w h) (waiting_of w h)) r'
step-told v {t} {n} {goals} {w} w' {s} {s'} {r} {r'} h R e q k =
    subst (Says t n goals w' (apply_in (expand t) goals n v s' (branch_of w h) (waiting_of w h))) q
    (subst (λ (x : Step). Says t n goals w' (apply_in (expand t) goals n v x (branch_of w h) (waiting_of w h)) r) e (R goals h k))
