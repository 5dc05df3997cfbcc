-- What overview does: the answer of the definition `overview`, its bytes, and what they mean. Assumes nothing.
use Rattle.std.specs.Prelude.{◌≡◌, List, [], ◌∷◌, ℕ, ◌<◌, ◌≤◌, length, get_or, Result, Ok, Err}
use Rattle.scope.specs.declared.Refusal.{Refusal}
use Rattle.scope.specs.Outcome.{answer, ◌>>=◌, verdict_of}
use Rattle.calculus.specs.Decide.{Decided, decide, Unsatisfiable, ◌⇔◌}
use Rattle.overview.specs.Overview.{byte_of, overview, answers_after}

-- the byte of a goal is what decide says of it by itself, whatever settings it is lent, and it is 0 exactly when no setting makes the goal
-- true
pub record Told (t w : List ℕ) (goal byte : ℕ) : Type 0 where
  pub decided : (s : List ℕ) → 1024 ≤ length s → (d : Decided) × (decide t (goal ∷ []) s w ≡ answer d) × (byte ≡ byte_of d.verdict)
  pub exact : (byte ≡ 0) ⇔ Unsatisfiable t (goal ∷ [])

-- Overview, of the table t, a list of goals, and the answer bytes b and the work area w, which it leaves as b' and w'
pub record Overviews (t goals b w b' w' : List ℕ) (r : Result (Unit {0}) Refusal) : Type 0 where
  -- fine, or the first row's refusal
  pub answered : verdict_of r ≡ (overview t goals b w >>= λ after. answer tt)
  -- the answer bytes: one per goal, and no other changes
  pub bytes : b' ≡ answers_after b (overview t goals b w)
  -- a refusal leaves the work area as it was
  pub work : (f : Refusal) → r ≡ Err f → w' ≡ w
  -- fine: each goal's byte tells of it
  pub each : r ≡ Ok tt → (i : ℕ) → i < length goals → Told t w (get_or goals i 0) (get_or b' i 0)
