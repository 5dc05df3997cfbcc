-- What check does: the answer of the definition `check`, and what the answer means. Assumes nothing.
use Rattle.std.specs.Prelude.{◌≡◌, Result, Ok, List, ℕ, ◌≤◌, length}
use Rattle.scope.specs.declared.Node.{Node}
use Rattle.scope.specs.Outcome.{Outcome, answer, refused, fine, ◌>>◌, ◌>>=◌, verdict_of}
use Rattle.calculus.specs.Expansion.{expand}
use Rattle.calculus.specs.Order.{impossible, answer_of}
use Rattle.calculus.specs.Decide.{search_of, asked, Unsatisfiable}
use Rattle.rules.specs.declared.Version.{Version}
use Rattle.rules.specs.Steps.{version_of, step_at, decode_steps, encode_steps}
use Rattle.rules.specs.Rules.{accepts}
use Rattle.rules.specs.Derive.{derivation_of, check}
use Rattle.published.specs.Bytes.{PublishedBytes}
use Rattle.scope.specs.declared.Refusal.{Refusal}

-- the number and the place of every case of the answer
abbrev pub checked_of : Result (Unit {0}) Refusal → Outcome (Unit {0})
checked_of = verdict_of

-- the derivation d was read and its steps tried, over the nodes t
pub record Replayed (t : ℕ → Node) (n : ℕ) (goals w d w' : List ℕ) (r : Result (Unit {0}) Refusal) : Type 0 where
  pub answered : checked_of r ≡ (decode_steps d >>= accepts (version_of d) (expand t) goals n)
  pub work : (number place : ℕ) → decode_steps d ≡ refused number place → w' ≡ w

-- Check, of the table t, a list of goals, the work area w, which it leaves as w', and the derivation d
pub record Checks (t goals w d w' : List ℕ) (r : Result (Unit {0}) Refusal) : Type 0 where
  -- 'Check accepts exactly when none of its refusals applies', and else the answer is the first row's that refuses
  pub answered : checked_of r ≡ check t goals w d
  -- 'The work area's contents after row 23 passes are free; before that unchanged': here a refusal by rows 40 to 44 and 65 changes none either
  pub work : (number place : ℕ) → (asked t goals 0 0 (length w) >> decode_steps d) ≡ refused number place → w' ≡ w
  -- derivations of any author (demand 3): where one is accepted, no setting makes all goals true, whatever its bytes
  pub never : r ≡ Ok tt → Unsatisfiable t goals
  -- our own (demand 3), in either version: the one derivation in the solver's order of goals called impossible is accepted, where 65,536
  -- blocks hold it
  pub ours : (v : Version) (rs : List Node) → asked t goals 0 0 (length w) ≡ answer rs → answer_of (search_of rs goals) ≡ impossible
      → length (encode_steps v (derivation_of v rs goals)) ≤ 33554432 → d ≡ encode_steps v (derivation_of v rs goals) → r ≡ Ok tt
  -- 'A derivation names its goals': one whose first step is a G is accepted for these goals and no other list, over whatever table
  pub only : r ≡ Ok tt → (step_at d 0).rule ≡ 71 → (u others v : List ℕ) → check u others v d ≡ fine → goals ≡ others
  -- what is accepted is a derivation by the published rules
  pub published : r ≡ Ok tt → PublishedBytes t goals d
