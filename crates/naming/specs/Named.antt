-- The goals that a derivation names, and row 64 of its head. Assumes nothing.
use Rattle.std.specs.Prelude.{List, cond, ◌&&◌, ℕ, eqb, length, Result}
use Rattle.scope.specs.declared.Refusal.{Refusal}
use Rattle.scope.specs.Outcome.{Outcome, answer, refused, outcome_by, ◌>>◌}
use Rattle.scope.specs.Table.{list_from}
use Rattle.rules.specs.declared.Version.{Version}
use Rattle.rules.specs.Steps.{step_at}
use Rattle.rules.specs.Rules.{names, may_be_unnamed, names_test}

-- the goals that n steps name, from step i on
abbrev pub names_of : List ℕ → ℕ → ℕ → List ℕ
names_of d i n = names (list_from (step_at d) i n)

-- how many goals are named, or 64
abbrev pub head_of : Version → List ℕ → List ℕ → Outcome ℕ
head_of v goals ls = names_test v goals ls >> answer (length ls)

-- the same where i goals are named and others are missing
abbrev pub missing_of : Version → ℕ → Outcome ℕ
missing_of v i = cond (may_be_unnamed v && eqb i 0) (answer 0) (refused 64 i)

-- the number and the values of every case of what is said of a head
abbrev pub named_of : Result ℕ Refusal → Outcome ℕ
named_of = outcome_by (λ n. n)
