-- Decide and check of one goal, as they stood before 'Several goals together': no row 62, the place of 20 is 0, and derivations name no
-- goal. Assumes nothing.
use Rattle.std.specs.Prelude.{List, [], ◌∷◌, ℕ, ◌*◌, leb, ltb, length}
use Rattle.scope.specs.declared.Node.{Node}
use Rattle.scope.specs.Outcome.{Outcome, answer, require, ◌>>◌, ◌>>=◌}
use Rattle.scope.specs.Table.{decode}
use Rattle.calculus.specs.Decide.{Decided, decided}
use Rattle.rules.specs.Unnamed.{checked_unnamed}

-- rows 10 to 17, 20, 21 where a call needs so many settings bytes, 23
abbrev pub asked_one : List ℕ → ℕ → ℕ → ℕ → ℕ → Outcome (List Node)
asked_one t goal needed points area =
    decode t
    >>= λ rs. require (ltb goal (2 * length rs)) 20 0
    >> (require (leb needed points) 21 0
    >> (require (leb 32768 area) 23 0
    >> answer rs))

abbrev pub decide_one : List ℕ → ℕ → List ℕ → List ℕ → Outcome Decided
decide_one t goal s work = asked_one t goal 1024 (length s) (length work) >>= λ rs. answer (decided rs (goal ∷ []) s)

abbrev pub check_one : List ℕ → ℕ → List ℕ → List ℕ → Outcome (Unit {0})
check_one t goal work d = asked_one t goal 0 0 (length work) >>= λ rs. checked_unnamed rs (goal ∷ []) d
