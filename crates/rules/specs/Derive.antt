-- 01, 'Derivations', 'Where each call says no', 'Several goals together' and 'Version two of the steps': derive and check. Assumes nothing.
use Rattle.std.specs.Prelude.{List, ◌++◌, Bool, true, false, ℕ, ◌+◌, ◌*◌, ◌/◌, leb, length, take, drop}
use Rattle.scope.specs.declared.Node.{Node}
use Rattle.scope.specs.Outcome.{Outcome, answer, refused, require, ◌>>◌, ◌>>=◌}
use Rattle.calculus.specs.Expansion.{expand}
use Rattle.calculus.specs.Order.{Answer, possible, impossible, unfinished, answer_of}
use Rattle.calculus.specs.Decide.{nodes_of, search_of, asked}
use Rattle.rules.specs.declared.Step.{Step}
use Rattle.rules.specs.declared.Version.{Version}
use Rattle.rules.specs.Steps.{version_of, encode_steps, decode_steps}
use Rattle.rules.specs.Rules.{accepts}
use Rattle.rules.specs.Derivation.{named_steps}

-- 'A goal called impossible has one derivation in the solver's order', and so has a list of goals; it starts with their names
abbrev pub derivation_of : Version → List Node → List ℕ → List Step
derivation_of v rs goals = named_steps v (expand (nodes_of rs)) goals (search_of rs goals)

abbrev pub is_impossible : Answer → Bool
is_impossible (possible G) = false
is_impossible impossible = true
is_impossible unfinished = false

-- 'It answers the step count'; and the derivation bytes afterwards: 'Bytes past its last block stay'
pub record Derived : Type 0 where
  pub steps : ℕ
  pub bytes : List ℕ

-- 'the derivation is the blocks that hold these steps', of bytes that start with k steps
abbrev pub blocks : ℕ → List ℕ → List ℕ
blocks k d = take (512 * ((k + 125) / 126)) d

-- what derive answers of the nodes of a table; 30: 'goal possible', here all of them together; 31: 'more bytes needed than lent or than 65,536 blocks'
unfoldable pub derived : Version → List Node → List ℕ → List ℕ → Outcome Derived
derived v rs goals d =
    require (is_impossible (answer_of (search_of rs goals))) 30 0
    >> (require (leb (length (encode_steps v (derivation_of v rs goals))) (length d)) 31 0
    >> (require (leb (length (encode_steps v (derivation_of v rs goals))) 33554432) 31 0
    >> answer (record {
      steps = length (derivation_of v rs goals);
      bytes = encode_steps v (derivation_of v rs goals) ++ drop (length (encode_steps v (derivation_of v rs goals))) d;
    })))

-- rows 10 to 17, 62, 20, 23, 30, 31; 'Derive is told the version wanted, a choice of exactly two'
unfoldable pub derive : Version → List ℕ → List ℕ → List ℕ → List ℕ → Outcome Derived
derive v t goals work d = asked t goals 0 0 (length work) >>= λ rs. derived v rs goals d

-- the derivation bytes after a call: a refusal changes none
abbrev pub derived_after : List ℕ → Outcome Derived → List ℕ
derived_after d (answer x) = x.bytes
derived_after d (refused number place) = d

-- what check answers of the nodes of a table: rows 40 to 44 and 65, then each step in turn, by the rules of its version, and the end
unfoldable pub checked : List Node → List ℕ → List ℕ → Outcome (Unit {0})
checked rs goals d = decode_steps d >>= accepts (version_of d) (expand (nodes_of rs)) goals (length rs)

-- 'Check accepts exactly when none of its refusals applies': rows 10 to 17, 62, 20, 23, then these
unfoldable pub check : List ℕ → List ℕ → List ℕ → List ℕ → Outcome (Unit {0})
check t goals work d = asked t goals 0 0 (length work) >>= λ rs. checked rs goals d
