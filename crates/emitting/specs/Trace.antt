-- What the functions of the writing pass leave: the literals held, and the steps that were pushed. Assumes nothing.
use Rattle.std.specs.Prelude.{◌≡◌, cond, Option, None, Some, List, [], ◌∷◌, ◌++◌, ℕ, ◌+◌, ◌*◌, ◌/◌, ◌≤◌, length, drop}
use Rattle.scope.specs.declared.Node.{Node}
use Rattle.calculus.specs.Expansion.{neg, expand}
use Rattle.calculus.specs.Order.{value_of, move, impossible}
use Rattle.calculus.specs.declared.Move.TheVariants.{Split}
use Rattle.rules.specs.declared.Step.{Step}
use Rattle.rules.specs.declared.Version.{Version}
use Rattle.rules.specs.Steps.{encode_steps}
use Rattle.rules.specs.Rules.{is_fails}
use Rattle.rules.specs.Derivation.{removed}
use Rattle.state.specs.Work.{g_of}
use Rattle.state.specs.Holds.{Holds}
use Rattle.gather.specs.declared.Writer.{Writer}
use Rattle.gather.specs.Kept.{positions, removals_at, Space, Pushed}
use Rattle.searching.specs.Search.{result, Extends}
use Rattle.counting.specs.Count.{steps_from}

-- whether a literal is false, as a bit; and those of a clause's literals, the first lowest
abbrev pub false_bit : List ℕ → ℕ → ℕ
false_bit G l = cond (is_fails (value_of G l)) 1 0

abbrev pub false_bits : List ℕ → List ℕ → ℕ
false_bits G [] = 0
false_bits G (l ∷ c) = false_bit G l + 2 * false_bits G c

-- the removals of clause k, by the bits of their positions
abbrev pub RemovedBy : Version → (ℕ → Node) → List ℕ → List ℕ → ℕ → ℕ → Type 0
RemovedBy v t goals G k bits = removed v (expand t) goals G k ≡ removals_at positions k 0 bits

-- the search from G closes, and its steps fit
pub record Due (v : Version) (t : ℕ → Node) (n : ℕ) (goals G out : List ℕ) (g : Writer) : Type 0 where
  pub closes : result t n goals G ≡ impossible
  pub space : Space (length (steps_from v t n goals G)) out g

-- the steps that are left where a phase ends: none after a conflict
abbrev pub left : Version → (ℕ → Node) → ℕ → List ℕ → List ℕ → Option ℕ → List Step
left v t n goals G None = []
left v t n goals G (Some l) = steps_from v t n goals (l ∷ G) ++ steps_from v t n goals (neg l ∷ G)

-- a phase is done: the units have joined, up to a conflict or a split, and the steps so far were pushed
pub record Stepped (v : Version) (t : ℕ → Node) (n : ℕ) (goals w w' m' out out' : List ℕ) (g g' : Writer) (split : Option ℕ) : Type 0 where
  pub holds : Holds t n goals w' m'
  pub grows : Extends (g_of w) (g_of w')
  pub steps : List Step
  pub pushed : Pushed steps out g out' g'
  pub whole : steps ++ left v t n goals (g_of w') split ≡ steps_from v t n goals (g_of w)
  pub closes : result t n goals (g_of w') ≡ impossible
  pub forks : (l : ℕ) → split ≡ Some l → move (expand t) goals (g_of w') ≡ Split l

-- a search is done: its steps were pushed, and the literals of the start are still held
pub record Emitted (v : Version) (t : ℕ → Node) (n : ℕ) (goals w w' m' out out' : List ℕ) (g g' : Writer) : Type 0 where
  pub holds : Holds t n goals w' m'
  pub grows : Extends (g_of w) (g_of w')
  pub pushed : Pushed (steps_from v t n goals (g_of w)) out g out' g'

-- the search from G closes, and its steps fit a buffer from its start, with the names of the goals
pub record Fits (v : Version) (t : ℕ → Node) (n : ℕ) (goals G d : List ℕ) : Type 0 where
  pub closes : result t n goals G ≡ impossible
  pub lent : length goals + length (steps_from v t n goals G) ≤ 126 * (length d / 512)
  pub most : length goals + length (steps_from v t n goals G) ≤ 126 * 65536

-- the derivation's bytes in a buffer: 'Bytes past its last block stay'
abbrev pub written : Version → List Step → List ℕ → List ℕ
written v ss d = encode_steps v ss ++ drop (length (encode_steps v ss)) d
