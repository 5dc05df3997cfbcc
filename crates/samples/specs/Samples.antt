-- 01, 'Samples': each item as a row of one table, and what a row claims of the definitions. Assumes nothing.
use Rattle.std.specs.Prelude.{◌≡◌, cond, List, [], ◌∷◌, ◌++◌, ℕ, suc, ◌≤◌, eqb, length, get_or, drop}
use Prim.Native.String.{String}
use Rattle.scope.specs.declared.Node.{Node}
use Rattle.scope.specs.Outcome.{Outcome, answer, refused, fine}
use Rattle.scope.specs.Block.{word_at}
use Rattle.scope.specs.Table.{decode, encode}
use Rattle.calculus.specs.Order.{possible as found, impossible}
use Rattle.calculus.specs.Decide.{Decided, decide}
use Rattle.rules.specs.declared.Step.{Step}
use Rattle.rules.specs.declared.Version.{Version}
use Rattle.rules.specs.declared.Version.TheVariants.{One, Two}
use Rattle.rules.specs.Steps.{U, R, C, S, G, encode_steps}
use Rattle.rules.specs.Derive.{derive, check}
use Rattle.text.specs.Text.{ascii}
use Rattle.text.specs.Listing.{listing}

-- 'Kinds: 1 TRUE, 2 ATOM, 3 AND, 4 OR, 5 IMP, 6 IFF'
abbrev node : ℕ → ℕ → ℕ → Node
node kind a b = record { kind = kind; a = a; b = b; c = 0 }

abbrev pub TRUE : Node
TRUE = node 1 0 0

abbrev pub ATOM : ℕ → Node
ATOM point = node 2 point 0

abbrev pub AND : ℕ → ℕ → Node
AND a b = node 3 a b

abbrev pub OR : ℕ → ℕ → Node
OR a b = node 4 a b

abbrev pub IMP : ℕ → ℕ → Node
IMP a b = node 5 a b

abbrev pub IFF : ℕ → ℕ → Node
IFF a b = node 6 a b

-- 'Table A: 0 ATOM 0, 1 ATOM 1, 2 AND(0,2), 3 OR(0,2), 4 IMP(0,2), 5 IFF(0,2), 6 TRUE, 7 AND(4,7), 8 IFF(0,3), 9 AND(10,16)'
unfoldable pub nodes_a : List Node
nodes_a = ATOM 0 ∷ ATOM 1 ∷ AND 0 2 ∷ OR 0 2 ∷ IMP 0 2 ∷ IFF 0 2 ∷ TRUE ∷ AND 4 7 ∷ IFF 0 3 ∷ AND 10 16 ∷ []

-- its bytes
abbrev pub table_a : List ℕ
table_a = encode nodes_a

-- 'Settings are .. 0 no and 1 yes'
abbrev pub yes : ℕ
yes = 1

abbrev pub no : ℕ
no = 0

-- '2 for undecided points'
abbrev pub either : ℕ
either = 2

-- an item of 'Samples'
pub data Sample : Type 0 where
  -- 'One-block tables: .. alone has check ..'
  alone : Node → ℕ → Sample
  -- 'Goals, points 0 and 1': a goal of table A that is possible, and the settings of the two points
  possible : ℕ → ℕ → ℕ → Sample
  -- a goal of table A that is impossible, and its derivation in a version
  derived : Version → ℕ → List Step → Sample
  -- 'Check': a goal of table A, a derivation's steps, and the refusal's number and place
  checked : Version → ℕ → List Step → ℕ → ℕ → Sample
  -- 'Edges': so many bytes may read; so many are refused; a point reads; a point is refused
  may_read : ℕ → Sample
  too_long : ℕ → ℕ → Sample
  point_reads : ℕ → Sample
  point_over : ℕ → ℕ → Sample
  -- 'The listing program': what it prints for a table of nodes
  prints : List Node → String → Sample

-- decide called the goal possible, and points 0 and 1 have these settings
abbrev pub Finds : ℕ → ℕ → Outcome Decided → Type 0
Finds p q (refused number place) = ⊥
Finds p q (answer d) = (G : List ℕ) × (d.verdict ≡ found G) × (get_or d.settings 0 0 ≡ p) × (get_or d.settings 1 0 ≡ q)

-- the splits of a derivation: 'S for each .. SPLIT'
abbrev pub splits_in : List Step → ℕ
splits_in [] = 0
splits_in (s ∷ ss) = cond (eqb s.rule 83) (suc (splits_in ss)) (splits_in ss)

-- the work area and the other buffers are any that are long enough; decide makes the splits of the plain order, none of which is skipped
pub record Derived (v : Version) (goal : ℕ) (ss : List Step) : Type 0 where
  pub verdict : (s w : List ℕ) → 1024 ≤ length s → 32768 ≤ length w
      → decide table_a (goal ∷ []) s w ≡ answer (record { verdict = impossible; settings = s; splits = splits_in ss })
  pub derivation : (w d : List ℕ) → 32768 ≤ length w → 512 ≤ length d
      → derive v table_a (goal ∷ []) w d ≡ answer (record { steps = length ss; bytes = encode_steps v ss ++ drop 512 d })
  pub accepted : (w : List ℕ) → 32768 ≤ length w → check table_a (goal ∷ []) w (encode_steps v ss) ≡ fine

-- what a row claims
abbrev pub Holds : Sample → Type 0
Holds (alone x sum) = (length (encode (x ∷ [])) ≡ 512) × (word_at (encode (x ∷ [])) 510 ≡ sum)
Holds (possible goal p q) = (s w : List ℕ) → 1024 ≤ length s → 32768 ≤ length w → Finds p q (decide table_a (goal ∷ []) s w)
Holds (derived v goal ss) = Derived v goal ss
Holds (checked v goal ss number place) = (w : List ℕ) → 32768 ≤ length w → check table_a (goal ∷ []) w (encode_steps v ss) ≡ refused number place
Holds (may_read bytes) = (t : List ℕ) × (rs : List Node) × (length t ≡ bytes) × (decode t ≡ answer rs)
Holds (too_long bytes number) = (t : List ℕ) → length t ≡ bytes → decode t ≡ refused number 0
Holds (point_reads p) = decode (encode (ATOM p ∷ [])) ≡ answer (ATOM p ∷ [])
Holds (point_over p number) = decode (encode (ATOM p ∷ [])) ≡ refused number 0
Holds (prints rs text) = listing (encode rs) ≡ ascii text

abbrev pub rows : List Sample
rows =
    -- 'One-block tables: TRUE alone has check 154, ATOM 0 alone 235.'
    alone TRUE 154
    ∷ alone (ATOM 0) 235
    -- '6, 9, 11: possible, yes no. 1, 5, 12: possible, no no.' 'Sample goals 1, 5, 6 and 12 show 2 for undecided points.'
    ∷ possible 6 yes either
    ∷ possible 9 yes no
    ∷ possible 11 yes no
    ∷ possible 1 no either
    ∷ possible 5 no either
    ∷ possible 12 either either
    -- '13: U0 C1. 14: U0 U1 U2 U3 R5.0 C5.', and each starts with the name of its goal
    ∷ derived One 13 (G 13 ∷ U 0 ∷ C 1 ∷ [])
    ∷ derived One 14 (G 14 ∷ U 0 ∷ U 1 ∷ U 2 ∷ U 3 ∷ R 0 5 ∷ C 5 ∷ [])
    -- '18: U0 U1 U2 S1 R4.0 U4 R6.0 R6.1 C6 R3.0 U3 R5.0 R5.1 C5.'
    ∷ derived One 18 (G 18 ∷ U 0 ∷ U 1 ∷ U 2 ∷ S 1 ∷ R 0 4 ∷ U 4 ∷ R 0 6 ∷ R 1 6 ∷ C 6 ∷ R 0 3 ∷ U 3 ∷ R 0 5 ∷ R 1 5 ∷ C 5 ∷ [])
    -- 'Check, goal 13: C1 is 45 at 0; U0 is 47 at 1; U0 C1 C1 is 46 at 2. Goal 6: U0 S0 C1 is 45 at 2.'
    ∷ checked One 13 (C 1 ∷ []) 45 0
    ∷ checked One 13 (U 0 ∷ []) 47 1
    ∷ checked One 13 (U 0 ∷ C 1 ∷ C 1 ∷ []) 46 2
    ∷ checked One 6 (U 0 ∷ S 0 ∷ C 1 ∷ []) 45 2
    -- 64: 'a G step wrong, missing or late, at the step where that shows (the step count if the file ends first), after 46 and before 45'
    ∷ checked One 13 (G 12 ∷ C 1 ∷ []) 64 0
    ∷ checked One 13 (G 13 ∷ G 13 ∷ U 0 ∷ C 1 ∷ []) 64 1
    ∷ checked One 13 (U 0 ∷ G 13 ∷ C 1 ∷ []) 64 1
    ∷ checked One 13 (G 13 ∷ U 0 ∷ C 1 ∷ G 13 ∷ []) 46 3
    ∷ checked One 13 (G 13 ∷ C 1 ∷ G 13 ∷ []) 45 1
    -- version two: 'the derivation in the solver's order has no R'; 'U needs every literal but one false under G and that one undecided,
    -- C needs all false'; 'G steps are compulsory'
    ∷ derived Two 13 (G 13 ∷ U 0 ∷ C 1 ∷ [])
    ∷ derived Two 14 (G 14 ∷ U 0 ∷ U 1 ∷ U 2 ∷ U 3 ∷ C 5 ∷ [])
    ∷ derived Two 18 (G 18 ∷ U 0 ∷ U 1 ∷ U 2 ∷ S 1 ∷ U 4 ∷ C 6 ∷ U 3 ∷ C 5 ∷ [])
    ∷ checked Two 13 (U 0 ∷ C 1 ∷ []) 64 0
    ∷ checked Two 13 (G 13 ∷ U 0 ∷ U 0 ∷ []) 45 2
    ∷ checked Two 13 (G 13 ∷ U 0 ∷ C 0 ∷ []) 45 2
    -- 'Edges: 16,384 bytes may read, 16,896 is 10; point 1,023 reads, 1,024 is 15.'
    ∷ may_read 16384
    ∷ too_long 16896 10
    ∷ point_reads 1023
    ∷ point_over 1024 15
    -- 'For TRUE alone': the listing
    ∷ prints (TRUE ∷ []) "node yes no\n0 possible impossible\n"
    ∷ []
