-- 01, 'Derivations', first part, and 'Version two of the steps': steps and their bytes. Assumes nothing.
use Rattle.std.specs.Prelude.{List, ◌∷◌, Bool, true, cond, not, ◌&&◌, ◌||◌, ℕ, ◌/◌, ◌%◌, suc, eqb, leb, length, get_or}
use Rattle.scope.specs.declared.Format.{Format}
use Rattle.scope.specs.Outcome.{Outcome, answer, require, first, ◌>>◌}
use Rattle.scope.specs.Block.{word_at, word_bytes, block_test, block_at, record_at, records_in, file_of}
use Rattle.scope.specs.Table.{list_from}
use Rattle.rules.specs.declared.Step.{Step}
use Rattle.rules.specs.declared.Version.{Version}
use Rattle.rules.specs.declared.Version.TheVariants.{One, Two}

-- 'Blocks with letter 86 hold version two ... Letter 68 keeps the earlier rules'
abbrev pub letter_of : Version → ℕ
letter_of One = 68
letter_of Two = 86

-- '126 steps of 4 bytes in a full block'; the refusals of a block are 41 to 43
abbrev pub lettered : ℕ → Format
lettered letter = record { letter = letter; width = 4; capacity = 126; number = 41 }

abbrev pub format_of : Version → Format
format_of v = lettered (letter_of v)

-- the version of a derivation's bytes: that of block 0's letter
unfoldable pub version_of : List ℕ → Version
version_of d = cond (eqb (get_or d 0 0) 86) Two One

-- where the steps stand does not depend on the letter
abbrev pub derivations : Format
derivations = format_of One

-- 'U (85)', 'R (82)', 'E (69)', 'C (67)', 'S (83)', 'G (71, position 0)'
abbrev pub step : ℕ → ℕ → ℕ → Step
step rule position value = record { rule = rule; position = position; value = value }

abbrev pub U : ℕ → Step
U k = step 85 0 k

abbrev pub R : ℕ → ℕ → Step
R position k = step 82 position k

abbrev pub E : ℕ → Step
E k = step 69 0 k

abbrev pub C : ℕ → Step
C k = step 67 0 k

abbrev pub S : ℕ → Step
S l = step 83 0 l

abbrev pub G : ℕ → Step
G l = step 71 0 l

-- 'Byte 0 rule, byte 1 position, bytes 2 to 3 value.'
unfoldable pub step_bytes : Step → List ℕ
step_bytes s = s.rule ∷ s.position ∷ word_bytes s.value

unfoldable pub step_of : List ℕ → Step
step_of r = record { rule = get_or r 0 0; position = get_or r 1 0; value = word_at r 2 }

abbrev pub step_at : List ℕ → ℕ → Step
step_at d k = step_of (record_at derivations d k)

-- 44: 'unknown rule letter, position over 1 in R or nonzero elsewhere'; 'position 2 becomes legal in R'
unfoldable pub step_ok : Step → Bool
step_ok s =
    cond (eqb s.rule 82) (leb s.position 2)
    ((eqb s.rule 85 || (eqb s.rule 69 || (eqb s.rule 67 || (eqb s.rule 83 || eqb s.rule 71)))) && eqb s.position 0)

-- 65: 'an R or E in version two'
unfoldable pub rule_in : Version → ℕ → Bool
rule_in One rule = true
rule_in Two rule = not (eqb rule 82 || eqb rule 69)

-- '65 .. with 44 and after it, by step', of step k
abbrev pub form_row : Version → Step → ℕ → Outcome (Unit {0})
form_row v s k = require (step_ok s) 44 k >> require (rule_in v s.rule) 65 k

-- 40: 'zero, no multiple of 512, over 33,554,432'
unfoldable pub size_ok : ℕ → Bool
size_ok n = not (eqb n 0) && (eqb (n % 512) 0 && leb n 33554432)

-- 40; 'all its blocks' 41 to 43, where 'A file of mixed letters is 42'; 'then all its steps' form' 44 and 65
unfoldable pub form_test : List ℕ → Outcome (Unit {0})
form_test d =
    require (size_ok (length d)) 40 0
    >> (first (λ j. block_test (format_of (version_of d)) (block_at d j) j (eqb (suc j) (length d / 512))) 0 (length d / 512)
    >> first (λ k. form_row (version_of d) (step_at d k) k) 0 (records_in derivations d))

-- the steps of a derivation that meets none of 40 to 44 and 65
unfoldable pub decode_steps : List ℕ → Outcome (List Step)
decode_steps d = form_test d >> answer (list_from (step_at d) 0 (records_in derivations d))

-- the derivation's bytes that hold steps
abbrev pub encode_steps : Version → List Step → List ℕ
encode_steps v ss = file_of (format_of v) step_bytes ss
