-- Request 01, the DIMACS text: comments, the heading, the body's words and clauses; refusals 60 and 61. Assumes nothing.
use Rattle.std.specs.Prelude.{List, [], ◌∷◌, ◌++◌, Bool, true, false, cond, not, ◌&&◌, ◌||◌, ℕ, ◌+◌, ◌-◌, ◌*◌, eqb, leb, ltb, length, get_or, drop}
use Rattle.scope.specs.Outcome.{Outcome, answer, refused, require, ◌>>◌, ◌>>=◌}
use Rattle.cnf.specs.declared.Word.{Word}
use Rattle.cnf.specs.declared.Word.TheVariants.{Malformed, End, Literal}

-- 'comment lines starting with c', 'before the heading only'; 'Lines end in LF': what stands behind the comments.
-- `inside`: the line under way is a comment
unfoldable pub behind_comments : Bool → List ℕ → List ℕ
behind_comments inside [] = []
behind_comments true (b ∷ t) = behind_comments (not (eqb b 10)) t
behind_comments false (b ∷ t) = cond (eqb b 99) (behind_comments true t) (b ∷ t)

-- a text starts with these bytes
unfoldable pub starts_with : List ℕ → List ℕ → Bool
starts_with [] t = true
starts_with (x ∷ xs) [] = false
starts_with (x ∷ xs) (b ∷ t) = eqb b x && starts_with xs t

-- what stands behind bytes that must come next in the heading
abbrev pub behind : List ℕ → List ℕ → Outcome (List ℕ)
behind xs t = require (starts_with xs t) 60 0 >> answer (drop (length xs) t)

abbrev pub digit : ℕ → Bool
digit b = leb 48 b && leb b 57

-- the digits that a text starts with
unfoldable pub digits : List ℕ → List ℕ
digits [] = []
digits (b ∷ t) = cond (digit b) (b ∷ digits t) []

-- 'numbers have 1 to 9 digits'
abbrev pub few : List ℕ → Bool
few t = ltb 0 (length t) && ltb (length t) 10

-- the value of digits, behind others of the value n
unfoldable pub value_from : ℕ → List ℕ → ℕ
value_from n [] = n
value_from n (b ∷ t) = value_from (10 * n + (b - 48)) t

-- a number of the heading, and what stands behind the bytes that must follow it
pub record Counted : Type 0 where
  pub value : ℕ
  pub rest : List ℕ

abbrev pub counted : List ℕ → List ℕ → Outcome Counted
counted xs t =
    require (few (digits t)) 60 0
    >> (behind xs (drop (length (digits t)) t)
    >>= λ rest. answer (record { value = value_from 0 (digits t); rest = rest }))

-- 'a line p cnf V C'
pub record Heading : Type 0 where
  pub variables : ℕ
  pub clauses : ℕ
  pub body : List ℕ

-- 'p cnf ', a space, and a line feed
abbrev pub opening : List ℕ
opening = 112 ∷ 32 ∷ 99 ∷ 110 ∷ 102 ∷ 32 ∷ []

abbrev pub space : List ℕ
space = 32 ∷ []

abbrev pub feed : List ℕ
feed = 10 ∷ []

-- 60: 'heading malformed or V over 1,024'; 'the heading has single spaces', and must have its LF
unfoldable pub heading : List ℕ → Outcome Heading
heading t =
    behind opening t
    >>= λ rest. counted space rest
    >>= λ v. counted feed v.rest
    >>= λ c. require (leb v.value 1024) 60 0
    >> answer (record { variables = v.value; clauses = c.value; body = c.rest })

-- 'spaces or LF separate the body's'
abbrev pub separator : ℕ → Bool
separator b = eqb b 32 || eqb b 10

-- a word that is not empty, before others
abbrev pub ended : List ℕ → List (List ℕ) → List (List ℕ)
ended [] ws = ws
ended (b ∷ w) ws = (b ∷ w) ∷ ws

-- the words of a text, where w of a word has been read
unfoldable pub words_from : List ℕ → List ℕ → List (List ℕ)
words_from w [] = ended w []
words_from w (b ∷ t) = cond (separator b) (ended w (words_from [] t)) (words_from (w ++ b ∷ []) t)

abbrev pub words : List ℕ → List (List ℕ)
words t = words_from [] t

-- every byte is a digit
unfoldable pub all_digits : List ℕ → Bool
all_digits [] = true
all_digits (b ∷ t) = digit b && all_digits t

-- a word is a number of the format that is at most V
abbrev pub numeral : ℕ → List ℕ → Bool
numeral vars w = few w && (all_digits w && leb (value_from 0 w) vars)

-- 'Variable v is point v − 1': its literal is 2 × point. 0 ends a clause
unfoldable pub positive : ℕ → List ℕ → Word
positive vars w =
    cond (numeral vars w)
    (cond (eqb (value_from 0 w) 0) End (Literal (2 * (value_from 0 w - 1))))
    Malformed

-- the negation's literal is 2 × point + 1; '−0 is malformed'
unfoldable pub negative : ℕ → List ℕ → Word
negative vars w =
    cond (numeral vars w && ltb 0 (value_from 0 w))
    (Literal (2 * (value_from 0 w - 1) + 1))
    Malformed

-- 'signed integers': what a word of the body says
unfoldable pub word_of : ℕ → List ℕ → Word
word_of vars w = cond (eqb (get_or w 0 0) 45) (negative vars (drop 1 w)) (positive vars w)

abbrev pub is_empty : List ℕ → Bool
is_empty [] = true
is_empty (l ∷ ls) = false

-- by what a word says: refused 61, the literal joins the clause under way, or that clause is ended
abbrev pub by_word : {A : Type 0} → Word → (ℕ → Outcome A) → Outcome A → Outcome A
by_word Malformed more end = refused 61 0
by_word End more end = end
by_word (Literal l) more end = more l

-- 'clauses of nonzero signed integers, each ended by 0': those of a body's words, where c of a clause has been read
unfoldable pub clauses_from : ℕ → List ℕ → List (List ℕ) → Outcome (List (List ℕ))
clauses_from vars c [] = require (is_empty c) 61 0 >> answer []
clauses_from vars c (w ∷ ws) =
    by_word (word_of vars w)
    (λ l. clauses_from vars (c ++ l ∷ []) ws)
    (clauses_from vars [] ws >>= λ cs. answer (c ∷ cs))

-- a file: how many variables, and the clauses, each a list of literals
pub record File : Type 0 where
  pub variables : ℕ
  pub clauses : List (List ℕ)

-- 60, then 61: 'body malformed, variable over V, or clause count not C'
unfoldable pub file_of : List ℕ → Outcome File
file_of text =
    heading (behind_comments false text)
    >>= λ h. clauses_from h.variables [] (words h.body)
    >>= λ cs. require (eqb (length cs) h.clauses) 61 0
    >> answer (record { variables = h.variables; clauses = cs })
