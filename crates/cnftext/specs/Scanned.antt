-- Where the parts of a text end, and what scanning it answers. Assumes nothing.
use Rattle.std.specs.Prelude.{◌≡◌, false, List, [], ◌∷◌, ℕ, ◌≤◌, length, drop, Option, Some, None, Result, Ok, Err}
use Rattle.scope.specs.declared.Refusal.{Refusal}
use Rattle.scope.specs.Outcome.{Outcome, answer, refused, ◌>>=◌}
use Rattle.cnf.specs.Text.{behind_comments, digits, Counted, counted, Heading as Head, heading, words, clauses_from, file_of}
use Rattle.cnfwords.specs.Words.{part}
use Rattle.cnftext.specs.declared.Heading.{Heading}

-- the comments end at r
pub record Passed (text : List ℕ) (r : ℕ) : Type 0 where
  pub within : r ≤ length text
  pub behind : behind_comments false text ≡ drop r text

-- the digits from a place on end at r
pub record Digits (text : List ℕ) (at r : ℕ) : Type 0 where
  pub later : at ≤ r
  pub within : r ≤ length text
  pub run : digits (drop at text) ≡ part text at r

-- a number and the place behind it, or none; places stand for what is left of the text
abbrev pub count_of : List ℕ → Option (ℕ × ℕ) → Outcome Counted
count_of text (Some p) = answer (record { value = p.0; rest = drop p.1 text })
count_of text None = refused 60 0

pub record Counts (text : List ℕ) (at x : ℕ) (r : Option (ℕ × ℕ)) : Type 0 where
  pub answered : count_of text r ≡ counted (x ∷ []) (drop at text)
  pub within : (v next : ℕ) → r ≡ Some (v, next) → next ≤ length text

-- a heading, or none
abbrev pub head_of : List ℕ → Option Heading → Outcome Head
head_of text (Some h) = answer (record { variables = h.variables; clauses = h.clauses; body = drop h.body text })
head_of text None = refused 60 0

pub record Heads (text : List ℕ) (at : ℕ) (r : Option Heading) : Type 0 where
  pub answered : head_of text r ≡ heading (drop at text)
  pub within : (h : Heading) → r ≡ Some h → h.body ≤ length text
  pub few : (h : Heading) → r ≡ Some h → h.variables ≤ 1024

-- .. behind the comments
pub record Headed (text : List ℕ) (r : Option Heading) : Type 0 where
  pub answered : head_of text r ≡ heading (behind_comments false text)
  pub within : (h : Heading) → r ≡ Some h → h.body ≤ length text
  pub few : (h : Heading) → r ≡ Some h → h.variables ≤ 1024

-- how many clauses, or that the body is malformed
abbrev pub tally_of : Option ℕ → Outcome ℕ
tally_of (Some n) = answer n
tally_of None = refused 61 0

abbrev pub Tallies : List ℕ → ℕ → ℕ → Option ℕ → Type 0
Tallies text at vars r = tally_of r ≡ (clauses_from vars [] (words (drop at text)) >>= λ cs. answer (length cs))

-- the answer of an outcome that has one, or no elements
abbrev pub list_of : {A : Type 0} → Outcome (List A) → List A
list_of (answer l) = l
list_of (refused number place) = []

-- the clauses of a body
abbrev pub clauses_in : ℕ → List ℕ → List (List ℕ)
clauses_in vars t = list_of (clauses_from vars [] (words t))

-- a text in order: its file, and the clauses behind its heading
pub record Body (text : List ℕ) (h : Heading) : Type 0 where
  pub within : h.body ≤ length text
  pub few : h.variables ≤ 1024
  pub clauses : clauses_from h.variables [] (words (drop h.body text)) ≡ answer (clauses_in h.variables (drop h.body text))
  pub count : length (clauses_in h.variables (drop h.body text)) ≡ h.clauses
  pub file : file_of text ≡ answer (record { variables = h.variables; clauses = clauses_in h.variables (drop h.body text) })

-- a text that is turned away: the place is 0
abbrev pub turned_away : ℕ → Result Heading Refusal
turned_away number = Err (record { number = number; place = 0 })

-- what scanning a text answers
pub record Scans (text : List ℕ) (r : Result Heading Refusal) : Type 0 where
  pub fine : (h : Heading) → r ≡ Ok h → Body text h
  pub turned : (f : Refusal) → r ≡ Err f → file_of text ≡ refused f.number f.place
