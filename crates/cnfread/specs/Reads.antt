-- What the reader does: the definition `dimacs`, the buffer's bytes, and what the goal means. Assumes nothing.
use Rattle.std.specs.Prelude.{◌≡◌, List, ℕ, ◌≤◌, length, Result, Ok, Err}
use Rattle.scope.specs.declared.Refusal.{Refusal}
use Rattle.scope.specs.Outcome.{answer, refused, ◌>>=◌}
use Rattle.scope.specs.Calls.{Added as Written}
use Rattle.adding.specs.declared.Mark.{Mark}
use Rattle.adding.specs.Added.{added_of, marked}
use Rattle.growing.specs.Growing.{Table, room_of, outcome_of}
use Rattle.cnf.specs.Text.{File, file_of}
use Rattle.cnf.specs.Fold.{build}
use Rattle.cnf.specs.Reader.{dimacs, Means, Turns}
use Rattle.cnftext.specs.declared.Heading.{Heading}
use Rattle.cnfread.specs.Clauses.{filed}

-- the file of a heading and clauses
abbrev pub file_with : Heading → List (List ℕ) → File
file_with h cs = record { variables = h.variables; clauses = cs }

-- a text has a heading: its file is that of the clauses behind it
pub record Starts (text : List ℕ) (h : Heading) : Type 0 where
  pub within : h.body ≤ length text
  pub few : h.variables ≤ 1024
  pub file : file_of text ≡ (filed h.variables text h.body h.clauses >>= λ cs. answer (file_with h cs))

-- a table under way, or its refusal: that of the text's file, if there is one
pub record Told (text buf : List ℕ) (t : Table) (g : Result ℕ Refusal) : Type 0 where
  pub table : (f : File) → file_of text ≡ answer f → build buf f ≡ outcome_of t buf g
  pub there : (l : ℕ) → g ≡ Ok l → (f : File) × (file_of text ≡ answer f)
  pub room_is : t.room ≡ room_of (length buf)

-- f refuses the text: what the text's own refusal is, or else r
pub record FirstRefusal (text : List ℕ) (r f : Refusal) : Type 0 where
  pub fine : (x : File) → file_of text ≡ answer x → f ≡ r
  pub turned : (number place : ℕ) → file_of text ≡ refused number place → (f.number ≡ number) × (f.place ≡ place)

-- The reader, of a text and a buffer, which it leaves as `after`
pub record Reads (text buf : List ℕ) (v : Result Mark Refusal) (after : List ℕ) : Type 0 where
  -- 'answers the goal literal and the used length', or the first refusal
  pub answered : added_of v ≡ marked (dimacs text buf)
  -- the table, byte for byte what the folding gives; 'After 51 or 52 the buffer is free, against the general rule'
  pub bytes : (x : Written) → dimacs text buf ≡ answer x → after ≡ x.bytes
  -- 60 and 61 come 'before any byte is written'
  pub kept : (number place : ℕ) → file_of text ≡ refused number place → after ≡ buf
  -- the table reads, and 'The goal's truth equals the file's under every setting'
  pub means : (m : Mark) → v ≡ Ok m → (f : File) × (file_of text ≡ answer f) × Means f m.literal m.used after
  -- no other number refuses
  pub turns : (r : Refusal) → v ≡ Err r → Turns r.number
