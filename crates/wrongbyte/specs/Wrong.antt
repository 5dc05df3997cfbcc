-- 'One wrong byte': which files it is said of, and what each call answers. Assumes nothing.
use Rattle.std.specs.Prelude.{◌≡◌, List, true, ℕ, suc, ◌/◌, ◌≤◌, eqb, length, take}
use Rattle.scope.specs.declared.Format.{Format}
use Rattle.scope.specs.declared.Node.{Node}
use Rattle.scope.specs.Outcome.{Outcome, answer, refused, fine, first}
use Rattle.scope.specs.Block.{block_test, block_at}
use Rattle.scope.specs.Calls.{table_count, table_record, evaluate, add}
use Rattle.calculus.specs.Decide.{asked, decide}
use Rattle.rules.specs.declared.Version.{Version}
use Rattle.rules.specs.Steps.{size_ok, form_test}
use Rattle.rules.specs.Derive.{derive, check}
use Rattle.clashing.specs.Clash.{clash}
use Rattle.wishing.specs.Call.{grant}
use Rattle.overview.specs.Overview.{overview}
use Rattle.rooms.specs.Rooms.{questions_row, open_rooms, turn_rooms}
use Rattle.steps.specs.Opened.{step_count}
use Rattle.step_reader.specs.Handed.{block_of, step_handed, next_of}

-- the blocks of a file of any format, one after another
abbrev pub blocks_test : Format → List ℕ → Outcome (Unit {0})
blocks_test F d = first (λ j. block_test F (block_at d j) j (eqb (suc j) (length d / 512))) 0 (length d / 512)

-- 'every derivation whose blocks pass 40 to 43', of any letter
pub record BlocksPass (F : Format) (d : List ℕ) : Type 0 where
  pub size : size_ok (length d) ≡ true
  pub blocks : blocks_test F d ≡ fine

-- 'refusal 11 .. at that block from every call that gets as far as those blocks': every call that reads a table, whatever else it is given
pub record TableRefused (u : List ℕ) (j : ℕ) : Type 0 where
  pub count : table_count u ≡ refused 11 j
  pub node : (l : ℕ) → table_record u l ≡ refused 11 j
  pub evaluated : (l : ℕ) (s : List ℕ) → evaluate u l s ≡ refused 11 j
  -- add, where the used part of its buffer is that table
  pub added : (buf r : List ℕ) (used : ℕ) → used ≤ length buf → take used buf ≡ u → add buf used r ≡ refused 11 j
  pub decided : (goals s work : List ℕ) → decide u goals s work ≡ refused 11 j
  pub derived : (v : Version) (goals work d : List ℕ) → derive v u goals work d ≡ refused 11 j
  pub checked : (goals work d : List ℕ) → check u goals work d ≡ refused 11 j
  pub clashed : (goals work : List ℕ) → clash u goals work ≡ refused 11 j
  pub granted : (goals wishes : List ℕ) (m : ℕ) (s work : List ℕ) → grant u goals wishes m s work ≡ refused 11 j
  pub overviewed : (goals answers work : List ℕ) → overview u goals answers work ≡ refused 11 j
  -- rooms, where the questions pass row 69, which comes before all table checks
  pub opened_rooms : (questions : List ℕ) (points area : ℕ) → questions_row questions ≡ fine → open_rooms u questions points area ≡ refused 11 j
  pub turned_rooms : (questions : List ℕ) (points : ℕ) (w : List ℕ) (m : ℕ) → questions_row questions ≡ fine → turn_rooms u questions points w m ≡ refused 11 j

-- '.. or 41': every call that reads a derivation
pub record DerivationRefused (u : List ℕ) (j : ℕ) : Type 0 where
  pub opened : step_count u ≡ refused 41 j
  -- a reader, at whatever step it stands
  pub next : (at : ℕ) → next_of u at (form_test u) ≡ refused 41 j
  -- a step by its index, which looks at one block: where that is the one
  pub step : (at : ℕ) → block_of u at ≡ j → step_handed u at ≡ refused 41 j
  -- check, where its table and goals pass the rows before
  pub checked : (t goals work : List ℕ) (rs : List Node) → asked t goals 0 0 (length work) ≡ answer rs → check t goals work u ≡ refused 41 j
