-- 'One wrong byte', call by call: 11 at its block from every call that reads the table, 41 from every call that reads the derivation.
-- Assumes nothing.
use mathlib.Core.Path.{◌≡◌}
use mathlib.Core.List.{List}
use mathlib.Core.Bool.{false}
use Prim.Native.Nat.{ℕ, ◌/◌}
use native.Mathlib.Omega.{arith}
use lib.Dec.{eqb}
use lib.ListN.{length}
use borrow.Author.Tests.{le-leb, ne_eqb}
use Rattle.scope.specs.declared.Node.{Node}
use Rattle.scope.specs.Outcome.{answer}
use Rattle.scope.specs.Table.{decode}
use Rattle.scope.specs.OneByte.{OneByte}
use Rattle.scope.specs.Calls.{table_count, table_record, evaluate, decode_used, add}
use Rattle.calculus.specs.Decide.{asked_by, decide}
use Rattle.rules.specs.Steps.{format_of, version_of}
use Rattle.rules.specs.Derive.{derive, checked, check}
use Rattle.clashing.specs.Clash.{clash}
use Rattle.wishing.specs.Call.{grant}
use Rattle.overview.specs.Overview.{overview}
use Rattle.rooms.specs.Rooms.{admitted, open_rooms, turn_rooms}
use Rattle.steps.specs.Opened.{step_count}
use Rattle.step_reader.specs.Handed.{step_handed}
use Rattle.codec.specs.Valid.{Bytes}
use Rattle.wrongbyte.specs.Wrong.{BlocksPass, TableRefused, DerivationRefused}
use Rattle.wrongbyte.proofs.Refusals.{decode_refuses, size-kept, row-refuses, form-refuses, steps-refuse}

module _ (t u : List ℕ) (k : ℕ) (old : Bytes t) (new : Bytes u) (o : OneByte t u k) where
  -- 'For every readable table'
  pub wrong_table : (rs : List Node) → decode t ≡ answer rs → TableRefused u (k / 512)
  unfolding table_count table_record evaluate decode_used add asked_by decide derive check clash grant overview admitted open_rooms turn_rooms
  wrong_table rs e =
      let some : eqb (length u) 0 ≡ false = ne_eqb (length u) 0 (λ z. omega (arith, o.long, o.inside)) in
      let said = decode_refuses t u k old new o rs e in
      record {
        count = rw said;
        node = λ l. rw said;
        evaluated = λ l s. rw said;
        added = λ buf r used h q. rw (le-leb used (length buf) h, q, some, said);
        decided = λ goals s work. rw said;
        derived = λ v goals work d. rw said;
        checked = λ goals work d. rw said;
        clashed = λ goals work. rw said;
        granted = λ goals wishes m s work. rw said;
        overviewed = λ goals answers work. rw said;
        opened_rooms = λ questions points area fits. rw (fits, said);
        turned_rooms = λ questions points w m fits. rw (fits, said);
      }

  -- 'and every derivation whose blocks pass 40 to 43', of either letter: that of its own version
  pub wrong_derivation : BlocksPass (format_of (version_of t)) t → DerivationRefused u (k / 512)
  unfolding step_count step_handed checked check
  wrong_derivation ok =
      record {
        opened = rw (steps-refuse t u k old new o ok);
        next = λ at. rw (form-refuses t u k old new o ok);
        step = λ at q. rw (size-kept t u k old new o ok, q, row-refuses t u k old new o ok);
        checked = λ table goals work rs e. rw (e, steps-refuse t u k old new o ok);
      }
