-- What a derivation whose form passes (40 to 44 and 65) fulfils: whole blocks, each passed, and every step within the bytes.
-- Assumes nothing.
use mathlib.Core.Path.{◌≡◌, ◌∙◌, ap, sym, refl}
use mathlib.Core.List.{List}
use mathlib.Core.Bool.{true}
use Prim.Native.Nat.{ℕ, suc, ◌+◌, ◌-◌, ◌*◌, ◌/◌, ◌<◌, ◌≤◌}
use native.Mathlib.Nat.{zero-add}
use native.Mathlib.Omega.{arith}
use lib.Dec.{eqb, lit<}
use lib.ListN.{length, get_or}
use Rattle.scope.specs.Outcome.{answer, fine, first}
use Rattle.scope.specs.Block.{block_at, record_at, records_in}
use Rattle.scope.specs.Table.{list_from}
use Rattle.scope.proofs.First.{fine_each}
use Rattle.scope.proofs.Lists.{length_list_from, get_d_list_from}
use Rattle.scope.proofs.Tests.{then_first, then_next}
use Rattle.codec.specs.Valid.{Fits}
use Rattle.codec.proofs.Rows.{row}
use Rattle.codec.proofs.Blocks.{passed}
use Rattle.codec.proofs.Files.{whole_length}
use Rattle.rules.specs.declared.Step.{Step}
use Rattle.rules.specs.declared.Version.{Version}
use Rattle.rules.specs.Steps.{lettered, format_of, derivations, version_of, step_at, size_ok, form_test, decode_steps}
use Rattle.steps.specs.Opened.{place_of, block_row, step_row}

pub fits : (letter : ℕ) → Fits (lettered letter)
fits letter = record { some = lit< tt; room = refl }

-- the steps of both versions stand at the same places
pub records_same : (v : Version) (d : List ℕ) → records_in (format_of v) d ≡ records_in derivations d
unfolding records_in
records_same v d = refl

pub record_same : (v : Version) (d : List ℕ) (k : ℕ) → record_at (format_of v) d k ≡ record_at derivations d k
unfolding record_at
record_same v d k = refl

-- a length that passes row 40 is that of 1 to 65,536 whole blocks
pub whole-blocks : (n : ℕ) → size_ok n ≡ true → (0 < n / 512) × (n ≡ 512 * (n / 512)) × (n / 512 ≤ 65536)
unfolding size_ok
whole-blocks = whole_length 65536

-- a last block that passes rows 41 to 43: there are no more steps than the blocks can hold
module _ (d : List ℕ) (some : 0 < length d / 512) (last : block_row d (length d / 512 - 1) ≡ fine) where
  pub steps_most : records_in derivations d ≤ 126 * (length d / 512)
  unfolding records_in
  steps_most =
      omega (arith, (passed (format_of (version_of d)) (block_at d (length d / 512 - 1)) _ (eqb (suc (length d / 512 - 1)) (length d / 512)) last).most)

-- all blocks pass
module _ (d : List ℕ) (some : 0 < length d / 512) (blocks : first (block_row d) 0 (length d / 512) ≡ fine) where
  pub block_fine : (j : ℕ) → j < length d / 512 → block_row d j ≡ fine
  block_fine j h = fine_each (block_row d) (length d / 512) 0 blocks j (omega arith) (omega arith)

  last_fine : block_row d (length d / 512 - 1) ≡ fine
  last_fine = block_fine (length d / 512 - 1) (omega arith)

  pub steps_fit : records_in derivations d ≤ 126 * (length d / 512)
  steps_fit = steps_most d some last_fine

-- a derivation whose form passes
module _ (d : List ℕ) (test : form_test d ≡ fine) where
  pub size_right : size_ok (length d) ≡ true
  unfolding form_test
  size_right = (row (size_ok (length d)) 40 0 _ test).0

  pub size_met : (0 < length d / 512) × (length d ≡ 512 * (length d / 512)) × (length d / 512 ≤ 65536)
  size_met = whole-blocks (length d) size_right

  pub blocks_met : first (block_row d) 0 (length d / 512) ≡ fine
  unfolding form_test
  blocks_met = then_first _ (first (step_row d) 0 (records_in derivations d)) (row (size_ok (length d)) 40 0 _ test).1

  pub forms_met : first (step_row d) 0 (records_in derivations d) ≡ fine
  unfolding form_test
  forms_met = then_next (first (block_row d) 0 (length d / 512)) _ (row (size_ok (length d)) 40 0 _ test).1

  -- at most 8,257,536 steps
  pub few_steps : records_in derivations d ≤ 8257536
  few_steps = omega (arith, steps_fit d size_met.0 blocks_met, size_met.2)

  -- each lies within the bytes
  pub step_within : (k : ℕ) → k < records_in derivations d → place_of k + 4 ≤ length d
  step_within k h = omega (arith, steps_fit d size_met.0 blocks_met)

  -- they are what the derivation reads as
  pub steps_read : decode_steps d ≡ answer (list_from (step_at d) 0 (records_in derivations d))
  unfolding decode_steps
  steps_read = rw test

-- a derivation that reads: its form passes, and its steps are those of its places
module _ (d : List ℕ) (ss : List Step) (e : decode_steps d ≡ answer ss) where
  pub read-fine : form_test d ≡ fine
  unfolding decode_steps
  read-fine = then_first (form_test d) _ e

  pub read_steps : ss ≡ list_from (step_at d) 0 (records_in derivations d)
  read_steps =
      let q : answer ss ≡ answer (list_from (step_at d) 0 (records_in derivations d)) = sym e ∙ steps_read d read-fine in
      cc

  pub read_length : length ss ≡ records_in derivations d
  read_length = ap length read_steps ∙ length_list_from (step_at d) (records_in derivations d) 0

  pub read_step : (k : ℕ) (z : Step) → k < length ss → get_or ss k z ≡ step_at d k
  read_step k z h =
      rw read_steps
      (get_d_list_from (step_at d) (records_in derivations d) 0 k z (omega (arith, read_length)) ∙ ap (λ (n : ℕ). step_at d n) (zero-add k))
