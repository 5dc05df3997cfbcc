-- Derivations and their bytes: formed steps are read back from the file that holds them (`encode-steps-read`), and a derivation
-- that reads is the file of its steps (`read_encodes`). Assumes nothing.
use mathlib.Core.Path.{◌≡◌, refl, ◌∙◌, ap, sym}
use mathlib.Core.List.{List}
use mathlib.Core.Bool.{true, cond, not}
use Prim.Native.Nat.{ℕ, ◌+◌, ◌*◌, ◌/◌, ◌%◌, ◌<◌, ◌≤◌}
use native.Mathlib.Omega.{arith}
use lib.Dec.{eqb}
use lib.ListN.{length, get_or, drop, length-take, length-drop}
use lib.Seq.{get_or-take}
use borrow.Author.Tests.{eq-eqb, ne_eqb, le-leb}
use Rattle.scope.specs.Outcome.{answer, fine, first}
use Rattle.scope.specs.Block.{block_at, record_at, records_in}
use Rattle.scope.specs.Table.{list_from}
use Rattle.scope.proofs.First.{all_fine}
use Rattle.scope.proofs.Lists.{list_from_same}
use Rattle.scope.proofs.Tests.{and_both}
use Rattle.codec.specs.Valid.{Bytes}
use Rattle.codec.proofs.Bytes.{listed_all, bytes_take, bytes_drop}
use Rattle.codec.proofs.Blocks.{passed}
use Rattle.codec.proofs.Files.{file_is, length-file_of, file-blocks, file-passes, file-records, file-record}
use Rattle.rules.specs.declared.Step.{Step}
use Rattle.rules.specs.declared.Version.{Version}
use Rattle.rules.specs.declared.Version.TheVariants.{One, Two}
use Rattle.rules.specs.Steps.{letter_of, format_of, version_of, rule_in, derivations, step_bytes, step_of, step_at, step_ok, size_ok, form_test, decode_steps, encode_steps}
use Rattle.rules.proofs.Steps.{length-step, step_of_bytes, bytes_of_step}
use Rattle.steps.specs.Opened.{place_of, block_row, step_row}
use Rattle.steps.proofs.Form.{fits, records_same, record_same, size_met, blocks_met, block_fine, step_within, steps_read, read-fine, read_steps}

-- the file's blocks, each of 512 bytes
pub length-encode_steps : (v : Version) (ss : List Step) → length (encode_steps v ss) ≡ 512 * ((length ss + 125) / 126)
length-encode_steps v ss = length-file_of (format_of v) (fits (letter_of v)) step_bytes length-step ss

version_lettered : (v : Version) → cond (eqb (letter_of v) 86) Two One ≡ v
version_lettered One = refl
version_lettered Two = refl

-- 1 to 8,257,536 steps, which fill at most 65,536 blocks
module _ (v : Version) (ss : List Step) (z : Step) (some : 0 < length ss) (few : length ss ≤ 8257536) where
  abbrev file : List ℕ
  file = encode_steps v ss

  size_fine : size_ok (length file) ≡ true
  unfolding size_ok
  size_fine =
      let l = length-encode_steps v ss in
      and_both _ _ (ap not (ne_eqb (length file) 0 (λ q. omega arith)))
      (and_both _ _ (eq-eqb (length file % 512) 0 (omega arith)) (le-leb (length file) 33554432 (omega arith)))

  -- the first block has the version's letter
  pub encode_version : version_of file ≡ v
  unfolding version_of
  encode_version =
      let m = file-blocks (format_of v) (fits (letter_of v)) step_bytes length-step ss in
      let p = passed (format_of v) (block_at file 0) 0 _ (file-passes (format_of v) (fits (letter_of v)) step_bytes length-step ss 0 (omega arith)) in
      let q : get_or file 0 0 ≡ letter_of v = sym (first_byte file) ∙ p.letter in
      rw q (version_lettered v)
    where
      first_byte : (d : List ℕ) → get_or (block_at d 0) 0 0 ≡ get_or d 0 0
      first_byte d =
          let h : 0 < 512 = omega arith in
          rw get_or-take

  blocks-fine : first (block_row file) 0 (length file / 512) ≡ fine
  blocks-fine =
      let m = file-blocks (format_of v) (fits (letter_of v)) step_bytes length-step ss in
      all_fine (block_row file) (length file / 512) 0
      (λ j a b. rw (encode_version, m) (file-passes (format_of v) (fits (letter_of v)) step_bytes length-step ss j (omega arith)))

  encode-step : (k : ℕ) → k < length ss → step_at file k ≡ get_or ss k z
  encode-step k h =
      ap step_of (sym (record_same v file k) ∙ file-record (format_of v) (fits (letter_of v)) step_bytes length-step ss k z h) ∙ step_of_bytes (get_or ss k z)

  encode-count : records_in derivations file ≡ length ss
  encode-count = sym (records_same v file) ∙ file-records (format_of v) (fits (letter_of v)) step_bytes length-step ss some

  -- formed steps of the version
  module _ (formed : (k : ℕ) → k < length ss → step_ok (get_or ss k z) ≡ true) (allowed : (k : ℕ) → k < length ss → rule_in v (get_or ss k z).rule ≡ true) where
    forms-fine : first (step_row file) 0 (length ss) ≡ fine
    forms-fine =
        all_fine (step_row file) (length ss) 0
        (λ k a b. rw (encode_version, encode-step k (omega arith), formed k (omega arith), allowed k (omega arith)))

    encode-fine : form_test file ≡ fine
    unfolding form_test
    encode-fine = rw (size_fine, blocks-fine, encode-count) forms-fine

    -- their file reads as them
    pub encode-steps-read : decode_steps file ≡ answer ss
    encode-steps-read =
        steps_read file encode-fine
        ∙ ap (λ (n : ℕ). answer (list_from (step_at file) 0 n)) encode-count
        ∙ ap answer (list_from_same (step_at file) (λ k. get_or ss k z) (length ss) 0 (λ k a b. encode-step k (omega arith)) ∙ sym (listed_all z ss))

-- a derivation that reads
module _ (d : List ℕ) (ss : List Step) (all : Bytes d) (e : decode_steps d ≡ answer ss) where
  record_bytes : (k : ℕ) → k < records_in derivations d → step_bytes (step_at d k) ≡ record_at derivations d k
  unfolding record_at
  record_bytes k h =
      let size : length (record_at derivations d k) ≡ 4 = simp (length-take, length-drop) (omega (arith, step_within d (read-fine d ss e) k h)) in
      bytes_of_step (record_at derivations d k) size (bytes_take 4 (drop (place_of k) d) (bytes_drop (place_of k) d all))

  -- is the file of its steps, in its version
  pub read_encodes : d ≡ encode_steps (version_of d) ss
  read_encodes =
      let test : form_test d ≡ fine = read-fine d ss e in
      let ok = size_met d test in
      let v : Version = version_of d in
      rw (read_steps d ss e)
      (file_is (format_of v) (fits (letter_of v)) d (length d / 512) ok.1 ok.0 (block_fine d ok.0 (blocks_met d test)) all step_bytes (step_at d)
      (λ k h. record_bytes k (omega (arith, records_same v d)) ∙ sym (record_same v d k))
      ∙ ap (λ (n : ℕ). encode_steps v (list_from (step_at d) 0 n)) (records_same v d))
