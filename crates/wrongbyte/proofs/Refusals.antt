-- One wrong byte in a readable table brings refusal 11 at its block, and in a derivation whose blocks pass, 41. Assumes nothing.
use mathlib.Core.Path.{◌≡◌, ◌∙◌, refl, ap}
use mathlib.Core.List.{List}
use mathlib.Core.Bool.{Bool, true}
use Prim.Native.Nat.{ℕ, suc, ◌+◌, ◌*◌, ◌/◌, ◌%◌, ◌<◌, ◌≤◌}
use native.Mathlib.Nat.{zero-add}
use native.Mathlib.Omega.{arith}
use lib.Dec.{eqb}
use lib.ListN.{length, get_or, drop}
use Rattle.scope.specs.declared.Format.{Format}
use Rattle.scope.specs.declared.Node.{Node}
use Rattle.scope.specs.Outcome.{Outcome, answer, refused, fine, first, ◌>>=◌}
use Rattle.scope.specs.Block.{block_at, check_ok, block_test}
use Rattle.scope.specs.Table.{tables, record_test, length_ok, block_rows, table_test, decode}
use Rattle.scope.specs.OneByte.{OneByte}
use Rattle.scope.proofs.First.{all_fine, fine_each, first_refuses}
use Rattle.scope.proofs.Tests.{then_next}
use Rattle.scope.proofs.Checks.{test_refuses}
use Rattle.codec.specs.Valid.{Bytes}
use Rattle.codec.proofs.Rows.{row}
use Rattle.codec.proofs.Bytes.{bytes_take, bytes_drop}
use Rattle.codec.proofs.Blocks.{passed}
use Rattle.codec.proofs.Files.{whole_length}
use Rattle.codec.proofs.Tables.{length_ok_lem, rows, pass, answers}
use Rattle.rules.specs.declared.Version.{Version}
use Rattle.rules.specs.declared.Version.TheVariants.{One, Two}
use Rattle.rules.specs.Steps.{format_of, version_of, size_ok, form_test, decode_steps}
use Rattle.steps.specs.Opened.{block_row}
use Rattle.wrongbyte.specs.Wrong.{blocks_test, BlocksPass}
use Rattle.wrongbyte.proofs.Files.{block_same, block_one, record_tested}

-- the refusals of a block are 41 to 43 in either version
numbered : (v : Version) → (format_of v).number ≡ 41
numbered One = refl
numbered Two = refl

module _ (t u : List ℕ) (k : ℕ) (old : Bytes t) (new : Bytes u) (o : OneByte t u k) where
  -- the wrong byte's block, which passed its check, is refused by it: of any format, whatever index and place it is tested for
  pub block_refuses : k / 512 < length t / 512 → check_ok (block_at t (k / 512)) ≡ true
      → (F : Format) (index : ℕ) (last : Bool) → block_test F (block_at u (k / 512)) index last ≡ refused F.number index
  block_refuses h ok =
      let j : ℕ = k / 512 in
      let b = block_one t u k o h in
      test_refuses (block_at t j) (block_at u j) (k % 512) b.0 (bytes_take 512 (drop (512 * j) t) (bytes_drop (512 * j) t old))
      (bytes_take 512 (drop (512 * j) u) (bytes_drop (512 * j) u new)) b.1 ok

  -- A file of any format F whose blocks pass. The changed one may be tested for another format G, as where the letter is read off block 0:
  -- all that is asked is that it is the same unless the wrong byte is in block 0
  pub blocks_refuse : (F G : Format) → k / 512 < length t / 512 → (0 < k / 512 → G ≡ F) → blocks_test F t ≡ fine
      → blocks_test G u ≡ refused G.number (k / 512)
  blocks_refuse F G h same ok =
      rw o.long
      (first_refuses (λ j. block_test G (block_at u j) j (eqb (suc j) (length t / 512))) G.number (k / 512) (length t / 512) 0 (k / 512) h before
      (rw zero-add (block_refuses h (passed F (block_at t (k / 512)) (k / 512) _ (was (k / 512) h)).check G (k / 512) _)))
    where
      was : (j : ℕ) → j < length t / 512 → block_test F (block_at t j) j (eqb (suc j) (length t / 512)) ≡ fine
      was j l = fine_each (λ i. block_test F (block_at t i) i (eqb (suc i) (length t / 512))) (length t / 512) 0 ok j (omega arith) (omega arith)

      before : (j : ℕ) → 0 ≤ j → j < 0 + k / 512 → block_test G (block_at u j) j (eqb (suc j) (length t / 512)) ≡ fine
      before j a b = rw (same (omega arith), block_same t u k o j (λ q. omega arith)) (was j (omega arith))

  -- ---- a table that reads

  module _ (test : table_test t ≡ fine) where
    within : k / 512 < length t / 512
    within = omega (arith, (length_ok_lem t old test).1, o.inside)

    -- the rows of a block before pass as they did
    rows_pass : (j : ℕ) → j < k / 512 → block_rows u j ≡ fine
    unfolding block_rows
    rows_pass j h =
        let p = pass t old test j (omega (arith, within)) in
        let most = (passed tables (block_at t j) j (eqb (suc j) (length t / 512)) p).most in
        let records = then_next (block_test tables (block_at t j) j (eqb (suc j) (length t / 512)))
        (first (record_test t) (63 * j) (get_or (block_at t j) 1 0)) (rows t old test j (omega (arith, within))) in
        rw (block_same t u k o j (λ q. omega arith), o.long, p)
        (all_fine (record_test u) (get_or (block_at t j) 1 0) (63 * j)
        (λ n a b. record_tested t u k o n (omega (arith, most)) ∙ fine_each (record_test t) (get_or (block_at t j) 1 0) (63 * j) records n a b))

    -- its own block is refused
    rows_refuse : block_rows u (k / 512) ≡ refused 11 (k / 512)
    unfolding block_rows
    rows_refuse =
        let ok = (passed tables (block_at t (k / 512)) (k / 512) _ (pass t old test (k / 512) within)).check in
        rw (block_refuses within ok tables (k / 512) (eqb (suc (k / 512)) (length u / 512)))

    pub table_refuses : table_test u ≡ refused 11 (k / 512)
    unfolding table_test
    table_refuses =
        let ok = (row (length_ok (length t)) 10 0 (first (block_rows t) 0 (length t / 512)) test).0 in
        rw (o.long, ok)
        (first_refuses (block_rows u) 11 (k / 512) (length t / 512) 0 (k / 512) within (λ j a b. rows_pass j (omega arith))
        (rw zero-add rows_refuse))

  -- 'For every readable table .. refusal 11 .. at that block'
  pub decode_refuses : (rs : List Node) → decode t ≡ answer rs → decode u ≡ refused 11 (k / 512)
  unfolding decode
  decode_refuses rs e = rw (table_refuses (answers t rs e).0)

  -- '.. from every call that gets as far': whatever a call does with the nodes
  pub call_refuses : {A : Type 0} (next : List Node → Outcome A) (rs : List Node) → decode t ≡ answer rs → (decode u >>= next) ≡ refused 11 (k / 512)
  call_refuses next rs e = rw (decode_refuses rs e)

  -- ---- a derivation whose blocks pass

  module _ (ok : BlocksPass (format_of (version_of t)) t) where
    inside : k / 512 < length t / 512
    unfolding size_ok
    inside = omega (arith, (whole_length 65536 (length t) ok.size).1, o.inside)

    -- a byte of a later block leaves the letter of block 0
    version-kept : 0 < k / 512 → format_of (version_of u) ≡ format_of (version_of t)
    unfolding version_of
    version-kept h = rw (o.rest 0 (λ z. omega arith))

    pub size-kept : size_ok (length u) ≡ true
    size-kept = rw o.long ok.size

    -- the rows of the one block, which is all that a step by its index looks at
    pub row-refuses : block_row u (k / 512) ≡ refused 41 (k / 512)
    row-refuses =
        let was = fine_each (block_row t) (length t / 512) 0 ok.blocks (k / 512) (omega arith) (omega (arith, inside)) in
        block_refuses inside (passed (format_of (version_of t)) (block_at t (k / 512)) (k / 512) _ was).check (format_of (version_of u)) (k / 512) _
        ∙ ap (λ (n : ℕ). refused n (k / 512)) (numbered (version_of u))

    pub form-refuses : form_test u ≡ refused 41 (k / 512)
    unfolding form_test
    form-refuses =
        rw (size-kept, blocks_refuse (format_of (version_of t)) (format_of (version_of u)) inside version-kept ok.blocks, numbered (version_of u))

    -- 'every derivation whose blocks pass 40 to 43 .. 41 at that block'
    pub steps-refuse : decode_steps u ≡ refused 41 (k / 512)
    unfolding decode_steps
    steps-refuse = rw form-refuses
