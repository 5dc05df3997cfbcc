-- `table::record_of` meets its contract: the count's refusal, row 20, or the record, which reads since its table does.
-- Assumes nothing.
use mathlib.Core.Path.{◌≡◌, ◌∙◌, ap, sym}
use mathlib.Core.List.{List}
use Prim.Native.Nat.{ℕ, ◌+◌, ◌<◌, ◌≤◌, ◌/◌}
use lib.ListN.{length}
use Rattle.scope.specs.Outcome.{answer}
use Rattle.scope.specs.Calls.{table_count}
use Rattle.record.specs.Place.{place_of}
use Rattle.scope.specs.Block.{records_in}
use Rattle.scope.specs.Table.{tables, read_record}
use Rattle.scope.proofs.Tests.{handed_on}
use Rattle.scope.proofs.Records.{part_record}
use Rattle.codec.specs.Valid.{Bytes}
use Rattle.codec.proofs.Tables.{few-records, record_reads}
use Rattle.table.proofs.Rows.{counted, literal_refused, literal-over, literal_node, record_within}
use native.Mathlib.Omega.{arith}
use Rattle.table.proofs.record_of.Goals as goal

-- a count that was answered is of at most 2,016 nodes
few : (t : List ℕ) {n : ℕ} → Bytes t → table_count t ≡ answer n → n ≤ 2016
few t b e =
    let q = counted t e in
    rw q.1 (few-records t b q.0)

-- .. and the record of each lies within the table
inside : (t : List ℕ) (m : ℕ) {n : ℕ} → Bytes t → table_count t ≡ answer n → m < n → place_of m + 8 ≤ length t
inside t m b e h =
    let q = counted t e in
    record_within t b q.0 m (rw q.1 at h)

pub overflow_mul-nodes : goal.overflow_mul-nodes
overflow_mul-nodes c = omega (arith, few c.args.t.now (λ i. (c.type_inv.t i).fits) (sym c.in_ok-nodes.ensures))

pub returns-then-nodes-literal : goal.returns-then-nodes-literal
returns-then-nodes-literal c =
    let reads = counted _ (sym c.in_ok-nodes.ensures) in
    sym (literal-over _ _ reads.0 (omega (arith, c.if-nodes-literal.true, reads.1)))

pub place-at-requires : goal.place-at-requires
place-at-requires c = omega (arith, c.if-nodes-literal.false, few c.args.t.now (λ i. (c.type_inv.t i).fits) (sym c.in_ok-nodes.ensures))

pub slice_bounds-read_record-end : goal.slice_bounds-read_record-end
slice_bounds-read_record-end c =
    let most = inside c.args.t.now (c.args.literal / 2) (λ i. (c.type_inv.t i).fits) (sym c.in_ok-nodes.ensures) (omega (arith, c.if-nodes-literal.false)) in
    omega (arith, c.place-at.ensures, most)

pub returns-in_err-nodes : goal.returns-in_err-nodes
returns-in_err-nodes c = handed_on (λ x. x) _ c.from_residual.ensures.1 ∙ sym (literal_refused _ _ (sym c.in_err-nodes.ensures))

pub returns : goal.returns
returns c =
    let reads = counted _ (sym c.in_ok-nodes.ensures) in
    let n : c.args.literal / 2 < records_in tables c.args.t.now = omega (arith, c.if-nodes-literal.false, reads.1) in
    c.read_record.ensures
    ∙ ap (λ (l : List ℕ). read_record l (c.args.literal / 2)) (part_record tables c.args.t.now (c.args.literal / 2) _ c.place-at.ensures)
    ∙ record_reads c.args.t.now (λ i. (c.type_inv.t i).fits) reads.0 (c.args.literal / 2) n
    ∙ sym (literal_node c.args.t.now c.args.literal reads.0 (omega (arith, c.if-nodes-literal.false, reads.1)))
