-- TRUE alone, 01's first sample, with one byte changed: its kind, then either byte of its check. Assumes nothing.
use Rattle.std.specs.Prelude.{◌≡◌, refl, ℕ, set}
use mathlib.Core.List.{List, [], ◌∷◌, map}
use Rattle.scope.specs.Outcome.{answer, refused, first}
use Rattle.scope.specs.Block.{weight, weighted, check_of, check_ok, head_ok, zeros, padding_ok, block_test, seal, block_of, blocks_of, file_of, record_at}
use Rattle.scope.specs.Table.{node_bytes, node_of, arity, operands, form_ok, range_ok, order_ok, read_record, any_below, repeats, record_test, length_ok, block_rows, table_test, encode}
use mathlib.Core.List

abbrev true_alone : List ℕ
true_alone = encode (record { kind = 1; a = 0; b = 0; c = 0 } ∷ [])

as_it_was : table_test true_alone ≡ answer tt
unfolding file_of blocks_of node_bytes mathlib.Core.List.flat_map block_of seal check_of weighted weight check_ok head_ok zeros padding_ok block_test record_at node_of arity operands form_ok range_ok order_ok read_record any_below repeats record_test length_ok block_rows table_test first
as_it_was = refl

one_wrong : map table_test (set true_alone 4 2 ∷ set true_alone 510 155 ∷ set true_alone 511 1 ∷ []) ≡ refused 11 0 ∷ refused 11 0 ∷ refused 11 0 ∷ []
unfolding file_of blocks_of node_bytes mathlib.Core.List.flat_map block_of seal check_of weighted weight check_ok block_test length_ok block_rows table_test first
one_wrong = refl
