-- `table::count` meets its contract: chains of zeros have no record in them. Assumes nothing.
use lib.ListN.{get_or-replicate, length-replicate}
use Prim.Native.Nat.{ℕ}
use Rattle.repeats.specs.Chains.{chain_cells}
use Rattle.table.proofs.count.Goals as goal

pub count_by-requires : goal.count_by-requires
count_by-requires c = record { size = length-replicate {A = ℕ} chain_cells 0; zeros = λ i h. get_or-replicate chain_cells i 0 0 h }
