-- `check_file::run` is safe: what was read lies within the buffer. Assumes nothing.
use Rattle.check_file.proofs.run.Goals as goal

pub slice_bounds-table-end : goal.slice_bounds-table-end
slice_bounds-table-end g c = c.in-Some.ensures.0

pub slice_bounds-run_derivation-end : goal.slice_bounds-run_derivation-end
slice_bounds-run_derivation-end g c = c.in-Some.ensures.1
