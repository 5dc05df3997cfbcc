-- `check_file::run_derivation` is safe: what was read lies within the buffer. Assumes nothing.
use Rattle.check_file.proofs.run_derivation.Goals as goal

pub slice_bounds-say-end : goal.slice_bounds-say-end
slice_bounds-say-end g c = c.in-Some.ensures.1
