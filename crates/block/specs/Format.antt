-- Which formats a block can hold. Assumes nothing.
use Rattle.std.specs.Prelude.{◌*◌, ◌≤◌, ◌<◌}
use Rattle.scope.specs.declared.Format.{Format}

-- the records of a full block fit between the heading and the check, and the three refusals fit a 16-bit number
pub record Fitting (F : Format) : Type 0 where
  pub room : F.width * F.capacity ≤ 506
  pub numbered : F.number < 65000
