-- What looking for a node answers. Assumes nothing.
use Rattle.std.specs.Prelude.{ℕ, cond, ltb, Option, Some, None}

-- an index, where it is among the first n
abbrev pub among : ℕ → ℕ → Option ℕ
among n i = cond (ltb i n) (Some i) None
