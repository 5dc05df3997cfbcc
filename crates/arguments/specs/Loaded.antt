-- What loading a file answers. Assumes nothing.
use Rattle.std.specs.Prelude.{List, ℕ, Option, Some, None}
use Rattle.text.specs.Counts.{IsPrefixLen}

-- the bytes that were read stand at the buffer's start
abbrev pub Holds : Option ℕ → List ℕ → Type 0
Holds (Some n) buf = IsPrefixLen n buf
Holds None buf = Unit {0}
