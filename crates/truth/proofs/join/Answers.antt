-- `truth::join` meets its contract: a number of the rows. Assumes nothing.
use mathlib.Core.List.{List, []}
use mathlib.Core.Path.{◌∙◌, ap}
use Prim.Native.Nat.{ℕ, ◌-◌, ◌*◌, ◌+◌}
use lib.ListN.{get_or}
use Rattle.truth.proofs.Levels.{join_is}
use Rattle.truth.proofs.join.Goals as goal

pub returns : goal.returns
returns c = ap (λ (t : List (List ℕ)). get_or (get_or t (c.args.kind - 3) []) (3 * c.args.x + c.args.y) 0) c.requires.joins_value
    ∙ join_is c.args.kind c.args.x c.args.y c.requires.lt_kind.0 c.requires.lt_kind.1 c.requires.lt_kind.2 c.requires.lt_kind.3
