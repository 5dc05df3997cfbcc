-- No refusal of the call has the number 0. Assumes nothing.
use mathlib.Core.List.{List, ◌++◌}
use Prim.Native.Nat.{ℕ}
use native.Mathlib.Omega.{arith}
use lib.Dec.{leb}
use lib.ListN.{length}
use Rattle.calculus.specs.Order.{Answer, possible, impossible, unfinished}
use Rattle.calculus.specs.Decide.{list_row}
use Rattle.meaning.proofs.Numbers.{Numbered, gives, refuses, then, also, row, by-numbered, list_numbered}
use Rattle.questions.specs.Asking.{answered}
use Rattle.wishing.specs.Wish.{wished}
use Rattle.wishing.specs.Call.{most_wishes, lists_row, wishes_asked, grant}

lists_numbered : (goals wishes : List ℕ) → Numbered (lists_row goals wishes)
lists_numbered goals wishes = also (list_row goals) _ (list_numbered goals) (row (leb (length wishes) most_wishes) 66 0 (omega arith))

wished-numbered : (ask : List ℕ → Answer) (goals wishes : List ℕ) (m : ℕ) (a : Answer) → Numbered (wished ask goals wishes m a)
wished-numbered ask goals wishes m (possible G) = gives _
wished-numbered ask goals wishes m impossible = refuses 67 0 (omega arith)
wished-numbered ask goals wishes m unfinished = refuses 67 0 (omega arith)

pub grant-numbered : (t goals wishes : List ℕ) (m : ℕ) (s w : List ℕ) → Numbered (grant t goals wishes m s w)
unfolding grant
grant-numbered t goals wishes m s w =
    then (wishes_asked t goals wishes (length s) (length w)) _
    (by-numbered (lists_row goals wishes) (lists_numbered goals wishes) t (goals ++ wishes) 1024 (length s) (length w))
    (λ rs. then (wished (answered rs) goals wishes m (answered rs goals)) _ (wished-numbered (answered rs) goals wishes m (answered rs goals)) (λ r. gives _))
