use mathlib.Core.Path.{◌≡◌}
use Prim.Native.Nat.{ℕ}
use Rattle.scope.specs.declared.Node.{Node}
use Rattle.index.specs.Index.{first_at}
use Rattle.index.specs.Built.{Same, Early, start_of}
use Rattle.index.proofs.Wholes.{Place}
use Rattle.index.proofs.place.Given as goal

abbrev pub invariant-loop-m : goal.invariant-loop-m
invariant-loop-m l = ((t : ℕ → Node) × Early t l.n × Place t l.n l.m l.x × (l.start ≡ start_of t l.n l.m)) × Same first_at l.initial.x l.x
