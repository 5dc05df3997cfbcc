-- A good list has at most one literal of each node, so no more literals than there are nodes. Assumes nothing.
use mathlib.Core.Path.{◌≡◌, refl, sym, ap, ◌∙◌}
use mathlib.Core.List.{List, [], ◌∷◌, map}
use mathlib.Core.Bool.{false, not}
use Prim.Native.Nat.{ℕ, suc, ◌+◌, ◌/◌, ◌<◌, ◌≤◌}
use native.Mathlib.Omega.{arith}
use lib.Dec.{eqb}
use lib.ListN.{length}
use borrow.Author.Tests.{eqb-false}
use Rattle.calculus.specs.Count.{tally}
use Rattle.scope.proofs.Tests.{or_left, or_right}
use Rattle.calculus.proofs.Tally.{tally-less, tally_all}
use Rattle.calculus.specs.Expansion.{neg}
use Rattle.calculus.specs.Order.{mem}
use Rattle.calculus.specs.Model.{Fresh, Good}
use Rattle.calculus.proofs.Literals.{mem_same, mem_other, undecided_mem}

-- how many numbers below n a list misses
abbrev missing : ℕ → List ℕ → ℕ
missing n xs = tally (λ i. not (mem i xs)) n

-- a new number below n is one less to miss
missing_less : (n : ℕ) (xs : List ℕ) (x : ℕ) → x < n → mem x xs ≡ false → suc (missing n (x ∷ xs)) ≡ missing n xs
missing_less n xs x h e =
    tally-less (λ i. not (mem i xs)) (λ i. not (mem i (x ∷ xs))) x n h (λ j d. ap not (sym (mem_other xs x j d))) (ap not e) (ap not (mem_same xs x x refl))

-- the nodes of literals
abbrev nodes : List ℕ → List ℕ
nodes G = map (◌/ 2) G

-- the node of a literal is new where neither of its literals is held
node_new : (G : List ℕ) (l : ℕ) → mem l G ≡ false → mem (neg l) G ≡ false → mem (l / 2) (nodes G) ≡ false
unfolding mem
node_new [] l p q = refl
node_new (x ∷ G) l p q =
    let a : l ≡ x → ⊥ = eqb-false l x (or_left (eqb l x) (mem l G) p) in
    let b : neg l ≡ x → ⊥ = eqb-false (neg l) x (or_left (eqb (neg l) x) (mem (neg l) G) q) in
    mem_other (nodes G) (x / 2) (l / 2) (λ e. omega arith)
    ∙ node_new G l (or_right (eqb l x) (mem l G) p) (or_right (eqb (neg l) x) (mem (neg l) G) q)

all_missed : (n : ℕ) → missing n [] ≡ n
unfolding mem
all_missed n = tally_all (λ i. not (mem i [])) n (λ j h. refl)

-- each literal of a good list takes one node
counted : (n : ℕ) (G : List ℕ) → Good n G → length G + missing n (nodes G) ≡ n
counted n [] g = omega (arith, all_missed n)
counted n (l ∷ G) g =
    let u = undecided_mem G l g.0.1 in
    omega (arith, counted n G g.1, missing_less n (nodes G) (l / 2) (omega (arith, g.0.0)) (node_new G l u.0 u.1))

-- no more literals than nodes
pub at_most : (n : ℕ) (G : List ℕ) → Good n G → length G ≤ n
at_most n G g = omega (arith, counted n G g)

-- where a literal may join, there is room
pub room : (n : ℕ) (G : List ℕ) (l : ℕ) → Good n G → Fresh n G l → length G < n
room n G l g f = at_most n (l ∷ G) (f, g)
