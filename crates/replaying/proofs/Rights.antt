-- A branch closes: the newest open split turns right, or none is open. Assumes nothing.
use mathlib.Core.Path.{◌≡◌, refl, sym, ap, ◌∙◌}
use mathlib.Core.List.{List, [], ◌∷◌, ◌++◌}
use Prim.Native.Nat.{ℕ, zero, suc, ◌+◌, ◌-◌, ◌*◌, ◌<◌, ◌≤◌}
use native.Mathlib.Omega.{arith}
use lib.ListN.{length, get_or, set, drop, length-append, length-set}
use lib.Seq.{drop-append-add}
use Rattle.scope.specs.declared.Node.{Node}
use Rattle.calculus.specs.Expansion.{neg, expand}
use Rattle.calculus.specs.Model.{Table, Below, Fresh}
use Rattle.calculus.proofs.Literals.{neg-fresh}
use Rattle.calculus.proofs.Count.{at_most}
use Rattle.calculus.proofs.Fresh.{split-fresh}
use Rattle.index.specs.Index.{most_nodes}
use Rattle.trail.specs.Trail.{lit_at, trail}
use Rattle.trail.proofs.Trails.{trail-length}
use Rattle.state.specs.Work.{tail, g_of}
use Rattle.state.specs.Holds.{Holds, Splits}
use Rattle.turns.specs.Turn.{running, back}
use Rattle.turns.proofs.Splits.{Newest, newest, none_open}
use Rattle.turns.proofs.Replay.{Replays, back_replays}
use Rattle.replaying.specs.Standing.{stack_of, Stands, Made}
use Rattle.replaying.proofs.Stacks.{stack_none, popped}
use Rattle.replaying.proofs.Standings.{good, few_open}

-- the literal that stands on as many others
newest-at : (r : ℕ → ℕ) (c : ℕ) (above : List ℕ) (l : ℕ) (under : List ℕ) → trail c r ≡ above ++ l ∷ under → lit_at r (length under) ≡ l
unfolding trail
newest-at r zero [] l under e = absurd (let z : ◌≡◌ {A = ℕ} 0 1 = cc in omega arith)
newest-at r zero (a ∷ above) l under e = absurd (let z : ◌≡◌ {A = ℕ} 0 1 = cc in omega arith)
newest-at r (suc c) [] l under e =
    let top : lit_at r c ≡ l = cc in
    let rest : trail c r ≡ under = cc in
    let size : length under ≡ c = sym (ap length rest) ∙ trail-length c r in
    ap (lit_at r) size ∙ top
newest-at r (suc c) (a ∷ above) l under e =
    let rest : trail c r ≡ above ++ l ∷ under = cc in
    newest-at r c above l under rest

-- none is open
pub made_closed : {t : ℕ → Node} {n : ℕ} {goals w m o w' m' o' : List ℕ} → Stands t n goals w m o → get_or o 0 0 ≡ 0
    → Made t n goals w' m' o' (back (expand t) goals (g_of w)) 0
made_closed {t} {goals = goals} {w} {o = o} s e =
    rw (none_open (expand t) goals (g_of w) (sym s.splits ∙ stack_none o e)) (record { number = refl; at = tt })

module _ {t : ℕ → Node} {n : ℕ} {goals w m o : List ℕ} (s : Stands t n goals w m o) (T : Table n t) (B : Below n goals) (few : n ≤ most_nodes)
    (some : get_or o 0 0 ≡ 0 → ⊥) where
  -- how many literals were held at the split, and the stack without it
  abbrev place : ℕ
  place = get_or o (get_or o 0 0) 0

  abbrev less : List ℕ
  less = set o 0 (get_or o 0 0 - 1)

  top : Newest (expand t) goals (g_of w) place (stack_of less)
  top = newest (expand t) goals (g_of w) place (stack_of less) (sym s.splits ∙ popped o s.size some)

  sizes : length (g_of w) ≡ length top.above + suc place
  sizes = omega (arith, ap length top.whole, length-append top.above (top.literal ∷ top.under), top.held)

  pub stack_low : get_or o 0 0 ≤ most_nodes
  stack_low = omega (arith, few_open s, at_most n (g_of w) (good s))

  pub place_less : place < length (g_of w)
  place_less = omega (arith, sizes)

  pub place_low : place < most_nodes
  place_low = omega (arith, sizes, at_most n (g_of w) (good s))

  under-is : drop (length (g_of w) - place) (g_of w) ≡ top.under
  under-is =
      let k : length (g_of w) - place ≡ length top.above + 1 = omega (arith, sizes) in
      ap (λ (k : ℕ). drop k (g_of w)) k ∙ ap (drop (length top.above + 1)) top.whole ∙ drop-append-add top.above (top.literal ∷ top.under) 1

  pub place_splits : Splits (expand t) goals (drop (length (g_of w) - place) (g_of w))
  place_splits = (top.literal, rw under-is top.splits)

  literal_is : {l : ℕ} → l ≡ lit_at (tail w) place → l ≡ top.literal
  literal_is e = e ∙ ap (lit_at (tail w)) (sym top.held) ∙ newest-at (tail w) (tail w 0) top.above top.literal top.under top.whole

  -- the literals above have left
  module _ {w₁ m₁ : List ℕ} (h : Holds t n goals w₁ m₁) (g : g_of w₁ ≡ drop (length (g_of w) - place) (g_of w)) {l : ℕ} (e : l ≡ lit_at (tail w) place) where
    left : g_of w₁ ≡ top.under
    left = g ∙ under-is

    split-literal : Fresh n (g_of w₁) l
    split-literal =
        rw (left, literal_is e)
        (split-fresh n t goals T B top.under (rw left at h.ready.trail.good) top.literal top.splits)

    pub literal_low : l < 2 * most_nodes
    literal_low = omega (arith, split-literal.0)

    module _ {k : ℕ} (z : k ≡ neg l) where
      pub right-fresh : Fresh n (g_of w₁) k
      right-fresh = rw z (neg-fresh n (g_of w₁) l split-literal)

      -- the negation has joined
      pub made-right : {w' m' : List ℕ} → Holds t n goals w' m' → g_of w' ≡ k ∷ g_of w₁ → Made t n goals w' m' less (back (expand t) goals (g_of w)) 2
      made-right {w'} {m'} a q =
          let b : g_of w' ≡ neg top.literal ∷ top.under = q ∙ rw (z, literal_is e, left) in
          let p : Replays (expand t) goals (running (neg top.literal ∷ top.under)) = rw top.turns at (back_replays (expand t) goals (g_of w) s.replayed) in
          rw top.turns
          (record {
            number = refl;
            at = (
              record { holds = a; replayed = rw b p; size = length-set o 0 (get_or o 0 0 - 1) ∙ s.size; splits = rw b (sym top.older) },
              b,
            );
          })
