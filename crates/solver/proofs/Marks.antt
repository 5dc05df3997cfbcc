-- A position is entered by its code. Assumes nothing.
use mathlib.Core.Path.{◌≡◌, refl, sym, ap, ◌∙◌, subst}
use mathlib.Core.Bool.{true, false, false≢true}
use mathlib.Core.Logic.{◌⊎◌, inl, inr}
use mathlib.Core.List.{List}
use Prim.Native.Nat.{ℕ, ◌+◌, ◌-◌, ◌*◌, ◌/◌, ◌%◌, ◌<◌, ◌≤◌}
use native.Mathlib.Omega.{arith}
use native.Mathlib.Decide.{ℕ_discrete}
use lib.ListN.{length, get_or, length-set}
use lib.Seq.{get_or-set_same, get_or-set_other}
use Rattle.scope.specs.declared.Node.{Node}
use Rattle.scope.specs.Table.{operands}
use Rattle.calculus.specs.Expansion.{chosen}
use Rattle.calculus.specs.Order.{State, is_empty, is_one, some}
use Rattle.calculus.specs.Model.{Table}
use Rattle.calculus.proofs.Lists.{all_imply}
use Rattle.calculus.proofs.Literals.{neg_below}
use Rattle.calculus.proofs.Fresh.{chosen_all}
use Rattle.calculus.proofs.Moves.{bit-true, bit-false}
use Rattle.index.specs.Index.{most_nodes}
use Rattle.units.specs.Units.{member, Units}
use Rattle.clause.specs.Coded.{states_of, Coded}
use Rattle.state.specs.Work.{tail, lit_at, entry_of, code_at, g_of, conflict_of, Ready, trail_at, literals_at, values_at, codes_at}
use Rattle.state.specs.Holds.{states_at, Forces, Entered, Late, Closed}
use Rattle.state.proofs.Areas.{count_most, held_still, ready_same}
use Rattle.solver.specs.Changes.{Beside, Lowered, Flagged, Renewed, Visited}

pub beside_same : (w : List ℕ) → Beside w w
beside_same w = record { size = refl; other = λ i e k. refl }

-- ---- what stands where no more than the codes and the first conflict changes

module _ {n : ℕ} {w w' : List ℕ} (few : n ≤ most_nodes) (h : Ready n w) (b : Beside w w') where
  pub still_at : (i : ℕ) → i < codes_at → tail w' i ≡ tail w i
  still_at i k = b.other (trail_at + i) (λ e. omega (arith, e)) (omega (arith, k))

  pub still_list : g_of w' ≡ g_of w
  still_list = held_still few h.trail (λ i k. still_at i (omega (arith, k)))

  pub still_ready : Ready n w'
  still_ready = ready_same few h b.size (λ i k. still_at i (omega (arith, k))) (λ l k. still_at (values_at + l) (omega (arith, k)))

  pub still_literal : (q : ℕ) → q < tail w 0 → lit_at (tail w') q ≡ lit_at (tail w) q
  still_literal q i = still_at (literals_at + q) (omega (arith, i, count_most h, few))

  pub still_states : (t : ℕ → Node) (q : ℕ) → q < tail w 0 → states_at t (g_of w') (tail w') q ≡ states_at t (g_of w) (tail w) q
  still_states t q i = ap (λ (G : List ℕ). states_of t G (lit_at (tail w') q)) still_list ∙ ap (states_of t (g_of w)) (still_literal q i)

-- an entered position stays so where its states, its bit and what is kept of it stay and the first conflict is not later
module _ {t : ℕ → Node} {G G' : List ℕ} {r r' : ℕ → ℕ} {c c' : ℕ} {m m' : List ℕ} {q : ℕ} (z : states_at t G' r' q ≡ states_at t G r q) (k : c' ≤ c)
    (s : (member m' q ≡ member m q) × (code_at r' q ≡ code_at r q)) where
  pub entered_still : Entered t G r c m q → Entered t G' r' c' m' q
  entered_still e = record {
    unit = λ f y.
        let (a, b) = e.unit (omega (arith, f, k)) (sym (ap (some is_one) z) ∙ y) in
        (s.0 ∙ a, subst (λ (ss : List State). Forces ss (code_at r' q)) (sym z) (subst (Forces (states_at t G r q)) (sym s.1) b));
    conflict = λ y. omega (arith, e.conflict (sym (ap (some is_empty) z) ∙ y), k);
  }

  pub late_still : {n : ℕ} → G' ≡ G → Late t n G r c m q → Late t n G' r' c' m' q
  late_still {n} g e = record {
    low = λ y. rw s.1 (e.low (sym s.0 ∙ y));
    live = λ f y u. ap (some is_one) z ∙ e.live (omega (arith, f, k)) (sym s.0 ∙ y) (rw (g, s.1) at u);
  }

-- a first conflict where the states stay
pub closed_still : (t : ℕ → Node) (G G' : List ℕ) (r r' : ℕ → ℕ) (c : ℕ) → r' 0 ≡ r 0 → ((q : ℕ) → q < r 0 → states_at t G' r' q ≡ states_at t G r q)
    → Closed t G r c → Closed t G' r' c
closed_still t G G' r r' c n z o i = let (a, b) = o i in (omega (arith, a, n), ap (some is_empty) (z c a) ∙ b)

-- ---- what `conflict` and `unit` do

-- ---- a position is entered, by what the states of its clauses are

pub held_low : {n : ℕ} {w : List ℕ} {q : ℕ} → n ≤ most_nodes → Ready n w → q < tail w 0 → q < most_nodes
held_low few h b = omega (arith, b, count_most h, few)

-- what is kept of a position is stored, and nothing else
module _ {n : ℕ} {w m w' m' : List ℕ} {q k : ℕ} (few : n ≤ most_nodes) (h : Ready n w) (b : q < tail w 0) (g : Flagged w m q k w' m') where
  pub flagged_other : (j : ℕ) → (j ≡ trail_at + (codes_at + q) → ⊥) → get_or w' j 0 ≡ get_or w j 0
  flagged_other j d = rw g.stored (get_or-set_other w (trail_at + (codes_at + q)) j k 0 d)

  pub flagged_stored : code_at (tail w') q ≡ k
  flagged_stored = rw g.stored (get_or-set_same w (trail_at + (codes_at + q)) k 0 (omega (arith, h.size, held_low few h b)))

module _ (t : ℕ → Node) {n : ℕ} {w : List ℕ} {q : ℕ} (few : n ≤ most_nodes) (h : Ready n w) (b : q < tail w 0) where
  abbrev r : ℕ → ℕ
  r = tail w

  abbrev ss : List State
  ss = states_at t (g_of w) r q

  -- a clause is all false
  pub renewed_empty : {m w' : List ℕ} → Units m → some is_empty ss ≡ true → Lowered w q w' → Renewed t n w m q w' m
  renewed_empty {m} {w'} u y k = record {
    beside = beside;
    units = u;
    lower = k.lower;
    closed = λ o. closed_still t (g_of w) (g_of w') r (tail w') (conflict_of w') (still_at few h beside 0 (omega arith)) (still_states few h beside t) (go o k.from);
    here = record { unit = λ f o. absurd (omega (arith, f, k.least, held_low few h b)); conflict = λ o. k.least };
    late = λ e. record { low = λ o. rw (code q) (e.low o); live = λ f o v. absurd (omega (arith, f, k.least, held_low few h b)) };
    else = λ j i d. (refl, code j);
  }
    where
      beside : Beside w w'
      beside = record { size = k.size; other = λ i d o. k.other i d }

      code : (j : ℕ) → code_at (tail w') j ≡ code_at r j
      code j = k.other (trail_at + (codes_at + j)) (λ e. omega (arith, e))

      go : Closed t (g_of w) r (conflict_of w) → (conflict_of w' ≡ conflict_of w) ⊎ (conflict_of w' ≡ q) → Closed t (g_of w) r (conflict_of w')
      go o (inl e) = subst (Closed t (g_of w) r) (sym e) o
      go o (inr e) = subst (Closed t (g_of w) r) (sym e) (λ i. (b, y))

  -- none is, and one is a unit
  pub renewed_unit : {m w' m' : List ℕ} {k : ℕ} → some is_empty ss ≡ false → some is_one ss ≡ true → Forces ss k → k % 4096 < 2 * n → Flagged w m q k w' m'
      → Renewed t n w m q w' m'
  renewed_unit {m} {w'} {m'} {k} none y f i g = record {
    beside = beside;
    units = g.putted.units;
    lower = omega (arith, same);
    closed = λ o.
        closed_still t (g_of w) (g_of w') r (tail w') (conflict_of w') (still_at few h beside 0 (omega arith)) (still_states few h beside t)
        (subst (Closed t (g_of w) r) (sym same) o);
    here = record {
      unit = λ d o. (g.putted.here, subst (λ (s : List State). Forces s (code_at (tail w') q)) (sym still) (subst (Forces ss) (sym (flagged_stored few h b g)) f));
      conflict = λ o. absurd (false≢true (sym none ∙ sym (ap (some is_empty) still) ∙ o));
    };
    late = λ e. record { low = λ o. rw (flagged_stored few h b g) i; live = λ d o v. ap (some is_one) still ∙ y };
    else = λ j o d. (g.putted.other j o d, other (trail_at + (codes_at + j)) (λ e. d (omega (arith, e))));
  }
    where
      other : (j : ℕ) → (j ≡ trail_at + (codes_at + q) → ⊥) → get_or w' j 0 ≡ get_or w j 0
      other = flagged_other few h b g

      beside : Beside w w'
      beside = record { size = rw g.stored (length-set w (trail_at + (codes_at + q)) k); other = λ j d o. other j (λ e. omega (arith, e, o)) }

      same : conflict_of w' ≡ conflict_of w
      same = other 1 (λ e. omega (arith, e))

      still : states_at t (g_of w') (tail w') q ≡ ss
      still = still_states few h beside t q b

  -- neither
  pub renewed_same : {m : List ℕ} → Units m → some is_empty ss ≡ false → some is_one ss ≡ false → Renewed t n w m q w m
  renewed_same u none y = record {
    beside = beside_same w;
    units = u;
    lower = omega arith;
    closed = λ o. o;
    here = record { unit = λ d o. absurd (false≢true (sym y ∙ o)); conflict = λ o. absurd (false≢true (sym none ∙ o)) };
    late = λ e. e;
    else = λ j o d. (refl, refl);
  }

-- by its code
module _ (t : ℕ → Node) {n : ℕ} (T : Table n t) {w : List ℕ} {q p : ℕ} (few : n ≤ most_nodes) (h : Ready n w) (b : q < tail w 0) (i : p < n)
    {code : ℕ} (c : Coded (t p) (states_at t (g_of w) (tail w) q) code) where
  abbrev states : List State
  states = states_at t (g_of w) (tail w) q

  one : code % 2 ≡ 1 → some is_one states ≡ true
  one e = bit-true (some is_one states) (sym c.unit ∙ e)

  fine : (code / 2 % 2 ≡ 1 → ⊥) → some is_empty states ≡ false
  fine e = bit-false (some is_empty states) (λ y. e (c.conflict ∙ y))

  pub coded_empty : {m w' : List ℕ} → Units m → code / 2 % 2 ≡ 1 → Lowered w q w' → Renewed t n w m q w' m
  coded_empty u e = renewed_empty t few h b u (bit-true (some is_empty states) (sym c.conflict ∙ e))

  pub coded_same : {m : List ℕ} → Units m → (code / 2 % 2 ≡ 1 → ⊥) → (code % 2 ≡ 1 → ⊥) → Renewed t n w m q w m
  coded_same u d e = renewed_same t few h b u (fine d) (bit-false (some is_one states) (λ y. e (c.unit ∙ y)))

  module _ (e : code % 2 ≡ 1) where
    pub choice_low : code / 32 % 8 / 2 < length (operands (t p))
    choice_low = (c.unit_literal (one e)).0

    module _ {l : ℕ} (v : l ≡ chosen (t p) (code / 32 % 8)) where
      abbrev kept : ℕ
      kept = l + 4096 * (code / 8 % 4)

      low : l < 2 * n
      low =
          rw v (chosen_all (λ l. l < 2 * n) (neg_below n) (t p)
          (all_imply (λ l. l / 2 < p) (λ l. l < 2 * n) (λ l y. omega (arith, y, i)) (operands (t p)) (T.earlier p i)) (code / 32 % 8) choice_low)

      pub code-small : l < 4096
      code-small = omega (arith, low, few)

      forces : Forces states kept
      forces = record {
        column = div ∙ c.unit_clause (one e);
        literal = rem ∙ v ∙ (c.unit_literal (one e)).1;
      }
        where
          div : kept / 4096 ≡ code / 8 % 4
          div = omega (arith, code-small)

          rem : kept % 4096 ≡ l
          rem = omega (arith, code-small)

      pub coded-unit : {m w' m' : List ℕ} → (code / 2 % 2 ≡ 1 → ⊥) → Flagged w m q kept w' m' → Renewed t n w m q w' m'
      coded-unit d = renewed_unit t few h b (fine d) (one e) forces (omega (arith, low, few))

-- ---- what `visit` does

-- nothing, where the position is entered
pub visited_same : {t : ℕ → Node} {n p : ℕ} {w m : List ℕ} → Units m
    → ((q : ℕ) → q < tail w 0 → lit_at (tail w) q / 2 ≡ p → Entered t (g_of w) (tail w) (conflict_of w) m q) → Visited t n w m p w m
visited_same {w = w} u here = record {
  beside = beside_same w;
  units = u;
  lower = omega arith;
  closed = λ k. k;
  here = here;
  late = λ q i e. e;
  else = λ q i k. (refl, refl);
}

module _ {n : ℕ} {w : List ℕ} {p : ℕ} (h : Ready n w) (b : p < n) where
  abbrev r₀ : ℕ → ℕ
  r₀ = tail w

  -- the position of a literal of the node, by its entry
  only : (q : ℕ) → q < r₀ 0 → lit_at r₀ q / 2 ≡ p → entry_of r₀ p ≡ 2 * q + lit_at r₀ q % 2 + 1
  only q i e = sym (ap (entry_of r₀) e) ∙ h.trail.place q i

  module _ {e : ℕ} (entry : e ≡ entry_of r₀ p) (some-e : e ≡ 0 → ⊥) where
    abbrev at : ℕ
    at = (e - 1) / 2

    pub at_low : at < r₀ 0
    at_low = omega (arith, entry, some-e, h.trail.low p b)

    pub at-node : lit_at r₀ at / 2 ≡ p
    at-node = subst (λ (k : ℕ). lit_at r₀ ((k - 1) / 2) / 2 ≡ p) (sym entry) (h.trail.from p b (λ z. omega (arith, entry, some-e, z)))

    at_literal : lit_at r₀ at ≡ 2 * p + (e - 1) % 2
    at_literal = omega (arith, at-node, only at at_low at-node, entry)

    pub at-coded : (t : ℕ → Node) {code : ℕ} → Coded (t p) (states_of t (g_of w) (2 * p + (e - 1) % 2)) code → Coded (t p) (states_at t (g_of w) r₀ at) code
    at-coded t c = rw at_literal c

    at_only : (q : ℕ) → q < r₀ 0 → lit_at r₀ q / 2 ≡ p → q ≡ at
    at_only q i k = omega (arith, only q i k, entry)

    pub visited : n ≤ most_nodes → {t : ℕ → Node} {m w' m' : List ℕ} → Renewed t n w m at w' m' → Visited t n w m p w' m'
    visited few {t} {m} {w'} {m'} k = record {
      beside = k.beside;
      units = k.units;
      lower = k.lower;
      closed = k.closed;
      here = λ q i y. subst (Entered t (g_of w') (tail w') (conflict_of w') m') (sym (at_only q i y)) k.here;
      late = λ q i y. go q i y (ℕ_discrete q at);
      else = λ q i y. k.else q i (λ z. y (subst (λ (o : ℕ). o < r₀ 0) (sym z) at_low) (subst (λ (o : ℕ). lit_at r₀ o / 2 ≡ p) (sym z) at-node));
    }
      where
        go : (q : ℕ) → q < r₀ 0 → Late t n (g_of w) r₀ (conflict_of w) m q → Dec (q ≡ at) → Late t n (g_of w') (tail w') (conflict_of w') m' q
        go q i y (yes z) =
            subst (Late t n (g_of w') (tail w') (conflict_of w') m') (sym z) (k.late (subst (Late t n (g_of w) r₀ (conflict_of w) m) z y))
        go q i y (no z) =
            late_still (still_states few h k.beside t q i) k.lower (k.else q (omega (arith, i, count_most h, few)) z) (still_list few h k.beside) y

    -- where no clause of it is a unit or all false, nothing is entered
    pub visited-idle : {t : ℕ → Node} {m : List ℕ} {code : ℕ} → Table n t → n ≤ most_nodes → Units m
        → Coded (t p) (states_of t (g_of w) (2 * p + (e - 1) % 2)) code → code % 4 ≡ 0 → Visited t n w m p w m
    visited-idle {t} T few u c z =
        visited few (coded_same t T few h at_low b (at-coded t c) u (λ y. omega (arith, y, z)) (λ y. omega (arith, y, z)))
