-- A literal joins: what holds then. Assumes nothing.
use mathlib.Core.Path.{◌≡◌, refl, sym, ap, ◌∙◌, subst}
use mathlib.Core.Logic.{◌⊎◌, inl, inr, ⊎_elim}
use mathlib.Core.List.{List, ◌∷◌}
use Prim.Native.Nat.{ℕ, suc, ◌+◌, ◌*◌, ◌/◌, ◌%◌, ◌<◌, ◌≤◌}
use native.Mathlib.Omega.{arith}
use native.Mathlib.Numerals.{add-one}
use native.Mathlib.Decide.{dec_lt, ℕ_discrete}
use lib.ListN.{length, get_or, length-map, length-set}
use lib.Seq.{get_or-set_same, get_or-set_other}
use Rattle.scope.specs.declared.Node.{Node}
use Rattle.calculus.specs.Expansion.{expand}
use Rattle.calculus.specs.Order.{holds, undecided, value_of, state_of, clauses, is_empty, is_one, some}
use Rattle.calculus.specs.Model.{Goals, Fresh}
use Rattle.calculus.proofs.Literals.{value_joined}
use Rattle.calculus.proofs.Sizes.{clauses_more}
use Rattle.calculus.proofs.Stays.{holds_fails, holds_stays, was_undecided, fails_joined, all_met_stays, some-empty_stays, first-stays, first-changes, first_undecided}
use Rattle.trail.proofs.Trails.{trail-length, trail_same}
use Rattle.index.specs.Index.{index_node, most_nodes}
use Rattle.index.specs.Edges.{Names}
use Rattle.index.specs.Indexed.{Indexed}
use Rattle.index.proofs.Stays.{still_or}
use Rattle.units.specs.Units.{member, positions, Units, Putted}
use Rattle.clause.specs.Coded.{states_of, Coded}
use Rattle.state.specs.Work.{tail, lit_at, base_of, cursor_at, code_at, cursor_of, conflict_of, waiting_of, g_of, trail, Ready, Numbered, trail_at, literals_at, bases_at, values_at, cursors_at, codes_at, area}
use Rattle.state.specs.Holds.{states_at, Entered, Late, Closed, AllMet, Holds, denied_at, denied_of, NoneDenied}
use Rattle.state.specs.Picked.{Picked, Leads}
use Rattle.state.specs.Changes.{Pushed, base_set}
use Rattle.state.proofs.Areas.{count_most, room_left, held_below, held_still, base_most, ready_same}
use Rattle.solver.specs.Changes.{Beside, Renewed, Touchable, Touched, Taken, Foremost, Fronts, Ahead, Forcing, Tidied, Attached, Served, Apart, Awaited}
use Rattle.solver.proofs.Marks.{beside_same, still_at, still_list, still_ready, still_literal, still_states, entered_still, late_still, closed_still}
use Rattle.solver.proofs.Walks.{beside_on}
use Rattle.solver.proofs.Settles.{awaited_none}

module _ {x goals w m m₀ : List ℕ} {n l : ℕ} (I : Indexed x n) (H : Holds (index_node x) n goals w m) (N : Taken w m l m₀) (f : Fresh n (g_of w) l) where
  abbrev t : ℕ → Node
  t = index_node x

  abbrev r : ℕ → ℕ
  r = tail w

  abbrev h : ℕ
  h = r 0

  pub room : h < most_nodes
  room = omega (arith, room_left H.ready f, I.few)

  pub node_low : l / 2 < n
  node_low = omega (arith, f.0)

  -- what is in the set now was in it before, at a position that is held
  from₁ : (q : ℕ) → q < positions → member m₀ q ≡ 1 → member m q ≡ 1
  from₁ q i y = ⊎_elim (λ e. sym e ∙ y) (λ e. e.1) (N.same q i)

  clear₁ : (q : ℕ) → h ≤ q → q < positions → member m₀ q ≡ 0
  clear₁ q i b = ⊎_elim (λ e. e ∙ H.clear q i b) (λ e. e.0) (N.same q b)

  held₁ : (q : ℕ) → q < positions → member m₀ q ≡ 1 → q < h
  held₁ q i y = go (dec_lt q h)
    where
      go : Dec (q < h) → q < h
      go (yes b) = b
      go (no b) = absurd (omega (arith, y, clear₁ q (omega (arith, b)) i))

  -- what `front` asks
  pub front-asked : (q : ℕ) → q < positions → member m₀ q ≡ 1 → q < most_nodes
  front-asked q i y = omega (arith, held₁ q i y, room)

  -- ---- after `push`

  module _ {c : ℕ} {w₁ : List ℕ} (C : c ≡ length (g_of w)) (P : Pushed n l w w₁) where
    abbrev r₁ : ℕ → ℕ
    r₁ = tail w₁

    at-end : c ≡ h
    at-end = C ∙ trail-length h r

    lits₁ : (q : ℕ) → q < h → lit_at r₁ q ≡ lit_at r q
    lits₁ q i = P.kept (trail_at + (literals_at + q)) (inr (inl (omega arith, omega arith)))

    -- the states of an earlier position, by the list before and now
    now-is : (q : ℕ) → q < h → states_of t (l ∷ g_of w) (lit_at r q) ≡ states_at t (g_of w₁) r₁ q
    now-is q i = rw (P.list, lits₁ q i)

    conflict₁ : conflict_of w₁ ≡ conflict_of w
    conflict₁ = P.kept 1 (inl (omega arith))

    closed₁ : Closed t (g_of w₁) r₁ (conflict_of w₁)
    closed₁ = rw conflict₁ (λ i.
        let (a, b) = H.closed i in
        (omega (arith, a, P.count), rw (now-is (conflict_of w) a) at (some-empty_stays (g_of w) l f.1 (expand t (lit_at r (conflict_of w))) b)))

    code₁ : (q : ℕ) → q < h → code_at r₁ q ≡ code_at r q
    code₁ q i = P.kept (trail_at + (codes_at + q)) (inr (inr (inr (omega arith, λ y. omega (arith, y, room)))))

    -- where a position was taken out of the set, the states of its clauses do not stay
    taken₁ : (q : ℕ) → q < h → most_nodes ≤ conflict_of w₁ → member m q ≡ 1 → code_at r q % 4096 ≡ l
        → states_of t (l ∷ g_of w) (lit_at r q) ≡ states_at t (g_of w) r q → ⊥
    taken₁ q i d y k s =
        let free : most_nodes ≤ conflict_of w = omega (arith, d, conflict₁) in
        let one = (H.late q i).live free y (ap (value_of (g_of w)) k ∙ f.1) in
        first-changes (g_of w) l f.1 (expand t (lit_at r q)) one (sym ((H.entered q i).unit free one).1.literal ∙ k) s

    -- an earlier position is entered, or one of a parent
    waits₁ : (q : ℕ) → q < h → Entered t (g_of w₁) r₁ (conflict_of w₁) m₀ q ⊎ Names t n (l / 2) (lit_at r₁ q / 2)
    waits₁ q i =
        ⊎_elim (λ s. inl (go s (N.same q (omega (arith, i, room))))) (λ y. inr (rw (lits₁ q i) y))
        (still_or n t I.table (lit_at r q) (held_below H.ready q i) (g_of w) l)
      where
        go : states_of t (l ∷ g_of w) (lit_at r q) ≡ states_at t (g_of w) r q
            → (member m₀ q ≡ member m q) ⊎ ((member m₀ q ≡ 0) × (member m q ≡ 1) × (code_at r q % 4096 ≡ l))
            → Entered t (g_of w₁) r₁ (conflict_of w₁) m₀ q
        go s (inl e) = entered_still (sym (now-is q i) ∙ s) (omega (arith, conflict₁)) (e, code₁ q i) (H.entered q i)
        go s (inr (z, y, k)) = record {
          unit = λ d o. absurd (taken₁ q i d y k s);
          conflict = λ o. omega (arith, conflict₁, (H.entered q i).conflict (ap (some is_empty) (sym s ∙ now-is q i) ∙ o));
        }

    -- what is kept of it is not too early
    late₁ : (q : ℕ) → q < h → Late t n (g_of w₁) r₁ (conflict_of w₁) m₀ q
    late₁ q i =
        let b : q < positions = omega (arith, i, room) in
        record {
          low = λ y. rw (code₁ q i) ((H.late q i).low (from₁ q b y));
          live = λ d y u.
              let free : most_nodes ≤ conflict_of w = omega (arith, d, conflict₁) in
              let v : value_of (l ∷ g_of w) (code_at r q % 4096) ≡ undecided = rw (P.list, code₁ q i) at u in
              let one = (H.late q i).live free (from₁ q b y) (was_undecided (g_of w) l f.1 (code_at r q % 4096) v) in
              ap (some is_one) (sym (now-is q i))
              ∙ first-stays (g_of w) l f.1 (expand t (lit_at r q)) one (rw ((H.entered q i).unit free one).1.literal at v);
        }

    pub own-literal : lit_at r₁ c ≡ 2 * (l / 2) + l % 2
    own-literal = rw at-end (omega (arith, P.top))

    pub own-low : c < tail w₁ 0
    own-low = omega (arith, at-end, P.count)

    -- how many clauses its code says that it has
    pub own-clauses : {code : ℕ} {y : Node} → Coded y (states_at t (g_of w₁) r₁ c) code → code / 8192 ≡ length (expand t l)
    own-clauses k =
        k.clauses ∙ length-map (expand t (lit_at r₁ c)) (state_of (g_of w₁)) ∙ ap (λ (j : ℕ). length (expand t j)) (ap (lit_at r₁) at-end ∙ P.top)

    -- ---- after its own position is entered

    module _ {w₂ m₂ : List ℕ} (R₀ : Renewed t n w₁ m₀ c w₂ m₂) where
      pub R : Renewed t n w₁ m₀ h w₂ m₂
      R = subst (λ (k : ℕ). Renewed t n w₁ m₀ k w₂ m₂) at-end R₀

      pub ready₂ : Ready n w₂
      ready₂ = still_ready I.few P.ready R.beside

      count₂ : tail w₂ 0 ≡ suc h
      count₂ = still_at I.few P.ready R.beside 0 (omega arith) ∙ P.count

      pub own-true : value_of (g_of w₂) (2 * (l / 2) + l % 2) ≡ holds
      own-true =
          let e : 2 * (l / 2) + l % 2 ≡ l = omega arith in
          rw (e, still_list I.few P.ready R.beside, P.list) (value_joined (g_of w) l)

      pub touch-asked : Touchable t n (l / 2) w₂ m₂
      touch-asked = record {
        beside = beside_same w₂;
        units = R.units;
        closed = R.closed closed₁;
        waits = λ q i. go q (omega (arith, i, count₂)) (ℕ_discrete q h);
        late = λ q i. late q (omega (arith, i, count₂)) (ℕ_discrete q h);
        else = λ q i k. refl;
      }
        where
          still : (q : ℕ) → q < suc h → states_at t (g_of w₂) (tail w₂) q ≡ states_at t (g_of w₁) r₁ q
          still q i = still_states I.few P.ready R.beside t q (omega (arith, i, P.count))

          go : (q : ℕ) → q < suc h → Dec (q ≡ h) → Entered t (g_of w₂) (tail w₂) (conflict_of w₂) m₂ q ⊎ Names t n (l / 2) (lit_at (tail w₂) q / 2)
          go q i (yes e) = inl (subst (Entered t (g_of w₂) (tail w₂) (conflict_of w₂) m₂) (sym e) R.here)
          go q i (no e) =
              let j = still_literal I.few P.ready R.beside q (omega (arith, i, P.count)) in
              ⊎_elim (λ u. inl (entered_still (still q i) R.lower (R.else q (omega (arith, i, room)) e) u))
              (λ y. inr (subst (λ (k : ℕ). Names t n (l / 2) (k / 2)) (sym j) y)) (waits₁ q (omega (arith, i, e)))

          own : Late t n (g_of w₁) r₁ (conflict_of w₁) m₀ h
          own =
              let z = clear₁ h (omega arith) (omega (arith, room)) in
              record { low = λ y. absurd (omega (arith, y, z)); live = λ d y u. absurd (omega (arith, y, z)) }

          late : (q : ℕ) → q < suc h → Dec (q ≡ h) → Late t n (g_of w₂) (tail w₂) (conflict_of w₂) m₂ q
          late q i (yes e) = subst (Late t n (g_of w₂) (tail w₂) (conflict_of w₂) m₂) (sym e) (R.late own)
          late q i (no e) =
              late_still (still q i) R.lower (R.else q (omega (arith, i, room)) e) (still_list I.few P.ready R.beside) (late₁ q (omega (arith, i, e)))

      -- its own position is behind the first unit
      pub ahead₂ : {u : ℕ} → Fronts w m₀ u → Ahead w₂ m₂ u
      ahead₂ {u} F = record {
        some = λ y.
            let (a, k) = F.some y in
            let b = held₁ (u / 65536) a.low a.here in
            let s = R.else (u / 65536) a.low (λ e. omega (arith, e, b)) in
            (record { low = a.low; here = s.0 ∙ a.here; before = λ j i. same j (omega (arith, i, b)) ∙ a.before j i }, s.1 ∙ code₁ (u / 65536) b ∙ k);
        none = λ y q i. let b : q < h = omega (arith, i, count₂) in same q b ∙ F.none y q (omega (arith, b, room));
      }
        where
          same : (j : ℕ) → j < h → member m₂ j ≡ member m₀ j
          same j i = (R.else j (omega (arith, i, room)) (λ e. omega (arith, e, i))).0

      -- ---- after the walk, and the base

      module _ {w₃ m₃ : List ℕ} (K : Touched t n w₂ m₂ w₃ m₃) where
        beside₃ : Beside w₁ w₃
        beside₃ = beside_on R.beside K.beside

        same₃ : (i : ℕ) → i < codes_at → tail w₃ i ≡ r₁ i
        same₃ = still_at I.few P.ready beside₃

        size₃ : length w₃ ≡ length w₁
        size₃ = beside₃.size

        base₃ : base_of (tail w₃) h ≡ base_of r h
        base₃ = same₃ (bases_at + h) (omega (arith, room)) ∙ P.kept (trail_at + (bases_at + h)) (inr (inr (inl (omega arith, omega (arith, room)))))

        -- what `number` asks
        pub number-asked : Goals n goals → (more : ℕ) → more ≤ 7 → (area ≤ length w₃) × (c < most_nodes) × (base_of (tail w₃) c + more < 65536)
        number-asked gs more b =
            let base = base_most H.ready t I.few gs H.numbered h (omega arith) in (
              omega (arith, size₃, P.ready.size),
              omega (arith, at-end, room),
              rw at-end (omega (arith, b, base₃, base)),
            )

        module _ {w₄ : List ℕ} (more : ℕ) (B₀ : w₄ ≡ base_set w₃ c more) where
          pub based-own : w₄ ≡ base_set w₃ h more
          based-own = subst (λ (k : ℕ). w₄ ≡ base_set w₃ k more) at-end B₀

          other₄ : (i : ℕ) → (i ≡ trail_at + (bases_at + (h + 1)) → ⊥) → get_or w₄ i 0 ≡ get_or w₃ i 0
          other₄ i d = rw based-own (get_or-set_other w₃ (trail_at + (bases_at + (h + 1))) i (base_of (tail w₃) h + more) 0 d)

          base₄ : base_of (tail w₄) (h + 1) ≡ base_of (tail w₃) h + more
          base₄ =
              rw based-own (get_or-set_same w₃ (trail_at + (bases_at + (h + 1))) (base_of (tail w₃) h + more) 0 (omega (arith, size₃, P.ready.size, room)))

          -- as the trail after `push`, beside the base
          same₄ : (i : ℕ) → i < codes_at → (i ≡ bases_at + (h + 1) → ⊥) → tail w₄ i ≡ r₁ i
          same₄ i b d = other₄ (trail_at + i) (λ e. d (omega (arith, e))) ∙ same₃ i b

          pub ready₄ : Ready n w₄
          ready₄ =
              ready_same I.few P.ready (rw based-own (length-set w₃ (trail_at + (bases_at + (h + 1))) (base_of (tail w₃) h + more)) ∙ size₃)
              (λ i k. same₄ i (omega (arith, k)) (λ e. omega (arith, e, k))) (λ k i. same₄ (values_at + k) (omega (arith, i)) (λ e. omega (arith, e, room)))

          list₄ : g_of w₄ ≡ l ∷ g_of w
          list₄ = held_still I.few P.ready.trail (λ i k. same₄ i (omega (arith, k)) (λ e. omega (arith, e, k))) ∙ P.list

          -- a cell but the conflict
          cell₄ : (i : ℕ) → i < trail_at → (i ≡ 1 → ⊥) → get_or w₄ i 0 ≡ get_or w i 0
          cell₄ i b d = other₄ i (λ e. omega (arith, e, b)) ∙ beside₃.other i d (omega (arith, b)) ∙ P.kept i (inl b)

          clear₄ : (q : ℕ) → suc h ≤ q → q < positions → member m₃ q ≡ 0
          clear₄ q i b = K.else q (omega (arith, i, count₂)) b ∙ (R.else q b (λ a. omega (arith, a, i))).0 ∙ clear₁ q (omega (arith, i)) b

          code₄ : (q : ℕ) → code_at (tail w₄) q ≡ code_at (tail w₃) q
          code₄ q = other₄ (trail_at + (codes_at + q)) (λ e. omega (arith, e, room))

          -- what `next_unit` asks
          pub foremost₄ : {u : ℕ} → Foremost w₃ m₃ u → Foremost w₄ m₃ u
          foremost₄ {u} F y = ((F y).0, code₄ (u / 65536) ∙ (F y).1)

          pub forcing₄ : Forcing n w₄ m₃
          forcing₄ q b y = go (dec_lt q (suc h))
            where
              go : Dec (q < suc h) → (q < most_nodes) × (code_at (tail w₄) q % 4096 < 2 * n)
              go (yes i) = (omega (arith, i, room), rw (code₄ q) ((K.late q (omega (arith, i, count₂))).low y))
              go (no i) = absurd (omega (arith, y, clear₄ q (omega (arith, i)) b))

          -- what `wait` asks
          pub served : Served goals w₄
          served =
              let z : waiting_of w₄ ≡ waiting_of w = cell₄ 2 (omega arith) (λ e. omega (arith, e)) in
              record {
                few = omega (arith, z, H.waiting.few);
                over = λ k i.
                    rw list₄
                    (holds_stays (g_of w) l f.1 (get_or goals k 0) (H.waiting.over k (omega (arith, i, z))));
              }

          -- ---- at the end

          module _ {w₅ : List ℕ} (A : Awaited goals l w₄ w₅) (counted : more ≡ length (expand t l)) where
            abbrev r₅ : ℕ → ℕ
            r₅ = tail w₅

            tail₅ : (i : ℕ) → (trail_at + i ≡ denied_at → ⊥) → r₅ i ≡ tail w₄ i
            tail₅ i d = A.other (trail_at + i) (λ e. omega (arith, e)) d

            same₅ : (i : ℕ) → trail_at + i < denied_at → (i ≡ bases_at + (h + 1) → ⊥) → r₅ i ≡ r₁ i
            same₅ i b d = tail₅ i (λ e. omega (arith, e, b)) ∙ same₄ i (omega (arith, b)) d

            pub ready₅ : Ready n w₅
            ready₅ =
                ready_same I.few ready₄ A.size (λ i k. tail₅ i (λ e. omega (arith, e, k))) (λ k i. tail₅ (values_at + k) (λ e. omega (arith, e, i)))

            pub list₅ : g_of w₅ ≡ l ∷ g_of w
            list₅ = held_still I.few ready₄.trail (λ i k. tail₅ i (λ e. omega (arith, e, k))) ∙ list₄

            count₅ : r₅ 0 ≡ suc h
            count₅ = same₅ 0 (omega arith) (λ e. omega (arith, e)) ∙ P.count

            lits₅ : (q : ℕ) → q < h → lit_at r₅ q ≡ lit_at r q
            lits₅ q i = same₅ (literals_at + q) (omega (arith, i, room)) (λ e. omega (arith, e, i, room)) ∙ lits₁ q i

            trail₅ : (q : ℕ) → q ≤ h → trail q r₅ ≡ trail q r
            trail₅ q i = trail_same q r₅ r (λ k b. lits₅ k (omega arith))

            -- a position's literal and states are those after the walk
            literal₅ : (q : ℕ) → q < suc h → lit_at r₅ q ≡ lit_at (tail w₃) q
            literal₅ q i =
                same₅ (literals_at + q) (omega (arith, i, room)) (λ e. omega (arith, e, i, room)) ∙ sym (same₃ (literals_at + q) (omega (arith, i, room)))

            lists₅ : g_of w₅ ≡ g_of w₃
            lists₅ = list₅ ∙ sym (still_list I.few P.ready beside₃ ∙ P.list)

            states₅ : (q : ℕ) → q < suc h → states_at t (g_of w₅) r₅ q ≡ states_at t (g_of w₃) (tail w₃) q
            states₅ q i = ap (λ (G : List ℕ). states_of t G (lit_at r₅ q)) lists₅ ∙ ap (states_of t (g_of w₃)) (literal₅ q i)

            codes₅ : (q : ℕ) → code_at r₅ q ≡ code_at (tail w₄) q
            codes₅ q = tail₅ (codes_at + q) (λ e. omega (arith, e))

            code₅ : (q : ℕ) → code_at r₅ q ≡ code_at (tail w₃) q
            code₅ q = codes₅ q ∙ code₄ q

            conflicts₅ : conflict_of w₅ ≡ conflict_of w₄
            conflicts₅ = A.other 1 (λ e. omega (arith, e)) (λ e. omega (arith, e))

            conflict₅ : conflict_of w₅ ≡ conflict_of w₃
            conflict₅ = conflicts₅ ∙ other₄ 1 (λ e. omega (arith, e))

            cursor₅ : cursor_of w₅ ≡ cursor_of w
            cursor₅ = A.other 0 (λ e. omega (arith, e)) (λ e. omega (arith, e)) ∙ cell₄ 0 (omega arith) (λ e. omega (arith, e))

            -- the walk has entered each position
            entered₅ : (q : ℕ) → q < r₅ 0 → Entered t (g_of w₅) r₅ (conflict_of w₅) m₃ q
            entered₅ q i =
                let b : q < suc h = omega (arith, i, count₅) in
                entered_still (states₅ q b) (omega (arith, conflict₅)) (refl, code₅ q) (⊎_elim (λ e. e) (λ e. absurd e) (K.waits q (omega (arith, b, count₂))))

            late₅ : (q : ℕ) → q < r₅ 0 → Late t n (g_of w₅) r₅ (conflict_of w₅) m₃ q
            late₅ q i =
                let b : q < suc h = omega (arith, i, count₅) in
                late_still (states₅ q b) (omega (arith, conflict₅)) (refl, code₅ q) lists₅ (K.late q (omega (arith, b, count₂)))

            closed₅ : Closed t (g_of w₅) r₅ (conflict_of w₅)
            closed₅ =
                let c : tail w₃ 0 ≡ suc h = same₃ 0 (omega arith) ∙ P.count in
                rw conflict₅ (closed_still t (g_of w₃) (g_of w₅) (tail w₃) r₅ (conflict_of w₃) (count₅ ∙ sym c) (λ q i. states₅ q (omega (arith, i, c))) K.closed)

            -- met clauses stay so
            met₅ : AllMet t (g_of w₅) r₅ (cursor_of w₅)
            met₅ q i =
                let b : q < cursor_of w = omega (arith, i, cursor₅) in
                rw (list₅, lits₅ q (omega (arith, b, H.cursor))) (all_met_stays (g_of w) l f.1 (expand t (lit_at r q)) (H.met_before q b))

            cursors₅ : (q : ℕ) → q < r₅ 0 → (cursor_at r₅ q ≤ q) × AllMet t (trail q r₅) r₅ (cursor_at r₅ q)
            cursors₅ q i = go (ℕ_discrete q h)
              where
                cursor-is : (c : ℕ) → cursor_at r₅ q ≡ c → c ≤ h → (c ≤ q) × AllMet t (trail q r) r c
                    → (cursor_at r₅ q ≤ q) × AllMet t (trail q r₅) r₅ (cursor_at r₅ q)
                cursor-is c e k (a, b) = (
                  omega (arith, e, a),
                  λ p y.
                      rw (trail₅ q (omega (arith, i, count₅)), lits₅ p (omega (arith, y, e, k)))
                      (b p (omega (arith, y, e))),
                )

                go : Dec (q ≡ h) → (cursor_at r₅ q ≤ q) × AllMet t (trail q r₅) r₅ (cursor_at r₅ q)
                go (yes e) =
                    cursor-is (cursor_of w)
                    (ap (cursor_at r₅) e ∙ same₅ (cursors_at + h) (omega (arith, room)) (λ y. omega (arith, y, room)) ∙ P.cursor) H.cursor
                    (omega (arith, H.cursor, e), subst (λ (k : ℕ). AllMet t (trail k r) r (cursor_of w)) (sym e) H.met_before)
                go (no e) =
                    let b : q < h = omega (arith, i, count₅, e) in
                    let c = H.cursors q b in
                    cursor-is (cursor_at r q)
                    (same₅ (cursors_at + q) (omega (arith, room, b)) (λ y. omega (arith, y, room, b))
                    ∙ P.kept (trail_at + (cursors_at + q)) (inr (inr (inr (omega arith, λ y. e (omega (arith, y)))))))
                    (omega (arith, c.0, b)) c

            numbered₅ : Numbered t goals r₅
            numbered₅ q i = go (ℕ_discrete q (suc h))
              where
                go : Dec (q ≡ suc h) → base_of r₅ q ≡ length (clauses (expand t) goals (trail q r₅))
                go (yes e) =
                    ap (base_of r₅) (e ∙ sym (add-one h)) ∙ A.other (trail_at + (bases_at + (h + 1))) (λ y. omega (arith, y)) (λ y. omega (arith, y, room)) ∙ base₄
                    ∙ ap (◌+ more) (base₃ ∙ H.numbered h (omega arith)) ∙ ap (length (clauses (expand t) goals (g_of w)) +◌) counted
                    ∙ sym (clauses_more (expand t) goals l (g_of w)) ∙ ap (λ (F : List ℕ). length (clauses (expand t) goals F)) (sym whole)
                  where
                    whole : trail q r₅ ≡ l ∷ g_of w
                    whole = ap (λ (k : ℕ). trail k r₅) (e ∙ sym count₅) ∙ list₅
                go (no e) =
                    let b : q ≤ h = omega (arith, i, count₅, e) in
                    same₅ (bases_at + q) (omega (arith, b, room)) (λ y. omega (arith, y, b))
                    ∙ P.kept (trail_at + (bases_at + q)) (inr (inr (inl (omega arith, omega (arith, b, room)))))
                    ∙ H.numbered q b ∙ ap (λ (F : List ℕ). length (clauses (expand t) goals F)) (sym (trail₅ q b))

            -- where none waited, all goals were true; else none was false, and the negation of l is none of them
            denied₅ : denied_of w₅ ≡ 0 → NoneDenied goals (g_of w₅)
            denied₅ z = subst (NoneDenied goals) (sym list₅) (⊎_elim true-all apart (A.denied z))
              where
                before : denied_of w₄ ≡ denied_of w
                before =
                    other₄ denied_at (λ e. omega (arith, e, room)) ∙ beside₃.other denied_at (λ e. omega (arith, e)) (omega arith)
                    ∙ P.kept denied_at (inr (inr (inr (omega arith, λ e. omega (arith, e, room)))))

                true-all : waiting_of w₄ ≡ 0 → NoneDenied goals (l ∷ g_of w)
                true-all e k i y =
                    holds_fails (sym (rw list₄ at (served.over k (omega (arith, i, e)))) ∙ y)

                apart : (denied_of w₄ ≡ 0) × Apart goals l → NoneDenied goals (l ∷ g_of w)
                apart (e, a) k i y = H.denied (sym before ∙ e) k i (fails_joined (g_of w) l f.1 (get_or goals k 0) (a k i) y)

            -- ---- after the set is tidied

            module _ {m₄ : List ℕ} {u : ℕ} (Z₄ : Tidied w₄ m₃ m₄ u) where
              values₅ : (q : ℕ) → value_of (g_of w₅) (code_at r₅ q % 4096) ≡ value_of (g_of w₄) (code_at (tail w₄) q % 4096)
              values₅ q = rw (codes₅ q, list₅, list₄)

              entered₆ : (q : ℕ) → q < r₅ 0 → Entered t (g_of w₅) r₅ (conflict_of w₅) m₄ q
              entered₆ q i = record {
                unit = λ d y.
                    let (a, b) = (entered₅ q i).unit d y in (
                      Z₄.dropped.kept q (omega (arith, i, count₅, room)) a
                          (sym (values₅ q) ∙ rw b.literal (first_undecided (g_of w₅) (expand t (lit_at r₅ q)) y)),
                      b,
                    );
                conflict = (entered₅ q i).conflict;
              }

              late₆ : (q : ℕ) → q < r₅ 0 → Late t n (g_of w₅) r₅ (conflict_of w₅) m₄ q
              late₆ q i =
                  let b : q < positions = omega (arith, i, count₅, room) in
                  record { low = λ y. (late₅ q i).low (Z₄.dropped.from q b y); live = λ d y v. (late₅ q i).live d (Z₄.dropped.from q b y) v }

              pub assumed : Holds t n goals w₅ m₄
              assumed = record {
                ready = ready₅;
                numbered = numbered₅;
                units = Z₄.dropped.units;
                entered = entered₆;
                late = late₆;
                first = λ d q y. values₅ q ∙ Z₄.first (omega (arith, d, conflicts₅)) q y;
                clear = λ q i b. Z₄.dropped.less q b (clear₄ q (omega (arith, i, count₅)) b);
                closed = closed₅;
                cursor = omega (arith, cursor₅, H.cursor, count₅);
                met_before = met₅;
                cursors = cursors₅;
                waiting = rw (list₅, ← list₄) A.waiting;
                denied = denied₅;
              }

              pub leads : waiting_of w₅ ≡ 0 → Leads w₅ m₄ u
              leads e = record {
                idle = e;
                picks = λ d. let (a, b, c) = Z₄.next d in record { waiting = e; free = omega (arith, a, conflicts₅); first = b; kept = codes₅ _ ∙ c };
                none = λ d a. Z₄.none d (omega (arith, a, conflicts₅));
              }

-- all of it together
module _ {x goals w m m₀ w' m' : List ℕ} {n l u : ℕ} (I : Indexed x n) (H : Holds (index_node x) n goals w m) (N : Taken w m l m₀) (f : Fresh n (g_of w) l)
    (a : Attached (index_node x) n l w m₀ w' m' u) where
  C : tail w 0 ≡ length (g_of w)
  C = sym (trail-length (tail w 0) (tail w))

  pub ready_attached : Ready n w'
  ready_attached = ready₄ I H N f C a.pushed a.own a.parents a.more a.based

  pub served_attached : Served goals w'
  served_attached = served I H N f C a.pushed a.own a.parents a.more a.based

  pub list_now : g_of w' ≡ l ∷ g_of w
  list_now = list₄ I H N f C a.pushed a.own a.parents a.more a.based

  module _ {w'' : List ℕ} (A : Awaited goals l w' w'') where
    pub holds-attached : Holds (index_node x) n goals w'' m'
    holds-attached = assumed I H N f C a.pushed a.own a.parents a.more a.based A a.clauses a.tidied

    pub list-attached : g_of w'' ≡ l ∷ g_of w
    list-attached = list₅ I H N f C a.pushed a.own a.parents a.more a.based A a.clauses

    pub leads-attached : waiting_of w'' ≡ 0 → Leads w'' m' u
    leads-attached = leads I H N f C a.pushed a.own a.parents a.more a.based A a.clauses a.tidied

  -- where no goal waits, none is waited for
  module _ (e : waiting_of w ≡ 0) where
    none-waits : waiting_of w' ≡ 0
    none-waits = cell₄ I H N f C a.pushed a.own a.parents a.more a.based 2 (omega arith) (λ e. omega (arith, e)) ∙ e

    pub holds-joined : Holds (index_node x) n goals w' m'
    holds-joined = holds-attached (awaited_none served_attached none-waits)

    pub list-joined : g_of w' ≡ l ∷ g_of w
    list-joined = list-attached (awaited_none served_attached none-waits)

    pub leads-joined : Leads w' m' u
    leads-joined = leads-attached (awaited_none served_attached none-waits) none-waits

-- ---- what is taken out of the set

-- every position in it is held
pub in_low : {t : ℕ → Node} {n : ℕ} {goals w m : List ℕ} → n ≤ most_nodes → Holds t n goals w m → (q : ℕ) → q < positions → member m q ≡ 1 → q < most_nodes
in_low {w = w} few H q b y = go (dec_lt q (tail w 0))
  where
    go : Dec (q < tail w 0) → q < most_nodes
    go (yes i) = omega (arith, i, count_most H.ready, few)
    go (no i) = absurd (omega (arith, y, H.clear q (omega (arith, i)) b))

-- nothing
pub taken_none : {w m : List ℕ} {l : ℕ} → Units m → Taken w m l m
taken_none u = record { units = u; same = λ q i. inl refl }

-- a position that forces l
pub taken_one : {w m m₀ : List ℕ} {k l q : ℕ} → member m q ≡ 1 → k ≡ code_at (tail w) q → k % 4096 ≡ l → Putted m q 0 m₀ → Taken w m l m₀
taken_one {w} {m} {m₀} {k} {l} {q} y c d p = record { units = p.units; same = λ j i. go j i (ℕ_discrete j q) }
  where
    go : (j : ℕ) → j < positions → Dec (j ≡ q) → (member m₀ j ≡ member m j) ⊎ ((member m₀ j ≡ 0) × (member m j ≡ 1) × (code_at (tail w) j % 4096 ≡ l))
    go j i (yes e) = inr (rw e p.here, rw e y, rw (e, ← c) d)
    go j i (no e) = inl (p.other j i e)

-- the unit that is the next move
module _ {t : ℕ → Node} {n u : ℕ} {goals w m : List ℕ} (few : n ≤ most_nodes) (H : Holds t n goals w m) (k : Picked w m u) where
  abbrev at : ℕ
  at = u / 65536

  at_held : at < tail w 0
  at_held = go (dec_lt at (tail w 0))
    where
      go : Dec (at < tail w 0) → at < tail w 0
      go (yes i) = i
      go (no i) = absurd (omega (arith, k.first.here, H.clear at (omega (arith, i)) k.first.low))

  pub at_literal : code_at (tail w) at % 4096 ≡ u % 4096
  at_literal = omega (arith, k.kept)

  pub picked-fresh : Fresh n (g_of w) (u % 4096)
  picked-fresh = (omega (arith, at_literal, (H.late at at_held).low k.first.here), rw at_literal at (H.first k.free at k.first))

  pub picked_taken : {m₀ : List ℕ} → Putted m at 0 m₀ → Taken w m (u % 4096) m₀
  picked_taken = taken_one k.first.here refl at_literal
