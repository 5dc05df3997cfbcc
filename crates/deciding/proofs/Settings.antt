-- Writing a setting: all points either way, and then literal by literal. Assumes nothing.
use mathlib.Core.Path.{◌≡◌, refl, sym, ap, ap₂, subst, ◌∙◌}
use mathlib.Core.List.{List, [], ◌∷◌, ◌++◌}
use mathlib.Core.Bool.{Bool, true, false, ◌&&◌, ◌||◌}
use Prim.Native.Nat.{ℕ, suc, ◌+◌, ◌/◌, ◌%◌, ◌<◌, ◌≤◌}
use native.Mathlib.Nat.{zero-add, add-zero, add-suc, suc-add}
use native.Mathlib.Numerals.{add-one}
use native.Mathlib.Omega.{arith}
use native.Mathlib.Decide.{ℕ_discrete}
use lib.Dec.{eqb}
use lib.ListN.{length, get_or, set, take, drop, replicate, length-set, length-append, length-drop, length-replicate, get_or-append, get_or-replicate, take-append-drop}
use lib.Seq.{get_or-set_same, get_or-set_other, drop-set-lt, get_or-take, ext_get_or, length-take-le}
use Rattle.std.proofs.lemmas.Slice.{drop-append-drop}
use borrow.Author.Tests.{eq-eqb, ne_eqb, eqb-true}
use Rattle.scope.specs.declared.Node.{Node}
use Rattle.scope.specs.Table.{list_from}
use Rattle.scope.specs.Calls.{no_node}
use Rattle.scope.proofs.Lists.{length_list_from, get_d_list_from}
use Rattle.scope.proofs.Tests.{and_left, and_right}
use Rattle.calculus.specs.Order.{mem, positive, negative, atom_held, setting_of}
use Rattle.calculus.specs.Model.{Table, Good}
use Rattle.calculus.proofs.Setting.{AtomOf, setting_length, setting_point, setting-held}
use Rattle.calculus.proofs.Literals.{mem_same, mem_other}
use Rattle.index.specs.Index.{most_nodes, index_node}
use Rattle.trail.proofs.Trails.{trail-length, trail-suc, literal_below, good_first, count_most}
use Rattle.state.specs.Work.{tail, g_of, lit_at, trail}
use Rattle.deciding.specs.Setting.{Cleared, Points, point_set}

-- ---- all points either way

pub cleared_filled : {s front : List ℕ} → 1024 ≤ length s → front ≡ replicate (length (take 1024 s)) 2 → Cleared s 1024 (front ++ drop 1024 s)
cleared_filled {s} {front} h e = record {
  size = omega (arith, whole, length-append front (drop 1024 s), length-drop 1024 s);
  either = λ p l.
      get_or-append front (drop 1024 s) 0 p (omega (arith, whole))
      ∙ ap (λ (f : List ℕ). get_or f p 0) e
      ∙ get_or-replicate (length (take 1024 s)) p 2 0 (omega (arith, length-take-le 1024 s h));
  beyond = drop-append-drop 1024 s front 1024 (omega arith) whole;
}
  where
    whole : length front ≡ 1024
    whole = ap length e ∙ length-replicate (length (take 1024 s)) 2 ∙ length-take-le 1024 s h

-- ---- literal by literal

-- the points have the bytes of the setting of G
pub record Filled (rs : List Node) (G s s' : List ℕ) : Type 0 where
  pub size : length s' ≡ length s
  pub points : (p : ℕ) → p < 1024 → get_or s' p 0 ≡ get_or (setting_of rs G) p 0
  pub beyond : drop 1024 s' ≡ drop 1024 s

-- nothing is held
none-held : (sign : ℕ → ℕ) (p : ℕ) (rs : List Node) (m : ℕ) → atom_held sign rs m [] p ≡ false
unfolding atom_held mem
none-held sign p [] m = refl
none-held sign p (y ∷ rs) m = rw (none-held sign p rs (suc m)) (go (eqb y.kind 2 && eqb y.a p))
  where
    go : (b : Bool) → ((b && false) || false) ≡ false
    go true = refl
    go false = refl

pub filled_none : (rs : List Node) {s s' : List ℕ} → Cleared s 1024 s' → Filled rs [] s' s'
filled_none rs c = record {
  size = refl;
  points = λ p h. c.either p h ∙ sym (setting_point rs [] p h ∙ rw (none-held positive p rs 0, none-held negative p rs 0));
  beyond = refl;
}

-- a literal of no ATOM of the point changes nothing there
atoms_same : (sign : ℕ → ℕ) (l p : ℕ) (G : List ℕ) (rs : List Node) (m : ℕ)
    → ((j : ℕ) → j < length rs → AtomOf p (get_or rs j no_node) → sign (m + j) ≡ l → ⊥) → atom_held sign rs m (l ∷ G) p ≡ atom_held sign rs m G p
unfolding atom_held
atoms_same sign l p G [] m h = refl
atoms_same sign l p G (y ∷ rs) m h =
    ap₂ ◌||◌ (go (eqb y.kind 2 && eqb y.a p) refl)
    (atoms_same sign l p G rs (suc m) (λ j b q e. h (suc j) (omega arith) q (ap sign (add-suc m j ∙ sym (suc-add m j)) ∙ e)))
  where
    go : (b : Bool) → (eqb y.kind 2 && eqb y.a p) ≡ b → (b && mem (sign m) (l ∷ G)) ≡ (b && mem (sign m) G)
    go false e = refl
    go true e =
        mem_other G l (sign m)
        (λ z. h 0 (omega arith) (eqb-true y.kind 2 (and_left (eqb y.kind 2) (eqb y.a p) e), eqb-true y.a p (and_right (eqb y.kind 2) (eqb y.a p) e))
        (ap sign (add-zero m) ∙ z))

module _ {n : ℕ} {f : ℕ → Node} (T : Table n f) where
  abbrev rs : List Node
  rs = list_from f 0 n

  long : length rs ≡ n
  long = length_list_from f n 0

  node : (j : ℕ) → j < length rs → get_or rs j no_node ≡ f j
  node j h = get_d_list_from f n 0 j no_node (rw length_list_from at h) ∙ ap f (zero-add j)

  listed : Table (length rs) (λ i. get_or rs i no_node)
  listed = record {
    kinds = λ i h. rw (node i h) (T.kinds i (omega (arith, h, long)));
    earlier = λ i h. rw (node i h) (T.earlier i (omega (arith, h, long)));
    atoms = λ i j h b k q e. T.atoms i j (omega (arith, h, long)) (omega (arith, b, long)) (rw (node i h) at k) (rw (node j b) at q) (rw (node i h, node j b) at e);
  }

  -- a literal more
  module _ (l : ℕ) (G : List ℕ) (g : Good n (l ∷ G)) where
    low : l / 2 < n
    low = omega (arith, g.0.0)

    -- at a point that is not its own
    byte-other : (p : ℕ) → p < 1024 → (AtomOf p (f (l / 2)) → ⊥) → get_or (setting_of rs (l ∷ G)) p 0 ≡ get_or (setting_of rs G) p 0
    byte-other p h d =
        setting_point rs (l ∷ G) p h
        ∙ rw (atoms_same positive l p G rs 0 (λ j b q e. d (own j b q (omega (arith, e)))), atoms_same negative l p G rs 0 (λ j b q e. d (own j b q (omega (arith, e)))))
        (sym (setting_point rs G p h))
      where
        own : (j : ℕ) → j < length rs → AtomOf p (get_or rs j no_node) → j ≡ l / 2 → AtomOf p (f (l / 2))
        own j b q e = rw (sym e) (rw (node j b) at q)

    -- at its own
    byte-own : (f (l / 2)).kind ≡ 2 → (f (l / 2)).a < 1024 → get_or (setting_of rs (l ∷ G)) (f (l / 2)).a 0 ≡ (l + 1) % 2
    byte-own k b =
        let h : l / 2 < length rs = omega (arith, low, long) in
        let e = node (l / 2) h in
        rw e at (setting-held rs (l ∷ G) listed (l / 2) h (rw e k) (rw e b) (subst (λ (m : ℕ). Good m (l ∷ G)) (sym long) g) l refl (mem_same G l l refl)) ∙ omega arith

    filled_more : {s s₁ : List ℕ} → ((f (l / 2)).kind ≡ 2 → (f (l / 2)).a < 1024) → 1024 ≤ length s → Filled rs G s s₁ → Filled rs (l ∷ G) s (point_set (f (l / 2)) l s₁)
    filled_more {s} {s₁} points room a = go (ℕ_discrete (f (l / 2)).kind 2)
      where
        go : Dec ((f (l / 2)).kind ≡ 2) → Filled rs (l ∷ G) s (point_set (f (l / 2)) l s₁)
        go (no d) = rw (ne_eqb (f (l / 2)).kind 2 d) record {
          size = a.size;
          points = λ p h. a.points p h ∙ sym (byte-other p h (λ q. d q.0));
          beyond = a.beyond;
        }
        go (yes k) = rw (eq-eqb (f (l / 2)).kind 2 k) record {
          size = length-set s₁ (f (l / 2)).a ((l + 1) % 2) ∙ a.size;
          points = λ p h. at-point p h (ℕ_discrete p (f (l / 2)).a);
          beyond = drop-set-lt 1024 s₁ (f (l / 2)).a ((l + 1) % 2) (points k) ∙ a.beyond;
        }
          where
            at-point : (p : ℕ) → p < 1024 → Dec (p ≡ (f (l / 2)).a) → get_or (set s₁ (f (l / 2)).a ((l + 1) % 2)) p 0 ≡ get_or (setting_of rs (l ∷ G)) p 0
            at-point p h (yes e) =
                rw e (get_or-set_same s₁ (f (l / 2)).a ((l + 1) % 2) 0 (omega (arith, points k, room, a.size)) ∙ sym (byte-own k (points k)))
            at-point p h (no e) =
                get_or-set_other s₁ (f (l / 2)).a p ((l + 1) % 2) 0 e ∙ a.points p h ∙ sym (byte-other p h (λ q. e (sym q.1)))

-- all literals: the setting
pub filled_all : {rs : List Node} {G s s' : List ℕ} → 1024 ≤ length s → Filled rs G s s' → s' ≡ setting_of rs G ++ drop 1024 s
filled_all {rs} {G} {s} {s'} r a =
    sym (take-append-drop 1024 s') ∙ ap (◌++ drop 1024 s') front ∙ ap (setting_of rs G ++◌) a.beyond
  where
    whole : length (take 1024 s') ≡ 1024
    whole = length-take-le 1024 s' (omega (arith, a.size))

    front : take 1024 s' ≡ setting_of rs G
    front =
        ext_get_or 0 (take 1024 s') (setting_of rs G) (whole ∙ sym (setting_length rs G))
        (λ p h. let b : p < 1024 = omega (arith, whole) in get_or-take 1024 s' p 0 b ∙ a.points p b)

-- ---- the literals held, one after another

module _ {x : List ℕ} {n : ℕ} {w s : List ℕ} (P : Points x n w s) where
  pub held-count : length (g_of w) ≡ tail w 0
  held-count = trail-length (tail w 0) (tail w)

  pub held-few : length (g_of w) ≤ most_nodes
  held-few = omega (arith, held-count, count_most n (tail w) P.ready.trail, P.indexed.few)

  module _ {q l : ℕ} (h : q < length (g_of w)) (e : l ≡ lit_at (tail w) q) where
    pub next_low : l / 2 < n
    next_low = omega (arith, e, literal_below n (tail w 0) (tail w) q P.ready.trail.good (omega (arith, h, held-count)))

    next-good : Good n (l ∷ trail q (tail w))
    unfolding trail
    next-good = rw e (good_first n (tail w 0) (tail w) (suc q) P.ready.trail.good (omega (arith, h, held-count)))

    pub filled_next : {s₀ s₁ : List ℕ} → 1024 ≤ length s₀ → Filled (list_from (index_node x) 0 n) (trail q (tail w)) s₀ s₁
        → Filled (list_from (index_node x) 0 n) (trail (q + 1) (tail w)) s₀ (point_set (index_node x (l / 2)) l s₁)
    filled_next room a =
        rw (add-one q, trail-suc q (tail w), ← e)
        (filled_more P.indexed.table l (trail q (tail w)) next-good (λ k. P.points (l / 2) next_low k) room a)
