-- The rebuild on nodes: what is kept from record to record, and so at its end (`kept_all`). Assumes nothing.
use mathlib.Core.Path.{◌≡◌, refl, sym, ap, ◌∙◌}
use mathlib.Core.List.{List, [], ◌∷◌, ◌++◌}
use Prim.Native.Nat.{ℕ, suc, ◌+◌, ◌*◌, ◌/◌, ◌<◌, ◌≤◌}
use native.Mathlib.Nat.{add-zero}
use native.Mathlib.Omega.{arith}
use native.Mathlib.Decide.{ℕ_discrete, dec_lt}
use lib.Dec.{ltb}
use lib.ListN.{length, get_or, take, length-append, get_or-append}
use lib.Seq.{get_or_at, take-append_seam, take-length}
use borrow.Author.Tests.{ltb-true, ltb-false}
use Rattle.scope.specs.declared.Node.{Node}
use Rattle.scope.specs.Outcome.{answer, require}
use Rattle.scope.specs.Table.{operands}
use Rattle.scope.specs.Truth.{Logic, lit_truth, node_truth, truths_from, truth_in}
use Rattle.scope.specs.Calls.{no_node, normal, index_of}
use Rattle.scope.proofs.Tests.{by_test, then_next}
use Rattle.codec.specs.Valid.{NoImp, with_node}
use Rattle.codec.specs.Given.{apart}
use Rattle.codec.proofs.Nodes.{index_at, with_found, with_more, with_in}
use Rattle.codec.proofs.Normal.{normal_kind}
use Rattle.truth.specs.Evaluated.{Low}
use Rattle.truth.proofs.Truths.{true-yes, atom-truth, truths-join, lit_prefix}
use Rattle.rebuilding.specs.Rebuild.{mapped, Rebuilt, following, nodes_from}
use Rattle.rebuilding.specs.Promised.{Even}
use Rattle.rebuilding.proofs.Means.{operation, step-means}
use Rattle.rebuilding.proofs.Steps.{looked_up_low}

-- each node's operands are of nodes before it
abbrev pub Lows : List Node → Type 0
Lows qs = (i : ℕ) → i < length qs → Low (get_or qs i no_node) i

-- ---- nodes with one more, unless it stands there already

module _ (qs : List Node) (y : Node) where
  pub by_found : {P : Type 0} → (index_of y qs < length qs → P) → (length qs ≤ index_of y qs → P) → P
  by_found f g =
      by_test (ltb (index_of y qs) (length qs))
      (λ e. f (ltb-true (index_of y qs) (length qs) e))
      (λ e. g (ltb-false (index_of y qs) (length qs) e))

  front : take (length qs) (with_node qs y) ≡ qs
  front = by_found (λ h. rw (with_found qs y h) (take-length qs)) (λ h. rw (with_more qs y h) (take-append_seam qs (y ∷ [])))

  longer : length qs ≤ length (with_node qs y)
  longer = by_found (λ h. rw (with_found qs y h) (omega arith)) (λ h. rw (with_more qs y h, length-append) (omega arith))

  pub one_more : length (with_node qs y) ≤ suc (length qs)
  one_more = by_found (λ h. rw (with_found qs y h) (omega arith)) (λ h. rw (with_more qs y h, length-append) (omega arith))

  here : get_or (with_node qs y) (index_of y (with_node qs y)) no_node ≡ y
  here = index_at y (with_node qs y) (with_in qs y)

  -- what holds of each node at its place, and of the one that joins, holds of them all
  each_more : (P : Node → ℕ → Type 0) → ((i : ℕ) → i < length qs → P (get_or qs i no_node) i) → P y (length qs)
      → (i : ℕ) → i < length (with_node qs y) → P (get_or (with_node qs y) i no_node) i
  each_more P f p = by_found (λ h. rw (with_found qs y h) f) (λ h. rw (with_more qs y h) (λ i l. on i (simp length-append at l) (dec_lt i (length qs))))
    where
      on : (i : ℕ) → i < length qs + 1 → Dec (i < length qs) → P (get_or (qs ++ y ∷ []) i no_node) i
      on i l (yes h) = rw (get_or-append qs (y ∷ []) no_node i h) (f i h)
      on i l (no h) =
          let z : length qs ≡ i = omega arith in
          rw (get_or_at qs y [] no_node i z) (rw z at p)

-- ---- after k records: their rebuilt literals m are of the nodes qs, of which none has kind 5

pub record Sound (k : ℕ) (qs : List Node) (m : List ℕ) : Type 0 where
  pub size : length m ≡ k
  pub fewer : length qs ≤ k
  pub low : Lows qs
  pub inside : (j : ℕ) → j < k → get_or m j 0 / 2 < length qs
  pub retired : NoImp qs

pub sound_none : Sound 0 [] []
sound_none = record {
  size = refl;
  fewer = omega arith;
  low = λ i h. absurd (omega arith);
  inside = λ j h. absurd (omega arith);
  retired = λ n h. absurd (omega arith);
}

module _ (k : ℕ) (qs : List Node) (m : List ℕ) (x : Node) (sound : Sound k qs m) (l : Low x k) where
  abbrev y : Node
  y = normal (mapped m x)

  abbrev qs' : List Node
  qs' = with_node qs y

  abbrev m' : List ℕ
  m' = m ++ 2 * index_of y qs' ∷ []

  below : Low y (length qs)
  below = looked_up_low m x k (length qs) l sound.inside

  -- the literals with one more
  each_literal : (P : ℕ → ℕ → Type 0) → ((j : ℕ) → j < k → P j (get_or m j 0)) → P k (2 * index_of y qs')
      → (j : ℕ) → j < suc k → P j (get_or m' j 0)
  each_literal P f p j h = on (dec_lt j k)
    where
      on : Dec (j < k) → P j (get_or m' j 0)
      on (yes i) = rw (get_or-append m (2 * index_of y qs' ∷ []) 0 j (omega (arith, sound.size))) (f j i)
      on (no i) =
          let last : j ≡ k = omega arith in
          rw (get_or_at m (2 * index_of y qs') [] 0 j (omega (arith, sound.size)), last) p

  pub sound_more : Sound (suc k) qs' m'
  sound_more = record {
    size = simp length-append (omega (arith, sound.size));
    fewer = omega (arith, one_more qs y, sound.fewer);
    low = each_more qs y Low sound.low below;
    inside = each_literal (λ j a. a / 2 < length qs') (λ j h. omega (arith, sound.inside j h, longer qs y)) (omega (arith, with_in qs y));
    retired = each_more qs y (λ z i. z.kind ≡ 5 → ⊥) sound.retired (normal_kind (mapped m x));
  }

-- ---- .. and each of them means what its record did

module _ {A : Type 0} (L : Logic A) (even : Even L) (s : List ℕ) where
  -- a node's truth from all truths
  node-whole : (qs : List Node) (i : ℕ) (y : Node) → i < length qs → get_or qs i no_node ≡ y → Low y i
      → lit_truth L (truths_from L s [] qs) (2 * i) ≡ node_truth L s (truths_from L s [] qs) y
  unfolding truth_in node_truth
  node-whole qs i y h e b = go (ℕ_discrete y.kind 1) (ℕ_discrete y.kind 2)
    where
      go : Dec (y.kind ≡ 1) → Dec (y.kind ≡ 2) → lit_truth L (truths_from L s [] qs) (2 * i) ≡ node_truth L s (truths_from L s [] qs) y
      go (yes k) q = true-yes L s qs i y h e k ∙ sym (rw k)
      go (no p) (yes k) = atom-truth L s qs i y h e k ∙ sym (rw k)
      go (no p) (no q) =
          let k : 2 < y.kind = omega (arith, b.kinds) in
          truths-join L s qs i y h e b.below k ∙ sym (operation L even s (truths_from L s [] qs) y k)

  -- v has the truths of the records so far
  pub record Kept (v : List A) (qs : List Node) (m : List ℕ) : Type 0 where
    pub sound : Sound (length v) qs m
    pub means : (j : ℕ) → j < length v → lit_truth L (truths_from L s [] qs) (get_or m j 0) ≡ get_or v j L.none

  module _ (v : List A) (qs : List Node) (m : List ℕ) (x : Node) (kept : Kept v qs m) (l : Low x (length v)) where
    abbrev z : Node
    z = normal (mapped m x)

    abbrev all : List Node
    all = with_node qs z

    -- older literals keep their truths
    older : (j : ℕ) → j < length v → lit_truth L (truths_from L s [] all) (get_or m j 0) ≡ get_or v j L.none
    older j h =
        lit_prefix L s all (length qs) (get_or m j 0) (longer qs z) (kept.sound.inside j h)
        ∙ ap (λ (ps : List Node). lit_truth L (truths_from L s [] ps) (get_or m j 0)) (front qs z) ∙ kept.means j h

    -- the new one has the record's
    newest : lit_truth L (truths_from L s [] all) (2 * index_of z all) ≡ node_truth L s v x
    newest =
        let sound = sound_more (length v) qs m x kept.sound l in
        node-whole all (index_of z all) z (with_in qs z) (here qs z) (rw (here qs z) at (sound.low (index_of z all) (with_in qs z)))
        ∙ step-means L even s v (truths_from L s [] all) m x (length v) l.kinds l.below older

    longer-by-one : length (v ++ node_truth L s v x ∷ []) ≡ suc (length v)
    longer-by-one = simp length-append (omega arith)

    kept_more : Kept (v ++ node_truth L s v x ∷ []) (following m qs x).nodes (following m qs x).literals
    kept_more = record {
      sound = rw longer-by-one (sound_more (length v) qs m x kept.sound l);
      means = λ j h.
          each_literal (length v) qs m x kept.sound l
          (λ j a. lit_truth L (truths_from L s [] all) a ≡ get_or (v ++ node_truth L s v x ∷ []) j L.none)
          (λ j h. older j h ∙ sym (get_or-append v (node_truth L s v x ∷ []) L.none j h))
          (newest ∙ sym (get_or_at v (node_truth L s v x) [] L.none (length v) refl))
          j (rw longer-by-one at h);
    }

  -- 'each rebuilt literal means what its record did', where the rebuild comes to its end
  pub kept_all : (xs : List Node) (v : List A) (qs : List Node) (m : List ℕ) (out : Rebuilt) → Kept v qs m
      → ((i : ℕ) → i < length xs → Low (get_or xs i no_node) (length v + i)) → nodes_from m qs xs ≡ answer out
      → Kept (truths_from L s v xs) out.nodes out.literals
  unfolding nodes_from truths_from
  kept_all [] v qs m out kept l e =
      let p : qs ≡ out.nodes = cc in
      let q : m ≡ out.literals = cc in
      rw (← p, ← q) kept
  kept_all (x ∷ xs) v qs m out kept l e =
      let first : Low x (length v) = rw (add-zero (length v)) at (l 0 (omega arith)) in
      kept_all xs (v ++ node_truth L s v x ∷ []) (following m qs x).nodes (following m qs x).literals out
      (kept_more v qs m x kept first)
      (λ i h.
      let z : length (v ++ node_truth L s v x ∷ []) + i ≡ length v + suc i = simp length-append (omega arith) in
      rw z (l (suc i) (omega arith)))
      (then_next (require (apart (operands (mapped m x))) 16 (length qs)) _ e)
