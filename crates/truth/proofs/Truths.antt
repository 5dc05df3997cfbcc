-- Truth under a setting, in any logic: the truths of a list's nodes one after another, and what 01 says of a literal's truth by its
-- node's kind. Assumes nothing.
use mathlib.Core.Path.{◌≡◌, ◌∙◌, ap, sym, refl}
use mathlib.Core.List.{List, [], ◌∷◌, ◌++◌, map}
use mathlib.Core.Logic.{⊎_elim}
use mathlib.Core.Bool.{true, false, not, ◌&&◌, ◌||◌, beq, not-not}
use Prim.Native.Nat.{ℕ, suc, ◌+◌, ◌-◌, ◌*◌, ◌/◌, ◌%◌, ◌<◌, ◌≤◌}
use native.Mathlib.Nat.{add-zero, zero-add, eq-zero-or-pos}
use native.Mathlib.Omega.{arith}
use lib.Dec.{eqb, ltb}
use lib.ListN.{length, get_or, take, drop, length-append, take-append-drop}
use lib.Seq.{length-take-le, take-take, take-append_seam, take-length, take-suc, get_or-take, get_or_at}
use borrow.Author.Tests.{ne_eqb, ltb-true}
use Rattle.scope.specs.declared.Node.{Node}
use Rattle.scope.specs.Table.{operands, every}
use Rattle.scope.specs.Calls.{no_node}
use Rattle.scope.specs.Truth.{Logic, lit_truth, joined, node_truth, truths_from, truth_in, classical, truth}
use Rattle.scope.proofs.Operands.{operands-two, operands-three}
use Rattle.codec.proofs.Records.{map-every}

module _ {A : Type 0} (L : Logic A) where
  module _ (s : List ℕ) where
    -- the truths of more nodes start from those of the first
    pub truths-append : (rs qs : List Node) (v : List A) → truths_from L s v (rs ++ qs) ≡ truths_from L s (truths_from L s v rs) qs
    unfolding truths_from
    truths-append [] qs v = refl
    truths-append (x ∷ rs) qs v = truths-append rs qs (v ++ node_truth L s v x ∷ [])

    -- one node more
    pub truths-more : (rs : List Node) (x : Node) → truths_from L s [] (rs ++ x ∷ []) ≡ truths_from L s [] rs ++ node_truth L s (truths_from L s [] rs) x ∷ []
    unfolding truths_from
    truths-more rs x = truths-append rs (x ∷ []) []

    -- one truth for each node
    pub length-truths : (rs : List Node) (v : List A) → length (truths_from L s v rs) ≡ length v + length rs
    unfolding truths_from
    length-truths [] v = sym (add-zero (length v))
    length-truths (x ∷ rs) v =
        length-truths rs (v ++ node_truth L s v x ∷ []) ∙ simp length-append (omega arith)

    -- the truths known at the start stay
    pub truths-keep : (rs : List Node) (v : List A) → take (length v) (truths_from L s v rs) ≡ v
    unfolding truths_from
    truths-keep [] v = take-length v
    truths-keep (x ∷ rs) v =
        let w : List A = v ++ node_truth L s v x ∷ [] in
        let h : length v ≤ length w = simp length-append (omega arith) in
        sym (take-take (length v) (length w) (truths_from L s w rs) h)
        ∙ ap (take (length v)) (truths-keep rs w)
        ∙ take-append_seam v (node_truth L s v x ∷ [])

    -- the truths of the first k nodes are the first truths of them all
    pub truths-prefix : (rs : List Node) (v : List A) (k : ℕ) → k ≤ length rs → take (length v + k) (truths_from L s v rs) ≡ truths_from L s v (take k rs)
    truths-prefix rs v k h =
        let w : List A = truths_from L s v (take k rs) in
        let q : length w ≡ length v + k = length-truths (take k rs) v ∙ ap (length v +◌) (length-take-le k rs h) in
        let e : truths_from L s v rs ≡ truths_from L s w (drop k rs) = rw take-append-drop at (truths-append (take k rs) (drop k rs) v) in
        rw (← q, e) (truths-keep (drop k rs) w)

  -- an operation's truth, by its operands
  module _ (s : List ℕ) (v : List A) (x : Node) where
    pub node-two : 2 < x.kind → x.kind < 7 → node_truth L s v x ≡ joined L x.kind (lit_truth L v x.a ∷ lit_truth L v x.b ∷ [])
    unfolding node_truth
    node-two h k = rw (operands-two x h k, ne_eqb x.kind 1 (λ q. omega arith), ne_eqb x.kind 2 (λ q. omega arith))

    pub node-three : 7 ≤ x.kind → node_truth L s v x ≡ joined L x.kind (lit_truth L v x.a ∷ lit_truth L v x.b ∷ lit_truth L v x.c ∷ [])
    unfolding node_truth
    node-three k = rw (operands-three x k, ne_eqb x.kind 1 (λ q. omega arith), ne_eqb x.kind 2 (λ q. omega arith))

  -- a literal's truth is that of its node or the opposite
  pub lit_even : (v : List A) (n : ℕ) → lit_truth L v (2 * n) ≡ get_or v n L.none
  unfolding lit_truth
  lit_even v n =
      let q : 2 * n / 2 ≡ n = omega arith in
      let r : 2 * n % 2 ≡ 0 = omega arith in
      simp (q, r)

  pub lit_odd : (v : List A) (n : ℕ) → lit_truth L v (2 * n + 1) ≡ L.opposite (get_or v n L.none)
  unfolding lit_truth
  lit_odd v n =
      let q : (2 * n + 1) / 2 ≡ n = omega arith in
      let r : (2 * n + 1) % 2 ≡ 1 = omega arith in
      simp (q, r)

  -- truths from the literal's node on do not matter
  pub lit-take : (v : List A) (n l : ℕ) → l / 2 < n → lit_truth L (take n v) l ≡ lit_truth L v l
  unfolding lit_truth
  lit-take v n l h = simp (get_or-take n v (l / 2) L.none h)

  -- so the truths of the first nodes give it
  pub lit_prefix : (s : List ℕ) (rs : List Node) (k l : ℕ) → k ≤ length rs → l / 2 < k
      → lit_truth L (truths_from L s [] rs) l ≡ lit_truth L (truths_from L s [] (take k rs)) l
  lit_prefix s rs k l h i =
      sym (lit-take (truths_from L s [] rs) k l i)
      ∙ ap (λ (v : List A). lit_truth L v l) (rw zero-add at (truths-prefix s rs [] k h))

  -- 'Literal 2n means node n, literal 2n + 1 its negation'; 'a negation is the opposite'
  pub negated_opposite : (s : List ℕ) (rs : List Node) (n : ℕ) → truth_in L s rs (2 * n + 1) ≡ L.opposite (truth_in L s rs (2 * n))
  unfolding truth_in
  negated_opposite s rs n = simp (lit_even, lit_odd)

  -- node n of the list, called x
  module _ (s : List ℕ) (rs : List Node) (n : ℕ) (x : Node) (h : n < length rs) (e : get_or rs n no_node ≡ x) where
    -- its truth comes from those of the nodes before it
    pub node-truth : truth_in L s rs (2 * n) ≡ node_truth L s (truths_from L s [] (take n rs)) x
    unfolding truth_in
    node-truth =
        let v : List A = truths_from L s [] (take n rs) in
        let q : length v ≡ n = length-truths s (take n rs) [] ∙ zero-add (length (take n rs)) ∙ length-take-le n rs (omega arith) in
        lit_prefix s rs (suc n) (2 * n) h (omega arith)
        ∙ simp (take-suc rs n no_node h, truths-more, lit_even, e, get_or_at v (node_truth L s v x) [] L.none n q)

    -- 'TRUE is true'
    pub true-yes : x.kind ≡ 1 → truth_in L s rs (2 * n) ≡ L.yes
    unfolding node_truth
    true-yes k = node-truth ∙ simp k

    -- an ATOM's truth is its point's
    pub atom-truth : x.kind ≡ 2 → truth_in L s rs (2 * n) ≡ L.point (get_or s x.a 0)
    unfolding node_truth
    atom-truth k = node-truth ∙ simp k

    -- 'kinds 3 to 6 join their operands' truths', and so do 7 and 8; they are of earlier nodes
    pub truths-join : every (λ l. ltb (l / 2) n) (operands x) ≡ true → 2 < x.kind
        → truth_in L s rs (2 * n) ≡ joined L x.kind (map (truth_in L s rs) (operands x))
    unfolding node_truth truth_in
    truths-join below k =
        let f : eqb x.kind 1 ≡ false = ne_eqb x.kind 1 (λ q. omega arith) in
        let g : eqb x.kind 2 ≡ false = ne_eqb x.kind 2 (λ q. omega arith) in
        let v : List A = truths_from L s [] (take n rs) in
        let w : List A = truths_from L s [] rs in
        node-truth
        ∙ simp (f, g)
        (ap (joined L x.kind)
        (map-every (λ l. ltb (l / 2) n) (lit_truth L v) (lit_truth L w) (λ l q. sym (lit_prefix s rs n l (omega arith) (ltb-true (l / 2) n q))) (operands x) below))

-- ---- 'Truth values are classical'

pub negation_opposite : (s : List ℕ) (rs : List Node) (n : ℕ) → truth s rs (2 * n + 1) ≡ not (truth s rs (2 * n))
negation_opposite = negated_opposite classical

-- the same of any literal l: l + 1 - 2 * (l % 2) is its negation
module _ (s : List ℕ) (rs : List Node) (l : ℕ) where
  of_even : l % 2 ≡ 0 → truth s rs (l + 1 - 2 * (l % 2)) ≡ not (truth s rs l)
  of_even h =
      let p : l + 1 - 2 * (l % 2) ≡ 2 * (l / 2) + 1 = omega arith in
      let q : 2 * (l / 2) ≡ l = omega arith in
      rw p (negation_opposite s rs (l / 2) ∙ ap (λ (k : ℕ). not (truth s rs k)) q)

  of_odd : 0 < l % 2 → truth s rs (l + 1 - 2 * (l % 2)) ≡ not (truth s rs l)
  of_odd h =
      let p : l + 1 - 2 * (l % 2) ≡ 2 * (l / 2) = omega arith in
      let q : l ≡ 2 * (l / 2) + 1 = omega arith in
      rw p (sym (ap not (ap (truth s rs) q ∙ negation_opposite s rs (l / 2)) ∙ not-not (truth s rs (2 * (l / 2)))))

  pub negation_of_any : truth s rs (l + 1 - 2 * (l % 2)) ≡ not (truth s rs l)
  negation_of_any = ⊎_elim of_even of_odd (eq-zero-or-pos (l % 2))

-- node n of the list, called x
module _ (s : List ℕ) (rs : List Node) (n : ℕ) (x : Node) (h : n < length rs) (e : get_or rs n no_node ≡ x) where
  -- 'TRUE is true'
  pub true-true : x.kind ≡ 1 → truth s rs (2 * n) ≡ true
  true-true = true-yes classical s rs n x h e

  -- 'an ATOM is true where its point is 1'
  pub atom_point : x.kind ≡ 2 → truth s rs (2 * n) ≡ eqb (get_or s x.a 0) 1
  atom_point = atom-truth classical s rs n x h e

  module _ (below : every (λ l. ltb (l / 2) n) (operands x) ≡ true) where
    pub node-joins : 2 < x.kind → truth s rs (2 * n) ≡ joined classical x.kind (map (truth s rs) (operands x))
    node-joins = truths-join classical s rs n x h e below

    -- '.. by and'
    pub and-joins : x.kind ≡ 3 → truth s rs (2 * n) ≡ (truth s rs x.a && truth s rs x.b)
    unfolding joined
    and-joins k = node-joins (omega arith) ∙ rw (operands-two x (omega arith) (omega arith), k)

    -- '.. or'
    pub or-joins : x.kind ≡ 4 → truth s rs (2 * n) ≡ (truth s rs x.a || truth s rs x.b)
    unfolding joined
    or-joins k = node-joins (omega arith) ∙ rw (operands-two x (omega arith) (omega arith), k)

    -- '.. implies'
    pub imp-joins : x.kind ≡ 5 → truth s rs (2 * n) ≡ (not (truth s rs x.a) || truth s rs x.b)
    unfolding joined
    imp-joins k = node-joins (omega arith) ∙ rw (operands-two x (omega arith) (omega arith), k)

    -- '.. if and only if'
    pub iff-joins : x.kind ≡ 6 → truth s rs (2 * n) ≡ beq (truth s rs x.a) (truth s rs x.b)
    unfolding joined
    iff-joins k = node-joins (omega arith) ∙ rw (operands-two x (omega arith) (omega arith), k)

    -- 'Kind 7 is AND .. of three literals'
    pub three-and : x.kind ≡ 7 → truth s rs (2 * n) ≡ (truth s rs x.a && (truth s rs x.b && truth s rs x.c))
    unfolding joined
    three-and k = node-joins (omega arith) ∙ rw (operands-three x (omega arith), k)

    -- '.. and kind 8 OR'
    pub three-or : x.kind ≡ 8 → truth s rs (2 * n) ≡ (truth s rs x.a || (truth s rs x.b || truth s rs x.c))
    unfolding joined
    three-or k = node-joins (omega arith) ∙ rw (operands-three x (omega arith), k)
