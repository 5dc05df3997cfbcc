-- Filling an array with the levels of the literals of a readable table's nodes, one node after another. Assumes nothing.
use mathlib.Core.Path.{◌≡◌, ◌∙◌, ap, sym}
use mathlib.Core.List.{List, [], ◌∷◌, ◌++◌}
use Prim.Native.Nat.{ℕ, ◌+◌, ◌-◌, ◌*◌, ◌/◌, ◌%◌, ◌<◌, ◌≤◌}
use native.Mathlib.Nat.{zero-add}
use native.Mathlib.Numerals.{add-one}
use native.Mathlib.Omega.{arith}
use native.Mathlib.Decide.{ℕ_discrete}
use lib.ListN.{length, get_or, take, set, length-set, length-append}
use lib.Seq.{take-append_seam, get_or_at, get_or-set_same, get_or-set_other}
use Rattle.scope.specs.declared.Node.{Node}
use Rattle.scope.specs.declared.Truth.{Truth}
use Rattle.scope.specs.declared.Truth.TheVariants.{No}
use Rattle.scope.specs.Block.{record_at, records_in}
use Rattle.scope.specs.Table.{tables, node_at, list_from}
use Rattle.scope.specs.Truth.{lit_truth, node_truth, truths_from}
use Rattle.scope.specs.Kleene.{kleene}
use Rattle.scope.proofs.Lists.{length_list_from, list_from_more}
use Rattle.codec.specs.Valid.{Bytes}
use Rattle.codec.proofs.Tables.{few-records, record_reads}
use Rattle.record.specs.Place.{place_of}
use Rattle.table.proofs.Rows.{record_within}
use Rattle.truth.specs.Evaluated.{level, Levels, Says, Low, Evaluable, Filled}
use Rattle.truth.proofs.Truths.{truths-more, length-truths, lit_even, lit_odd, lit-take}
use Rattle.truth.proofs.Levels.{left_of_two, at_most}
use Rattle.truth.proofs.Low.{reads_low}

-- a node's level stands behind those of the nodes before it, then what is left of 2
module _ (w : List Truth) (a : Truth) (v : List ℕ) (n y : ℕ) (size : length w ≡ n) (is : y ≡ level a) (room : 2 * n + 2 ≤ length v) where
  abbrev after : List ℕ
  after = set (set v (2 * n) y) (2 * n + 1) (2 - y)

  even : get_or after (2 * n) 0 ≡ level a
  even = get_or-set_other (set v (2 * n) y) (2 * n + 1) (2 * n) (2 - y) 0 (λ e. omega arith) ∙ get_or-set_same v (2 * n) y 0 (omega arith) ∙ is

  odd : get_or after (2 * n + 1) 0 ≡ 2 - level a
  odd = get_or-set_same (set v (2 * n) y) (2 * n + 1) (2 - y) 0 (omega (arith, length-set v (2 * n) y)) ∙ ap (2 -◌) is

  other : (l : ℕ) → (l / 2 ≡ n → ⊥) → get_or after l 0 ≡ get_or v l 0
  other l h = get_or-set_other (set v (2 * n) y) (2 * n + 1) l (2 - y) 0 (λ e. h (omega arith)) ∙ get_or-set_other v (2 * n) l y 0 (λ e. h (omega arith))

  front : (l : ℕ) → l / 2 < n → lit_truth kleene w l ≡ lit_truth kleene (w ++ a ∷ []) l
  front l h =
      let first : take n (w ++ a ∷ []) ≡ w = rw size at (take-append_seam w (a ∷ [])) in
      ap (λ (z : List Truth). lit_truth kleene z l) (sym first) ∙ lit-take kleene (w ++ a ∷ []) n l h

  last : get_or (w ++ a ∷ []) n No ≡ a
  last = get_or_at w a [] No n size

  pub says_more : Says w v → Says (w ++ a ∷ []) after
  says_more says l h = go (ℕ_discrete (l / 2) n) (ℕ_discrete (l % 2) 0)
    where
      go : Dec (l / 2 ≡ n) → Dec (l % 2 ≡ 0) → get_or after l 0 ≡ level (lit_truth kleene (w ++ a ∷ []) l)
      go (no e) d =
          let below : l / 2 < n = omega (arith, size, rw length-append at h) in
          other l e ∙ says l (omega arith) ∙ ap level (front l below)
      go (yes e) (yes z) =
          let q : l ≡ 2 * n = omega arith in
          rw q (even ∙ ap level (sym (lit_even kleene (w ++ a ∷ []) n ∙ last)))
      go (yes e) (no z) =
          let q : l ≡ 2 * n + 1 = omega arith in
          rw q (odd ∙ left_of_two a ∙ ap level (sym (lit_odd kleene (w ++ a ∷ []) n ∙ ap kleene.opposite last)))

-- a level more
pub levels_more : (v : List ℕ) (n y : ℕ) → n < length v → Levels v → y ≤ 2 → Levels (set v n y)
levels_more v n y h a k i = go (ℕ_discrete i n)
  where
    go : Dec (i ≡ n) → get_or (set v n y) i 0 ≤ 2
    go (yes e) = rw (e, get_or-set_same v n y 0 h) k
    go (no e) = rw (get_or-set_other v n i y 0 e) (a i)

-- node n's level written: the array has those of the nodes before n + 1
module _ (t s v : List ℕ) (n : ℕ) where
  abbrev pub truths : List Truth
  truths = truths_from kleene s [] (list_from (node_at t) 0 n)

  pub truths_size : length truths ≡ n
  truths_size = length-truths kleene s (list_from (node_at t) 0 n) [] ∙ zero-add (length (list_from (node_at t) 0 n)) ∙ length_list_from (node_at t) n 0

  pub filled_more : (x : Node) (y : ℕ) → 2 * n + 2 ≤ length v → x ≡ node_at t n → Filled t s n v → y ≡ level (node_truth kleene s truths x)
      → Filled t s (n + 1) (set (set v (2 * n) y) (2 * n + 1) (2 - y))
  filled_more x y room e f q =
      let rs : List Node = list_from (node_at t) 0 n in
      let a : Truth = node_truth kleene s truths x in
      let more : truths_from kleene s [] (list_from (node_at t) 0 (n + 1)) ≡ truths ++ a ∷ [] =
      rw (add-one, list_from_more, zero-add, ← e) (truths-more kleene s rs x) in
      let low = at_most a q in
      record {
        levels = levels_more (set v (2 * n) y) (2 * n + 1) (2 - y) (omega (arith, length-set v (2 * n) y))
            (levels_more v (2 * n) y (omega arith) f.levels low) (omega arith);
        says = rw more (says_more truths a v n y truths_size q room f.says);
      }

-- no node yet
pub filled_none : (t s v : List ℕ) → Levels v → Filled t s 0 v
filled_none t s v h = record { levels = h; says = λ l q. absurd (omega (arith, truths_size t s v 0)) }

-- fewer nodes, and an array of the same length
pub evaluable_first : {t s v u : List ℕ} {nodes n : ℕ} → Evaluable t s v nodes → n ≤ nodes → length u ≡ length v → Evaluable t s u n
evaluable_first e h q = record {
  readable = e.readable;
  inside = omega (arith, e.inside);
  points = e.points;
  room = omega (arith, e.room);
}

-- the first nodes of a readable table are few
pub nodes_few : {t s v : List ℕ} {nodes : ℕ} → Bytes t → Evaluable t s v nodes → nodes ≤ 2016
nodes_few {t} all e = omega (arith, e.inside, few-records t all e.readable)

-- where record i of block j stands
pub place_is : (j i : ℕ) → i < 63 → 512 * j + 4 + 8 * i ≡ place_of (63 * j + i)
place_is j i h =
    let q : (63 * j + i) / 63 ≡ j = omega arith in
    let r : (63 * j + i) % 63 ≡ i = omega arith in
    rw (q, r) (omega arith)

-- the record of a node among the first of a readable table stands in the table, and the node can be taken
module _ {t s v : List ℕ} {nodes : ℕ} (all : Bytes t) (e : Evaluable t s v nodes) (n : ℕ) (h : n < nodes) where
  inside : n < records_in tables t
  inside = omega (arith, e.inside)

  pub node_within : place_of n + 8 ≤ length t
  node_within = record_within t all e.readable n inside

  pub node_low : Low (node_at t n) n
  node_low = reads_low (record_at tables t n) n (node_at t n) (record_reads t all e.readable n inside)
