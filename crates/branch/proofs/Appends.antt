-- The clauses of a literal by the code's templates, and how they are appended. Assumes nothing.
use mathlib.Core.Path.{◌≡◌, refl, sym, ap, ◌∙◌, subst}
use mathlib.Core.Bool.{Bool, true, false, cond}
use mathlib.Core.Logic.{◌⊎◌, inl, inr}
use mathlib.Core.List.{List, [], ◌∷◌, ◌++◌, map, append-nil}
use Prim.Native.Nat.{ℕ, zero, suc, ◌+◌, ◌-◌, ◌*◌, ◌/◌, ◌%◌, ◌<◌, ◌≤◌}
use native.Mathlib.Omega.{arith}
use native.Mathlib.Decide.{ℕ_discrete, dec_lt}
use lib.Dec.{leb, ltb}
use lib.ListN.{length, get_or, set, length-set, length-map, length-append, get_or-append}
use lib.Seq.{get_or-set_same, get_or-set_other, get_or-append-add}
use borrow.Author.Tests.{leb-true, le-ltb}
use Rattle.scope.specs.declared.Node.{Node}
use Rattle.scope.specs.Table.{arity}
use Rattle.scope.proofs.Operands.{arity_most}
use Rattle.calculus.specs.Expansion.{chosen, templates, expand}
use Rattle.calculus.specs.Order.{clauses}
use Rattle.calculus.specs.Model.{All, Table, Below}
use Rattle.calculus.proofs.Lists.{every, every_all, all_append, all_get_d, all_imply}
use Rattle.calculus.proofs.Fresh.{expand-under}
use Rattle.index.specs.Index.{index_node}
use Rattle.index.proofs.Nodes.{operand_low}
use Rattle.area.specs.Area.{most_clauses, most_slots, literal_room, bases_from, slots_from, notes, clause_count, base_at, packed_at, slot_at}
use Rattle.area.proofs.Packed.{bare_literal}
use Rattle.branch.specs.Clauses.{flat, offset, Listed, Filled, Appended, Room}
use Rattle.branch.specs.Holds.{Indexed}
use Rattle.branch.proofs.Offsets.{flat_append, flat_map, offset_low, offset_high, offset_all, offset-none}

-- ---- numbers that are stored one after the other

module _ {at : ℕ} {f : ℕ → ℕ} {w₀ : List ℕ} where
  pub filled_none : Filled at 0 f w₀ w₀
  filled_none = record { size = refl; here = λ i h. absurd (omega (arith, h)); else = λ i h. refl }

  pub filled_more : {m v : ℕ} {w : List ℕ} → Filled at m f w₀ w → at + m < length w₀ → v ≡ f m → Filled at (m + 1) f w₀ (set w (at + m) v)
  filled_more {m} {v} {w} p b e = record {
    size = length-set w (at + m) v ∙ p.size;
    here = λ i h. go i h (ℕ_discrete i m);
    else = λ i o. get_or-set_other w (at + m) i v 0 (beside i o) ∙ p.else i (wider i o);
  }
    where
      go : (i : ℕ) → i < m + 1 → Dec (i ≡ m) → get_or (set w (at + m) v) (at + i) 0 ≡ f i
      go i h (yes q) = ap (λ (j : ℕ). get_or (set w (at + m) v) (at + j) 0) q ∙ get_or-set_same w (at + m) v 0 (omega (arith, b, p.size)) ∙ e ∙ ap f (sym q)
      go i h (no q) = get_or-set_other w (at + m) (at + i) v 0 (λ y. q (omega (arith, y))) ∙ p.here i (omega (arith, h, q))

      beside : (i : ℕ) → (i < at) ⊎ (at + (m + 1) ≤ i) → i ≡ at + m → ⊥
      beside i (inl x) q = omega (arith, x, q)
      beside i (inr x) q = omega (arith, x, q)

      wider : (i : ℕ) → (i < at) ⊎ (at + (m + 1) ≤ i) → (i < at) ⊎ (at + m ≤ i)
      wider i (inl x) = inl x
      wider i (inr x) = inr (omega (arith, x))

  pub filled_first : {v : ℕ} → at < length w₀ → v ≡ f 0 → Filled at 1 f w₀ (set w₀ at v)
  filled_first {v} b e =
      let z : at + 0 ≡ at = omega arith in
      subst (λ (i : ℕ). Filled at 1 f w₀ (set w₀ i v)) z (filled_more filled_none (omega (arith, b)) e)

  pub filled_all : {m k : ℕ} {w : List ℕ} → Filled at m f w₀ w → m ≡ k → Filled at k f w₀ w
  filled_all {m} {k} {w} p e = subst (λ (i : ℕ). Filled at i f w₀ w) e p

-- ---- clauses that are appended

-- room for fewer
pub room_fewer : {k m k' m' : ℕ} {w : List ℕ} → k' ≤ k → m' ≤ m → Room k m w → Room k' m' w
room_fewer a b r = record { size = r.size; clauses = omega (arith, a, r.clauses); slots = omega (arith, b, r.slots) }

-- room for a row's clauses is room for those of a part of it
pub room_within : (k m : ℕ) (w : List ℕ) → Room 3 4 w → k ≤ 3 → m ≤ 4 → Room k m w
room_within k m w r a b = room_fewer a b r

-- room that is left
pub room_left : {K M k m : ℕ} {ds : List (List ℕ)} {w w' : List ℕ} → length ds + k ≤ K → length (flat ds) + m ≤ M → Room K M w → Appended ds w w' → Room k m w'
room_left {K} {M} {k} {m} {ds} {w} {w'} p q r a =
    let top : base_at w' (clause_count w') ≡ base_at w (clause_count w) + length (flat ds) =
    ap (base_at w') a.count ∙ a.bases (length ds) (omega arith) ∙ ap (base_at w (clause_count w) +◌) (offset_all ds) in
    record { size = omega (arith, r.size, a.size); clauses = omega (arith, p, r.clauses, a.count); slots = omega (arith, q, r.slots, top) }

pub appended_none : {w : List ℕ} → Appended [] w w
unfolding offset flat
appended_none {w} = record {
  size = refl;
  count = omega arith;
  bases = λ j h. go j h;
  slots = λ i h. absurd (omega (arith, h));
  old_bases = λ k h. refl;
  old_slots = λ i h. refl;
  beyond = λ i h. refl;
  depths = refl;
  heads = refl;
  later = λ i h. refl;
}
  where
    go : (j : ℕ) → j ≤ 0 → base_at w (clause_count w + j) ≡ base_at w (clause_count w) + offset [] j
    go zero h =
        let z : clause_count w + 0 ≡ clause_count w = omega arith in
        ap (base_at w) z ∙ omega (arith, offset-none [])
    go (suc j) h = absurd (omega (arith, h))

module _ {ds es : List (List ℕ)} {w w₁ w₂ : List ℕ} (a : Appended ds w w₁) (b : Appended es w₁ w₂) where
  -- first these, then those
  pub appended_both : Appended (ds ++ es) w w₂
  appended_both = record {
    size = b.size ∙ a.size;
    count = omega (arith, b.count, a.count, length-append ds es);
    bases = λ j h. base j h (dec_lt (length ds) j);
    slots = λ i h. slot i h (dec_lt i (length (flat ds)));
    old_bases = λ k h. b.old_bases k (omega (arith, h, a.count)) ∙ a.old_bases k h;
    old_slots = λ i h. b.old_slots i (omega (arith, h, top)) ∙ a.old_slots i h;
    beyond = λ i h. b.beyond i (omega (arith, h, top, ap length (flat_append ds es), length-append (flat ds) (flat es)))
        ∙ a.beyond i (omega (arith, h, ap length (flat_append ds es), length-append (flat ds) (flat es)));
    depths = b.depths ∙ a.depths;
    heads = b.heads ∙ a.heads;
    later = λ i h. b.later i h ∙ a.later i h;
  }
    where
      top : base_at w₁ (clause_count w₁) ≡ base_at w (clause_count w) + length (flat ds)
      top = ap (base_at w₁) a.count ∙ a.bases (length ds) (omega arith) ∙ ap (base_at w (clause_count w) +◌) (offset_all ds)

      base : (j : ℕ) → j ≤ length (ds ++ es) → Dec (length ds < j) → base_at w₂ (clause_count w + j) ≡ base_at w (clause_count w) + offset (ds ++ es) j
      base j h (yes q) =
          let i : ℕ = j - length ds in
          let z : clause_count w₁ + i ≡ clause_count w + j = omega (arith, q, a.count) in
          let y : length ds + i ≡ j = omega (arith, q) in
          ap (base_at w₂) (sym z) ∙ b.bases i (omega (arith, h, q, length-append ds es))
          ∙ omega (arith, top, offset_high ds es i, ap (offset (ds ++ es)) y)
      base j h (no q) =
          b.old_bases (clause_count w + j) (omega (arith, q, a.count)) ∙ a.bases j (omega (arith, q))
          ∙ ap (base_at w (clause_count w) +◌) (sym (offset_low ds es j (omega (arith, q))))

      slot : (i : ℕ) → i < length (flat (ds ++ es)) → Dec (i < length (flat ds)) → packed_at w₂ (base_at w (clause_count w) + i) ≡ get_or (flat (ds ++ es)) i 0
      slot i h (yes q) =
          b.old_slots (base_at w (clause_count w) + i) (omega (arith, q, top)) ∙ a.slots i q
          ∙ sym (ap (λ (c : List ℕ). get_or c i 0) (flat_append ds es) ∙ get_or-append (flat ds) (flat es) 0 i q)
      slot i h (no q) =
          let j : ℕ = i - length (flat ds) in
          let z : base_at w₁ (clause_count w₁) + j ≡ base_at w (clause_count w) + i = omega (arith, q, top) in
          let y : length (flat ds) + j ≡ i = omega (arith, q) in
          ap (packed_at w₂) (sym z) ∙ b.slots j (omega (arith, h, q, ap length (flat_append ds es), length-append (flat ds) (flat es)))
          ∙ sym (ap (λ (c : List ℕ). get_or c i 0) (flat_append ds es) ∙ ap (λ (x : ℕ). get_or (flat ds ++ flat es) x 0) (sym y)
          ∙ get_or-append-add (flat ds) (flat es) j 0)

pub appended_as : {ds es : List (List ℕ)} {w w' : List ℕ} → ds ≡ es → Appended ds w w' → Appended es w w'
appended_as {ds} {es} {w} {w'} e a = subst (λ (cs : List (List ℕ)). Appended cs w w') e a

-- the literals of a clause are stored, then its end, and it is counted
module _ (c : List ℕ) (w w₁ : List ℕ) (r : Room 1 (length c) w) (p : Filled (slots_from + base_at w (clause_count w)) (length c) (λ i. get_or c i 0) w w₁) where
  abbrev K : ℕ
  K = clause_count w

  abbrev B : ℕ
  B = base_at w K

  w₂ : List ℕ
  w₂ = set w₁ (bases_from + (K + 1)) (B + length c)

  w₃ : List ℕ
  w₃ = set w₂ 0 (K + 1)

  size₂ : length w₂ ≡ length w
  unfolding w₂
  size₂ = length-set w₁ (bases_from + (K + 1)) (B + length c) ∙ p.size

  away₂ : (i : ℕ) → (i ≡ bases_from + (K + 1) → ⊥) → get_or w₂ i 0 ≡ get_or w₁ i 0
  unfolding w₂
  away₂ i n = get_or-set_other w₁ (bases_from + (K + 1)) i (B + length c) 0 n

  away₃ : (i : ℕ) → (i ≡ 0 → ⊥) → get_or w₃ i 0 ≡ get_or w₂ i 0
  unfolding w₃
  away₃ i n = get_or-set_other w₂ 0 i (K + 1) 0 n

  -- away from the end and the literals
  low₃ : (i : ℕ) → (i ≡ 0 → ⊥) → i ≤ bases_from + K → get_or w₃ i 0 ≡ get_or w i 0
  low₃ i n a = away₃ i n ∙ away₂ i (λ x. omega (arith, x, a)) ∙ p.else i (inl (omega (arith, a, r.clauses)))

  base₃ : (j : ℕ) → j ≤ 1 → base_at w₃ (K + j) ≡ B + offset (c ∷ []) j
  unfolding offset w₂
  base₃ zero a =
      let y : bases_from + (K + 0) ≡ bases_from + K = omega arith in
      ap (λ (i : ℕ). get_or w₃ i 0) y ∙ low₃ (bases_from + K) (λ x. omega (arith, x)) (omega arith) ∙ omega arith
  base₃ (suc zero) a =
      away₃ (bases_from + (K + 1)) (λ x. omega (arith, x)) ∙ get_or-set_same w₁ (bases_from + (K + 1)) (B + length c) 0
      (omega (arith, p.size, r.size, r.clauses))
      ∙ omega arith
  base₃ (suc (suc j)) a = absurd (omega (arith, a))

  slot₃ : (i : ℕ) → i < length c → packed_at w₃ (B + i) ≡ get_or c i 0
  slot₃ i a =
      let y : slots_from + (B + i) ≡ slots_from + B + i = omega arith in
      ap (λ (x : ℕ). get_or w₃ x 0) y ∙ away₃ (slots_from + B + i) (λ x. omega (arith, x)) ∙ away₂ (slots_from + B + i) (λ x. omega (arith, x, r.clauses))
      ∙ p.here i a

  flat-one : flat (c ∷ []) ≡ c
  unfolding flat
  flat-one = append-nil c

  appended₃ : Appended (c ∷ []) w w₃
  appended₃ = record {
    size = unfold w₃ in length-set w₂ 0 (K + 1) ∙ size₂;
    count = unfold w₃ in get_or-set_same w₂ 0 (K + 1) 0 (omega (arith, size₂, r.size));
    bases = base₃;
    slots = λ i h. slot₃ i (omega (arith, h, ap length flat-one)) ∙ ap (λ (d : List ℕ). get_or d i 0) (sym flat-one);
    old_bases = λ k a. low₃ (bases_from + k) (λ x. omega (arith, x)) (omega (arith, a));
    old_slots = λ i a. away₃ (slots_from + i) (λ x. omega (arith, x)) ∙ away₂ (slots_from + i) (λ x. omega (arith, x, r.clauses))
        ∙ p.else (slots_from + i) (inl (omega (arith, a)));
    beyond = λ i a. away₃ (slots_from + i) (λ x. omega (arith, x)) ∙ away₂ (slots_from + i) (λ x. omega (arith, x, r.clauses))
        ∙ p.else (slots_from + i) (inr (omega (arith, a, ap length flat-one)));
    depths = low₃ 1 (λ x. omega (arith, x)) (omega arith);
    heads = low₃ 2 (λ x. omega (arith, x)) (omega arith);
    later = λ i a. away₃ i (λ x. omega (arith, x, a)) ∙ away₂ i (λ x. omega (arith, x, a, r.clauses)) ∙ p.else i (inr (omega (arith, a, r.slots)));
  }

  pub appended_one : Appended (c ∷ []) w (set (set w₁ (bases_from + (clause_count w + 1)) (base_at w (clause_count w) + length c)) 0 (clause_count w + 1))
  unfolding w₃ w₂
  appended_one = appended₃

module _ (w : List ℕ) where
  pub empty-is : Room 1 0 w → Appended ([] ∷ []) w (set (set w (bases_from + (clause_count w + 1)) (base_at w (clause_count w))) 0 (clause_count w + 1))
  empty-is r =
      let z : base_at w (clause_count w) + 0 ≡ base_at w (clause_count w) = omega arith in
      subst (λ (v : ℕ). Appended ([] ∷ []) w (set (set w (bases_from + (clause_count w + 1)) v) 0 (clause_count w + 1))) z (appended_one [] w w r filled_none)

  pub one-is : (p : ℕ) → Room 1 1 w
      → Appended ((p ∷ []) ∷ []) w (set (set (set w (slots_from + base_at w (clause_count w)) p) (bases_from + (clause_count w + 1))
      (base_at w (clause_count w) + 1)) 0 (clause_count w + 1))
  one-is p r = appended_one (p ∷ []) w _ r (filled_first (omega (arith, r.size, r.slots)) refl)

  pub two_is : (p q : ℕ) → Room 1 2 w
      → Appended ((p ∷ q ∷ []) ∷ []) w
      (set (set (set (set w (slots_from + base_at w (clause_count w)) p) (slots_from + base_at w (clause_count w) + 1) q) (bases_from + (clause_count w + 1))
      (base_at w (clause_count w) + 2)) 0 (clause_count w + 1))
  two_is p q r =
      appended_one (p ∷ q ∷ []) w _ r
      (filled_more (filled_first (omega (arith, r.size, r.slots)) refl) (omega (arith, r.size, r.slots)) refl)

  -- the same, where the clause's number and its slot are known
  pub two_at : (k b p q : ℕ) → Room 1 2 w → k ≡ clause_count w → b ≡ base_at w (clause_count w)
      → Appended ((p ∷ q ∷ []) ∷ []) w (set (set (set (set w (slots_from + b) p) (slots_from + b + 1) q) (bases_from + (k + 1)) (b + 2)) 0 (k + 1))
  two_at k b p q r e f =
      subst (λ (i : ℕ). Appended ((p ∷ q ∷ []) ∷ []) w (set (set (set (set w (slots_from + b) p) (slots_from + b + 1) q) (bases_from + (i + 1)) (b + 2)) 0
      (i + 1))) (sym e)
      (subst (λ (i : ℕ). Appended ((p ∷ q ∷ []) ∷ []) w (set (set (set (set w (slots_from + i) p) (slots_from + i + 1) q) (bases_from + (clause_count w + 1))
      (i + 2)) 0 (clause_count w + 1))) (sym f)
      (two_is p q r))

  pub three-is : (p q l : ℕ) → Room 1 3 w
      → Appended ((p ∷ q ∷ l ∷ []) ∷ []) w
      (set (set (set (set (set w (slots_from + base_at w (clause_count w)) p) (slots_from + base_at w (clause_count w) + 1) q)
      (slots_from + base_at w (clause_count w) + 2) l)
      (bases_from + (clause_count w + 1)) (base_at w (clause_count w) + 3)) 0 (clause_count w + 1))
  three-is p q l r =
      appended_one (p ∷ q ∷ l ∷ []) w _ r
      (filled_more (filled_more (filled_first (omega (arith, r.size, r.slots)) refl) (omega (arith, r.size, r.slots)) refl)
      (omega (arith, r.size, r.slots)) refl)

-- ---- the clauses of a literal, by its row

pub row_expands : (t : ℕ → Node) (l row : ℕ) → row ≡ 2 * (t (l / 2)).kind + l % 2 → map (map (chosen (t (l / 2)))) (get_or templates row []) ≡ expand t l
unfolding expand
row_expands t l row e = ap (λ (i : ℕ). map (map (chosen (t (l / 2)))) (get_or templates i [])) e

pub two_operands : (kind : ℕ) → 3 ≤ kind → 2 ≤ arity kind
unfolding arity
two_operands kind h = subst (2 ≤◌) (sym (ap (λ (b : Bool). cond b 0 (cond (ltb kind 7) 2 3)) (le-ltb kind 3 h))) (go (ltb kind 7))
  where
    go : (b : Bool) → 2 ≤ cond b 2 3
    go true = omega arith
    go false = omega arith

pub three_operands : (kind : ℕ) → 7 ≤ kind → 3 ≤ arity kind
unfolding arity
three_operands kind h =
    let z : arity kind ≡ 3 = ap (λ (b : Bool). cond b 0 (cond (ltb kind 7) 2 3)) (le-ltb kind 3 (omega (arith, h)))
    ∙ ap (λ (b : Bool). cond b 2 3) (le-ltb kind 7 h) in
    omega (arith, z)

-- the clauses of literals that are chosen
pub each_is : {p q c d : ℕ} {w w₁ w₂ : List ℕ} → p ≡ c → q ≡ d → Appended ((p ∷ []) ∷ []) w w₁ → Appended ((q ∷ []) ∷ []) w₁ w₂
    → Appended ((c ∷ []) ∷ (d ∷ []) ∷ []) w w₂
each_is {p} {q} {c} {d} {w} {w₁} {w₂} f g a b =
    subst (λ (x : ℕ). Appended ((x ∷ []) ∷ (d ∷ []) ∷ []) w w₂) f (subst (λ (x : ℕ). Appended ((p ∷ []) ∷ (x ∷ []) ∷ []) w w₂) g (appended_both a b))

pub some_is : {p q c d : ℕ} {w w' : List ℕ} → p ≡ c → q ≡ d → Appended ((p ∷ q ∷ []) ∷ []) w w' → Appended ((c ∷ d ∷ []) ∷ []) w w'
some_is {p} {q} {c} {d} {w} {w'} f g a = subst (λ (x : ℕ). Appended ((x ∷ d ∷ []) ∷ []) w w') f (subst (λ (x : ℕ). Appended ((p ∷ x ∷ []) ∷ []) w w') g a)

-- two clauses of two each, the second where the first ends
pub pairs_is : {p q l m c d e f : ℕ} {w w₁ w₂ : List ℕ} → p ≡ c → q ≡ d → l ≡ e → m ≡ f → Appended ((p ∷ q ∷ []) ∷ []) w w₁ → Appended ((l ∷ m ∷ []) ∷ []) w₁ w₂
    → Appended ((c ∷ d ∷ []) ∷ (e ∷ f ∷ []) ∷ []) w w₂
pairs_is a b g h x y = appended_both (some_is a b x) (some_is g h y)

pub pairs_ready : {p q k b : ℕ} {w w₁ : List ℕ} → Room 2 4 w → k ≡ clause_count w → b ≡ base_at w (clause_count w) → Appended ((p ∷ q ∷ []) ∷ []) w w₁
    → Room 1 2 w₁ × (k + 1 ≡ clause_count w₁) × (b + 2 ≡ base_at w₁ (clause_count w₁))
unfolding flat offset
pairs_ready {p} {q} {k} {b} {w} {w₁} r e f a =
    let y : base_at w₁ (clause_count w₁) ≡ base_at w (clause_count w) + 2 = ap (base_at w₁) a.count ∙ a.bases 1 (omega arith) in
    (room_left (omega arith) (omega arith) r a, omega (arith, e, a.count), omega (arith, f, y))

pub each_three-is : {p q l c d e : ℕ} {w w₁ w₂ w₃ : List ℕ} → p ≡ c → q ≡ d → l ≡ e → Appended ((p ∷ []) ∷ []) w w₁ → Appended ((q ∷ []) ∷ []) w₁ w₂
    → Appended ((l ∷ []) ∷ []) w₂ w₃ → Appended ((c ∷ []) ∷ (d ∷ []) ∷ (e ∷ []) ∷ []) w w₃
each_three-is {p} {q} {l} {c} {d} {e} {w} {w₁} {w₂} {w₃} f g h a b o =
    subst (λ (x : ℕ). Appended ((c ∷ []) ∷ (d ∷ []) ∷ (x ∷ []) ∷ []) w w₃) h (appended_both (each_is f g a b) o)

-- the clauses of a row
pub by_row : (N : Node) (row r : ℕ) {w w' : List ℕ} → row ≡ r → Appended (map (map (chosen N)) (get_or templates r [])) w w'
    → Appended (map (map (chosen N)) (get_or templates row [])) w w'
by_row N row r {w} {w'} e a = subst (λ (i : ℕ). Appended (map (map (chosen N)) (get_or templates i [])) w w') (sym e) a

-- a row that is none of some is past them
pub past : {r row : ℕ} → r ≤ row → (row ≡ r → ⊥) → suc r ≤ row
past h n = omega (arith, h, n)

-- those of an IFF and of its negation, by the sign
iff_row : (N : Node) (row r : ℕ) {sign : ℕ} {w w' : List ℕ} → row ≡ r → sign ≡ row % 2
    → Appended (map (map (chosen N)) (((1 - sign) ∷ 2 ∷ []) ∷ (sign ∷ 3 ∷ []) ∷ [])) w w'
    → Appended (map (map (chosen N)) (((1 - r % 2) ∷ 2 ∷ []) ∷ (r % 2 ∷ 3 ∷ []) ∷ [])) w w'
iff_row N row r {sign} {w} {w'} e f a =
    subst (λ (i : ℕ). Appended (map (map (chosen N)) (((1 - i) ∷ 2 ∷ []) ∷ (i ∷ 3 ∷ []) ∷ [])) w w') (f ∙ ap (◌% 2) e) a

-- the rows of an IFF and of its negation
pub iff_rows : (N : Node) (row : ℕ) {sign : ℕ} {w w' : List ℕ} → 12 ≤ row → row < 14 → sign ≡ row % 2
    → Appended (map (map (chosen N)) (((1 - sign) ∷ 2 ∷ []) ∷ (sign ∷ 3 ∷ []) ∷ [])) w w' → Appended (map (map (chosen N)) (get_or templates row [])) w w'
unfolding templates
iff_rows N row {sign} {w} {w'} a b f h = go (ℕ_discrete row 12)
  where
    go : Dec (row ≡ 12) → Appended (map (map (chosen N)) (get_or templates row [])) w w'
    go (yes e) = by_row N row 12 e (iff_row N row 12 e f h)
    go (no n) =
        let e : row ≡ 13 = omega arith in
        by_row N row 13 e (iff_row N row 13 e f h)

-- a row with no operands: not TRUE has an empty clause
pub bare_same : (f : ℕ → ℕ) (row : ℕ) → row < 6 → get_or templates row [] ≡ map (map f) (get_or templates row [])
unfolding templates
bare_same f zero h = refl
bare_same f (suc zero) h = refl
bare_same f (suc (suc zero)) h = refl
bare_same f (suc (suc (suc zero))) h = refl
bare_same f (suc (suc (suc (suc zero)))) h = refl
bare_same f (suc (suc (suc (suc (suc zero))))) h = refl
bare_same f (suc (suc (suc (suc (suc (suc row)))))) h = absurd (omega (arith, h))

pub bare-none : (row : ℕ) → row < 6 → (row ≡ 3 → ⊥) → [] ≡ get_or templates row []
unfolding templates
bare-none zero h n = refl
bare-none (suc zero) h n = refl
bare-none (suc (suc zero)) h n = refl
bare-none (suc (suc (suc zero))) h n = absurd (n refl)
bare-none (suc (suc (suc (suc zero)))) h n = refl
bare-none (suc (suc (suc (suc (suc zero))))) h n = refl
bare-none (suc (suc (suc (suc (suc (suc row)))))) h n = absurd (omega (arith, h))

pub bare-empty : (row : ℕ) → row ≡ 3 → [] ∷ [] ≡ get_or templates row []
unfolding templates
bare-empty row e = ap (λ (i : ℕ). get_or templates i []) (sym e)

-- ---- the literal that is chosen

module _ {x : List ℕ} {n : ℕ} (I : Indexed x n) (m : ℕ) (h : m < n) (c : ℕ) (k : c / 2 < arity (index_node x m).kind) where
  -- there are six choices, and what is read is a literal of the table
  pub six : c < 6
  six = omega (arith, k, arity_most (index_node x m).kind)

  pub operand_few : get_or x (4 * m + (1 + c / 2)) 0 < 2 * n
  operand_few = omega (arith, operand_low x n m (c / 2) I.table h k, h)

-- ---- the clause list of a work area

module _ {cs ds : List (List ℕ)} {w w' : List ℕ} where
  -- clauses of literals are appended
  pub listed_more : Listed cs w → Appended ds w w' → ((i : ℕ) → i < length (flat ds) → get_or (flat ds) i 0 < notes) → Listed (cs ++ ds) w'
  listed_more p a low = record {
    count = a.count ∙ ap (◌+ length ds) p.count ∙ sym (length-append cs ds);
    bases = λ k h. base k h (dec_lt (length cs) k);
    slots = λ i h. slot i h (dec_lt i (length (flat cs)));
  }
    where
      top : base_at w (clause_count w) ≡ length (flat cs)
      top = p.bases (clause_count w) (omega (arith, p.count)) ∙ ap (offset cs) p.count ∙ offset_all cs

      base : (k : ℕ) → k ≤ length (cs ++ ds) → Dec (length cs < k) → base_at w' k ≡ offset (cs ++ ds) k
      base k h (yes q) =
          let j : ℕ = k - length cs in
          let z : clause_count w + j ≡ k = omega (arith, q, p.count) in
          let y : length cs + j ≡ k = omega (arith, q) in
          ap (base_at w') (sym z) ∙ a.bases j (omega (arith, h, q, length-append cs ds)) ∙ ap (◌+ offset ds j) top ∙ sym (offset_high cs ds j)
          ∙ ap (offset (cs ++ ds)) y
      base k h (no q) = a.old_bases k (omega (arith, q, p.count)) ∙ p.bases k (omega (arith, q)) ∙ sym (offset_low cs ds k (omega (arith, q)))

      slot : (i : ℕ) → i < length (flat (cs ++ ds)) → Dec (i < length (flat cs)) → slot_at w' i ≡ get_or (flat (cs ++ ds)) i 0
      slot i h (yes q) =
          ap (◌% notes) (a.old_slots i (omega (arith, q, top))) ∙ p.slots i q
          ∙ sym (ap (λ (c : List ℕ). get_or c i 0) (flat_append cs ds) ∙ get_or-append (flat cs) (flat ds) 0 i q)
      slot i h (no q) =
          let j : ℕ = i - length (flat cs) in
          let z : base_at w (clause_count w) + j ≡ i = omega (arith, q, top) in
          let y : length (flat cs) + j ≡ i = omega (arith, q) in
          let b : j < length (flat ds) = omega (arith, h, q, ap length (flat_append cs ds), length-append (flat cs) (flat ds)) in
          ap (slot_at w') (sym z) ∙ ap (◌% notes) (a.slots j b) ∙ bare_literal (get_or (flat ds) j 0) (low j b)
          ∙ sym (ap (λ (c : List ℕ). get_or c i 0) (flat_append cs ds) ∙ ap (λ (x : ℕ). get_or (flat cs ++ flat ds) x 0) (sym y)
          ∙ get_or-append-add (flat cs) (flat ds) j 0)

-- the first clauses alone, where their numbers are as they were
pub listed-first : (all cs ds : List (List ℕ)) (w w' : List ℕ) → all ≡ cs ++ ds → length all ≤ most_clauses → length (flat all) ≤ most_slots
    → Listed all w → clause_count w' ≡ length cs → ((i : ℕ) → bases_from ≤ i → i < slots_from → get_or w' i 0 ≡ get_or w i 0)
    → ((i : ℕ) → i < most_slots → slot_at w' i ≡ slot_at w i) → Listed cs w'
listed-first all cs ds w w' e m n p c s l =
    let f : length all ≡ length cs + length ds = ap length e ∙ length-append cs ds in
    let g : length (flat all) ≡ length (flat cs) + length (flat ds) = ap (λ (a : List (List ℕ)). length (flat a)) e ∙ ap length (flat_append cs ds)
    ∙ length-append (flat cs) (flat ds) in
    record {
      count = c;
      bases = λ k h. s (bases_from + k) (omega arith) (omega (arith, h, f, m)) ∙ p.bases k (omega (arith, h, f)) ∙ ap (λ (a : List (List ℕ)). offset a k) e
          ∙ offset_low cs ds k h;
      slots = λ i h. l i (omega (arith, h, g, n)) ∙ p.slots i (omega (arith, h, g))
          ∙ ap (λ (a : List (List ℕ)). get_or (flat a) i 0) e ∙ ap (λ (a : List ℕ). get_or a i 0) (flat_append cs ds) ∙ get_or-append (flat cs) (flat ds) 0 i h;
    }

-- ---- the literals of a literal's clauses

pub all_flat : (P : ℕ → Type 0) (cs : List (List ℕ)) → All (All P) cs → All P (flat cs)
unfolding flat
all_flat P [] a = tt
all_flat P (c ∷ cs) a = all_append P c (flat cs) a.0 (all_flat P cs a.1)

pub expand_below : (n : ℕ) (t : ℕ → Node) → Table n t → (l : ℕ) → l < 2 * n → All (Below n) (expand t l)
expand_below n t T l b =
    all_imply (All (λ m. m / 2 < l / 2)) (Below n) (all_imply (λ m. m / 2 < l / 2) (λ m. m < 2 * n) (λ m h. omega (arith, h, b))) (expand t l)
    (expand-under n t T l b)

-- ---- how many literals the clause list has

rows_short : every (λ (ds : List (List ℕ)). leb (length (flat ds)) literal_room) templates ≡ true
unfolding templates flat
rows_short = refl

flat_row_most : (i : ℕ) → length (flat (get_or templates i [])) ≤ literal_room
unfolding flat
flat_row_most i =
    leb-true (length (flat (get_or templates i []))) literal_room
    (all_get_d (λ ds. leb (length (flat ds)) literal_room ≡ true) templates i [] refl
    (every_all (λ ds. leb (length (flat ds)) literal_room) templates rows_short))

-- clauses of one literal each
pub flat-singles : (goals : List ℕ) → flat (map (◌∷ []) goals) ≡ goals
unfolding flat
flat-singles [] = refl
flat-singles (g ∷ goals) = ap (g ∷◌) (flat-singles goals)

pub offset-singles : (goals : List ℕ) (k : ℕ) → k ≤ length goals → offset (map (◌∷ []) goals) k ≡ k
unfolding offset
offset-singles goals zero h = refl
offset-singles [] (suc k) h = absurd (omega (arith, h))
offset-singles (g ∷ goals) (suc k) h = omega (arith, offset-singles goals k (omega (arith, h)))

module _ (t : ℕ → Node) where
  pub flat-few : (l : ℕ) → length (flat (expand t l)) ≤ literal_room
  unfolding expand
  flat-few l =
      let i : ℕ = 2 * (t (l / 2)).kind + l % 2 in
      omega (
        arith,
        ap length (flat_map (chosen (t (l / 2))) (get_or templates i [])),
        length-map (flat (get_or templates i []))
            (chosen (t (l / 2))),
        flat_row_most i,
      )

  pub literals-few : (goals G : List ℕ) → length (flat (clauses (expand t) goals G)) ≤ length goals + literal_room * length G
  unfolding clauses
  literals-few goals [] = omega (arith, ap length (flat-singles goals))
  literals-few goals (l ∷ G) =
      omega (
        arith,
        ap length (flat_append (clauses (expand t) goals G) (expand t l)),
        length-append (flat (clauses (expand t) goals G))
            (flat (expand t l)),
        literals-few goals G,
        flat-few l,
      )
