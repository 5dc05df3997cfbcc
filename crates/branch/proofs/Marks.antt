-- Laws of the strikes of a clause list: they stay where clauses come and go, one more is made, older ones come back, and what they
-- say of a clause. Assumes nothing.
use mathlib.Core.Path.{◌≡◌, refl, sym, ap, ◌∙◌, subst}
use mathlib.Core.Bool.{Bool, true, false, cond, not, ◌&&◌, ◌||◌, false≢true}
use mathlib.Core.Logic.{◌⊎◌, inl, inr}
use mathlib.Core.List.{List, [], ◌∷◌, ◌++◌, map}
use Prim.Native.Nat.{ℕ, suc, ◌+◌, ◌<◌, ◌≤◌}
use native.Mathlib.Omega.{arith}
use native.Mathlib.Decide.{ℕ_discrete}
use lib.Dec.{eqb, leb}
use lib.ListN.{length, get_or, get_or-append, length-append}
use borrow.Author.Tests.{eq-eqb, ne_eqb, eqb-true}
use Rattle.scope.proofs.Tests.{by_test}
use Rattle.calculus.specs.Order.{mem}
use Rattle.calculus.specs.Model.{All}
use Rattle.calculus.proofs.Literals.{mem_same, mem_other, mem-later}
use Rattle.calculus.proofs.Lists.{all_imply}
use Rattle.rules.specs.Rules.{Place, same_place, among}
use Rattle.area.specs.Area.{most_slots, notes, whole, newest, note_at, strike_at, is_whole, Struck}
use Rattle.area.specs.Strikes.{head_of, Strikes, Unwound}
use Rattle.area.proofs.Strikes.{chain_same, head_most, struck_more}
use Rattle.branch.specs.Clauses.{flat, offset}
use Rattle.branch.specs.Holds.{Strike, clauses_in, literals_in, slot_of, Valid, Marked}
use Rattle.branch.proofs.Offsets.{map_append, offset_low, offset_next, offset_most, slot_same}

-- ---- slots

-- the slot of a place lies within the clauses
pub slot_below : (cs : List (List ℕ)) (k p : ℕ) → k < length cs → p < length (get_or cs k []) → offset cs k + p < length (flat cs)
slot_below cs k p h b = omega (arith, offset_next cs k h, offset_most cs (suc k), b)

mem_slot : (f : Strike → ℕ) (S : List Strike) (s : Strike) → mem (f s) (map f (s ∷ S)) ≡ true
mem_slot f S s = mem_same (map f S) (f s) (f s) refl

-- what holds of a strike among others, by its slot
all_with : (f : Strike → ℕ) (P Q : Strike → Type 0) (S : List Strike) → ((s : Strike) → mem (f s) (map f S) ≡ true → P s → Q s) → All P S → All Q S
all_with f P Q [] g a = tt
all_with f P Q (s ∷ S) g a =
    (g s (mem_slot f S s) a.0, all_with f P Q S (λ x i. g x (mem-later (map f S) (f s) (f x) i)) a.1)

-- more clauses behind, or fewer, leave the slots
pub slots_low : (cs ds : List (List ℕ)) (S : List Strike) → All (λ s. s.clause < length cs) S → map (slot_of (cs ++ ds)) S ≡ map (slot_of cs) S
slots_low cs ds [] a = refl
slots_low cs ds (s ∷ S) a =
    let e : slot_of (cs ++ ds) s ≡ slot_of cs s = ap (◌+ s.position) (offset_low cs ds s.clause (omega (arith, a.0))) in
    ap (◌∷ map (slot_of (cs ++ ds)) S) e ∙ ap (slot_of cs s ∷◌) (slots_low cs ds S a.1)

valid_clauses : (cs : List (List ℕ)) (w : List ℕ) (S : List Strike) → All (Valid cs w) S → All (λ s. s.clause < length cs) S
valid_clauses cs w S a = all_imply (Valid cs w) (λ s. s.clause < length cs) (λ s v. v.clause) S a

-- ---- strikes that stay

-- a slot of a strike lies within the clauses
mem_below : (cs : List (List ℕ)) (w : List ℕ) (m : ℕ) (S : List Strike) → All (Valid cs w) S → mem m (map (slot_of cs) S) ≡ true → m < length (flat cs)
unfolding mem
mem_below cs w m [] a e = absurd (false≢true e)
mem_below cs w m (s ∷ S) a e = go (ℕ_discrete m (slot_of cs s)) (mem_below cs w m S a.1)
  where
    go : Dec (m ≡ slot_of cs s) → (mem m (map (slot_of cs) S) ≡ true → m < length (flat cs)) → m < length (flat cs)
    go (yes q) f = omega (arith, q, slot_below cs s.clause s.position a.0.clause a.0.position)
    go (no q) f = f (sym (mem_other (map (slot_of cs) S) (slot_of cs s) m q) ∙ e)

-- the notes are as they were, the strikes too, and no slot without one has got one
strikes_same : (w w' L : List ℕ) → newest w' ≡ newest w → ((i : ℕ) → i < most_slots → note_at w' i ≡ note_at w i)
    → ((m : ℕ) → m < most_slots → mem m L ≡ true → strike_at w' m ≡ strike_at w m) → ((m : ℕ) → m < most_slots → strike_at w m ≡ 0 → strike_at w' m ≡ 0)
    → Strikes w L → Strikes w' L
strikes_same w w' L p e f g h = record {
  head = p ∙ h.head;
  chain = chain_same (note_at w) (note_at w') L (λ i q. e i (omega (arith, q, h.head, head_most w L h))) h.chain;
  flags = λ m i. by_test (mem m L) (λ y. ap (λ (v : ℕ). eqb v 0) (f m i y) ∙ h.flags m i) (λ y. none m i y);
}
  where
    none : (m : ℕ) → m < most_slots → mem m L ≡ false → eqb (strike_at w' m) 0 ≡ not (mem m L)
    none m i y = eq-eqb (strike_at w' m) 0 (g m i (eqb-true (strike_at w m) 0 (h.flags m i ∙ ap not y))) ∙ sym (ap not y)

module _ (cs ds : List (List ℕ)) (w w' : List ℕ) (S : List Strike) (p : newest w' ≡ newest w) (n : (i : ℕ) → i < most_slots → note_at w' i ≡ note_at w i) where
  -- clauses come
  pub marked_more : length (flat cs) ≤ most_slots → ((m : ℕ) → m < most_slots → m < length (flat cs) → strike_at w' m ≡ strike_at w m)
      → ((m : ℕ) → m < most_slots → strike_at w m ≡ 0 → strike_at w' m ≡ 0) → Marked cs w S → Marked (cs ++ ds) w' S
  marked_more room e f h = record {
    chained = subst (Strikes w') (sym (slots_low cs ds S (valid_clauses cs w S h.valid)))
        (strikes_same w w' (map (slot_of cs) S) p n (λ m i y. e m i (mem_below cs w m S h.valid y)) f h.chained);
    valid = all_imply (Valid cs w) (Valid (cs ++ ds) w') more S h.valid;
  }
    where
      more : (s : Strike) → Valid cs w s → Valid (cs ++ ds) w' s
      more s v =
          let z : slot_of (cs ++ ds) s ≡ slot_of cs s = ap (◌+ s.position) (offset_low cs ds s.clause (omega (arith, v.clause))) in
          let b : slot_of cs s < length (flat cs) = slot_below cs s.clause s.position v.clause v.position in
          record {
            clause = omega (arith, v.clause, length-append cs ds);
            position = subst (λ (c : List ℕ). s.position < length c) (sym (get_or-append cs ds [] s.clause v.clause)) v.position;
            kind = ap (is_whole w') z ∙ ap (leb whole) (e (slot_of cs s) (omega (arith, b, room)) b) ∙ v.kind;
          }

  -- clauses go
  pub marked-less : length (flat (cs ++ ds)) ≤ most_slots → ((m : ℕ) → m < most_slots → strike_at w' m ≡ strike_at w m) → All (λ s. s.clause < length cs) S
      → Marked (cs ++ ds) w S → Marked cs w' S
  marked-less room e a h = record {
    chained = subst (Strikes w') (slots_low cs ds S a) (strikes_same w w' (map (slot_of (cs ++ ds)) S) p n (λ m i y. e m i) (λ m i z. e m i ∙ z) h.chained);
    valid = all_both S a h.valid;
  }
    where
      less : (s : Strike) → s.clause < length cs → Valid (cs ++ ds) w s → Valid cs w' s
      less s b v =
          let z : slot_of (cs ++ ds) s ≡ slot_of cs s = ap (◌+ s.position) (offset_low cs ds s.clause (omega (arith, b))) in
          let y : slot_of (cs ++ ds) s < most_slots = omega (arith, slot_below (cs ++ ds) s.clause s.position v.clause v.position, room) in
          record {
            clause = b;
            position = subst (λ (c : List ℕ). s.position < length c) (get_or-append cs ds [] s.clause b) v.position;
            kind = ap (is_whole w') (sym z) ∙ ap (leb whole) (e (slot_of (cs ++ ds) s) y) ∙ v.kind;
          }

      all_both : (T : List Strike) → All (λ s. s.clause < length cs) T → All (Valid (cs ++ ds) w) T → All (Valid cs w') T
      all_both [] a v = tt
      all_both (s ∷ T) a v = (less s a.0 v.0, all_both T a.1 v.1)

-- ---- one more strike

-- what a strike has more where the clause is struck
abbrev pub kind_of : Bool → ℕ
kind_of true = whole
kind_of false = 0

not-true : (b : Bool) → not b ≡ true → b ≡ false
not-true true e = sym e
not-true false e = refl

-- a slot with no strike is not among those of the strikes
pub unmarked : (w L : List ℕ) (m : ℕ) → Strikes w L → m < most_slots → strike_at w m ≡ 0 → mem m L ≡ false
unmarked w L m h b z = not-true (mem m L) (sym (h.flags m b) ∙ eq-eqb (strike_at w m) 0 z)

module _ (cs : List (List ℕ)) (w w' : List ℕ) (S : List Strike) (room : length (flat cs) ≤ most_slots) (h : Marked cs w S) where
  pub marked-strike : (s : Strike) → s.clause < length cs → s.position < length (get_or cs s.clause []) → strike_at w (slot_of cs s) ≡ 0
      → Struck (kind_of s.whole) (slot_of cs s) w w' → Marked cs w' (s ∷ S)
  marked-strike s a b z p = record {
    chained = struck_more (kind_of s.whole) (slot_of cs s) w w' (map (slot_of cs) S) low h.chained fresh p;
    valid = (
      record { clause = a; position = b; kind = new s.whole p.here },
      all_with (slot_of cs) (Valid cs w) (Valid cs w') S keep h.valid,
    );
  }
    where
      low : slot_of cs s < most_slots
      low = omega (arith, slot_below cs s.clause s.position a b, room)

      fresh : mem (slot_of cs s) (map (slot_of cs) S) ≡ false
      fresh = unmarked w (map (slot_of cs) S) (slot_of cs s) h.chained low z

      new : (b : Bool) → strike_at w' (slot_of cs s) ≡ notes + kind_of b → is_whole w' (slot_of cs s) ≡ b
      new true e = ap (leb whole) e
      new false e = ap (leb whole) e

      keep : (x : Strike) → mem (slot_of cs x) (map (slot_of cs) S) ≡ true → Valid cs w x → Valid cs w' x
      keep x i v = record {
        clause = v.clause;
        position = v.position;
        kind = ap (leb whole) (p.others (slot_of cs x) (omega (arith, slot_below cs x.clause x.position v.clause v.position, room)) (other x i)) ∙ v.kind;
      }
        where
          other : (x : Strike) → mem (slot_of cs x) (map (slot_of cs) S) ≡ true → slot_of cs x ≡ slot_of cs s → ⊥
          other x i q = false≢true (sym fresh ∙ ap (λ (m : ℕ). mem m (map (slot_of cs) S)) (sym q) ∙ i)

-- ---- older strikes come back

pub marked_back : (cs : List (List ℕ)) (head : ℕ) (w w' : List ℕ) (K S : List Strike) → Marked cs w (K ++ S) → Unwound head w w'
    → head ≡ head_of (map (slot_of cs) S)
    → Marked cs w' S
marked_back cs head w w' K S h u e =
    let r = u.strikes (map (slot_of cs) K) (map (slot_of cs) S) (subst (Strikes w) (map_append (slot_of cs) K S) h.chained) e in
    record {
      chained = r.0;
      valid = all_with (slot_of cs) (Valid cs w) (Valid cs w') S (λ s i v.
          record { clause = v.clause; position = v.position; kind = ap (leb whole) (r.1 (slot_of cs s) i) ∙ v.kind })
          (later K h.valid);
    }
  where
    later : (J : List Strike) → All (Valid cs w) (J ++ S) → All (Valid cs w) S
    later [] a = a
    later (x ∷ J) a = later J a.1

-- ---- what they say of a place

-- some strike is at a place
unfoldable pub hit : ℕ → ℕ → List Strike → Bool
hit k p [] = false
hit k p (s ∷ S) = (eqb k s.clause && eqb p s.position) || hit k p S

-- a test of two equations
both_test : (a b c d x y : ℕ) → (a ≡ b → c ≡ d → x ≡ y) → (x ≡ y → (a ≡ b) × (c ≡ d)) → (eqb a b && eqb c d) ≡ eqb x y
both_test a b c d x y f g = go (ℕ_discrete a b) (ℕ_discrete c d)
  where
    go : Dec (a ≡ b) → Dec (c ≡ d) → (eqb a b && eqb c d) ≡ eqb x y
    go (yes p) (yes q) = simp (eq-eqb a b p, eq-eqb c d q, eq-eqb x y (f p q))
    go (yes p) (no q) = simp (eq-eqb a b p, ne_eqb c d q, ne_eqb x y (λ e. q (g e).1))
    go (no p) q = simp (ne_eqb a b p, ne_eqb x y (λ e. p (g e).0))

module _ (cs : List (List ℕ)) (w : List ℕ) (k p : ℕ) (a : k < length cs) (b : p < length (get_or cs k [])) where
  pub hit_slot : (S : List Strike) → All (Valid cs w) S → mem (offset cs k + p) (map (slot_of cs) S) ≡ hit k p S
  unfolding mem hit
  hit_slot [] v = refl
  hit_slot (s ∷ S) v =
      ap (◌|| mem (offset cs k + p) (map (slot_of cs) S))
      (sym (both_test k s.clause p s.position (offset cs k + p) (slot_of cs s)
      (λ x y. ap (λ (i : ℕ). offset cs i + p) x ∙ ap (offset cs s.clause +◌) y)
      (λ x. slot_same cs k s.clause p s.position a v.0.clause b v.0.position x)))
      ∙ ap ((eqb k s.clause && eqb p s.position) ||◌) (hit_slot S v.1)

  -- the strike at a place says what the slot says
  pub hit_kind : (S : List Strike) → All (Valid cs w) S → hit k p S ≡ true
      → ((is_whole w (offset cs k + p) ≡ true) × (mem k (clauses_in S) ≡ true)) ⊎ ((is_whole w (offset cs k + p) ≡ false) × (among
      (record { clause = k; position = p }) (literals_in S) ≡ true))
  unfolding hit clauses_in literals_in mem among
  hit_kind [] v e = absurd (false≢true e)
  hit_kind (s ∷ S) v e = go s.whole v.0.kind (ℕ_discrete k s.clause) (ℕ_discrete p s.position) (hit_kind S v.1)
    where
      Says : List ℕ → List Place → Type 0
      Says C P = ((is_whole w (offset cs k + p) ≡ true) × (mem k C ≡ true)) ⊎ ((is_whole w (offset cs k + p) ≡ false) × (among
          (record { clause = k; position = p }) P ≡ true))

      here : {x : Bool} → is_whole w (slot_of cs s) ≡ x → k ≡ s.clause → p ≡ s.position → is_whole w (offset cs k + p) ≡ x
      here i y z = ap (λ (j : ℕ). is_whole w (offset cs j + p)) y ∙ ap (λ (j : ℕ). is_whole w (offset cs s.clause + j)) z ∙ i

      place : k ≡ s.clause → p ≡ s.position → same_place (record { clause = k; position = p }) (record { clause = s.clause; position = s.position }) ≡ true
      place y z = simp (eq-eqb k s.clause y, eq-eqb p s.position z)

      later : (x : Bool) → Says (clauses_in S) (literals_in S)
          → Says (cond x (s.clause ∷ clauses_in S) (clauses_in S)) (cond x (literals_in S)
          (record { clause = s.clause; position = s.position } ∷ literals_in S))
      later true (inl r) = inl (r.0, mem-later (clauses_in S) s.clause k r.1)
      later true (inr r) = inr r
      later false (inl r) = inl r
      later false (inr r) = inr (r.0, or-true (same_place (record { clause = k; position = p }) (record { clause = s.clause; position = s.position })) r.1)
        where
          or-true : (x : Bool) {y : Bool} → y ≡ true → (x || y) ≡ true
          or-true true q = refl
          or-true false q = q

      go : (x : Bool) → is_whole w (slot_of cs s) ≡ x → Dec (k ≡ s.clause) → Dec (p ≡ s.position) → (hit k p S ≡ true → Says (clauses_in S) (literals_in S))
          → Says (cond x (s.clause ∷ clauses_in S) (clauses_in S)) (cond x (literals_in S)
          (record { clause = s.clause; position = s.position } ∷ literals_in S))
      go true i (yes y) (yes z) r = inl (here i y z, mem_same (clauses_in S) s.clause k y)
      go false i (yes y) (yes z) r = inr (here i y z, ap (◌|| among (record { clause = k; position = p }) (literals_in S)) (place y z))
      go x i (no y) z r = later x (r (sym (simp (ne_eqb k s.clause y)) ∙ e))
      go x i (yes y) (no z) r = later x (r (sym (simp (eq-eqb k s.clause y, ne_eqb p s.position z)) ∙ e))

  -- a literal that is struck has a strike
  pub among_hit : (S : List Strike) → among (record { clause = k; position = p }) (literals_in S) ≡ true → hit k p S ≡ true
  unfolding hit literals_in among
  among_hit [] e = e
  among_hit (s ∷ S) e = go s.whole e (among_hit S)
    where
      go : (x : Bool) → among (record { clause = k; position = p })
          (cond x (literals_in S) (record { clause = s.clause; position = s.position } ∷ literals_in S)) ≡ true
          → (among (record { clause = k; position = p }) (literals_in S) ≡ true → hit k p S ≡ true) → ((eqb k s.clause && eqb p s.position) || hit k p S) ≡ true
      go true q r = by_test (eqb k s.clause && eqb p s.position) (λ y. simp y) (λ y. simp (y, r q))
      go false q r = by_test (eqb k s.clause && eqb p s.position) (λ y. simp y) (λ y. simp (y, r (rw y at q)))
