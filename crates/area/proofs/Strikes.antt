-- Laws of the strikes: one more is made, the newest is undone, and the way back to an older one. Assumes nothing.
use mathlib.Core.Path.{◌≡◌, refl, sym, ap, ◌∙◌, subst}
use mathlib.Core.Bool.{Bool, true, false, not, false≢true}
use mathlib.Core.Logic.{◌⊎◌, inl, inr}
use mathlib.Core.List.{List, [], ◌∷◌, ◌++◌}
use Prim.Native.Nat.{ℕ, zero, suc, ◌+◌, ◌-◌, ◌%◌, ◌<◌, ◌≤◌}
use native.Mathlib.Omega.{arith}
use native.Mathlib.Decide.{ℕ_discrete}
use lib.Dec.{eqb}
use lib.ListN.{length, get_or, set, length-set, length-append}
use lib.Seq.{get_or-set_same, get_or-set_other}
use borrow.Author.Tests.{eq-eqb, ne_eqb}
use Rattle.calculus.specs.Count.{one, tally}
use Rattle.calculus.proofs.Tally.{tally-less}
use Rattle.calculus.specs.Order.{mem}
use Rattle.calculus.proofs.Literals.{mem_same, mem_other, mem-later}
use Rattle.area.specs.Area.{area_size, most_slots, slots_from, strikes_from, counts_from, notes, newest, packed_at, flag_of, note_at, slot_at, strike_at, Struck}
use Rattle.area.proofs.Packed.{flag_none, literal_twice}
use Rattle.area.specs.Strikes.{head_of, Chain, Strikes, Reaches, Unwound}

-- ---- chains

-- a chain is read at the notes of its own strikes alone
pub chain_same : (f g : ℕ → ℕ) (L : List ℕ) → ((i : ℕ) → i < length L → g i ≡ f i) → Chain f L → Chain g L
chain_same f g [] e c = tt
chain_same f g (m ∷ L) e c =
    ((c.0.0, c.0.1, e (length L) (omega arith) ∙ c.0.2), chain_same f g L (λ i h. e i (omega (arith, h))) c.1)

-- a slot that is among others is not one that is not
apart : (L : List ℕ) (m x : ℕ) → mem m L ≡ false → mem x L ≡ true → x ≡ m → ⊥
apart L m x a b e = false≢true (sym a ∙ ap (λ (k : ℕ). mem k L) (sym e) ∙ b)

-- there are no more strikes than slots
tally-none : (m : ℕ) → tally (λ x. mem x []) m ≡ 0
unfolding tally mem
tally-none zero = refl
tally-none (suc m) = omega (arith, tally-none m)

tally_most : (p : ℕ → Bool) (m : ℕ) → tally p m ≤ m
unfolding tally
tally_most p zero = omega arith
tally_most p (suc m) = go (p m) (tally_most p m)
  where
    go : (b : Bool) → tally p m ≤ m → one b + tally p m ≤ suc m
    go true h = omega (arith, h)
    go false h = omega (arith, h)

chain_count : (f : ℕ → ℕ) (L : List ℕ) → Chain f L → tally (λ x. mem x L) most_slots ≡ length L
chain_count f [] c = tally-none most_slots
chain_count f (m ∷ L) c =
    sym (tally-less (λ x. mem x (m ∷ L)) (λ x. mem x L) m most_slots c.0.0 (λ j q. mem_other L m j q) (mem_same L m m refl) c.0.1)
    ∙ ap suc (chain_count f L c.1)

pub head_most : (w L : List ℕ) → Strikes w L → newest w ≤ most_slots
head_most w L h = omega (arith, h.head, chain_count (note_at w) L h.chain, tally_most (λ x. mem x L) most_slots)

not-false : (b : Bool) → b ≡ false → not b ≡ true
not-false b e = ap not e

-- one more slot has a strike
pub struck_more : (kind m : ℕ) (w w' L : List ℕ) → m < most_slots → Strikes w L → mem m L ≡ false → Struck kind m w w' → Strikes w' (m ∷ L)
struck_more kind m w w' L b h f s = record {
  head = s.head ∙ ap suc h.head;
  chain = (
    (b, f, ap (note_at w') (sym h.head) ∙ s.note),
    chain_same (note_at w) (note_at w') L (λ i q. s.older i (λ y. omega (arith, y, q, h.head))) h.chain,
  );
  flags = λ x i. go x i (ℕ_discrete x m);
}
  where
    go : (x : ℕ) → x < most_slots → Dec (x ≡ m) → eqb (strike_at w' x) 0 ≡ not (mem x (m ∷ L))
    go x i (yes e) =
        ne_eqb (strike_at w' x) 0 (λ q. omega (arith, sym q ∙ ap (strike_at w') e ∙ s.here))
        ∙ sym (ap not (mem_same L m x e))
    go x i (no e) = ap (λ (v : ℕ). eqb v 0) (s.others x i e) ∙ h.flags x i ∙ sym (ap not (mem_other L m x e))

-- the newest is undone
pub struck_less : (m : ℕ) (w w' L : List ℕ) → Strikes w (m ∷ L) → newest w' ≡ newest w - 1 → strike_at w' m ≡ 0
    → ((x : ℕ) → (x ≡ m → ⊥) → strike_at w' x ≡ strike_at w x) → ((i : ℕ) → note_at w' i ≡ note_at w i) → Strikes w' L
struck_less m w w' L h e z away same = record {
  head = omega (arith, e, h.head);
  chain = chain_same (note_at w) (note_at w') L (λ i q. same i) h.chain.1;
  flags = λ x i. go x i (ℕ_discrete x m);
}
  where
    go : (x : ℕ) → x < most_slots → Dec (x ≡ m) → eqb (strike_at w' x) 0 ≡ not (mem x L)
    go x i (yes q) = eq-eqb (strike_at w' x) 0 (ap (strike_at w') q ∙ z) ∙ sym (not-false (mem x L) (ap (λ (k : ℕ). mem k L) q ∙ h.chain.0.1))
    go x i (no q) = ap (λ (v : ℕ). eqb v 0) (away x q) ∙ h.flags x i ∙ ap not (mem_other L m x q)

-- ---- the way back

-- where there are as many strikes as sought, none is left to go
pub struck_back : (head : ℕ) (w K L : List ℕ) → Strikes w (K ++ L) → head ≡ head_of L → newest w ≡ head → Strikes w L
struck_back head w [] L h e q = h
struck_back head w (m ∷ K) L h e q = absurd (omega (arith, e, q, h.head, length-append K L))

-- what the newest strike is, where there are more than are sought
pub record Ahead (w : List ℕ) : Type 0 where
  pub size : area_size ≤ length w
  pub some : 0 < newest w
  pub most : newest w ≤ most_slots
  pub low : note_at w (newest w - 1) < most_slots

ahead : (head : ℕ) (w : List ℕ) → area_size ≤ length w → Reaches head w → (newest w ≡ head → ⊥) → Ahead w
ahead head w size ([], L, (h, e)) n = absurd (n (h.head ∙ sym e))
ahead head w size (m ∷ K, L, (h, e)) n =
    let z : newest w - 1 ≡ length (K ++ L) = omega (arith, h.head) in
    record {
      size = size;
      some = omega (arith, h.head);
      most = head_most w (m ∷ (K ++ L)) h;
      low =
          subst (◌< most_slots) (sym (ap (note_at w) z ∙ h.chain.0.2)) h.chain.0.0;
    }

-- the stores of one turn
abbrev pub undone : List ℕ → List ℕ
undone w = set (set w (slots_from + note_at w (newest w - 1)) (slot_at w (note_at w (newest w - 1)))) 2 (newest w - 1)

module _ (w : List ℕ) (size : area_size ≤ length w) (m : ℕ) (b : m < most_slots) (e : note_at w (newest w - 1) ≡ m) where
  w₁ : List ℕ
  w₁ = set w (slots_from + m) (slot_at w m)

  w₂ : List ℕ
  w₂ = set w₁ 2 (newest w - 1)

  z₁ : length w₁ ≡ length w
  unfolding w₁
  z₁ = length-set w (slots_from + m) (slot_at w m)

  length₂ : length w₂ ≡ length w
  unfolding w₂
  length₂ = length-set w₁ 2 (newest w - 1) ∙ z₁

  away₂ : (i : ℕ) → (i ≡ 2 → ⊥) → (i ≡ slots_from + m → ⊥) → get_or w₂ i 0 ≡ get_or w i 0
  unfolding w₂ w₁
  away₂ i p q = get_or-set_other w₁ 2 i (newest w - 1) 0 p ∙ get_or-set_other w (slots_from + m) i (slot_at w m) 0 q

  head₂ : newest w₂ ≡ newest w - 1
  unfolding w₂
  head₂ = get_or-set_same w₁ 2 (newest w - 1) 0 (omega (arith, z₁, size))

  here₂ : packed_at w₂ m ≡ slot_at w m
  unfolding w₂ w₁
  here₂ = get_or-set_other w₁ 2 (slots_from + m) (newest w - 1) 0 (λ q. omega (arith, q))
      ∙ get_or-set_same w (slots_from + m) (slot_at w m) 0 (omega (arith, size, b))

  is₂ : undone w ≡ w₂
  unfolding w₂ w₁
  is₂ = ap (λ (k : ℕ). set (set w (slots_from + k) (slot_at w k)) 2 (newest w - 1)) e

  pub undone_length : length (undone w) ≡ length w
  undone_length = ap length is₂ ∙ length₂

  pub undone_away : (i : ℕ) → (i ≡ 2 → ⊥) → (i ≡ slots_from + m → ⊥) → get_or (undone w) i 0 ≡ get_or w i 0
  undone_away i p q = ap (λ (l : List ℕ). get_or l i 0) is₂ ∙ away₂ i p q

  pub undone_head : newest (undone w) ≡ newest w - 1
  undone_head = ap newest is₂ ∙ head₂

  undone_here : packed_at (undone w) m ≡ slot_at w m
  undone_here = ap (λ (l : List ℕ). packed_at l m) is₂ ∙ here₂

  pub undone_zero : strike_at (undone w) m ≡ 0
  undone_zero = ap flag_of undone_here ∙ flag_none (packed_at w m)

  pub undone_others : (x : ℕ) → (x ≡ m → ⊥) → packed_at (undone w) x ≡ packed_at w x
  undone_others x q = undone_away (slots_from + x) (λ y. omega (arith, y)) (λ y. q (omega (arith, y)))

  pub undone_slots : (x : ℕ) → slot_at (undone w) x ≡ slot_at w x
  undone_slots x = go (ℕ_discrete x m)
    where
      go : Dec (x ≡ m) → slot_at (undone w) x ≡ slot_at w x
      go (yes q) = ap (slot_at (undone w)) q ∙ ap (◌% notes) undone_here ∙ literal_twice (packed_at w m) ∙ ap (slot_at w) (sym q)
      go (no q) = ap (◌% notes) (undone_others x q)

  pub undone_notes : (i : ℕ) → note_at (undone w) i ≡ note_at w i
  undone_notes i = undone_away (strikes_from + i) (λ y. omega (arith, y)) (λ y. omega (arith, y, b))

mem-under : (K L : List ℕ) (x : ℕ) → mem x L ≡ true → mem x (K ++ L) ≡ true
mem-under [] L x e = e
mem-under (m ∷ K) L x e = mem-later (K ++ L) m x (mem-under K L x e)

-- some of the slots that are to go are left, and the others have their strikes
abbrev pub Back : List ℕ → List ℕ → List ℕ → Type 0
Back w₀ w L = (K : List ℕ) × Strikes w (K ++ L) × ((m : ℕ) → mem m L ≡ true → strike_at w m ≡ strike_at w₀ m)

-- one turn on the way back
unwind_turn : (head : ℕ) (w₀ w L : List ℕ) → area_size ≤ length w → Back w₀ w L → head ≡ head_of L → (newest w ≡ head → ⊥) → Back w₀ (undone w) L
unwind_turn head w₀ w L size ([], h, k) e n = absurd (n (h.head ∙ sym e))
unwind_turn head w₀ w L size (m ∷ K, h, k) e n =
    let b : m < most_slots = h.chain.0.0 in
    let y : newest w - 1 ≡ length (K ++ L) = omega (arith, h.head) in
    let z : note_at w (newest w - 1) ≡ m = ap (note_at w) y ∙ h.chain.0.2 in
    let away : (x : ℕ) → (x ≡ m → ⊥) → strike_at (undone w) x ≡ strike_at w x = λ x q. ap flag_of (undone_others w size m b z x q) in (
      K,
      struck_less m w (undone w) (K ++ L) h (undone_head w size m b z) (undone_zero w size m b z) away (undone_notes w size m b z),
      λ x i. away x (apart (K ++ L) m x h.chain.0.1 (mem-under K L x i)) ∙ k x i,
    )

-- ---- the loop that goes back

-- on the way back from w₀, whatever strikes there were
pub record Unwinding (head : ℕ) (w₀ w : List ℕ) : Type 0 where
  pub size : length w ≡ length w₀
  pub strikes : (K L : List ℕ) → Strikes w₀ (K ++ L) → head ≡ head_of L → Back w₀ w L
  pub slots : (s : ℕ) → slot_at w s ≡ slot_at w₀ s
  pub else : (i : ℕ) → (i ≡ 2 → ⊥) → (i < slots_from) ⊎ (counts_from ≤ i) → get_or w i 0 ≡ get_or w₀ i 0

pub unwinding_starts : (head : ℕ) (w : List ℕ) → Unwinding head w w
unwinding_starts head w = record { size = refl; strikes = λ K L h e. (K, h, λ m i. refl); slots = λ s. refl; else = λ i p q. refl }

module _ (head : ℕ) (w₀ w : List ℕ) (size : area_size ≤ length w₀) (r : Reaches head w₀) (u : Unwinding head w₀ w) where
  unwinding_size : area_size ≤ length w
  unwinding_size = omega (arith, size, u.size)

  pub unwinding_ahead : (newest w ≡ head → ⊥) → Ahead w
  unwinding_ahead =
      let m = u.strikes r.0 r.1 r.2.0 r.2.1 in
      ahead head w unwinding_size (m.0, r.1, (m.1, r.2.1))

  pub unwinding_less : (newest w ≡ head → ⊥) → newest (undone w) < newest w
  unwinding_less n =
      let a = unwinding_ahead n in
      omega (arith, a.some, undone_head w unwinding_size (note_at w (newest w - 1)) a.low refl)

  pub unwinding_goes : (newest w ≡ head → ⊥) → Unwinding head w₀ (undone w)
  unwinding_goes n =
      let m = note_at w (newest w - 1) in
      let b = (unwinding_ahead n).low in
      record {
        size = undone_length w unwinding_size m b refl ∙ u.size;
        strikes = λ K L h e. unwind_turn head w₀ w L unwinding_size (u.strikes K L h e) e n;
        slots = λ s. undone_slots w unwinding_size m b refl s ∙ u.slots s;
        else = λ i p q. undone_away w unwinding_size m b refl i p (beside i m b q) ∙ u.else i p q;
      }
    where
      beside : (i m : ℕ) → m < most_slots → (i < slots_from) ⊎ (counts_from ≤ i) → i ≡ slots_from + m → ⊥
      beside i m b (inl a) y = omega (arith, a, y)
      beside i m b (inr a) y = omega (arith, a, y, b)

  pub unwinding_ends : newest w ≡ head → Unwound head w₀ w
  unwinding_ends q = record {
    size = u.size;
    strikes = λ K L h e.
        let m = u.strikes K L h e in
        (struck_back head w m.0 L m.1 e q, m.2);
    slots = u.slots;
    else = u.else;
  }
