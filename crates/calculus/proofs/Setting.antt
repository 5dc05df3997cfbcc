-- The settings of a final list: an atom's point has its byte. Assumes nothing.
use mathlib.Core.Path.{◌≡◌, refl, ap, ◌∙◌}
use mathlib.Core.List.{List, [], ◌∷◌}
use mathlib.Core.Bool.{Bool, true, false, ◌&&◌, or-false}
use Prim.Native.Nat.{ℕ, zero, suc, ◌+◌, ◌-◌, ◌*◌, ◌/◌, ◌%◌, ◌<◌}
use native.Mathlib.Nat.{zero-add, add-zero, add-suc, suc-add, le_of_suc-le-suc, not-suc-le-zero}
use native.Mathlib.Omega.{arith}
use native.Mathlib.Decide.{dec_lt, ℕ_discrete}
use lib.Dec.{eqb}
use lib.ListN.{length, get_or, get_or-eq_default}
use borrow.Author.Tests.{eq-eqb, eqb-true}
use Rattle.scope.specs.declared.Node.{Node}
use Rattle.scope.specs.Calls.{no_node}
use Rattle.scope.proofs.Lists.{length_list_from, get_d_list_from}
use Rattle.scope.proofs.Tests.{and_left, and_right}
use Rattle.calculus.specs.Expansion.{neg}
use Rattle.calculus.specs.Order.{mem, positive, negative, atom_held, byte_of, setting_of}
use Rattle.calculus.specs.Model.{Table, Good}
use Rattle.calculus.proofs.Literals.{is_false, consistent}

-- a node is the ATOM of a point
abbrev pub AtomOf : ℕ → Node → Type 0
AtomOf p x = (x.kind ≡ 2) × (x.a ≡ p)

module _ (p : ℕ) (x : Node) where
  is_atom : AtomOf p x → (eqb x.kind 2 && eqb x.a p) ≡ true
  is_atom q = rw (eq-eqb x.kind 2 q.0, eq-eqb x.a p q.1)

  no_atom : (AtomOf p x → ⊥) → (eqb x.kind 2 && eqb x.a p) ≡ false
  no_atom h =
      is_false (eqb x.kind 2 && eqb x.a p)
      (λ e. h (eqb-true x.kind 2 (and_left (eqb x.kind 2) (eqb x.a p) e), eqb-true x.a p (and_right (eqb x.kind 2) (eqb x.a p) e)))

module _ (sign : ℕ → ℕ) (G : List ℕ) (p : ℕ) where
  -- without an ATOM of the point, none is held
  pub none-held : (rs : List Node) (m : ℕ) → ((j : ℕ) → j < length rs → AtomOf p (get_or rs j no_node) → ⊥) → atom_held sign rs m G p ≡ false
  unfolding atom_held
  none-held [] m h = refl
  none-held (x ∷ rs) m h =
      rw (no_atom p x (h 0 (omega arith))) (none-held rs (suc m) (λ j b. h (suc j) (omega arith)))

  -- the one ATOM of a point decides
  one-held : (rs : List Node) (m i : ℕ) → i < length rs → AtomOf p (get_or rs i no_node)
      → ((j : ℕ) → j < length rs → AtomOf p (get_or rs j no_node) → j ≡ i) → atom_held sign rs m G p ≡ mem (sign (m + i)) G
  unfolding atom_held
  one-held [] m i b q u = absurd (not-suc-le-zero b)
  one-held (x ∷ rs) m zero b q u =
      rw (is_atom p x q, none-held rs (suc m) (λ j c z. omega (arith, u (suc j) (omega arith) z)), add-zero) (or-false (mem (sign m) G))
  one-held (x ∷ rs) m (suc i) b q u =
      rw (no_atom p x (λ z. omega (arith, u 0 (omega arith) z)), add-suc, ← suc-add)
      (one-held rs (suc m) i (le_of_suc-le-suc b) q (λ j c z. omega (arith, u (suc j) (omega arith) z)))

module _ (rs : List Node) (G : List ℕ) where
  abbrev byte : ℕ → ℕ
  byte p = byte_of (atom_held positive rs 0 G p) (atom_held negative rs 0 G p)

  pub setting_length : length (setting_of rs G) ≡ 1024
  unfolding setting_of
  setting_length = length_list_from byte 1024 0

  -- the byte of a point
  pub setting_point : (p : ℕ) → p < 1024 → get_or (setting_of rs G) p 0 ≡ byte_of (atom_held positive rs 0 G p) (atom_held negative rs 0 G p)
  unfolding setting_of
  setting_point p h = get_d_list_from byte 1024 0 p 0 h ∙ ap byte (zero-add p)

  -- every byte is 0, 1 or 2
  pub setting_small : (p : ℕ) → get_or (setting_of rs G) p 0 < 3
  setting_small p = go (dec_lt p 1024)
    where
      small : (a b : Bool) → byte_of a b < 3
      small true b = omega arith
      small false true = omega arith
      small false false = omega arith

      go : Dec (p < 1024) → get_or (setting_of rs G) p 0 < 3
      go (yes h) = rw (setting_point p h) (small (atom_held positive rs 0 G p) (atom_held negative rs 0 G p))
      go (no h) = omega (arith, get_or-eq_default (setting_of rs G) 0 {n = p} (omega (arith, setting_length)))

  -- the byte of an ATOM's point, by the signs of the ATOM in the final list
  module _ (T : Table (length rs) (λ i. get_or rs i no_node)) (i : ℕ) (h : i < length rs) (k : (get_or rs i no_node).kind ≡ 2) where
    held-sign : (sign : ℕ → ℕ) → atom_held sign rs 0 G (get_or rs i no_node).a ≡ mem (sign i) G
    held-sign sign =
        one-held sign G (get_or rs i no_node).a rs 0 i h (k, refl) (λ j c q. T.atoms j i c h q.0 k q.1)
        ∙ ap (λ (x : ℕ). mem (sign x) G) (zero-add i)

    pub setting-atom : (get_or rs i no_node).a < 1024 → get_or (setting_of rs G) (get_or rs i no_node).a 0 ≡ byte_of (mem (2 * i) G) (mem (2 * i + 1) G)
    setting-atom b =
        setting_point (get_or rs i no_node).a b
        ∙ rw (held-sign positive, held-sign negative)

    -- the point of an ATOM's literal in the final list has the byte of its sign
    pub setting-held : (get_or rs i no_node).a < 1024 → Good (length rs) G → (l : ℕ) → l / 2 ≡ i → mem l G ≡ true
        → get_or (setting_of rs G) (get_or rs i no_node).a 0 ≡ 1 - l % 2
    setting-held b g l z e = setting-atom b ∙ go (ℕ_discrete (l % 2) 0)
      where
        go : Dec (l % 2 ≡ 0) → byte_of (mem (2 * i) G) (mem (2 * i + 1) G) ≡ 1 - l % 2
        go (yes q) =
            let s : 2 * i ≡ l = omega arith in
            rw (s, e, q)
        go (no q) =
            let s : 2 * i + 1 ≡ l = omega arith in
            let n : neg l ≡ 2 * i = omega arith in
            let f : mem (2 * i) G ≡ false = is_false (mem (2 * i) G) (λ w. consistent (length rs) G l g e (ap (λ (x : ℕ). mem x G) n ∙ w)) in
            let one : l % 2 ≡ 1 = omega arith in
            rw (f, s, e, one)
