-- Laws of the chains: the empty ones, one record more, and a search along one.
-- Assumes nothing.
use mathlib.Core.Path.{◌≡◌, ◌∙◌, ap, sym, refl}
use mathlib.Core.Logic.{◌⊎◌, inl, inr}
use mathlib.Core.List.{List, [], ◌∷◌}
use mathlib.Core.Bool.{Bool, true, false, cond, ◌||◌}
use Prim.Native.Nat.{ℕ, zero, suc, ◌+◌, ◌-◌, ◌≤◌, ◌<◌}
use native.Mathlib.Numerals.{add-one}
use native.Mathlib.Omega.{arith}
use lib.Dec.{eqb}
use lib.ListN.{length, get_or, set, length-set}
use lib.Seq.{get_or-set_same, get_or-set_other}
use borrow.Author.Tests.{eq-eqb, ne_eqb, eqb-true, eqb-false}
use Rattle.scope.specs.Table.{any_below, repeats}
use Rattle.scope.proofs.Tests.{by_test}
use Rattle.codec.specs.Valid.{Bytes}
use Rattle.repeats.specs.Chains.{key_at, hash_of, with_hash, chain_cells, link_of, Chain, stop, link, Plain, Unlinked, Chains}
use Rattle.repeats.proofs.Keys.{has_key, repeats_key}

-- zeros are the chains of no record
pub no_chains : (t : List ℕ) {c : List ℕ} → Unlinked c → Chains t c 0
unfolding with_hash
no_chains t u = record {
  size = u.size;
  low = λ h l. omega (arith, u.zeros h (omega (arith, l)));
  leads = λ h l. rw (u.zeros h (omega (arith, l))) stop;
  plain = λ m l. absurd (omega arith);
}

-- a store past a chain leaves it
past : (c : List ℕ) (i v : ℕ) {s : ℕ} {l : List ℕ} → Chain c s l → (i < 4096) ⊎ (4096 + s ≤ i) → Chain (set c i v) s l
past c i v stop h = stop
past c i v (link s l p k) h =
    let e : link_of (set c i v) s ≡ link_of c s = get_or-set_other c i (4096 + s) v 0 (apart h) in
    link s l (rw e p) (rw e (past c i v k (behind h)))
  where
    apart : (i < 4096) ⊎ (4096 + suc s ≤ i) → 4096 + s ≡ i → ⊥
    apart (inl a) q = omega (arith, a, q)
    apart (inr a) q = omega (arith, a, q)

    behind : (i < 4096) ⊎ (4096 + suc s ≤ i) → (i < 4096) ⊎ (4096 + link_of c s ≤ i)
    behind (inl a) = inl a
    behind (inr a) = inr (omega (arith, a, p))

-- node n goes in front of the chain at the head h₀, and each other chain is as it was
module _ {t c : List ℕ} {n h₀ : ℕ} (g : Chains t c n) (k : h₀ < 4096) (m : n < 2016) where
  abbrev c₁ : List ℕ
  c₁ = set c (4096 + n) (get_or c h₀ 0)

  abbrev c₂ : List ℕ
  c₂ = set c₁ h₀ (n + 1)

  size₁ : length c₁ ≡ chain_cells
  size₁ = length-set c (4096 + n) (get_or c h₀ 0) ∙ g.size

  head_new : get_or c₂ h₀ 0 ≡ n + 1
  head_new = get_or-set_same c₁ h₀ (n + 1) 0 (omega (arith, size₁))

  head_old : (h : ℕ) → h < 4096 → (h ≡ h₀ → ⊥) → get_or c₂ h 0 ≡ get_or c h 0
  head_old h l d = get_or-set_other c₁ h₀ h (n + 1) 0 d ∙ get_or-set_other c (4096 + n) h (get_or c h₀ 0) 0 (λ q. omega (arith, q))

  link_new : link_of c₂ n ≡ get_or c h₀ 0
  link_new = get_or-set_other c₁ h₀ (4096 + n) (n + 1) 0 (λ q. omega (arith, q)) ∙ get_or-set_same c (4096 + n) (get_or c h₀ 0) 0 (omega (arith, g.size))

  kept : (h : ℕ) → h < 4096 → Chain c₂ (get_or c h 0) (with_hash t h n)
  kept h l = past c₁ h₀ (n + 1) (past c (4096 + n) (get_or c h₀ 0) (g.leads h l) (inr (omega (arith, g.low h l)))) (inl k)

  leads_more : (is : Bool) (h : ℕ) → h < 4096 → eqb h₀ h ≡ is → Chain c₂ (get_or c₂ h 0) (cond is (n ∷ with_hash t h n) (with_hash t h n))
  leads_more true h l e =
      let q : h₀ ≡ h = eqb-true h₀ h e in
      let x : get_or c₂ h 0 ≡ suc n = rw (← q) (head_new ∙ add-one n) in
      rw x (link n (with_hash t h n) (rw link_new (g.low h₀ k)) (rw (link_new, q) (rw q at (kept h l))))
  leads_more false h l e = rw (head_old h l (λ q. eqb-false h₀ h e (sym q))) (kept h l)

  low_more : (is : Bool) (h : ℕ) → h < 4096 → eqb h₀ h ≡ is → get_or c₂ h 0 ≤ n + 1
  low_more true h l e = rw (← (eqb-true h₀ h e)) (omega (arith, head_new))
  low_more false h l e = omega (arith, head_old h l (λ q. eqb-false h₀ h e (sym q)), g.low h l)

  plain_more : Plain t n → (i : ℕ) → i < n + 1 → Plain t i
  plain_more z i l = by_test (eqb i n) (λ e. rw (eqb-true i n e) z) (λ e. g.plain i (let d = eqb-false i n e in omega arith))

  pub inserted : h₀ ≡ hash_of (key_at t n) → Plain t n → Chains t c₂ (n + 1)
  unfolding with_hash
  inserted e z = record {
    size = length-set c₁ h₀ (n + 1) ∙ size₁;
    low = λ h l. low_more (eqb h₀ h) h l refl;
    leads = λ h l. rw (add-one n, ← e) (simp add-one at (leads_more (eqb h₀ h) h l refl));
    plain = plain_more z;
  }

-- some element passes the test
unfoldable pub any_in : (ℕ → Bool) → List ℕ → Bool
any_in p [] = false
any_in p (x ∷ l) = p x || any_in p l

-- a node with the key k has the hash of k: the search may keep to that chain
module _ (t : List ℕ) (k : ℕ) where
  any_hash : (n : ℕ) → any_in (has_key t k) (with_hash t (hash_of k) n) ≡ any_below (has_key t k) n
  unfolding any_in with_hash any_below
  any_hash zero = refl
  any_hash (suc n) = go (any_hash n) (eqb (hash_of (key_at t n)) (hash_of k)) refl
    where
      go : any_in (has_key t k) (with_hash t (hash_of k) n) ≡ any_below (has_key t k) n → (is : Bool) → eqb (hash_of (key_at t n)) (hash_of k) ≡ is
          → any_in (has_key t k) (cond is (n ∷ with_hash t (hash_of k) n) (with_hash t (hash_of k) n)) ≡ (has_key t k n || any_below (has_key t k) n)
      go i true e = ap (has_key t k n ||◌) i
      go i false e = rw (ne_eqb (key_at t n) k (λ q. eqb-false (hash_of (key_at t n)) (hash_of k) e (ap hash_of q))) i

-- What is left of a search for the key k along a chain, at the link s: whether one of the nodes that the links from s on lead
-- through has it is the answer.
pub record Left (t c : List ℕ) (n k s : ℕ) : Type 0 where
  pub low : s ≤ n
  pub rest : List ℕ
  pub chain : Chain c s rest
  pub answers : any_in (has_key t k) rest ≡ repeats t n

-- the search starts at the head of the key's hash
pub at_head : {t c : List ℕ} {n k : ℕ} → Bytes t → Chains t c n → Plain t n → k ≡ key_at t n → hash_of k < 4096 → Left t c n k (get_or c (hash_of k) 0)
at_head {t} {c} {n} {k} b g z e l = record {
  low = g.low (hash_of k) l;
  rest = with_hash t (hash_of k) n;
  chain = g.leads (hash_of k) l;
  answers = any_hash t k n ∙ rw e (sym (repeats_key t n b g.plain z));
}

-- no link leads through no node
none : {c l : List ℕ} → Chain c 0 l → l ≡ []
none stop = refl

-- a link leads through the node before it, and then where that node's link leads, which is lower
abbrev On : List ℕ → ℕ → List ℕ → Type 0
On c s l = (m : List ℕ) × (l ≡ (s - 1) ∷ m) × Chain c (link_of c (s - 1)) m × (link_of c (s - 1) ≤ s - 1)

on : {c : List ℕ} {s : ℕ} {l : List ℕ} → Chain c s l → (s ≡ 0 → ⊥) → On c s l
on stop h = absurd (h refl)
on (link s l p c) h =
    let e : suc s - 1 ≡ s = omega arith in
    (l, rw e, rw e c, rw e p)

module _ {t c : List ℕ} {n k s : ℕ} (w : Left t c n k s) where
  -- the chain has ended
  pub at-end : s ≡ 0 → false ≡ repeats t n
  unfolding any_in
  at-end z = ap (any_in (has_key t k)) (sym (none (rw z at w.chain))) ∙ w.answers

  -- links fall
  pub falls : (s ≡ 0 → ⊥) → link_of c (s - 1) ≤ s - 1
  falls h = (on w.chain h).3

  -- what the first node of the chain says, or else the others
  at-node : (h : s ≡ 0 → ⊥) {is : Bool} → has_key t k (s - 1) ≡ is → (is || any_in (has_key t k) (on w.chain h).0) ≡ repeats t n
  unfolding any_in
  at-node h e =
      let o = on w.chain h in
      ap (◌|| any_in (has_key t k) o.0) (sym e) ∙ ap (any_in (has_key t k)) (sym o.1) ∙ w.answers

  -- it has the key
  pub finds : (s ≡ 0 → ⊥) → key_at t (s - 1) ≡ k → true ≡ repeats t n
  finds h f = at-node h (eq-eqb (key_at t (s - 1)) k f)

  -- it has not
  pub goes_on : (s ≡ 0 → ⊥) → (key_at t (s - 1) ≡ k → ⊥) → Left t c n k (link_of c (s - 1))
  goes_on h f =
      let o = on w.chain h in
      record {
        low = omega (arith, o.3, w.low);
        rest = o.0;
        chain = o.2;
        answers = at-node h (ne_eqb (key_at t (s - 1)) k f);
      }
