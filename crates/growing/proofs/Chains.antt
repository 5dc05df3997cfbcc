-- Laws of the chains: none, one number more, and a search along one. Assumes nothing.
use mathlib.Core.Path.{◌≡◌, ◌∙◌, ap, sym, refl}
use mathlib.Core.List.{List}
use Prim.Native.Nat.{ℕ, suc, ◌+◌, ◌-◌, ◌≤◌, ◌<◌}
use native.Mathlib.Numerals.{add-one}
use native.Mathlib.Omega.{arith}
use lib.Dec.{eqb}
use lib.ListN.{length, get_or, set, replicate, length-set, length-replicate}
use lib.Seq.{get_or-set_same, get_or-set_other}
use borrow.Author.Tests.{eqb-true, eqb-false}
use Rattle.scope.proofs.Lists.{zeros-at}
use Rattle.scope.proofs.Tests.{by_test}
use Rattle.growing.specs.Chains.{hash_of, To, here, on, Chains, Finds}

-- arrays of zeros are the chains of no number
pub no_chains : Chains (replicate 2016 0) (replicate 4096 0) (replicate 2016 0) 0
no_chains = record {
  size = length-replicate {A = ℕ} 2016 0;
  heads = length-replicate {A = ℕ} 4096 0;
  links = length-replicate {A = ℕ} 2016 0;
  most = omega arith;
  low = λ h. rw (zeros-at 4096 h) (omega arith);
  falls = λ m l. absurd (omega arith);
  leads = λ m l. absurd (omega arith);
}

pub hash_low : (k : ℕ) → hash_of k < 4096
unfolding hash_of
hash_low k = omega arith

module _ {keys head next : List ℕ} {n : ℕ} (g : Chains keys head next n) where
  -- a store past a chain leaves it
  past : (v : ℕ) {s m : ℕ} → To next s m → s ≤ n → To (set next n v) s m
  past v (here m) l = here m
  past v (on s m t) l =
      let e : get_or (set next n v) s 0 ≡ get_or next s 0 = get_or-set_other next n s v 0 (λ q. omega arith) in
      on s m (rw e (past v t (omega (arith, g.falls s (omega arith)))))

  module _ (k : ℕ) (room : n < 2016) where
    abbrev keys' : List ℕ
    keys' = set keys n k

    abbrev head' : List ℕ
    head' = set head (hash_of k) (n + 1)

    abbrev next' : List ℕ
    next' = set next n (get_or head (hash_of k) 0)

    in-heads : hash_of k < length head
    in-heads = omega (arith, hash_low k, g.heads)

    head-same : get_or head' (hash_of k) 0 ≡ suc n
    head-same = get_or-set_same head (hash_of k) (n + 1) 0 in-heads ∙ add-one n

    link-same : get_or next' n 0 ≡ get_or head (hash_of k) 0
    link-same = get_or-set_same next n (get_or head (hash_of k) 0) 0 (omega (arith, g.links))

    -- what a head led to it leads to
    kept : (h : ℕ) {m : ℕ} → To next (get_or head h 0) m → To next' (get_or head' h 0) m
    kept h {m} t =
        by_test (eqb h (hash_of k))
        (λ e.
        let q : h ≡ hash_of k = eqb-true h (hash_of k) e in
        rw (q, head-same) (on n m (rw link-same (past _ (rw q at t) (g.low (hash_of k))))))
        (λ e.
        rw (get_or-set_other head (hash_of k) h (n + 1) 0 (eqb-false h (hash_of k) e)) (past _ t (g.low h)))

    leads_more : (m : ℕ) → m < n + 1 → To next' (get_or head' (hash_of (get_or keys' m 0)) 0) m
    leads_more m l =
        by_test (eqb m n)
        (λ e.
        let q : m ≡ n = eqb-true m n e in
        rw (q, get_or-set_same keys n k 0 (omega (arith, g.size)), head-same) (here n))
        (λ e.
        rw (get_or-set_other keys n m k 0 (eqb-false m n e)) (kept _ (g.leads m (let d = eqb-false m n e in omega arith))))

    low_more : (h : ℕ) → get_or head' h 0 ≤ n + 1
    low_more h =
        by_test (eqb h (hash_of k))
        (λ e. rw (eqb-true h (hash_of k) e) (omega (arith, head-same)))
        (λ e. omega (arith, get_or-set_other head (hash_of k) h (n + 1) 0 (eqb-false h (hash_of k) e), g.low h))

    falls-more : (m : ℕ) → m < n + 1 → get_or next' m 0 ≤ m
    falls-more m l =
        by_test (eqb m n)
        (λ e. rw (eqb-true m n e) (omega (arith, link-same, g.low (hash_of k))))
        (λ e.
        let d = eqb-false m n e in
        omega (arith, get_or-set_other next n m (get_or head (hash_of k) 0) 0 d, g.falls m (omega arith)))

    pub inserted : Chains keys' head' next' (n + 1)
    inserted = record {
      size = length-set keys n k ∙ g.size;
      heads = length-set head (hash_of k) (n + 1) ∙ g.heads;
      links = length-set next n (get_or head (hash_of k) 0) ∙ g.links;
      most = omega arith;
      low = low_more;
      falls = falls-more;
      leads = leads_more;
    }

-- what is left of a search for k, at the link s: where it stands, the links from s on lead
pub record Left (keys next : List ℕ) (n k s : ℕ) : Type 0 where
  pub low : s ≤ n
  pub leads : (m : ℕ) → m < n → get_or keys m 0 ≡ k → To next s m

pub at_head : {keys head next : List ℕ} {n k h : ℕ} → Chains keys head next n → h ≡ hash_of k → Left keys next n k (get_or head h 0)
at_head {head = head} {next = next} {k = k} {h = h} g e = record {
  low = g.low h;
  leads = λ m l q. rw (e, ← q) (g.leads m l);
}

none_left : {next : List ℕ} {s m : ℕ} → s ≡ 0 → To next s m → ⊥
none_left e (here m) = omega arith
none_left e (on s m t) = omega arith

next_left : {next : List ℕ} {s m : ℕ} → To next s m → (m ≡ s - 1 → ⊥) → To next (get_or next (s - 1) 0) m
next_left (here m) d = absurd (d (omega arith))
next_left {next} (on s m t) d = let e : suc s - 1 ≡ s = omega arith in rw e t

module _ {keys next : List ℕ} {n k s : ℕ} (w : Left keys next n k s) where
  pub at-end : s ≡ 0 → Finds keys n k 0
  at-end z = record {
    none = λ q m l e. none_left z (w.leads m l e);
    some = λ q. absurd (q refl);
    within = omega arith;
  }

  pub at-node : (s ≡ 0 → ⊥) → get_or keys (s - 1) 0 ≡ k → Finds keys n k s
  at-node h e = record { none = λ q. absurd (h q); some = λ q. e; within = w.low }

  pub goes_on : {head : List ℕ} → Chains keys head next n → (s ≡ 0 → ⊥) → (get_or keys (s - 1) 0 ≡ k → ⊥) → Left keys next n k (get_or next (s - 1) 0)
  goes_on g h d = record {
    low = omega (arith, g.falls (s - 1) (omega (arith, w.low, h)), w.low);
    leads = λ m l e. next_left (w.leads m l e) (λ q. d (ap (λ (i : ℕ). get_or keys i 0) (sym q) ∙ e));
  }
