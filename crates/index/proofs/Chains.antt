-- Laws of the chain of nodes, and of putting the edges along it. Assumes nothing.
use mathlib.Core.Path.{◌≡◌, refl, ◌∙◌, subst}
use mathlib.Core.List.{List}
use Prim.Native.Nat.{ℕ, zero, suc, ◌+◌, ◌-◌, ◌<◌, ◌≤◌}
use native.Mathlib.Numerals.{add-one}
use native.Mathlib.Omega.{arith}
use native.Mathlib.Decide.{ℕ_discrete, dec_lt}
use lib.ListN.{set}
use lib.Seq.{get_or-set_same, get_or-set_other}
use Rattle.scope.specs.declared.Node.{Node}
use Rattle.index.specs.Index.{most_nodes, first_at, index_node}
use Rattle.index.specs.Edges.{first_of, mid_of}
use Rattle.index.specs.Built.{Same, Early, Skips, Chain, ends, goes, Placed, put_node, Room, Linked}
use Rattle.index.proofs.Sums.{total_low, apart, early_none}
use Rattle.index.proofs.Fills.{filled_first}
use Rattle.index.proofs.Wholes.{Place, FilledTo, filled_none, fill_room, after_none, filled_more, edges_of, put_same}

-- ---- the chain

-- no node is left out
none-skipped : (t : ℕ → Node) (S f : ℕ → ℕ) (q : ℕ) → Skips t S f q q
none-skipped t S f q = (omega arith, λ m h b. absurd (omega (arith, h, b)))

module _ {t : ℕ → Node} {S f : ℕ → ℕ} {n : ℕ} where
  chain_low : {p q : ℕ} → Chain t S f n p q → q ≤ n
  chain_low (ends p s) = omega arith
  chain_low (goes p q s h c) = omega (arith, h)

  chain_skips : {p q : ℕ} → Chain t S f n p q → Skips t S f p q
  chain_skips (ends p s) = s
  chain_skips (goes p q s h c) = s

  chain_next : {p q : ℕ} → q < n → Chain t S f n p q → Chain t S f n (suc q) (f q)
  chain_next h (ends p s) = absurd (omega (arith, h))
  chain_next h (goes p q s l c) = c

  -- other nodes are left out before it
  chain_from : {p q : ℕ} (r : ℕ) → Skips t S f r q → Chain t S f n p q → Chain t S f n r q
  chain_from r s (ends p z) = ends r s
  chain_from r s (goes p q z h c) = goes r q s h c

  -- one more
  pub chain_over : {p q : ℕ} → (t p).kind < 3 → f p ≡ S p → Chain t S f n (suc p) q → Chain t S f n p q
  chain_over {p} {q} a e c = chain_from p (omega (arith, s.0), λ m h b. go m h b (ℕ_discrete m p)) c
    where
      s : Skips t S f (suc p) q
      s = chain_skips c

      go : (m : ℕ) → p ≤ m → m < q → Dec (m ≡ p) → ((t m).kind < 3) × (f m ≡ S m)
      go m h b (yes i) = rw i (a, e)
      go m h b (no d) = s.1 m (omega (arith, h, d)) b

  pub chain_none : Chain t S f n n n
  chain_none = ends n (none-skipped t S f n)

  pub chain_more : (p : ℕ) → p < n → Chain t S f n (suc p) (f p) → Chain t S f n p p
  chain_more p h c = goes p p (none-skipped t S f p) h c

  -- all nodes are in it
  chain_all : ((m : ℕ) → m < n → f m ≡ m + 1) → (k p : ℕ) → p + k ≡ n → Chain t S f n p p
  chain_all e zero p h =
      let z : p ≡ n = omega (arith, h) in
      rw z chain_none
  chain_all e (suc k) p h =
      let z : f p ≡ suc p = omega (arith, e p (omega (arith, h))) in
      chain_more p (omega (arith, h)) (rw z (chain_all e k (suc p) (omega (arith, h))))

-- it hangs on what is said of the nodes from p on
module _ {t t' : ℕ → Node} {S S' f f' : ℕ → ℕ} {n : ℕ} where
  skips_same : (p q : ℕ) → ((m : ℕ) → p ≤ m → m < n → (t' m ≡ t m) × (S' m ≡ S m) × (f' m ≡ f m)) → q ≤ n → Skips t S f p q → Skips t' S' f' p q
  skips_same p q e l s = (
    s.0,
    λ m h b.
        let i = e m h (omega (arith, b, l)) in
        rw (i.0, i.1, i.2) (s.1 m h b),
  )

  pub chain_same : {p q : ℕ} → ((m : ℕ) → p ≤ m → m < n → (t' m ≡ t m) × (S' m ≡ S m) × (f' m ≡ f m)) → Chain t S f n p q → Chain t' S' f' n p q
  chain_same e (ends p s) = ends p (skips_same p n e (omega arith) s)
  chain_same e (goes p q s h c) =
      goes p q (skips_same p q e (omega (arith, h)) s) h
      (rw (e q s.0 h).2 (chain_same (λ m a. e m (omega (arith, a, s.0))) c))

-- all nodes have their places
pub places : {t : ℕ → Node} {n : ℕ} {x : List ℕ} → n ≤ most_nodes → Place t n n x → Placed t n 0 x
places {t} {n} {x} few P = record {
  size = P.size;
  nodes = P.nodes;
  starts = record {
    low = λ m h. omega (arith, P.mid m h, total_low t n few m h);
    apart = λ m d k e h b c l r q. apart t n few m d k e c l r (omega (arith, P.mid m h, P.mid k b, q));
  };
  end = λ m h. omega (arith, P.mid m h, P.end m h);
  chained = chain_all P.first n 0 (omega arith);
}

-- ---- putting the edges along it

-- before node p, the next in the chain: the edges from the nodes below stand, and their first places are right
pub record Filling (t : ℕ → Node) (n : ℕ) (S : ℕ → ℕ) (p : ℕ) (x : List ℕ) : Type 0 where
  pub filled : FilledTo t n S p x
  pub first : (m : ℕ) → m < p → first_of x m ≡ S m
  pub rest : Chain t S (first_of x) n p p

module _ {t : ℕ → Node} {n : ℕ} {S : ℕ → ℕ} (few : n ≤ most_nodes) (early : Early t n) where
  -- nodes without operands bring nothing
  filled_over : {x : List ℕ} (d p q : ℕ) → p + d ≡ q → q ≤ n → ((m : ℕ) → p ≤ m → m < q → (t m).kind < 3) → FilledTo t n S p x
      → FilledTo t n S q x
  filled_over {x} zero p q e l b F =
      let i : p ≡ q = omega (arith, e) in
      subst (λ (j : ℕ). FilledTo t n S j x) i F
  filled_over (suc d) p q e l b F =
      filled_over d (p + 1) q (omega (arith, e)) l (λ m h. b m (omega (arith, h)))
      (after_none few early (omega (arith, e, l)) F (b p (omega arith) (omega (arith, e))))

  -- up to the next node of the chain
  fills_to : {p q : ℕ} {x : List ℕ} → FilledTo t n S p x → ((m : ℕ) → m < p → first_of x m ≡ S m)
      → Chain t S (first_of x) n p q → Filling t n S q x
  fills_to {p} {q} {x} F e c = record {
    filled = filled_over (q - p) p q (omega (arith, s.0)) (chain_low c) (λ m h b. (s.1 m h b).0) F;
    first = λ m h. go m h (dec_lt m p);
    rest = chain_from q (none-skipped t S (first_of x) q) c;
  }
    where
      s : Skips t S (first_of x) p q
      s = chain_skips c

      go : (m : ℕ) → m < q → Dec (m < p) → first_of x m ≡ S m
      go m h (yes b) = e m b
      go m h (no b) = (s.1 m (omega (arith, b)) h).1

  module _ {p : ℕ} {x : List ℕ} (h : p < n) (F : Filling t n S p x) where
    -- the first place of p is made right, then the edges from p are put
    abbrev righted : List ℕ
    righted = set x (first_at + p) (mid_of x p)

    filled-righted : FilledTo t n S p righted
    filled-righted = filled_first few p (mid_of x p) h F.filled

    pub fills-room : Room n (index_node righted p) righted
    fills-room = fill_room few early h filled-righted

    next : Chain t S (first_of x) n (suc p) (first_of x p)
    next = chain_next h F.rest

    pub fills-next : p < first_of x p
    fills-next = omega (arith, (chain_skips next).0)

    abbrev x' : List ℕ
    x' = put_node righted p (index_node righted p)

    others : (m : ℕ) → (m ≡ p → ⊥) → m < most_nodes → first_of x' m ≡ first_of x m
    others m d l =
        put_same righted p (index_node righted p) (first_at + m) (omega arith)
        ∙ get_or-set_other x (first_at + p) (first_at + m) (mid_of x p) 0 (λ q. d (omega (arith, q)))

    own : first_of x' p ≡ S p
    own =
        put_same righted p (index_node righted p) (first_at + p) (omega (arith, h, few))
        ∙ get_or-set_same x (first_at + p) (mid_of x p) 0 (omega (arith, F.filled.size, h, few))
        ∙ omega (arith, F.filled.mid p h, (early_none t n early p p (omega (arith, h)) (omega arith)).0)

    pub fills-more : Filling t n S (first_of x p) x'
    fills-more =
        fills_to (rw add-one at (filled_more few early h filled-righted)) (λ m b. go m b (ℕ_discrete m p))
        (chain_same (λ m a b. (refl, refl, others m (λ q. omega (arith, q, a)) (omega (arith, b, few)))) next)
      where
        go : (m : ℕ) → m < suc p → Dec (m ≡ p) → first_of x' m ≡ S m
        go m b (yes e) = rw e own
        go m b (no d) = others m d (omega (arith, b, h, few)) ∙ F.first m (omega (arith, b, d))

    pub fills_same : Same first_at x x'
    fills_same i b = put_same righted p (index_node righted p) i (omega arith) ∙ get_or-set_other x (first_at + p) i (mid_of x p) 0 (λ q. omega (arith, q))

  -- behind the last
  pub fills_all : {p : ℕ} {x₀ x : List ℕ} → n ≤ p → Filling t n S p x → Same first_at x₀ x → Linked n x₀ x
  fills_all {p} {x₀} {x} h F e =
      let i : p ≡ n = omega (arith, h, chain_low F.rest) in
      let G = subst (λ (j : ℕ). Filling t n S j x) i F in
      record { size = G.filled.size; nodes = e; edges = edges_of few G.filled G.first }

-- before the first
pub fills_none : {t : ℕ → Node} {n head : ℕ} {x : List ℕ} → n ≤ most_nodes → Early t n → Placed t n head x → Filling t n (mid_of x) head x
fills_none few early P = fills_to few early (filled_none P) (λ m h. absurd (omega (arith, h))) P.chained
