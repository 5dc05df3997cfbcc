-- Laws of the nodes of numbers, and of one node more. Assumes nothing.
use mathlib.Core.Path.{◌≡◌, ◌∙◌, ap, sym, refl, subst}
use mathlib.Core.List.{List, [], ◌∷◌, ◌++◌, map, map-append}
use mathlib.Core.Bool.{true, false}
use Prim.Native.Nat.{ℕ, zero, suc, ◌+◌, ◌-◌, ◌*◌, ◌/◌, ◌%◌, ◌≤◌, ◌<◌}
use native.Mathlib.Numerals.{add-one}
use native.Mathlib.Omega.{arith}
use lib.Dec.{ltb}
use lib.ListN.{length, get_or, set, take, replicate, length-append, length-map, length-replicate}
use lib.Seq.{length-take-le, get_or-take, take-suc-set}
use borrow.Author.Tests.{lt-ltb, le-ltb, le-leb, lt-leb, ltb-true, ltb-false}
use Rattle.scope.specs.declared.Node.{Node}
use Rattle.scope.specs.declared.Refusal.{Refusal}
use Rattle.scope.specs.Outcome.{answer, refused}
use Rattle.scope.specs.Table.{node_bytes, read_record, same_node, encode}
use Rattle.scope.specs.Calls.{no_node, index_of, written, add_node, add_new}
use Rattle.scope.proofs.Tests.{by_test}
use Rattle.codec.proofs.Records.{same_is, same_self}
use Rattle.codec.proofs.Nodes.{not_found, index_none, index_at, valid_more}
use Rattle.codec.proofs.Tables.{length-encode}
use Rattle.codec.proofs.Used.{written-length, written_over}
use Rattle.std.specs.Prelude.{Result, Ok, Err}
use Rattle.growing.specs.Chains.{Chains, Finds}
use Rattle.growing.proofs.Chains.{no_chains}
use Rattle.growing.specs.Growing.{node_in, nodes_in, room_of, Table, Under, Sound, Grows, FromAdd, joins}

-- a refusal is no answer
pub no_answer : {v : Result ℕ Refusal} {r : Refusal} {l : ℕ} → v ≡ Err r → v ≡ Ok l → ⊥
no_answer {r = r} {l = l} e q =
    let p : Ok l ≡ Err r = sym q ∙ e in
    let z : ◌≡◌ {A = ℕ} 0 1 = cc in omega arith

-- so what is answered is refused by no number
pub answer_adds : {v : Result ℕ Refusal} {l : ℕ} → v ≡ Ok l → FromAdd v
answer_adds e x q = absurd (no_answer q e)

-- what is refused by one of add's numbers is refused by no other
pub one_of_adds : {v : Result ℕ Refusal} {r x : Refusal} → v ≡ Err r → r.number < 60 → v ≡ Err x → x.number < 60
one_of_adds {r = r} {x = x} e h q =
    let p : ◌≡◌ {A = Result ℕ Refusal} (Err r) (Err x) = sym e ∙ q in
    let same : r ≡ x = cc in
    subst (λ (y : Refusal). y.number < 60) same h

-- different numbers are of different nodes
pub key_one : (x y : ℕ) → node_in x ≡ node_in y → x ≡ y
unfolding node_in
key_one x y e =
    let kind : x / 4096 / 4096 ≡ y / 4096 / 4096 = ap (λ (z : Node). z.kind) e in
    let a : x % 4096 ≡ y % 4096 = ap (λ (z : Node). z.a) e in
    let b : x / 4096 % 4096 ≡ y / 4096 % 4096 = ap (λ (z : Node). z.b) e in
    omega arith

get_d_map : {A B : Type 0} (f : A → B) (l : List A) (i : ℕ) (d : A) (e : B) → i < length l → get_or (map f l) i e ≡ f (get_or l i d)
get_d_map f [] i d e h = absurd (omega arith)
get_d_map f (x ∷ l) zero d e h = refl
get_d_map f (x ∷ l) (suc i) d e h = get_d_map f l i d e (omega arith)

module _ (keys : List ℕ) (n : ℕ) (size : length keys ≡ 2016) (few : n ≤ 2016) where
  pub nodes_count : length (nodes_in keys n) ≡ n
  unfolding nodes_in
  nodes_count = length-map (take n keys) node_in ∙ length-take-le n keys (omega arith)

  pub nodes_at : (m : ℕ) → m < n → get_or (nodes_in keys n) m no_node ≡ node_in (get_or keys m 0)
  unfolding nodes_in
  nodes_at m h =
      get_d_map node_in (take n keys) m 0 no_node (omega (arith, length-take-le n keys (omega arith)))
      ∙ ap node_in (get_or-take n keys m 0 h)

  pub nodes_more : (k : ℕ) → n < 2016 → nodes_in (set keys n k) (n + 1) ≡ nodes_in keys n ++ node_in k ∷ []
  unfolding nodes_in
  nodes_more k h = rw (add-one, take-suc-set keys n k (omega arith)) (map-append node_in (take n keys) (k ∷ []))

-- the table of so many nodes fits a buffer with room for them
pub room_fits : (len n : ℕ) → n ≤ room_of len → 512 * ((n + 62) / 63) ≤ len
unfolding room_of
room_fits len n h =
    by_test (ltb len 16384)
    (λ e. let few : n ≤ 63 * (len / 512) = rw e at h in omega arith)
    (λ e. let few : n ≤ 2016 = rw e at h in omega (arith, ltb-false len 16384 e))

-- .. and of one more does not fit one that has no more room
pub room_full : (len : ℕ) → room_of len < 2016 → len < 512 * ((room_of len + 1 + 62) / 63)
unfolding room_of
room_full len h =
    by_test (ltb len 16384)
    (λ e. rw e (omega arith))
    (λ e. absurd (let none : 2016 < 2016 = rw e at h in omega arith))

module _ {keys head next : List ℕ} {room n : ℕ} (u : Under keys head next room n) where
  abbrev rs : List Node
  rs = nodes_in keys n

  abbrev t : Table
  t = record { keys = keys; count = n; room = room }

  pub sound : Sound t
  sound = record { within = u.within; few = u.few; valid = u.valid; size = u.chains.size }

  count : length rs ≡ n
  count = nodes_count keys n u.chains.size u.chains.most

  -- it was found
  module _ {k s : ℕ} (f : Finds keys n k (suc s)) where
    inside : s < n
    inside = omega (arith, f.within)

    key : get_or keys s 0 ≡ k
    key =
        let q : suc s - 1 ≡ s = omega arith in
        sym (ap (λ (i : ℕ). get_or keys i 0) q) ∙ f.some (λ z. omega arith)

    stands : get_or rs s no_node ≡ node_in k
    stands = nodes_at keys n u.chains.size u.chains.most s inside ∙ ap node_in key

    same-there : same_node (get_or rs s no_node) (node_in k) ≡ true
    same-there = rw stands (same_self (node_in k))

    found-low : index_of (node_in k) rs < length rs
    found-low =
        by_test (ltb (index_of (node_in k) rs) (length rs))
        (λ e. ltb-true (index_of (node_in k) rs) (length rs) e)
        (λ e.
        let no : same_node (get_or rs s no_node) (node_in k) ≡ false =
        not_found (node_in k) rs s (ltb-false (index_of (node_in k) rs) (length rs) e) (omega (arith, count, inside)) in
        let z : true ≡ false = sym same-there ∙ no in
        absurd (let w : ◌≡◌ {A = ℕ} 0 1 = cc in omega arith))

    apart : (i j : ℕ) → i < j → j < length rs → get_or rs i no_node ≡ node_in k → get_or rs j no_node ≡ node_in k → ⊥
    apart i j l h p q =
        let no : same_node (get_or rs i no_node) (get_or rs j no_node) ≡ false = (u.valid (omega arith)).once i j l h in
        let z : true ≡ false =
        sym (same_self (node_in k)) ∙ ap (λ (x : Node). same_node x (node_in k)) (sym p) ∙ ap (same_node (get_or rs i no_node)) (sym q) ∙ no in
        let w : ◌≡◌ {A = ℕ} 0 1 = cc in omega arith

    found_at : index_of (node_in k) rs ≡ s
    found_at =
        by_test (ltb (index_of (node_in k) rs) s)
        (λ e. absurd (apart (index_of (node_in k) rs) s (ltb-true (index_of (node_in k) rs) s e) (omega (arith, count, inside)) (index_at (node_in k) rs found-low) stands))
        (λ e. by_test (ltb s (index_of (node_in k) rs))
        (λ d. absurd (apart s (index_of (node_in k) rs) (ltb-true s (index_of (node_in k) rs) d) found-low stands (index_at (node_in k) rs found-low)))
        (λ d. omega (arith, ltb-false (index_of (node_in k) rs) s e, ltb-false s (index_of (node_in k) rs) d)))

    pub grown-found : Grows (joins t k) room (Ok (2 * s)) t
    unfolding add_node
    grown-found = record {
      said = λ buf e. rw (lt-ltb (index_of (node_in k) rs) (length rs) found-low, found_at);
      room_is = refl;
      low = λ l q. let same : 2 * s ≡ l = cc in omega (arith, inside, u.chains.most);
    }

  -- it was not
  module _ {k : ℕ} (f : Finds keys n k 0) where
    not_there : index_of (node_in k) rs ≡ length rs
    not_there =
        index_none (node_in k) rs
        (λ m h. by_test (same_node (get_or rs m no_node) (node_in k))
        (λ e.
        let l : m < n = omega (arith, count) in
        let same : node_in (get_or keys m 0) ≡ node_in k =
        sym (nodes_at keys n u.chains.size u.chains.most m l) ∙ same_is (get_or rs m no_node) (node_in k) e in
        absurd (f.none refl m l (key_one (get_or keys m 0) k same)))
        (λ e. e))

    new : ltb (index_of (node_in k) rs) (length rs) ≡ false
    new = le-ltb (index_of (node_in k) rs) (length rs) (omega (arith, not_there))

    size-now : (buf : List ℕ) → room_of (length buf) ≡ room → length (written (encode rs) buf) ≡ length buf
    size-now buf e = written-length (encode rs) buf (omega (arith, length-encode rs, count, room_fits (length buf) n (omega (arith, u.within))))

    refused-here : (r : Refusal) → ((buf : List ℕ) → room_of (length buf) ≡ room → joins t k buf ≡ refused r.number r.place) → Grows (joins t k) room (Err r) t
    refused-here r f = record {
      said = f;
      room_is = refl;
      low = λ l q. absurd (no_answer refl q);
    }

    pub grown-51 : n ≡ 2016 → Grows (joins t k) room (Err (record { number = 51; place = n })) t
    unfolding add_node add_new
    grown-51 h = refused-here (record { number = 51; place = n }) (λ buf e. rw (new, count, le-ltb n 2016 (omega arith)))

    more-length : length (encode (rs ++ node_in k ∷ [])) ≡ 512 * ((n + 1 + 62) / 63)
    more-length = length-encode (rs ++ node_in k ∷ []) ∙ ap (λ (i : ℕ). 512 * ((i + 62) / 63)) (length-append rs (node_in k ∷ []) ∙ ap (◌+ 1) count)

    pub grown-52 : (n ≡ 2016 → ⊥) → n ≡ room → Grows (joins t k) room (Err (record { number = 52; place = n })) t
    unfolding add_node add_new
    grown-52 d h =
        refused-here (record { number = 52; place = n })
        (λ buf e.
        let over : length buf < 512 * ((n + 1 + 62) / 63) = rw (h, ← e) (room_full (length buf) (omega (arith, u.few))) in
        rw (new, count, lt-ltb n 2016 (omega (arith, u.few)), lt-leb (length (encode (rs ++ node_in k ∷ []))) (length (written (encode rs) buf)) (omega (arith, size-now buf e, more-length))))

    pub grown-new : (n ≡ room → ⊥) → read_record (node_bytes (node_in k)) n ≡ answer (node_in k)
        → Grows (joins t k) room (Ok (2 * n)) (record { keys = set keys n k; count = n + 1; room = room })
    unfolding add_node add_new
    grown-new d reads =
        let less : n < 2016 = omega (arith, u.within, u.few) in
        let after : nodes_in (set keys n k) (n + 1) ≡ rs ++ node_in k ∷ [] = nodes_more keys n u.chains.size u.chains.most k less in
        record {
          said = λ buf q.
              let fits : length (encode (rs ++ node_in k ∷ [])) ≤ length (written (encode rs) buf) =
              omega (arith, size-now buf q, more-length, room_fits (length buf) (n + 1) (omega (arith, u.within))) in
              rw (new, count, lt-ltb n 2016 less, le-leb (length (encode (rs ++ node_in k ∷ []))) (length (written (encode rs) buf)) fits, after, written_over (encode rs) (encode (rs ++ node_in k ∷ [])) buf (omega (arith, more-length, length-encode rs, count)));
          room_is = refl;
          low = λ l p. let same : 2 * n ≡ l = cc in omega arith;
        }

    pub under_more : {head' next' : List ℕ} → (n ≡ room → ⊥) → read_record (node_bytes (node_in k)) n ≡ answer (node_in k)
        → Chains (set keys n k) head' next' (n + 1)
        → Under (set keys n k) head' next' room (n + 1)
    under_more d reads g =
        let less : n < 2016 = omega (arith, u.within, u.few) in
        let after : nodes_in (set keys n k) (n + 1) ≡ rs ++ node_in k ∷ [] = nodes_more keys n u.chains.size u.chains.most k less in
        record {
          within = omega (arith, u.within);
          few = u.few;
          valid = λ some. rw after (valid_more rs (node_in k) u.valid (omega (arith, count)) (rw count reads) (omega (arith, not_there)));
          chains = g;
        }

-- no buffer has room for more nodes than a table may have
pub room_low : (len : ℕ) → room_of len ≤ 2016
unfolding room_of
room_low len = by_test (ltb len 16384) (λ e. rw e (omega (arith, ltb-true len 16384 e))) (λ e. rw e (omega arith))

-- no node yet
pub none-under : (room : ℕ) → room ≤ 2016 → Under (replicate 2016 0) (replicate 4096 0) (replicate 2016 0) room 0
none-under room h = record {
  within = omega arith;
  few = h;
  valid = λ some. absurd (omega (arith, nodes_count (replicate 2016 0) 0 (length-replicate {A = ℕ} 2016 0) (omega arith)));
  chains = no_chains;
}
