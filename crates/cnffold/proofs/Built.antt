-- Tables under way: one outcome after another, as the code meets them. Assumes nothing.
use mathlib.Core.Path.{◌≡◌, ◌∙◌, ap, sym, subst}
use mathlib.Core.List.{List}
use Prim.Native.Nat.{ℕ, ◌<◌, ◌≤◌}
use native.Mathlib.Omega.{arith}
use lib.ListN.{length, take}
use Rattle.std.specs.Prelude.{Result, Ok, Err}
use Rattle.std.specs.Result.{IsErrAnd}
use Rattle.std.proofs.lemmas.Result.{err_from_is_err_and}
use Rattle.scope.specs.declared.Node.{Node}
use Rattle.scope.specs.declared.Refusal.{Refusal}
use Rattle.scope.specs.Outcome.{Outcome, answer, refused, ◌>>=◌}
use Rattle.scope.specs.Table.{node_bytes, node_of, read_record, encode}
use Rattle.scope.specs.Calls.{Added, decode_used, normal, normalized, written, add_node}
use Rattle.codec.proofs.Normal.{normalized_bytes}
use Rattle.codec.proofs.Records.{node_of_bytes, reads}
use Rattle.codec.proofs.Tables.{length-encode}
use Rattle.codec.proofs.Used.{encode-none, encode_used, written_used, written-length}
use Rattle.adding.proofs.Rows.{record-rows, add_is}
use Rattle.growing.specs.Growing.{node_in, nodes_in, Table, state, room_of, outcome_of, Sound, Grows, FromAdd, joins}
use Rattle.growing.proofs.Nodes.{no_answer, one_of_adds, nodes_count, room_fits}
use Rattle.cnf.specs.Fold.{node, put, at, opposite, no_literal, empty}
use Rattle.cnffold.proofs.Folds.{false-is}

-- over a buffer with so much room
abbrev pub Over : ℕ → (List ℕ → Type 0) → Type 0
Over room P = (buf : List ℕ) → room_of (length buf) ≡ room → P buf

module _ {t : Table} (u : Sound t) where
  pub nodes_many : length (nodes_in t.keys t.count) ≡ t.count
  nodes_many = nodes_count t.keys t.count u.size (omega (arith, u.within, u.few))

  module _ (buf : List ℕ) (fits : room_of (length buf) ≡ t.room) where
    used-fits : length (encode (nodes_in t.keys t.count)) ≤ length buf
    used-fits = omega (arith, length-encode (nodes_in t.keys t.count), nodes_many, room_fits (length buf) t.count (omega (arith, u.within)))

    used-within : length (encode (nodes_in t.keys t.count)) ≤ length (written (encode (nodes_in t.keys t.count)) buf)
    used-within = omega (arith, used-fits, written-length (encode (nodes_in t.keys t.count)) buf used-fits)

    used_nodes_lem : decode_used (take (length (encode (nodes_in t.keys t.count))) (written (encode (nodes_in t.keys t.count)) buf)) ≡ answer (nodes_in t.keys t.count)
    used_nodes_lem = ap decode_used (written_used (encode (nodes_in t.keys t.count)) buf) ∙ encode_used (nodes_in t.keys t.count) u.valid

    -- a record that reads is added as its node
    pub put_is : (kind a b : ℕ) (y : Node) → read_record (normalized (node_bytes (node kind a b))) t.count ≡ answer y
        → put (state 0 t buf) kind a b ≡ add_node (state 0 t buf).bytes (state 0 t buf).used (nodes_in t.keys t.count) y
    put_is kind a b y e =
        add_is (state 0 t buf).bytes (state 0 t buf).used (node_bytes (node kind a b)) used-within (nodes_in t.keys t.count) used_nodes_lem (rw nodes_many e)

    -- another is refused
    pub put_refused : (kind a b : ℕ) {number place : ℕ} → read_record (normalized (node_bytes (node kind a b))) t.count ≡ refused number place
        → put (state 0 t buf) kind a b ≡ refused number place
    put_refused kind a b e =
        record-rows (state 0 t buf).bytes (state 0 t buf).used (node_bytes (node kind a b)) used-within (nodes_in t.keys t.count) used_nodes_lem (rw nodes_many e)

-- no node yet
pub none-state : (t : Table) (buf : List ℕ) → t.count ≡ 0 → state 0 t buf ≡ empty buf
unfolding nodes_in
none-state t buf e = rw (e, encode-none)

-- a node that was read reads in its own bytes
own_reads : (x y : Node) (n : ℕ) → read_record (normalized (node_bytes x)) n ≡ answer y → read_record (node_bytes y) n ≡ answer y
own_reads x y n e =
    let same : normal x ≡ y = sym (ap node_of (normalized_bytes x) ∙ node_of_bytes (normal x)) ∙ (reads (normalized (node_bytes x)) n e).node in
    ap (λ (r : List ℕ). read_record r n) (sym (normalized_bytes x ∙ ap node_bytes same)) ∙ e

-- .. that of a number too
pub key_reads : (k : ℕ) (x y : Node) (n : ℕ) → node_in k ≡ y → read_record (normalized (node_bytes x)) n ≡ answer y
    → read_record (node_bytes (node_in k)) n ≡ answer (node_in k)
key_reads k x y n p e = rw p (own_reads x y n e)

-- the same outcome, said otherwise
pub grows_as : {out out' : List ℕ → Outcome Added} {room : ℕ} {v : Result ℕ Refusal} {t : Table} → Over room (λ buf. out' buf ≡ out buf) → Grows out room v t
    → Grows out' room v t
grows_as e g = record { said = λ buf q. e buf q ∙ g.said buf q; room_is = g.room_is; low = g.low }

-- .. and over as much room
pub grows_in : {out : List ℕ → Outcome Added} {room room' : ℕ} {v : Result ℕ Refusal} {t : Table} → room' ≡ room → Grows out room' v t → Grows out room v t
grows_in {out} {v = v} {t = t} e g = subst (λ (n : ℕ). Grows out n v t) e g

-- the node of the number k joined: it is the node of the record that is put
pub grows_put : {t t' : Table} {v : Result ℕ Refusal} (u : Sound t) (k kind a b : ℕ) (y : Node) → node_in k ≡ y
    → read_record (normalized (node_bytes (node kind a b))) t.count ≡ answer y
    → Grows (joins t k) t.room v t' → Grows (λ buf. put (state 0 t buf) kind a b) t.room v t'
grows_put {t} u k kind a b y p e g =
    grows_as
    (λ buf q. put_is u buf q kind a b y e ∙ ap (add_node (state 0 t buf).bytes (state 0 t buf).used (nodes_in t.keys t.count)) (sym p))
    g

-- an answer
pub grows_answer : {out : List ℕ → Outcome Added} {room l : ℕ} {t : Table} → l < 4032 → t.room ≡ room → Over room (λ buf. out buf ≡ answer (state l t buf))
    → Grows out room (Ok l) t
grows_answer {l = l} h r e = record {
  said = e;
  room_is = r;
  low = λ m q. let same : l ≡ m = cc in omega arith;
}

-- a refusal: nothing is kept
pub grows_refused : {out : List ℕ → Outcome Added} {room : ℕ} {r : Refusal} {v : Result ℕ Refusal} {t : Table} → v ≡ Err r → t.room ≡ room
    → Over room (λ buf. out buf ≡ refused r.number r.place) → Grows out room v t
grows_refused {r = r} {t = t} e k f = record {
  said = λ buf q. f buf q ∙ sym (ap (outcome_of t buf) e);
  room_is = k;
  low = λ l q. absurd (no_answer e q);
}

-- what a `?` hands on is the refusal that it met
pub same_refusal : {w : Result ℕ Refusal} {r : Refusal} → IsErrAnd w (λ x. x ≡ r) → w ≡ Err r
same_refusal {w} h =
    let p = err_from_is_err_and w h in
    p.1 ∙ ap Err p.2

-- .. so it is one of add's where that was
pub stops_adds : {v w : Result ℕ Refusal} {r : Refusal} → FromAdd v → v ≡ Err r → IsErrAnd w (λ x. x ≡ r) → FromAdd w
stops_adds a e h x = one_of_adds (same_refusal h) (a _ e)

module _ {out : List ℕ → Outcome Added} {room : ℕ} {v : Result ℕ Refusal} {t : Table} (g : Grows out room v t) where
  -- it was answered: the table afterwards
  pub grows_at : {l : ℕ} → v ≡ Ok l → Over room (λ buf. out buf ≡ answer (state l t buf))
  grows_at e buf q = g.said buf q ∙ ap (outcome_of t buf) e

  -- .. and what comes next is asked of that table
  pub grows_next : {l : ℕ} (f : Added → Outcome Added) → v ≡ Ok l → Over room (λ buf. (out buf >>= f) ≡ f (state l t buf))
  grows_next f e buf q = ap (λ (o : Outcome Added). o >>= f) (grows_at e buf q)

  -- it was refused
  pub grows_turned : {r : Refusal} → v ≡ Err r → Over room (λ buf. out buf ≡ refused r.number r.place)
  grows_turned e buf q = g.said buf q ∙ ap (outcome_of t buf) e

  -- .. so is what comes next, where the refusal is handed on
  pub grows_stops : {r : Refusal} {w : Result ℕ Refusal} (f : List ℕ → Added → Outcome Added) → v ≡ Err r → IsErrAnd w (λ x. x ≡ r)
      → Grows (λ buf. out buf >>= f buf) room w t
  grows_stops f e h =
      grows_refused (same_refusal h) g.room_is (λ buf q. ap (λ (o : Outcome Added). o >>= f buf) (grows_turned e buf q))

-- TRUE was answered: the other sign is false
pub grows_false : (t : Table) {t' : Table} {room l m : ℕ} {v : Result ℕ Refusal} → Grows (λ buf. put (state 0 t buf) 1 0 0) room v t' → v ≡ Ok l
    → m ≡ opposite l
    → Grows (λ buf. no_literal (state 0 t buf)) room (Ok m) t'
grows_false t {t'} {l = l} g e p =
    grows_answer (omega (arith, g.low l e)) g.room_is
    (λ buf q.
    false-is t buf
    ∙ grows_next g (λ u. answer (at u (opposite u.literal))) e buf q
    ∙ ap (λ (m : ℕ). answer (state m t' buf)) (sym p))
