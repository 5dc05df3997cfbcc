-- A full table: 2,016 nodes in 16,384 bytes. ATOMs 0 to 1,023, then the ANDs of nodes i and i + 1. Assumes nothing.
use mathlib.Core.Path.{◌≡◌, ◌∙◌, ap, refl}
use mathlib.Core.List.{List}
use mathlib.Core.Bool.{false, cond}
use Prim.Native.Nat.{ℕ, ◌+◌, ◌-◌, ◌*◌, ◌/◌, ◌<◌, ◌≤◌}
use native.Mathlib.Nat.{zero-add}
use native.Mathlib.Omega.{arith}
use lib.Dec.{ltb}
use lib.ListN.{length, get_or}
use borrow.Author.Tests.{lt-ltb, le-ltb, ltb-true, ltb-false, ne_eqb}
use Rattle.scope.specs.declared.Node.{Node}
use Rattle.scope.specs.Outcome.{answer}
use Rattle.scope.specs.Table.{node_bytes, form_ok, range_ok, order_ok, read_record, same_node, list_from, encode, arity, operands}
use Rattle.scope.specs.Calls.{no_node}
use Rattle.scope.proofs.Lists.{length_list_from, get_d_list_from}
use Rattle.scope.proofs.Tests.{and_both}
use Rattle.codec.specs.Valid.{Valid}
use Rattle.codec.proofs.Rows.{by_test}
use Rattle.codec.proofs.Records.{node_of_bytes, reading}
use Rattle.codec.proofs.Tables.{length-encode}
use Rattle.samples.specs.Samples.{ATOM, AND}

-- node n
abbrev node_full : ℕ → Node
node_full n = cond (ltb n 1024) (ATOM n) (AND (2 * (n - 1024)) (2 * (n - 1024) + 2))

pub nodes_full : List Node
nodes_full = list_from node_full 0 2016

count : length nodes_full ≡ 2016
unfolding nodes_full
count = length_list_from node_full 2016 0

at : (n : ℕ) → n < 2016 → get_or nodes_full n no_node ≡ node_full n
unfolding nodes_full
at n h = get_d_list_from node_full 2016 0 n no_node h ∙ ap node_full (zero-add n)

module _ (n : ℕ) where
  atom : n < 1024 → node_full n ≡ ATOM n
  atom h = rw (lt-ltb n 1024 h)

  pair : 1024 ≤ n → node_full n ≡ AND (2 * (n - 1024)) (2 * (n - 1024) + 2)
  pair h = rw (le-ltb n 1024 h)

  atom_reads : n < 1024 → read_record (node_bytes (ATOM n)) n ≡ answer (ATOM n)
  unfolding arity operands form_ok range_ok order_ok node_bytes
  atom_reads h =
      reading (node_bytes (ATOM n)) n (record { node = node_of_bytes (ATOM n); form = refl; range = lt-ltb n 1024 h; order = refl })

  pair_reads : (i : ℕ) → i + 1 < n → read_record (node_bytes (AND (2 * i) (2 * i + 2))) n ≡ answer (AND (2 * i) (2 * i + 2))
  unfolding arity operands form_ok range_ok order_ok node_bytes
  pair_reads i h =
      reading (node_bytes (AND (2 * i) (2 * i + 2))) n
      (record {
        node = node_of_bytes (AND (2 * i) (2 * i + 2));
        form = refl;
        range = and_both _ _ (lt-ltb (2 * i / 2) n (omega arith)) (and_both _ _ (lt-ltb ((2 * i + 2) / 2) n (omega arith)) refl);
        order = and_both _ _ (lt-ltb (2 * i / 2) ((2 * i + 2) / 2) (omega arith)) refl;
      })

  reads : n < 2016 → read_record (node_bytes (node_full n)) n ≡ answer (node_full n)
  reads h =
      by_test (ltb n 1024)
      (λ e. rw (atom (ltb-true n 1024 e)) (atom_reads (ltb-true n 1024 e)))
      (λ e. rw (pair (ltb-false n 1024 e)) (pair_reads (n - 1024) (omega (arith, ltb-false n 1024 e))))

other : (m n : ℕ) → m < n → same_node (node_full m) (node_full n) ≡ false
other m n l =
    by_test (ltb n 1024)
    (λ e.
    let below : n < 1024 = ltb-true n 1024 e in
    rw (atom n below, atom m (omega arith), ne_eqb m n (λ q. omega arith)))
    (λ e.
    let above : 1024 ≤ n = ltb-false n 1024 e in
    by_test (ltb m 1024)
    (λ f. rw (pair n above, atom m (ltb-true m 1024 f)))
    (λ f.
    let above-too : 1024 ≤ m = ltb-false m 1024 f in
    rw (pair n above, pair m above-too, ne_eqb (2 * (m - 1024)) (2 * (n - 1024)) (λ q. omega arith))))

pub valid_full : Valid nodes_full
valid_full =
    let size = count in
    record {
      some = omega arith;
      few = omega arith;
      each = λ n h. rw (at n (omega arith)) (reads n (omega arith));
      once = λ m n l h. rw (at n (omega arith), at m (omega arith)) (other m n l);
    }

pub length_full : length (encode nodes_full) ≡ 16384
length_full = length-encode nodes_full ∙ ap (λ (n : ℕ). 512 * ((n + 62) / 63)) count
