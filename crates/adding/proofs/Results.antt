-- Where `add_node` ends: the node found, 51, 52, the last block grown, a new block. Assumes nothing.
use mathlib.Core.Path.{◌≡◌, ◌∙◌, ap, sym}
use mathlib.Core.List.{List, [], ◌∷◌, ◌++◌, append_assoc}
use Prim.Native.Nat.{ℕ, ◌+◌, ◌-◌, ◌*◌, ◌/◌, ◌%◌, ◌<◌, ◌≤◌}
use native.Mathlib.Omega.{arith}
use lib.ListN.{length, take, drop, get_or, length-append}
use lib.Seq.{length-take-le}
use mathlib.Core.Bool.{true}
use Rattle.std.specs.Prelude.{Ok, Err, Some, None}
use Rattle.lookup.specs.Found.{among}
use Rattle.lookup.proofs.Finds.{from_some, from_none}
use lib.Dec.{ltb}
use borrow.Author.Tests.{lt-ltb, le-ltb, le-leb, lt-leb}
use Rattle.scope.specs.declared.Node.{Node}
use Rattle.scope.specs.Outcome.{answer}
use Rattle.scope.specs.Block.{block_of}
use Rattle.scope.specs.Table.{node_bytes, node_at, encode}
use Rattle.scope.specs.Calls.{index_of, add_node, add_new}
use Rattle.scope.proofs.Lists.{length_list_from}
use Rattle.codec.proofs.Tables.{length-encode}
use Rattle.codec.proofs.Grows.{table_new_block}
use Rattle.codec.proofs.Adds.{more}
use Rattle.writer.specs.Grown.{grown}
use Rattle.record.specs.Place.{place_of}
use Rattle.adding.specs.Added.{used_nodes, Ready, AddsTo}
use Rattle.adding.proofs.LastBlock.{count_low, grown_table}

module _ (buf : List ℕ) (used n : ℕ) (g : Ready buf used n) where
  count : length (used_nodes buf used n) ≡ n
  count = length_list_from (node_at (take used buf)) n 0

  -- the used length is that of the nodes' table
  pub used_is : used ≡ 512 * ((n + 62) / 63)
  used_is =
      sym (length-take-le used buf g.within) ∙ ap length g.table ∙ length-encode (used_nodes buf used n)
      ∙ ap (λ (k : ℕ). 512 * ((k + 62) / 63)) count

  -- each node's record lies within it
  pub record_within : (m : ℕ) → m < n → place_of m + 8 ≤ length (take used buf)
  record_within m h = rw (length-take-le used buf g.within) (omega (arith, used_is))

  module _ (x : Node) where
    -- the used length with one node more
    next-length : length (encode (used_nodes buf used n ++ x ∷ [])) ≡ 512 * ((n + 63) / 63)
    next-length =
        let k : length (used_nodes buf used n ++ x ∷ []) + 62 ≡ n + 63 = simp (length-append, count) (omega arith) in
        length-encode (used_nodes buf used n ++ x ∷ []) ∙ ap (λ (k : ℕ). 512 * (k / 63)) k

    pub finds : (i : ℕ) → Some i ≡ among n (index_of x (used_nodes buf used n)) → AddsTo buf used n x (Ok (record { literal = 2 * i; used = used })) buf
    unfolding add_node
    finds i e =
        let is = from_some n _ e in
        let t = lt-ltb (index_of x (used_nodes buf used n)) (length (used_nodes buf used n)) (omega (arith, count, is.1)) in
        record { answered = rw (t, is.0); bytes = rw t }

    module _ (new : None ≡ among n (index_of x (used_nodes buf used n))) where
      -- the node is not among them: what is said is said of the new table
      is-new : add_node buf used (used_nodes buf used n) x ≡ add_new buf (used_nodes buf used n) x
      unfolding add_node
      is-new = rw (le-ltb (index_of x (used_nodes buf used n)) (length (used_nodes buf used n)) (omega (arith, count, from_none n _ new)))

      pub over-nodes : n ≡ 2016 → AddsTo buf used n x (Err (record { number = 51; place = n })) buf
      unfolding add_new
      over-nodes h =
          let t = le-ltb (length (used_nodes buf used n)) 2016 (omega (arith, count)) in
          record { answered = rw (is-new, t, count); bytes = rw (is-new, t) }

      module _ (few : n < 2016) where
        room : ltb (length (used_nodes buf used n)) 2016 ≡ true
        room = lt-ltb (length (used_nodes buf used n)) 2016 (omega (arith, count))

        pub over-buffer : length buf < 512 * ((n + 63) / 63) → AddsTo buf used n x (Err (record { number = 52; place = n })) buf
        unfolding add_new
        over-buffer h =
            let t = lt-leb (length (encode (used_nodes buf used n ++ x ∷ []))) (length buf) (omega (arith, next-length)) in
            record { answered = rw (is-new, room, t, count); bytes = rw (is-new, room, t) }

        -- the new table is written
        module _ (fits : 512 * ((n + 63) / 63) ≤ length buf) where
          adds : add_node buf used (used_nodes buf used n) x ≡ answer (more buf (used_nodes buf used n) x)
          unfolding add_new
          adds = is-new ∙ rw (room, le-leb (length (encode (used_nodes buf used n ++ x ∷ []))) (length buf) (omega (arith, next-length)))

          pub writes : (after : List ℕ) (end : ℕ) → end ≡ 512 * ((n + 63) / 63)
              → after ≡ encode (used_nodes buf used n ++ x ∷ []) ++ drop end buf
              → AddsTo buf used n x (Ok (record { literal = 2 * n; used = end })) after
          writes after end h e =
              let q : end ≡ length (encode (used_nodes buf used n ++ x ∷ [])) = h ∙ sym next-length in
              record { answered = rw (adds, count, q); bytes = rw (adds, ← q) e }

    -- a new block behind the table is the table with the node more
    pub opened : n % 63 ≡ 0 → take used buf ++ (block_of 70 1 (n / 63) (node_bytes x) ++ drop (used + 512) buf)
        ≡ encode (used_nodes buf used n ++ x ∷ []) ++ drop (used + 512) buf
    opened h =
        let t = table_new_block (used_nodes buf used n) x (rw count h) in
        rw (t, count, ← g.table, append_assoc)

    -- the last block grown is the table with the node more
    module _ (some : 0 < n % 63) where
      more-than-none : 0 < length (used_nodes buf used n) % 63
      more-than-none = rw count some

      pub last-count : get_or buf (used - 512 + 1) 0 < 255
      last-count = count_low (used_nodes buf used n) buf used g.within g.table more-than-none

      pub extended : take (used - 512) buf ++ (grown (take 512 (drop (used - 512) buf)) (4 + 8 * (n % 63)) (node_bytes x) ++ drop used buf)
          ≡ encode (used_nodes buf used n ++ x ∷ []) ++ drop used buf
      extended = rw count at (grown_table (used_nodes buf used n) buf used g.within g.table more-than-none x)
