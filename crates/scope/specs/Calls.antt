-- 01, 'Where each call says no': the calls on tables, each a chain of rows in table order. Assumes nothing.
use Rattle.std.specs.Prelude.{List, [], ◌∷◌, ◌++◌, cond, ℕ, suc, ◌*◌, ◌/◌, eqb, leb, ltb, length, get_or, take, drop}
use Rattle.scope.specs.declared.Node.{Node}
use Rattle.scope.specs.declared.Truth.{Truth}
use Rattle.scope.specs.Outcome.{Outcome, answer, refused, require, first, ◌>>◌, ◌>>=◌}
use Rattle.scope.specs.Block.{word_bytes}
use Rattle.scope.specs.Table.{node_of, neg, operands, with_operands, read_record, same_node, decode, encode}
use Rattle.scope.specs.Kleene.{truth₃}

-- 'Table reading answers the node count'
unfoldable pub table_count : List ℕ → Outcome ℕ
table_count t = decode t >>= λ rs. answer (length rs)

abbrev pub no_node : Node
no_node = record { kind = 0; a = 0; b = 0; c = 0 }

-- '.. and, for a literal given, the record of its node'; 20: 'not below 2 × nodes'
unfoldable pub table_record : List ℕ → ℕ → Outcome Node
table_record t l =
    decode t
    >>= λ rs. require (ltb l (2 * length rs)) 20 0
    >> answer (get_or rs (l / 2) no_node)

-- 21: 'under 1,024 bytes'; 22: a byte above 2, at the point
unfoldable pub settings_test : List ℕ → Outcome (Unit {0})
settings_test s =
    require (leb 1024 (length s)) 21 0
    >> first (λ p. require (ltb (get_or s p 0) 3) 22 p) 0 1024

-- 'Evaluate accepts 2 and answers yes, no or unknown'
unfoldable pub evaluate : List ℕ → ℕ → List ℕ → Outcome Truth
evaluate t l s =
    decode t
    >>= λ rs. require (ltb l (2 * length rs)) 20 0
    >> (settings_test s
    >> answer (truth₃ s rs l))

-- 'Used 0 is an empty table.'
unfoldable pub decode_used : List ℕ → Outcome (List Node)
decode_used t = cond (eqb (length t) 0) (answer []) (decode t)

-- literals in order of their nodes: one joins those that are in order, then all of them
unfoldable pub placed : ℕ → List ℕ → List ℕ
placed l [] = l ∷ []
placed l (k ∷ ks) = cond (ltb (k / 2) (l / 2)) (k ∷ placed l ks) (l ∷ k ∷ ks)

unfoldable pub sorted : List ℕ → List ℕ
sorted [] = []
sorted (l ∷ ls) = placed l (sorted ls)

-- 'Operands of 3, 4, 6 in the wrong order are exchanged first.'; of 7 and 8 'add sorts them'
unfoldable pub ordered : Node → Node
ordered x = with_operands x (sorted (operands x))

-- 'Add turns kind 5 into OR of ¬a and b'
unfoldable pub turned : Node → Node
turned x = cond (eqb x.kind 5) (record { kind = 4; a = neg x.a; b = x.b; c = x.c }) x

-- '.. ordered by node, before looking it up'
abbrev pub normal : Node → Node
normal x = ordered (turned x)

-- the record given with its node so; byte 1 is as it was given
unfoldable pub normalized : List ℕ → List ℕ
normalized r =
    (normal (node_of r)).kind
    ∷ get_or r 1 0
    ∷ word_bytes (normal (node_of r)).a ++ (word_bytes (normal (node_of r)).b ++ word_bytes (normal (node_of r)).c)

-- where a node stands in a list: its index, or the list's length
unfoldable pub index_of : Node → List Node → ℕ
index_of x [] = 0
index_of x (y ∷ ys) = cond (same_node y x) 0 (suc (index_of x ys))

-- 'It answers literal 2n and the used length'; and the buffer's bytes afterwards
pub record Added : Type 0 where
  pub literal : ℕ
  pub used : ℕ
  pub bytes : List ℕ

-- a table t that is written to the buffer's start: 'No other byte changes.'
abbrev pub written : List ℕ → List ℕ → List ℕ
written t buf = t ++ drop (length t) buf

-- 51: 'new, and 2,016 nodes'; 52: 'new block over the buffer'; place nodes
unfoldable pub add_new : List ℕ → List Node → Node → Outcome Added
add_new buf rs x =
    require (ltb (length rs) 2016) 51 (length rs)
    >> (require (leb (length (encode (rs ++ x ∷ []))) (length buf)) 52 (length rs)
    >> answer (record {
      literal = 2 * length rs;
      used = length (encode (rs ++ x ∷ []));
      bytes = written (encode (rs ++ x ∷ [])) buf;
    }))

-- 'A record already there is found and no byte changes.'
unfoldable pub add_node : List ℕ → ℕ → List Node → Node → Outcome Added
add_node buf used rs x =
    cond (ltb (index_of x rs) (length rs))
    (answer (record { literal = 2 * index_of x rs; used = used; bytes = buf }))
    (add_new buf rs x)

-- Add: 9, the rows of the used part, 14 to 16 for the record given, then found or new. 'An old kind 5 record is not found again':
-- no node that is looked up has kind 5.
unfoldable pub add : List ℕ → ℕ → List ℕ → Outcome Added
add buf used r =
    require (leb used (length buf)) 9 0
    >> (decode_used (take used buf)
    >>= λ rs. read_record (normalized r) (length rs)
    >>= λ x. add_node buf used rs x)

-- the buffer after a call: a refusal changes no byte
abbrev pub bytes_after : List ℕ → Outcome Added → List ℕ
bytes_after buf (answer x) = x.bytes
bytes_after buf (refused number place) = buf
