-- 01, 'The table': records, and which tables are readable. Assumes nothing.
use Rattle.std.specs.Prelude.{List, [], ◌∷◌, ◌++◌, map, Bool, true, false, cond, not, ◌&&◌, ◌||◌, ℕ, zero, suc, ◌+◌, ◌-◌, ◌*◌, ◌/◌, ◌%◌, eqb, leb, ltb, length, get_or, take}
use Rattle.scope.specs.declared.Format.{Format}
use Rattle.scope.specs.declared.Node.{Node}
use Rattle.scope.specs.Outcome.{Outcome, answer, require, first, ◌>>◌}
use Rattle.scope.specs.Block.{word_at, word_bytes, block_test, block_at, record_at, records_in, file_of}

-- '70 for a table'; '63 records of 8 bytes in a full one'; the refusals of a block are 11 to 13
abbrev pub tables : Format
tables = record { letter = 70; width = 8; capacity = 63; number = 11 }

-- 'Record: byte 0 kind, byte 1 zero, bytes 2 to 3 a, bytes 4 to 5 b'; 'the third, c, stands in bytes 6 to 7'
unfoldable pub node_bytes : Node → List ℕ
node_bytes x = x.kind ∷ 0 ∷ word_bytes x.a ++ (word_bytes x.b ++ word_bytes x.c)

unfoldable pub node_of : List ℕ → Node
node_of r = record { kind = get_or r 0 0; a = word_at r 2; b = word_at r 4; c = word_at r 6 }

-- 'Literal 2n means node n, literal 2n + 1 its negation': they are each other's negation
abbrev pub neg : ℕ → ℕ
neg l = l + 1 - 2 * (l % 2)

-- how many operands a kind has: 1 TRUE and 2 ATOM none, 3 AND, 4 OR, 5 IMP, 6 IFF two; 'Kind 7 is AND and kind 8 OR of three literals'
unfoldable pub arity : ℕ → ℕ
arity kind = cond (ltb kind 3) 0 (cond (ltb kind 7) 2 3)

-- the operands of a node, in order
unfoldable pub operands : Node → List ℕ
operands x = take (arity x.kind) (x.a ∷ x.b ∷ x.c ∷ [])

-- the node with other operands, as many
unfoldable pub with_operands : Node → List ℕ → Node
with_operands x ls = record { kind = x.kind; a = get_or ls 0 x.a; b = get_or ls 1 x.b; c = get_or ls 2 x.c }

-- every element passes a test
abbrev pub every : {A : Type 0} → (A → Bool) → List A → Bool
every p [] = true
every p (x ∷ xs) = p x && every p xs

-- numbers that rise, from m on; and from their first on
abbrev pub rising_from : ℕ → List ℕ → Bool
rising_from m [] = true
rising_from m (n ∷ ns) = ltb m n && rising_from n ns

abbrev pub rising : List ℕ → Bool
rising [] = true
rising (n ∷ ns) = rising_from n ns

-- 14: 'kind or a must-be-zero field'. 'Kinds: 1 TRUE (a = b = 0), 2 ATOM (b = 0), 3 AND, 4 OR, 5 IMP, 6 IFF'; 'bytes 6 to 7 stay zero
-- for other kinds' than 7 and 8
unfoldable pub form_ok : Node → ℕ → Bool
form_ok x one =
    eqb one 0 &&
    cond (eqb x.kind 1) (eqb x.a 0 && (eqb x.b 0 && eqb x.c 0))
    (cond (eqb x.kind 2) (eqb x.b 0 && eqb x.c 0)
    (cond (ltb x.kind 7) (ltb 2 x.kind && eqb x.c 0)
    (ltb x.kind 9)))

-- 15: 'point over 1,023 or operand not an earlier node'. 'Literal 2n means node n, literal 2n + 1 its negation'
unfoldable pub range_ok : Node → ℕ → Bool
range_ok x n =
    cond (eqb x.kind 2) (ltb x.a 1024)
    (every (λ l. ltb (l / 2) n) (operands x))

-- 16: 'same node twice or wrong order'. 'for 3, 4, 6 the node of a is the lower'; of 7 and 8 'their nodes are different, earlier and rising'
unfoldable pub order_ok : Node → Bool
order_ok x =
    cond (eqb x.kind 5) (not (eqb (x.a / 2) (x.b / 2)))
    (rising (map (◌/ 2) (operands x)))

-- 'Reading a record gives either the node or its refusal': the record of node n
unfoldable pub read_record : List ℕ → ℕ → Outcome Node
read_record r n =
    require (form_ok (node_of r) (get_or r 1 0)) 14 n
    >> (require (range_ok (node_of r) n) 15 n
    >> (require (order_ok (node_of r)) 16 n
    >> answer (node_of r)))

abbrev pub node_at : List ℕ → ℕ → Node
node_at t n = node_of (record_at tables t n)

-- 'No record repeats.'
abbrev pub same_node : Node → Node → Bool
same_node x y = eqb x.kind y.kind && (eqb x.a y.a && (eqb x.b y.b && eqb x.c y.c))

-- some number below n passes the test
unfoldable pub any_below : (ℕ → Bool) → ℕ → Bool
any_below p zero = false
any_below p (suc n) = p n || any_below p n

unfoldable pub repeats : List ℕ → ℕ → Bool
repeats t n = any_below (λ m. same_node (node_at t m) (node_at t n)) n

-- 'then that block's records, one after another': 14 to 16, and 17 repeat
unfoldable pub record_test : List ℕ → ℕ → Outcome (Unit {0})
record_test t n = read_record (record_at tables t n) n >> require (not (repeats t n)) 17 n

-- 10: 'zero, no multiple of 512, over 16,384'
unfoldable pub length_ok : ℕ → Bool
length_ok n = not (eqb n 0) && (eqb (n % 512) 0 && leb n 16384)

-- block j of a table: the block, then its records, before the next block
unfoldable pub block_rows : List ℕ → ℕ → Outcome (Unit {0})
block_rows t j =
    block_test tables (block_at t j) j (eqb (suc j) (length t / 512))
    >> first (record_test t) (63 * j) (get_or (block_at t j) 1 0)

unfoldable pub table_test : List ℕ → Outcome (Unit {0})
table_test t = require (length_ok (length t)) 10 0 >> first (block_rows t) 0 (length t / 512)

-- f i, f (i + 1), .., n of them
unfoldable pub list_from : {A : Type 0} → (ℕ → A) → ℕ → ℕ → List A
list_from f i zero = []
list_from f i (suc n) = f i ∷ list_from f (suc i) n

-- The nodes of a table, 'numbered from 0 in file order'. 'A table is readable if it meets none of 10 to 17':
-- then `decode` answers its nodes.
unfoldable pub decode : List ℕ → Outcome (List Node)
decode t = table_test t >> answer (list_from (node_at t) 0 (records_in tables t))

-- the table that holds nodes
abbrev pub encode : List Node → List ℕ
encode rs = file_of tables node_bytes rs
