-- Request 01 run on small files: which texts are turned away, what a text reads as, and a table. Assumes nothing.
use Rattle.std.specs.Prelude.{◌≡◌, refl, ℕ, replicate}
use mathlib.Core.List.{List, [], ◌∷◌, map}
use Rattle.scope.specs.Outcome.{Outcome, answer, refused, first}
use Rattle.scope.specs.Block.{weight, weighted, check_of, check_ok, head_ok, zeros, padding_ok, block_test, seal, block_of, blocks_of, file_of as blocks_file, record_at, records_in}
use Rattle.scope.specs.Table.{node_bytes, node_of, arity, operands, with_operands, form_ok, range_ok, order_ok, read_record, any_below, repeats, record_test, length_ok, block_rows, table_test, list_from, decode, encode}
use Rattle.scope.specs.Calls.{decode_used, placed, sorted, ordered, turned, normalized, index_of, add_new, add_node, add}
use Rattle.cnf.specs.Text.{File, behind_comments, starts_with, digits, value_from, heading, words_from, all_digits, positive, negative, word_of, clauses_from, file_of}
use Rattle.cnf.specs.Fold.{node, points, yes_literal, no_literal, holds, distinct_from, both_signs, or_all, or_clause, clause, and_join, and_all, goal_of, build}
use Rattle.cnf.specs.Reader.{dimacs}
use mathlib.Core.List

-- the number of a refusal; 0 where a file is answered
abbrev number : Outcome File → ℕ
number (answer f) = 0
number (refused n place) = n

-- a text, and the number that it is turned away with
record Case : Type 0 where
  text : List ℕ
  turned : ℕ

abbrev case : ℕ → List ℕ → Case
case n t = record { text = t; turned = n }

abbrev cases : List Case
cases =
    -- no heading: ''
    case 60 ([])
    -- no LF after the heading: 'p cnf 1 0'
    ∷ case 60 (112 ∷ 32 ∷ 99 ∷ 110 ∷ 102 ∷ 32 ∷ 49 ∷ 32 ∷ 48 ∷ [])
    -- two spaces: 'p  cnf 1 0\n'
    ∷ case 60 (112 ∷ 32 ∷ 32 ∷ 99 ∷ 110 ∷ 102 ∷ 32 ∷ 49 ∷ 32 ∷ 48 ∷ 10 ∷ [])
    -- a space behind C: 'p cnf 1 0 \n'
    ∷ case 60 (112 ∷ 32 ∷ 99 ∷ 110 ∷ 102 ∷ 32 ∷ 49 ∷ 32 ∷ 48 ∷ 32 ∷ 10 ∷ [])
    -- a blank line: '\np cnf 1 0\n'
    ∷ case 60 (10 ∷ 112 ∷ 32 ∷ 99 ∷ 110 ∷ 102 ∷ 32 ∷ 49 ∷ 32 ∷ 48 ∷ 10 ∷ [])
    -- V over 1,024: 'p cnf 1025 0\n'
    ∷ case 60 (112 ∷ 32 ∷ 99 ∷ 110 ∷ 102 ∷ 32 ∷ 49 ∷ 48 ∷ 50 ∷ 53 ∷ 32 ∷ 48 ∷ 10 ∷ [])
    -- ten digits: 'p cnf 0000000001 0\n'
    ∷ case 60 (112 ∷ 32 ∷ 99 ∷ 110 ∷ 102 ∷ 32 ∷ 48 ∷ 48 ∷ 48 ∷ 48 ∷ 48 ∷ 48 ∷ 48 ∷ 48 ∷ 48 ∷ 49 ∷ 32 ∷ 48 ∷ 10 ∷ [])
    -- a comment alone: 'c p cnf 1 0'
    ∷ case 60 (99 ∷ 32 ∷ 112 ∷ 32 ∷ 99 ∷ 110 ∷ 102 ∷ 32 ∷ 49 ∷ 32 ∷ 48 ∷ [])
    -- a comment behind the heading: 'p cnf 1 1\n1 0\nc\n'
    ∷ case 61 (112 ∷ 32 ∷ 99 ∷ 110 ∷ 102 ∷ 32 ∷ 49 ∷ 32 ∷ 49 ∷ 10 ∷ 49 ∷ 32 ∷ 48 ∷ 10 ∷ 99 ∷ 10 ∷ [])
    -- a clause not ended: 'p cnf 1 1\n1\n'
    ∷ case 61 (112 ∷ 32 ∷ 99 ∷ 110 ∷ 102 ∷ 32 ∷ 49 ∷ 32 ∷ 49 ∷ 10 ∷ 49 ∷ 10 ∷ [])
    -- -0: 'p cnf 1 1\n-0\n'
    ∷ case 61 (112 ∷ 32 ∷ 99 ∷ 110 ∷ 102 ∷ 32 ∷ 49 ∷ 32 ∷ 49 ∷ 10 ∷ 45 ∷ 48 ∷ 10 ∷ [])
    -- a variable over V: 'p cnf 1 1\n2 0\n'
    ∷ case 61 (112 ∷ 32 ∷ 99 ∷ 110 ∷ 102 ∷ 32 ∷ 49 ∷ 32 ∷ 49 ∷ 10 ∷ 50 ∷ 32 ∷ 48 ∷ 10 ∷ [])
    -- fewer clauses than C: 'p cnf 1 2\n1 0\n'
    ∷ case 61 (112 ∷ 32 ∷ 99 ∷ 110 ∷ 102 ∷ 32 ∷ 49 ∷ 32 ∷ 50 ∷ 10 ∷ 49 ∷ 32 ∷ 48 ∷ 10 ∷ [])
    -- more clauses than C: 'p cnf 1 0\n0\n'
    ∷ case 61 (112 ∷ 32 ∷ 99 ∷ 110 ∷ 102 ∷ 32 ∷ 49 ∷ 32 ∷ 48 ∷ 10 ∷ 48 ∷ 10 ∷ [])
    -- no space between: 'p cnf 1 1\n1-1 0\n'
    ∷ case 61 (112 ∷ 32 ∷ 99 ∷ 110 ∷ 102 ∷ 32 ∷ 49 ∷ 32 ∷ 49 ∷ 10 ∷ 49 ∷ 45 ∷ 49 ∷ 32 ∷ 48 ∷ 10 ∷ [])
    -- a plus sign: 'p cnf 1 1\n+1 0\n'
    ∷ case 61 (112 ∷ 32 ∷ 99 ∷ 110 ∷ 102 ∷ 32 ∷ 49 ∷ 32 ∷ 49 ∷ 10 ∷ 43 ∷ 49 ∷ 32 ∷ 48 ∷ 10 ∷ [])
    -- ten digits: 'p cnf 1 1\n0000000001 0\n'
    ∷ case 61 (112 ∷ 32 ∷ 99 ∷ 110 ∷ 102 ∷ 32 ∷ 49 ∷ 32 ∷ 49 ∷ 10 ∷ 48 ∷ 48 ∷ 48 ∷ 48 ∷ 48 ∷ 48 ∷ 48 ∷ 48 ∷ 48 ∷ 49 ∷ 32 ∷ 48 ∷ 10 ∷ [])
    -- 60 before 61: 'p cnf 1025 1\nx'
    ∷ case 60 (112 ∷ 32 ∷ 99 ∷ 110 ∷ 102 ∷ 32 ∷ 49 ∷ 48 ∷ 50 ∷ 53 ∷ 32 ∷ 49 ∷ 10 ∷ 120 ∷ [])
    ∷ []

turned_away : map (λ c. number (file_of c.text)) cases ≡ map (λ c. c.turned) cases
unfolding behind_comments starts_with digits value_from heading words_from all_digits positive negative word_of clauses_from file_of
turned_away = refl

-- 'c a\ncb\np cnf 3 4\n1 -2 1 0 0\n  3 2 -3\n0 -02 0'
abbrev text : List ℕ
text = 99 ∷ 32 ∷ 97 ∷ 10 ∷ 99 ∷ 98 ∷ 10 ∷ 112 ∷ 32 ∷ 99 ∷ 110 ∷ 102 ∷ 32 ∷ 51 ∷ 32 ∷ 52 ∷ 10 ∷ 49 ∷ 32 ∷ 45 ∷ 50 ∷ 32 ∷ 49 ∷ 32 ∷ 48 ∷ 32 ∷ 48 ∷ 10 ∷ 32 ∷ 32 ∷ 51 ∷ 32 ∷ 50 ∷ 32 ∷ 45 ∷ 51 ∷ 10 ∷ 48 ∷ 32 ∷ 45 ∷ 48 ∷ 50 ∷ 32 ∷ 48 ∷ []

reads : file_of text ≡ answer (record { variables = 3; clauses = (0 ∷ 3 ∷ 0 ∷ []) ∷ [] ∷ (4 ∷ 2 ∷ 5 ∷ []) ∷ (3 ∷ []) ∷ [] })
unfolding behind_comments starts_with digits value_from heading words_from all_digits positive negative word_of clauses_from file_of
reads = refl

-- 'p cnf 2 3\n2 1 2 0 -1 1 0 -2 0': the points; OR of 2 and 1, in order; TRUE, for the clause with both signs; two ANDs, from the left
builds :
    dimacs (112 ∷ 32 ∷ 99 ∷ 110 ∷ 102 ∷ 32 ∷ 50 ∷ 32 ∷ 51 ∷ 10 ∷ 50 ∷ 32 ∷ 49 ∷ 32 ∷ 50 ∷ 32 ∷ 48 ∷ 32 ∷ 45 ∷ 49 ∷ 32 ∷ 49 ∷ 32 ∷ 48 ∷ 32 ∷ 45 ∷ 50 ∷ 32 ∷ 48 ∷ []) (replicate 512 7)
    ≡ answer (record { literal = 10; used = 512; bytes = encode (node 2 0 0 ∷ node 2 1 0 ∷ node 4 0 2 ∷ node 1 0 0 ∷ node 3 4 6 ∷ node 3 3 8 ∷ []) })
unfolding behind_comments starts_with digits value_from heading words_from all_digits positive negative word_of clauses_from file_of points yes_literal
    no_literal holds distinct_from both_signs or_all or_clause clause and_join and_all goal_of build dimacs add add_node add_new decode_used arity operands
    with_operands placed sorted ordered turned normalized index_of blocks_file blocks_of node_bytes mathlib.Core.List.flat_map block_of seal check_of weighted
    weight check_ok head_ok zeros padding_ok block_test record_at records_in node_of form_ok range_ok order_ok read_record any_below repeats record_test length_ok
    block_rows table_test list_from decode first
builds = refl
