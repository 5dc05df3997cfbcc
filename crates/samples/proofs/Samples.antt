-- The theorem over all rows of 'Samples'. What a row says of decide, derive and check on the bytes of table A follows from what the
-- search and the rules compute to on its nodes, for all buffers that are long enough (`holds`); each row's computation is run (`facts`).
-- Assumes nothing.
use mathlib.Core.Path.{◌≡◌, ◌∙◌, refl, ap, ap₂, sym}
use mathlib.Core.List.{List, [], ◌∷◌, ◌++◌}
use mathlib.Core.Bool.{Bool, true, false, ◌&&◌}
use Prim.Native.Nat.{ℕ, ◌*◌, ◌<◌, ◌≤◌}
use native.Mathlib.Omega.{arith}
use lib.Dec.{leb, ltb}
use lib.ListN.{length, drop}
use borrow.Author.Tests.{ltb-true, le-leb, leb-true}
use Rattle.scope.specs.Outcome.{Outcome, answer, refused, fine, require, first, ◌>>◌}
use Rattle.scope.specs.Block.{weight, weighted, check_of, check_ok, head_ok, zeros, padding_ok, block_test, seal, block_of, blocks_of, file_of, record_at, records_in}
use Rattle.scope.specs.Table.{node_bytes, node_of, form_ok, range_ok, order_ok, read_record, any_below, repeats, record_test, length_ok, block_rows, table_test, list_from, decode, encode, arity, operands}
use Rattle.codec.proofs.Rows.{both}
use Rattle.codec.proofs.Tables.{encode-reads}
use Rattle.calculus.specs.Expansion.{chosen, templates, expand}
use Rattle.calculus.specs.Order.{Answer, mem, value_of, state_of, some, first_of, move_of, clauses, move, tree, possible as found, impossible, unfinished, answer_of, positive, negative, atom_held, byte_of, setting_of}
use Rattle.calculus.specs.Model.{All}
use Rattle.calculus.specs.Jump.{Jumped, rest_of, false_rest, origin_rest, jump, end_answer, stopped}
use Rattle.calculus.proofs.Lists.{every, every_all, all_at, all_imply}
use Rattle.calculus.specs.Decide.{nodes_of, search_of, jump_of, settings_on, asked, decided, decide}
use Rattle.calculus.proofs.Asked.{list_fine, asked-fine}
use Rattle.rules.specs.declared.Step.{Step}
use Rattle.rules.specs.declared.Version.{Version}
use Rattle.rules.specs.Steps.{U, step_ok, rule_in, encode_steps, decode_steps}
use Rattle.rules.specs.Rules.{among, unstruck, any_holds, rule_u, rule_r, rule_e, rule_c, rule_s, names, body, equal, agreed, names_test, apply, unit_two, conflict_two, apply_two, advance, ended, run, accepts}
use Rattle.rules.specs.Derivation.{removals, steps_of}
use Rattle.rules.specs.Derive.{derivation_of, Derived as Given, derived as given, derive, checked as taken, check}
use Rattle.steps.proofs.Encode.{length-encode_steps, encode_version, encode-steps-read}
use Rattle.text.specs.Text.{ascii, digits_of}
use Rattle.text.specs.Listing.{heading, node_line, node_lines}
use Rattle.samples.specs.Samples.{nodes_a, table_a, Sample, alone, possible, derived, checked, may_read, too_long, point_reads, point_over, prints, splits_in, Holds, rows}
use Rattle.samples.proofs.Full.{nodes_full, valid_full, length_full}
use mathlib.Core.List

-- ---- table A is read, and its rows of decide, derive and check rest on what is computed over its nodes

reads : decode table_a ≡ answer nodes_a
unfolding nodes_a file_of blocks_of node_bytes mathlib.Core.List.flat_map block_of seal check_of weighted weight check_ok head_ok zeros padding_ok block_test record_at records_in node_of arity operands form_ok range_ok order_ok read_record any_below repeats record_test length_ok block_rows table_test list_from decode first
reads = refl

-- the search of a goal, its derivation, and what the rules say of steps
abbrev search_a : ℕ → Answer
search_a goal = answer_of (search_of nodes_a (goal ∷ []))

-- the same, jumping over splits
abbrev jump_a : ℕ → Jumped
jump_a goal = jump_of nodes_a (goal ∷ [])

abbrev rules_a : Version → ℕ → List Step → Outcome (Unit {0})
rules_a v goal ss = accepts v (expand (nodes_of nodes_a)) (goal ∷ []) 10 ss

-- the settings of points 0 and 1
abbrev points : Answer → List ℕ
points (found G) = point 0 ∷ point 1 ∷ []
  where
    point : ℕ → ℕ
    point p = byte_of (atom_held positive nodes_a 0 G p) (atom_held negative nodes_a 0 G p)
points impossible = []
points unfinished = []

-- formed steps that fill one block
abbrev one_block : Version → List Step → Bool
one_block v ss = (ltb 0 (length ss) && leb (length ss) 126) && (every step_ok ss && every (λ s. rule_in v s.rule) ss)

-- what is computed for a row
abbrev Fact : Sample → Type 0
Fact (alone x sum) = Holds (alone x sum)
Fact (possible goal p q) = (ltb goal 20 ≡ true) × (points (end_answer (jump_a goal).end) ≡ p ∷ q ∷ [])
Fact (derived v goal ss) =
    (ltb goal 20 ≡ true) × (one_block v ss ≡ true) × (search_a goal ≡ impossible) × (derivation_of v nodes_a (goal ∷ []) ≡ ss) × (rules_a v goal ss ≡ fine)
    × (end_answer (jump_a goal).end ≡ impossible) × (stopped (jump_a goal).splits ≡ splits_in ss)
Fact (checked v goal ss number place) = (ltb goal 20 ≡ true) × (one_block v ss ≡ true) × (rules_a v goal ss ≡ refused number place)
Fact (may_read bytes) = bytes ≡ 16384
Fact (too_long bytes number) = (length_ok bytes ≡ false) × (number ≡ 10)
Fact (point_reads p) = Holds (point_reads p)
Fact (point_over p number) = Holds (point_over p number)
Fact (prints rs text) = Holds (prints rs text)

-- derive's rows of 31 and its answer, of steps
abbrev rows31 : Version → List ℕ → List Step → Outcome Given
rows31 v d ss =
    require (leb (length (encode_steps v ss)) (length d)) 31 0
    >> (require (leb (length (encode_steps v ss)) 33554432) 31 0
    >> answer (record { steps = length ss; bytes = encode_steps v ss ++ drop (length (encode_steps v ss)) d }))

-- a goal of table A, and buffers that are long enough
module _ (goal : ℕ) (inside : ltb goal 20 ≡ true) where
  goal_ok : ltb goal (2 * length nodes_a) ≡ true
  unfolding nodes_a
  goal_ok = inside

  -- no row refuses
  asks : (needed points area : ℕ) → needed ≤ points → 32768 ≤ area → asked table_a (goal ∷ []) needed points area ≡ answer nodes_a
  asks needed points area long work =
      asked-fine table_a (goal ∷ []) needed points area reads
      (record { list = list_fine (goal ∷ []) (omega arith) (omega arith); below = (ltb-true goal (2 * length nodes_a) goal_ok, tt); settings = long; work = work })

  decides : (s w : List ℕ) → 1024 ≤ length s → 32768 ≤ length w → decide table_a (goal ∷ []) s w ≡ answer (decided nodes_a (goal ∷ []) s)
  unfolding decide
  decides s w long area = rw (asks 1024 (length s) (length w) long area)

  finds : (p q : ℕ) (a : Answer) → end_answer (jump_a goal).end ≡ a → points a ≡ p ∷ q ∷ [] → Holds (possible goal p q)
  unfolding setting_of list_from
  finds p q (found G) e f s w long area = rw (decides s w long area, e) (G, refl, (cc), (cc))
  finds p q impossible e f s w long area = absurd (let z : ◌≡◌ {A = ℕ} 0 1 = cc in omega arith)
  finds p q unfinished e f s w long area = absurd (let z : ◌≡◌ {A = ℕ} 0 1 = cc in omega arith)

  module _ (v : Version) (ss : List Step) (one : one_block v ss ≡ true) where
    sized : (0 < length ss) × (length ss ≤ 126) × (every step_ok ss ≡ true) × (every (λ s. rule_in v s.rule) ss ≡ true)
    sized =
        let some = both (ltb 0 (length ss) && leb (length ss) 126) (every step_ok ss && every (λ s. rule_in v s.rule) ss) one in
        let size = both (ltb 0 (length ss)) (leb (length ss) 126) some.0 in
        let form = both (every step_ok ss) (every (λ s. rule_in v s.rule) ss) some.1 in
        (ltb-true 0 (length ss) size.0, leb-true (length ss) 126 size.1, form.0, form.1)

    block : length (encode_steps v ss) ≡ 512
    block = omega (arith, length-encode_steps v ss, sized)

    checks : (w : List ℕ) → 32768 ≤ length w → check table_a (goal ∷ []) w (encode_steps v ss) ≡ rules_a v goal ss
    unfolding check taken nodes_a
    checks w area =
        let each : All (λ s. step_ok s ≡ true) ss = every_all step_ok ss sized.2 in
        let allowed : All (λ s. rule_in v s.rule ≡ true) ss = every_all (λ s. rule_in v s.rule) ss sized.3 in
        let back : decode_steps (encode_steps v ss) ≡ answer ss =
        encode-steps-read v ss (U 0) sized.0 (omega (arith, sized)) (λ k h. all_at (λ s. step_ok s ≡ true) ss k (U 0) each h)
        (λ k h. all_at (λ s. rule_in v s.rule ≡ true) ss k (U 0) allowed h) in
        rw (asks 0 0 (length w) (omega arith) area, back, encode_version v ss (U 0) sized.0 (omega (arith, sized)))

    derives : search_a goal ≡ impossible → derivation_of v nodes_a (goal ∷ []) ≡ ss → rules_a v goal ss ≡ fine → end_answer (jump_a goal).end ≡ impossible
        → stopped (jump_a goal).splits ≡ splits_in ss → Holds (derived v goal ss)
    unfolding derive given
    derives closed is ends jumped made = record {
      verdict = λ s w long area. decides s w long area
          ∙ ap₂ (λ (a : Answer) (n : ℕ). answer (record { verdict = a; settings = settings_on nodes_a s a; splits = n })) jumped made;
      derivation = λ w d area room.
          rw (asks 0 0 (length w) (omega arith) area, closed) (ap (rows31 v d) is ∙ rw (block, le-leb 512 (length d) room));
      accepted = λ w area. checks w area ∙ ends;
    }

-- ---- a row holds by its computation

refuses : (t : List ℕ) → length_ok (length t) ≡ false → decode t ≡ refused 10 0
unfolding decode table_test
refuses t e = rw e

holds : (r : Sample) → Fact r → Holds r
holds (alone x sum) f = f
holds (possible goal p q) f = finds goal f.0 p q (end_answer (jump_a goal).end) refl f.1
holds (derived v goal ss) f = derives goal f.0 v ss f.1 f.2 f.3 f.4 f.5 f.6
holds (checked v goal ss number place) f = λ w area. checks goal f.0 v ss f.1 w area ∙ f.2
holds (may_read bytes) f = (encode nodes_full, nodes_full, length_full ∙ sym f, encode-reads nodes_full valid_full)
holds (too_long bytes number) f = λ t size. refuses t (ap length_ok size ∙ f.0) ∙ ap (λ (n : ℕ). refused n 0) (sym f.1)
holds (point_reads p) f = f
holds (point_over p number) f = f
holds (prints rs text) f = f

-- what is computed for a row, and for the rows after it
infixr 20 ◌also◌
abbrev ◌also◌ : {A B : Type 0} → A → B → A × B
x also y = (x, y)

facts : All Fact rows
unfolding nodes_a file_of blocks_of node_bytes mathlib.Core.List.flat_map block_of seal check_of weighted weight check_ok head_ok zeros padding_ok block_test
    record_at records_in node_of arity operands form_ok range_ok order_ok read_record any_below repeats record_test length_ok block_rows table_test list_from
    decode first atom_held mem step_ok steps_of removals tree move clauses move_of first_of some state_of value_of expand templates chosen answer_of jump
    rest_of false_rest origin_rest among unstruck any_holds rule_u rule_r rule_e rule_c rule_s names body equal agreed names_test apply unit_two conflict_two
    apply_two rule_in advance ended run accepts ascii digits_of heading node_line node_lines
facts =
    (refl, refl) also (refl, refl)
    also (refl, refl) also (refl, refl) also (refl, refl) also (refl, refl) also (refl, refl) also (refl, refl)
    also (refl, refl, refl, refl, refl, refl, refl) also (refl, refl, refl, refl, refl, refl, refl)
    also (refl, refl, refl, refl, refl, refl, refl)
    also (refl, refl, refl) also (refl, refl, refl) also (refl, refl, refl) also (refl, refl, refl)
    also (refl, refl, refl) also (refl, refl, refl) also (refl, refl, refl) also (refl, refl, refl) also (refl, refl, refl)
    also (refl, refl, refl, refl, refl, refl, refl) also (refl, refl, refl, refl, refl, refl, refl) also (refl, refl, refl, refl, refl, refl, refl)
    also (refl, refl, refl) also (refl, refl, refl) also (refl, refl, refl)
    also refl also (refl, refl) also refl also refl
    also refl
    also tt

pub samples : All Holds rows
samples = all_imply Fact Holds holds rows facts
