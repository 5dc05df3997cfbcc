-- No refusal has the number 0, which tells a host that a call has answered. Assumes nothing.
use mathlib.Core.Path.{◌≡◌, refl, sym}
use mathlib.Core.Bool.{Bool, true, false, not, ◌&&◌, ◌||◌}
use mathlib.Core.List.{List, [], ◌∷◌}
use Prim.Native.Nat.{ℕ, zero, suc, ◌+◌, ◌*◌, ◌/◌, ◌<◌}
use native.Mathlib.Omega.{arith}
use lib.Dec.{eqb, leb, ltb}
use lib.ListN.{length, get_or}
use Rattle.scope.specs.declared.Format.{Format}
use Rattle.scope.specs.Outcome.{Outcome, answer, refused, require, first, ◌>>◌, ◌>>=◌}
use Rattle.scope.specs.Block.{check_ok, head_ok, padding_ok, block_test, block_at, record_at, records_in}
use Rattle.scope.specs.Table.{tables, node_of, node_at, form_ok, range_ok, order_ok, read_record, repeats, record_test, length_ok, block_rows, table_test, list_from, decode}
use Rattle.scope.proofs.Tests.{refused_no, by_test}
use Rattle.calculus.specs.Expansion.{expand}
use Rattle.calculus.specs.Order.{answer_of}
use Rattle.calculus.specs.Model.{most_goals}
use Rattle.calculus.specs.Decide.{nodes_of, search_of, list_row, goal_row, goals_test, rows_test, asked_by, asked, decided, decide}
use Rattle.rules.specs.declared.Step.{Step}
use Rattle.rules.specs.declared.Version.{Version}
use Rattle.rules.specs.Steps.{format_of, derivations, version_of, step_at, step_ok, rule_in, form_row, size_ok, form_test, decode_steps, encode_steps}
use Rattle.rules.specs.Rules.{Progress, running, complete, root, is_g, names, body, is_empty, equal, agreed, may_be_unnamed, names_test, apply_in, advance, ended, run, accepts}
use Rattle.rules.specs.Derive.{derivation_of, is_impossible, derived, derive, checked, check}

pub record Numbered {A : Type 0} (x : Outcome A) : Type 0 where
  pub positive : (number place : ℕ) → x ≡ refused number place → 0 < number

module _ {A : Type 0} where
  pub gives : (a : A) → Numbered (answer a)
  gives a = record { positive = λ number place e. refused_no (sym e) }

  pub refuses : (number place : ℕ) → 0 < number → Numbered {A = A} (refused number place)
  refuses number place h = record { positive = λ m q e. let z : number ≡ m = cc in omega arith }

  -- one row, and what comes after it
  pub rowed : (t : Bool) (number place : ℕ) (next : Outcome A) → 0 < number → Numbered next → Numbered (require t number place >> next)
  rowed true number place next h k = k
  rowed false number place next h k = refuses number place h

  pub also : (x : Outcome (Unit {0})) (y : Outcome A) → Numbered x → Numbered y → Numbered (x >> y)
  also (answer tt) y h k = k
  also (refused number place) y h k = refuses number place (h.positive number place refl)

  pub then : {B : Type 0} (x : Outcome B) (f : B → Outcome A) → Numbered x → ((b : B) → Numbered (f b)) → Numbered (x >>= f)
  then (answer b) f h k = k b
  then (refused number place) f h k = refuses number place (h.positive number place refl)

pub row : (t : Bool) (number place : ℕ) → 0 < number → Numbered (require t number place)
row true number place h = gives tt
row false number place h = refuses number place h

each : (f : ℕ → Outcome (Unit {0})) → ((i : ℕ) → Numbered (f i)) → (n i : ℕ) → Numbered (first f i n)
unfolding first
each f h zero i = gives tt
each f h (suc n) i = also (f i) (first f (suc i) n) (h i) (each f h n (suc i))

block_numbered : (F : Format) (b : List ℕ) (j : ℕ) (last : Bool) → 0 < F.number → Numbered (block_test F b j last)
unfolding block_test
block_numbered F b j last h =
    rowed (check_ok b) F.number j _ h
    (rowed (head_ok F b j last) (F.number + 1) j _ (omega arith) (row (padding_ok F b) (F.number + 2) j (omega arith)))

-- ---- tables

record_numbered : (t : List ℕ) (n : ℕ) → Numbered (record_test t n)
unfolding record_test read_record
record_numbered t n =
    let r : List ℕ = record_at tables t n in
    then₁ (read_record r n) (rowed (form_ok (node_of r) (get_or r 1 0)) 14 n _ (omega arith)
    (rowed (range_ok (node_of r) n) 15 n _ (omega arith) (rowed (order_ok (node_of r)) 16 n (answer (node_of r)) (omega arith) (gives (node_of r)))))
    (row (not (repeats t n)) 17 n (omega arith))
  where
    then₁ : {A : Type 0} (x : Outcome A) → Numbered x → Numbered (require (not (repeats t n)) 17 n) → Numbered (x >> require (not (repeats t n)) 17 n)
    then₁ (answer a) h k = k
    then₁ (refused number place) h k = refuses number place (h.positive number place refl)

blocks-numbered : (t : List ℕ) (j : ℕ) → Numbered (block_rows t j)
unfolding block_rows
blocks-numbered t j =
    also (block_test tables (block_at t j) j (eqb (suc j) (length t / 512))) (first (record_test t) (63 * j) (get_or (block_at t j) 1 0))
    (block_numbered tables (block_at t j) j (eqb (suc j) (length t / 512)) (omega arith))
    (each (record_test t) (record_numbered t) (get_or (block_at t j) 1 0) (63 * j))

table_numbered : (t : List ℕ) → Numbered (decode t)
unfolding decode table_test
table_numbered t =
    also (table_test t) (answer (list_from (node_at t) 0 (records_in tables t)))
    (rowed (length_ok (length t)) 10 0 (first (block_rows t) 0 (length t / 512)) (omega arith) (each (block_rows t) (blocks-numbered t) (length t / 512) 0))
    (gives (list_from (node_at t) 0 (records_in tables t)))

-- the rows before a search, where the row on the list is so
pub by-numbered : (listed : Outcome (Unit {0})) → Numbered listed → (t goals : List ℕ) (needed points area : ℕ)
    → Numbered (asked_by listed t goals needed points area)
unfolding asked_by rows_test
by-numbered listed h t goals needed points area =
    then (decode t) _ (table_numbered t)
    (λ rs. also (rows_test listed (length rs) goals needed points area) (answer rs)
    (also listed _ h
    (also (goals_test (length rs) goals) _
    (each (goal_row (length rs) goals) (λ i. row (ltb (get_or goals i 0) (2 * length rs)) 20 i (omega arith)) (length goals) 0)
    (rowed (leb needed points) 21 0 _ (omega arith) (row (leb 32768 area) 23 0 (omega arith)))))
    (gives rs))

pub list_numbered : (goals : List ℕ) → Numbered (list_row goals)
list_numbered goals = row (ltb 0 (length goals) && leb (length goals) most_goals) 62 0 (omega arith)

pub asked-numbered : (t goals : List ℕ) (needed points area : ℕ) → Numbered (asked t goals needed points area)
asked-numbered t goals = by-numbered (list_row goals) (list_numbered goals) t goals

-- ---- the calls

pub decide-numbered : (t goals s w : List ℕ) → Numbered (decide t goals s w)
unfolding decide
decide-numbered t goals s w =
    then (asked t goals 1024 (length s) (length w)) _ (asked-numbered t goals 1024 (length s) (length w))
    (λ rs. gives (decided rs goals s))

pub derive-numbered : (v : Version) (t goals w d : List ℕ) → Numbered (derive v t goals w d)
unfolding derive derived
derive-numbered v t goals w d =
    then (asked t goals 0 0 (length w)) _ (asked-numbered t goals 0 0 (length w))
    (λ rs.
    let size : ℕ = length (encode_steps v (derivation_of v rs goals)) in
    rowed (is_impossible (answer_of (search_of rs goals))) 30 0 _ (omega arith)
    (rowed (leb size (length d)) 31 0 _ (omega arith) (rowed (leb size 33554432) 31 0 _ (omega arith) (gives _))))

form_numbered : (d : List ℕ) → Numbered (decode_steps d)
unfolding decode_steps form_test
form_numbered d =
    also (form_test d) _
    (rowed (size_ok (length d)) 40 0 _ (omega arith)
    (also (first (λ j. block_test (format_of (version_of d)) (block_at d j) j (eqb (suc j) (length d / 512))) 0 (length d / 512)) _
    (each _ (λ j. block_numbered (format_of (version_of d)) (block_at d j) j (eqb (suc j) (length d / 512)) (omega arith)) (length d / 512) 0)
    (each (λ k. form_row (version_of d) (step_at d k) k)
    (λ k. rowed (step_ok (step_at d k)) 44 k _ (omega arith) (row (rule_in (version_of d) (step_at d k).rule) 65 k (omega arith))) (records_in derivations d) 0)))
    (gives _)

run_numbered : (v : Version) (e : ℕ → List (List ℕ)) (goals : List ℕ) (n i : ℕ) (ss : List Step) (p : Progress) → Numbered (run v e goals n i ss p)
unfolding run ended advance
run_numbered v e goals n i [] complete = gives tt
run_numbered v e goals n i [] (running b waiting) = refuses 47 i (omega arith)
run_numbered v e goals n i (s ∷ ss) complete = refuses 46 i (omega arith)
run_numbered v e goals n i (s ∷ ss) (running b waiting) = go (apply_in e goals n v s b waiting) refl (run_numbered v e goals n (suc i) ss)
  where
    go : (o : Outcome Progress) → apply_in e goals n v s b waiting ≡ o → ((p : Progress) → Numbered (run v e goals n (suc i) ss p))
        → Numbered (run v e goals n i (s ∷ ss) (running b waiting))
    go (answer p) q r = by_test (is_g s) (λ t. rw t (refuses 64 i (omega arith))) (λ t. rw (t, q) (r p))
    go (refused number place) q r = by_test (is_g s) (λ t. rw t (refuses 64 i (omega arith))) (λ t. rw (t, q) (refuses 45 i (omega arith)))

accepts_numbered : (v : Version) (e : ℕ → List (List ℕ)) (goals : List ℕ) (n : ℕ) (ss : List Step) → Numbered (accepts v e goals n ss)
unfolding accepts names_test
accepts_numbered v e goals n ss =
    rowed ((may_be_unnamed v && is_empty (names ss)) || equal (names ss) goals) 64 (agreed (names ss) goals) _ (omega arith)
    (run_numbered v e goals n (length (names ss)) (body ss) (running root []))

pub check-numbered : (t goals w d : List ℕ) → Numbered (check t goals w d)
unfolding check checked
check-numbered t goals w d =
    then (asked t goals 0 0 (length w)) _ (asked-numbered t goals 0 0 (length w))
    (λ rs. then (decode_steps d) _ (form_numbered d) (λ ss. accepts_numbered (version_of d) (expand (nodes_of rs)) goals (length rs) ss))
