-- What check's and derive's answers mean: where a derivation is accepted, or derive writes one, no setting makes all goals true
-- (`check_never`, `derive-never`); what derive writes is accepted (`derived-accepted`); 30 says that some setting does (`derive-open`).
-- Assumes nothing.
use mathlib.Core.Path.{◌≡◌, refl, sym, ◌∙◌}
use mathlib.Core.List.{List, [], ◌∷◌, ◌++◌}
use mathlib.Core.Bool.{Bool, true, false, false≢true}
use Prim.Native.Nat.{ℕ, ◌+◌, ◌*◌, ◌/◌, ◌<◌, ◌≤◌}
use native.Mathlib.Omega.{arith}
use lib.Dec.{leb}
use lib.ListN.{length, drop}
use lib.Seq.{take_at}
use borrow.Author.Tests.{leb-true}
use Rattle.scope.specs.declared.Node.{Node}
use Rattle.scope.specs.Outcome.{answer, refused, fine, require, ◌>>◌}
use Rattle.scope.specs.Table.{decode}
use Rattle.scope.specs.Truth.{truth}
use Rattle.scope.proofs.Tests.{refused_no, then_next, bound}
use Rattle.codec.specs.Valid.{Bytes}
use Rattle.codec.proofs.Rows.{row}
use Rattle.codec.proofs.Tables.{read_valid}
use Rattle.calculus.specs.Expansion.{expand}
use Rattle.calculus.specs.Order.{Answer, possible, impossible, unfinished, answer_of}
use Rattle.calculus.specs.Model.{All, Table, most_goals, Below}
use Rattle.calculus.specs.Decide.{nodes_of, search_of, asked, Satisfies, Unsatisfiable}
use Rattle.calculus.proofs.Asked.{list_met, asked-read}
use Rattle.calculus.proofs.Lists.{all_at, all_imply}
use Rattle.calculus.proofs.Search.{never_cut}
use Rattle.rules.specs.declared.Step.{Step}
use Rattle.rules.specs.declared.Version.{Version}
use Rattle.rules.specs.Steps.{C, version_of, decode_steps, encode_steps}
use Rattle.rules.specs.Rules.{names, body, names_test, run, ended, accepts}
use Rattle.rules.specs.Derive.{derivation_of, is_impossible, Derived, blocks, derived, derive, checked, check}
use Rattle.rules.proofs.Sound.{check_sound}
use Rattle.rules.proofs.Accepts.{derivation-accepted}
use Rattle.rules.proofs.Steps.{Formed, derivation_formed}
use Rattle.steps.proofs.Encode.{length-encode_steps, encode_version, encode-steps-read}
use Rattle.asking.proofs.Models.{table_of, model_of, literal_truth, satisfied_true, none-satisfies, all_no, setting-satisfies}
use Rattle.published.specs.Bytes.{PublishedBytes}
use Rattle.published.proofs.Calls.{check_derives}

-- ---- a list of goals over the nodes of a table

module _ (t : List ℕ) (rs : List Node) (all : Bytes t) (e : decode t ≡ answer rs) (goals : List ℕ) (B : Below (length rs) goals) where
  table : Table (length rs) (nodes_of rs)
  table = table_of t rs all e

  -- where a derivation is accepted, no setting makes all goals true
  accepted_never : (d : List ℕ) → checked rs goals d ≡ fine → (v : List ℕ) → All (λ g. truth v rs g ≡ true) goals → ⊥
  unfolding checked
  accepted_never d q v h =
      let s = bound (decode_steps d) (accepts (version_of d) (expand (nodes_of rs)) goals (length rs)) q in
      check_sound (length rs) (nodes_of rs) goals table B (version_of d) s.0 s.2 (λ i. truth v rs (2 * i)) (model_of t rs all e v)
      (all_imply (λ g. truth v rs g ≡ true) _ (λ g z. literal_truth v rs g ∙ z) goals h)

  -- goals that are called impossible, in either version
  module _ (few : length goals ≤ most_goals) (q : answer_of (search_of rs goals) ≡ impossible) (v : Version) where
    accepted : accepts v (expand (nodes_of rs)) goals (length rs) (derivation_of v rs goals) ≡ fine
    accepted = derivation-accepted (length rs) (nodes_of rs) goals table B v q

    -- no steps are no derivation
    some-steps : (ss : List Step) → accepts v (expand (nodes_of rs)) goals (length rs) ss ≡ fine → 0 < length ss
    unfolding accepts names body run ended
    some-steps [] a = refused_no (then_next (names_test v goals []) (refused 47 0) a)
    some-steps (s ∷ ss) a = omega arith

    -- the derivation in the solver's order is read back from its file
    module _ (h : length (encode_steps v (derivation_of v rs goals)) ≤ 33554432) where
      abbrev ss : List Step
      ss = derivation_of v rs goals

      formed : All (Formed v) ss
      formed = derivation_formed v (length rs) (nodes_of rs) goals (read_valid t rs all e).few few table B

      few_steps : length ss ≤ 8257536
      few_steps = omega (arith, length-encode_steps v ss)

      reads-back : decode_steps (encode_steps v ss) ≡ answer ss
      reads-back =
          encode-steps-read v ss (C 0) (some-steps ss accepted) few_steps
          (λ k l. (all_at (Formed v) ss k (C 0) formed l).ok) (λ k l. (all_at (Formed v) ss k (C 0) formed l).allowed)

      -- and accepted
      own-checked : checked rs goals (encode_steps v ss) ≡ fine
      unfolding checked
      own-checked = rw (reads-back, encode_version v ss (C 0) (some-steps ss accepted) few_steps) accepted

-- ---- the rows of derive after the search

closed : (a : Answer) → is_impossible a ≡ true → a ≡ impossible
closed (possible G) e = absurd (false≢true e)
closed impossible e = refl
closed unfinished e = absurd (false≢true e)

open_or_cut : {P : Type 0} (a : Answer) → is_impossible a ≡ false → (a ≡ unfinished → ⊥) → ((G : List ℕ) → a ≡ possible G → P) → P
open_or_cut (possible G) e n f = f G refl
open_or_cut impossible e n f = absurd (false≢true (sym e))
open_or_cut unfinished e n f = absurd (n refl)

-- row 30 refuses where its test fails
row_30 : {A : Type 0} (c d e : Bool) (x : A) {place : ℕ} → (require c 30 0 >> (require d 31 0 >> (require e 31 0 >> answer x))) ≡ refused 30 place → c ≡ false
row_30 false d e x q = refl
row_30 true false e x q = absurd (let z : ◌≡◌ {A = ℕ} 31 30 = cc in omega arith)
row_30 true true false x q = absurd (let z : ◌≡◌ {A = ℕ} 31 30 = cc in omega arith)
row_30 true true true x q = refused_no (sym q)

module _ (v : Version) (rs : List Node) (goals d : List ℕ) where
  abbrev size : ℕ
  size = length (encode_steps v (derivation_of v rs goals))

  -- what derive gives
  abbrev given : Derived
  given = record { steps = length (derivation_of v rs goals); bytes = encode_steps v (derivation_of v rs goals) ++ drop size d }

  -- the rows that an answer has met
  record Met (x : Derived) : Type 0 where
    none : answer_of (search_of rs goals) ≡ impossible
    few : length (encode_steps v (derivation_of v rs goals)) ≤ 33554432
    file : blocks x.steps x.bytes ≡ encode_steps v (derivation_of v rs goals)

  met : (x : Derived) → derived v rs goals d ≡ answer x → Met x
  unfolding derived
  met x q =
      let ss : List Step = derivation_of v rs goals in
      let c = row (is_impossible (answer_of (search_of rs goals))) 30 0 _ q in
      let l = row (leb size (length d)) 31 0 _ c.1 in
      let m = row (leb size 33554432) 31 0 (answer given) l.1 in
      let z : answer given ≡ answer x = m.1 in
      let same : x ≡ given = cc in
      record {
        none = closed (answer_of (search_of rs goals)) c.0;
        few = leb-true size 33554432 m.0;
        file = rw same (take_at (encode_steps v ss) (drop size d) (512 * ((length ss + 125) / 126)) (length-encode_steps v ss));
      }

  row_open : {place : ℕ} → derived v rs goals d ≡ refused 30 place → is_impossible (answer_of (search_of rs goals)) ≡ false
  unfolding derived
  row_open q = row_30 (is_impossible (answer_of (search_of rs goals))) (leb size (length d)) (leb size 33554432) given q

-- ---- the calls

module _ (t : List ℕ) (all : Bytes t) (goals : List ℕ) where
  pub check_never : (w d : List ℕ) → check t goals w d ≡ fine → Unsatisfiable t goals
  unfolding check
  check_never w d q v h =
      let b = bound (asked t goals 0 0 (length w)) _ q in
      let a = asked-read t goals 0 0 (length w) b.1 in
      accepted_never t b.0 all a.0 goals a.1.below d b.2 v (satisfied_true t b.0 all a.0 goals v h)

  -- the derivation of goals that are called impossible, where 65,536 blocks hold it
  pub own_accepted : (v : Version) (w : List ℕ) (rs : List Node) → asked t goals 0 0 (length w) ≡ answer rs → answer_of (search_of rs goals) ≡ impossible
      → length (encode_steps v (derivation_of v rs goals)) ≤ 33554432 → check t goals w (encode_steps v (derivation_of v rs goals)) ≡ fine
  unfolding check
  own_accepted v w rs e q h =
      let a = asked-read t goals 0 0 (length w) e in
      rw e (own-checked t rs all a.0 goals a.1.below (list_met goals a.1.list).1 q v h)

  module _ (v : Version) (w d : List ℕ) where
    -- 30: some setting makes all goals true
    pub derive-open : {place : ℕ} → derive v t goals w d ≡ refused 30 place → (rs : List Node) → asked t goals 0 0 (length w) ≡ answer rs
        → (v : List ℕ) × Satisfies t goals v
    unfolding derive
    derive-open q rs e =
        let a = asked-read t goals 0 0 (length w) e in
        open_or_cut (answer_of (search_of rs goals)) (row_open v rs goals d (rw e at q))
        (never_cut (length rs) (nodes_of rs) goals (table_of t rs all a.0) a.1.below)
        (λ G z. (all_no rs G, setting-satisfies t rs all a.0 goals a.1.below z))

    module _ (x : Derived) (q : derive v t goals w d ≡ answer x) where
      of_nodes : (rs : List Node) × (asked t goals 0 0 (length w) ≡ answer rs) × (derived v rs goals d ≡ answer x)
      unfolding derive
      of_nodes = bound (asked t goals 0 0 (length w)) _ q

      pub derive-never : Unsatisfiable t goals
      derive-never =
          let a = asked-read t goals 0 0 (length w) of_nodes.1 in
          none-satisfies t of_nodes.0 all a.0 goals a.1.below (met v of_nodes.0 goals d x of_nodes.2).none

      pub derived-accepted : check t goals w (blocks x.steps x.bytes) ≡ fine
      derived-accepted =
          let m = met v of_nodes.0 goals d x of_nodes.2 in
          rw m.file (own_accepted v w of_nodes.0 of_nodes.1 m.none m.few)

      pub derived-published : PublishedBytes t goals (blocks x.steps x.bytes)
      derived-published = check_derives t goals w (blocks x.steps x.bytes) derived-accepted
