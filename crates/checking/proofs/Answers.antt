-- Where check ends: at the first row's refusal, or with what the steps come to. Assumes nothing.
use mathlib.Core.Path.{◌≡◌, refl, sym, ap, ◌∙◌}
use mathlib.Core.List.{List, []}
use Prim.Native.Nat.{ℕ, ◌+◌, ◌-◌, ◌<◌, ◌≤◌}
use native.Mathlib.Omega.{arith}
use lib.ListN.{length}
use Rattle.scope.specs.declared.Node.{Node}
use Rattle.scope.specs.declared.Refusal.{Refusal}
use Rattle.scope.specs.Outcome.{Outcome, answer, refused, fine, ◌>>◌, ◌>>=◌}
use Rattle.scope.specs.Table.{list_from}
use Rattle.scope.proofs.Tests.{handed_on, refused_no, then_first, then_next, bound, passed_on}
use Rattle.codec.specs.Valid.{Bytes}
use Rattle.calculus.specs.Expansion.{expand}
use Rattle.calculus.specs.Decide.{nodes_of, asked}
use Rattle.index.specs.Index.{index_node}
use Rattle.rules.specs.declared.Step.{Step}
use Rattle.rules.specs.declared.Version.{Version}
use Rattle.rules.specs.Steps.{version_of, step_at, decode_steps}
use Rattle.rules.specs.Rules.{names, body, names_test, running, root, run, accepts}
use Rattle.rules.specs.Derive.{checked, check}
use Rattle.rules.proofs.Names.{check-names}
use Rattle.published.proofs.Calls.{check_derives}
use Rattle.steps.specs.Opened.{place_of, step_count}
use Rattle.steps.proofs.Form.{read-fine, read_steps, read_length, step_within}
use Rattle.naming.specs.Named.{head_of}
use Rattle.naming.proofs.Heads.{names_most, body-from}
use Rattle.meaning.proofs.Derivations.{check_never, own_accepted}
use Rattle.checking.specs.Checks.{checked_of, Replayed, Checks}
use Rattle.std.proofs.Common.{Result, Ok, Err, IsErrAnd}
use Rattle.checking.proofs.Same.{accepts_same}
use Rattle.checking.proofs.Nodes.{Ready}

-- ---- rows 40 to 47

-- the derivation's form is refused
pub form_refused : (t : ℕ → Node) (n : ℕ) (goals w d : List ℕ) (f : Refusal) {r : Result (Unit {0}) Refusal} → step_count d ≡ refused f.number f.place
    → IsErrAnd r (λ x. x ≡ f) → Replayed t n goals w d w r
unfolding step_count
form_refused t n goals w d f {r} e q = record { answered = handed_on (λ u. u) r q ∙ sym (passed_on (decode_steps d) length _ e); work = λ number place z. refl }

-- a derivation that was counted
module _ (d : List ℕ) {count : ℕ} (e : step_count d ≡ answer count) where
  steps_read : decode_steps d ≡ answer (list_from (step_at d) 0 count)
  unfolding step_count
  steps_read =
      let s = bound (decode_steps d) (λ ss. answer (length ss)) e in
      let q : length s.0 ≡ count = cc s.2 in
      s.1 ∙ ap answer (read_steps d s.0 s.1 ∙ ap (list_from (step_at d) 0) (sym (read_length d s.0 s.1) ∙ q))

  pub steps_within : (k : ℕ) → k < count → place_of k + 4 ≤ length d
  unfolding step_count
  steps_within k h =
      let s = bound (decode_steps d) (λ ss. answer (length ss)) e in
      let q : length s.0 ≡ count = cc s.2 in
      step_within d (read-fine d s.0 s.1) k (omega (arith, read_length d s.0 s.1, q))

  -- what the steps come to is the answer; a refusal is none of 40 to 44 and 65
  pub steps_end : {t : ℕ → Node} {n : ℕ} {goals w w' : List ℕ} {r : Result (Unit {0}) Refusal}
      → checked_of r ≡ accepts (version_of d) (expand t) goals n (list_from (step_at d) 0 count) → Replayed t n goals w d w' r
  steps_end {t} {n} {goals} q =
      record {
        answered = q ∙ ap (◌>>= accepts (version_of d) (expand t) goals n) (sym steps_read);
        work = λ number place s. refused_no (sym s ∙ steps_read);
      }

-- ---- row 64 of the head, and the steps after it

module _ (v : Version) (e : ℕ → List (List ℕ)) (goals : List ℕ) (n : ℕ) (f : ℕ → Step) (count : ℕ) where
  abbrev all_steps : List Step
  all_steps = list_from f 0 count

  -- the names are refused
  pub head_refused : {number place : ℕ} → refused number place ≡ head_of v goals (names all_steps) → refused number place ≡ accepts v e goals n all_steps
  unfolding accepts
  head_refused q = go (names_test v goals (names all_steps)) q
    where
      go : (o : Outcome (Unit {0})) {number place : ℕ} → refused number place ≡ (o >> answer (length (names all_steps)))
          → refused number place ≡ (o >> run v e goals n (length (names all_steps)) (body all_steps) (running root []))
      go (answer u) q = refused_no q
      go (refused m p) q = cc

  module _ {from : ℕ} (q : answer from ≡ head_of v goals (names all_steps)) where
    named : length (names all_steps) ≡ from
    named =
        let z = then_next (names_test v goals (names all_steps)) (answer (length (names all_steps))) (sym q) in
        cc

    pub head-within : from ≤ count
    head-within = omega (arith, names_most f count 0, named)

    -- the other steps decide
    pub head-runs : run v e goals n from (list_from f from (count - from)) (running root []) ≡ accepts v e goals n all_steps
    unfolding accepts
    head-runs =
        let z : 0 + from ≡ from = omega arith in
        let body_is = body-from f count 0 from named in
        rw (then_first (names_test v goals (names all_steps)) (answer (length (names all_steps))) (sym q), named, body_is, z)

-- by the version that the bytes have
pub in_version : (e : ℕ → List (List ℕ)) (goals : List ℕ) (n : ℕ) (ss : List Step) {v u : Version} → v ≡ u → accepts v e goals n ss ≡ accepts u e goals n ss
in_version e goals n ss q = ap (λ (v : Version). accepts v e goals n ss) q

-- ---- the answer, and what it means

checked_accepted : (r : Result (Unit {0}) Refusal) → checked_of r ≡ fine → r ≡ Ok tt
checked_accepted (Ok u) e = refl
checked_accepted (Err f) e = refused_no e

module _ (t goals w d : List ℕ) (all : Bytes t) where
  -- the answer of the definition has the definition's meaning
  checks : {w' : List ℕ} (r : Result (Unit {0}) Refusal) → checked_of r ≡ check t goals w d
      → ((number place : ℕ) → (asked t goals 0 0 (length w) >> decode_steps d) ≡ refused number place → w' ≡ w) → Checks t goals w d w' r
  checks r e kept = record {
    answered = e;
    work = kept;
    never = λ q. check_never t all goals w d (sym e ∙ ap checked_of q);
    ours = λ v rs a q h s. checked_accepted r (e ∙ ap (check t goals w) s ∙ own_accepted t all goals v w rs a q h);
    only = λ q g u others v c. check-names d g t u goals others w v (sym e ∙ ap checked_of q) c;
    published = λ q. check_derives t goals w d (sym e ∙ ap checked_of q);
  }

  refused_by : {number place : ℕ} → asked t goals 0 0 (length w) ≡ refused number place → check t goals w d ≡ refused number place
  unfolding check
  refused_by q = rw q

  pub refuses : (f : Refusal) {r : Result (Unit {0}) Refusal} → asked t goals 0 0 (length w) ≡ refused f.number f.place → IsErrAnd r (λ x. x ≡ f)
      → Checks t goals w d w r
  refuses f {r} q e = checks r (handed_on (λ u. u) r e ∙ sym (refused_by q)) (λ number place z. refl)

  module _ {x : List ℕ} {n : ℕ} (p : Ready t goals (length w) x n) where
    -- the run over the index is that over the nodes
    check-in : check t goals w d ≡ (decode_steps d >>= accepts (version_of d) (expand (index_node x)) goals n)
    unfolding check checked
    check-in = rw (p.answered, p.count) (go (decode_steps d))
      where
        go : (o : Outcome (List Step)) → (o >>= accepts (version_of d) (expand (nodes_of p.nodes)) goals n) ≡ (o >>= accepts (version_of d)
            (expand (index_node x)) goals n)
        go (answer ss) = sym (accepts_same n (index_node x) goals p.indexed.table p.admitted.below (nodes_of p.nodes) p.same (version_of d) ss)
        go (refused number place) = refl

    pub ends : {w' : List ℕ} (r : Result (Unit {0}) Refusal) → Replayed (index_node x) n goals w d w' r → Checks t goals w d w' r
    ends r h = checks r (h.answered ∙ sym check-in) (λ number place q. h.work number place (rw p.answered at q))
