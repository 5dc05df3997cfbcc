-- Where derive ends: at the first row's refusal, or with what counting and writing came to. Assumes nothing.
use mathlib.Core.Path.{◌≡◌, refl, sym, ap, ◌∙◌}
use mathlib.Core.List.{List, []}
use Prim.Native.Nat.{ℕ}
use lib.ListN.{length}
use Rattle.std.specs.Prelude.{Result, Ok, Err}
use Rattle.scope.specs.declared.Refusal.{Refusal}
use Rattle.scope.specs.Outcome.{Outcome, answer, refused, ◌>>=◌}
use Rattle.scope.proofs.Tests.{refused_no, bound}
use Rattle.codec.specs.Valid.{Bytes}
use Rattle.calculus.specs.Expansion.{expand}
use Rattle.calculus.specs.Order.{Tree, tree}
use Rattle.calculus.specs.Decide.{nodes_of, list_row, asked}
use Rattle.index.specs.Index.{index_node}
use Rattle.rules.specs.declared.Step.{Step}
use Rattle.rules.specs.declared.Version.{Version}
use Rattle.rules.specs.Derivation.{named_steps}
use Rattle.rules.specs.Derive.{derivation_of, Derived as Given, blocks, derived, derive, derived_after, check}
use Rattle.asking.specs.Within.{Reached}
use Rattle.asking.proofs.Nodes.{searches_within}
use Rattle.meaning.proofs.Derivations.{derive-open, derive-never, derived-accepted, derived-published}
use Rattle.deriver.specs.Derives.{derived_of, produced_by, produced, Produced, Derives}
use Rattle.deriver.proofs.Same.{derivation_same}

module _ (v : Version) (t goals w d : List ℕ) (all : Bytes t) where
  -- ---- the contract, where its first three fields hold

  module _ (r : Result ℕ Refusal) {d' : List ℕ}
      (answers : derived_of r ≡ (derive v t goals w d >>= λ x. answer x.steps)) (file : d' ≡ derived_after d (derive v t goals w d)) where
    -- a step count is an answer's, and so are the bytes
    counted : (k : ℕ) → r ≡ Ok k → (x : Given) × (derive v t goals w d ≡ answer x) × (blocks x.steps x.bytes ≡ blocks k d')
    counted k q =
        let b = bound (derive v t goals w d) (λ x. answer x.steps) (sym answers ∙ ap derived_of q) in
        let s : answer b.0.steps ≡ answer k = b.2 in
        let z : b.0.steps ≡ k = cc in
        (b.0, b.1, ap (λ (m : ℕ). blocks m b.0.bytes) z ∙ ap (blocks k) (sym (file ∙ ap (derived_after d) b.1)))

    refusal : {number place : ℕ} → derived_of r ≡ refused number place → derive v t goals w d ≡ refused number place
    refusal q = go (derive v t goals w d) (sym answers ∙ q)
      where
        go : (o : Outcome Given) {number place : ℕ} → (o >>= λ x. answer x.steps) ≡ refused number place → o ≡ refused number place
        go (answer x) e = refused_no (sym e)
        go (refused n p) e = cc

    derives : {w' : List ℕ} → ((number place : ℕ) → asked t goals 0 0 (length w) ≡ refused number place → w' ≡ w) → Derives v t goals w d w' d' r
    derives kept = record {
      answered = answers;
      bytes = file;
      work = kept;
      never = λ k q.
          let c = counted k q in
          derive-never t all goals v w d c.0 c.1;
      accepted = λ k q.
          let c = counted k q in
          ap (check t goals w) (sym c.2) ∙ derived-accepted t all goals v w d c.0 c.1;
      published = λ k q.
          let c = counted k q in
          rw (← c.2) (derived-published t all goals v w d c.0 c.1);
      complete = λ place q rs e. derive-open t all goals v w d (refusal q) rs e;
    }

  -- ---- where derive ends

  refused_by : {number place : ℕ} → asked t goals 0 0 (length w) ≡ refused number place → derive v t goals w d ≡ refused number place
  unfolding derive
  refused_by q = rw q

  pub refuses : (f : Refusal) → asked t goals 0 0 (length w) ≡ refused f.number f.place → Derives v t goals w d w d (Err f)
  refuses f q =
      let z = refused_by q in
      derives (Err f) (rw z) (rw z) (λ number place a. refl)

  module _ {x : List ℕ} {n : ℕ} (p : Reached (list_row goals) t goals 0 0 (length w) x n) where
    -- the steps over the index are those over the nodes
    steps-in : named_steps v (expand (index_node x)) goals (tree (expand (index_node x)) goals n []) ≡ derivation_of v p.nodes goals
    steps-in =
        derivation_same v n (index_node x) (nodes_of p.nodes) p.indexed.table p.closed goals p.alike p.below (length p.nodes) p.some

    ends_on : derive v t goals w d ≡ produced v (index_node x) n goals d
    unfolding derive derived
    ends_on =
        rw p.answered
        (ap (λ (s : Tree). produced_by v s (derivation_of v p.nodes goals) d) (sym (searches_within p goals p.below p.alike))
        ∙ ap (λ (ss : List Step). produced_by v (tree (expand (index_node x)) goals n []) ss d) (sym steps-in))

    pub ends : {w' d' : List ℕ} (r : Result ℕ Refusal) → Produced v (index_node x) n goals d d' r → Derives v t goals w d w' d' r
    ends r h =
        derives r
        (h.answered ∙ ap (◌>>= λ x. answer x.steps) (sym ends_on))
        (h.bytes ∙ ap (derived_after d) (sym ends_on))
        (λ number place a. refused_no (sym a ∙ p.answered))
