-- Where clash ends: at the first row's refusal, or with the walk; and what its answer means. Assumes nothing.
use mathlib.Core.Path.{◌≡◌, refl, sym, ap, ap₂, subst, ◌∙◌}
use mathlib.Core.List.{List, [], ◌++◌}
use mathlib.Core.Bool.{Bool, true, false, false≢true}
use Rattle.std.specs.Prelude.{Result, Ok}
use Rattle.std.specs.Result.{IsErrAnd}
use Prim.Native.Nat.{ℕ, ◌*◌, ◌-◌, ◌<◌}
use native.Mathlib.Omega.{arith}
use lib.Dec.{ltb}
use lib.ListN.{length, get_or, take, replicate}
use lib.Seq.{take-append_seam}
use borrow.Author.Tests.{lt-ltb, ltb-true}
use Rattle.scope.specs.declared.Node.{Node}
use Rattle.scope.specs.declared.Refusal.{Refusal}
use Rattle.scope.specs.Outcome.{Outcome, answer, refused, require, ◌>>◌}
use Rattle.scope.specs.Table.{decode}
use Rattle.scope.proofs.Tests.{refused_no, bound}
use Rattle.codec.specs.Valid.{Bytes}
use Rattle.calculus.specs.Order.{Answer, answer_of}
use Rattle.calculus.specs.Model.{All, Below, most_goals}
use Rattle.calculus.specs.Agree.{Alike}
use Rattle.calculus.specs.Decide.{nodes_of, list_row, Admitted, asked, Satisfies, ◌⇔◌}
use Rattle.calculus.proofs.Asked.{list_met, asked-read}
use Rattle.calculus.proofs.Lists.{all_at, all_imply, all_map}
use Rattle.rules.specs.Derive.{is_impossible}
use Rattle.index.specs.Index.{index_node}
use Rattle.asking.specs.Within.{Reached}
use Rattle.asking.proofs.Nodes.{searches_within}
use Rattle.meaning.proofs.Numbers.{Numbered, gives, rowed, then, asked-numbered}
use Rattle.questions.specs.Indices.{picked, up_to}
use Rattle.questions.specs.Asking.{asks, answered, Decides, Setting, says, FilledBy}
use Rattle.questions.proofs.Answers.{is-possible, not-impossible}
use Rattle.questions.proofs.Settings.{made, making, some-node, decides}
use Rattle.clashing.specs.Clash.{clashes, walk, argued, clash}
use Rattle.clashing.specs.Clashes.{counted_kept, clashed_of, Clashing, Clashes}
use Rattle.clashing.specs.Walks.{Passed, Among, Grows}
use Rattle.clashing.specs.declared.Clashed.{Clashed}
use Rattle.clashing.proofs.Walks.{walk_same, walk_rises, walk-clashes}
use Rattle.clashing.proofs.Keeps.{clashes_same, clashes-whole, no-clash, a_clash, clashes-grow, kept_needed}

-- ---- what the goals kept are

module _ (t : List ℕ) (rs : List Node) (all : Bytes t) (e : decode t ≡ answer rs) (goals : List ℕ) (b : Below (length rs) goals) (some : 0 < length goals) where
  abbrev D : Decides Setting (says t) (FilledBy rs) (λ l. l < 2 * length rs) (answered rs)
  D = decides t rs all e (some-node (length rs) goals b some)

  -- goals without a clash are made true by a setting, goals with one by none
  settled : (is : List ℕ) → clashes (answered rs) goals is ≡ false → (v : List ℕ) × Satisfies t (picked goals is) v
  settled is q =
      let s = no-clash Setting (says t) (FilledBy rs) (λ l. l < 2 * length rs) (answered rs) D goals b is q in
      (s.0.0, made t (picked goals is) s.0 s.1)

  pub clashing : is_impossible (answered rs goals) ≡ true → Clashing t goals (walk (clashes (answered rs) goals) (length goals) [])
  unfolding up_to
  clashing q =
      let test : List ℕ → Bool = clashes (answered rs) goals in
      let n : ℕ = length goals in
      record {
        rising = walk_rises test n n [] (omega arith) tt;
        together = λ v s.
            a_clash Setting (says t) (FilledBy rs) (λ l. l < 2 * length rs) (answered rs) D goals b (walk test n [])
            (walk-clashes test n [] (clashes-whole (answered rs) goals some q)) (v, s.0) (making t (picked goals (walk test n [])) (v, s.0) s.1);
        single = λ a c j z. settled (a ++ c) (kept_needed Setting (says t) (FilledBy rs) (λ l. l < 2 * length rs) (answered rs) D goals b n a c j z);
      }

  -- goals with a clash have one with more goals
  pub answers-grow : (few all : List ℕ) → Among few all → clashes (answered rs) goals few ≡ true → clashes (answered rs) goals all ≡ true
  answers-grow = clashes-grow Setting (says t) (FilledBy rs) (λ l. l < 2 * length rs) (answered rs) D goals b

  -- 63 is said exactly when a setting makes all goals true
  pub possible_exact : (is_impossible (answered rs goals) ≡ false) ⇔ ((v : List ℕ) × Satisfies t goals v)
  possible_exact = (
    λ q.
        let s = not-impossible Setting (says t) (FilledBy rs) (λ l. l < 2 * length rs) (answered rs) D goals b q in
        (s.0.0, made t goals s.0 s.1),
    λ s.
        ap is_impossible (is-possible Setting (says t) (FilledBy rs) (λ l. l < 2 * length rs) (answered rs) D goals b (s.0, s.1.0)
        (making t goals (s.0, s.1.0) s.1.1)).1,
  )

-- ---- the contract, of the definition's answer

-- the indices shown are those of the answer
shown : (is : List ℕ) → take (counted_kept is).count (counted_kept is).kept ≡ is
shown is = take-append_seam is (replicate (most_goals - length is) 0)

-- no refusal has the number 0
pub clash-numbered : (t goals w : List ℕ) → Numbered (clash t goals w)
unfolding clash
clash-numbered t goals w =
    then (asked t goals 0 0 (length w)) _ (asked-numbered t goals 0 0 (length w))
    (λ rs. rowed (is_impossible (answered rs goals)) 63 0 _ (omega arith) (gives (walk (clashes (answered rs) goals) (length goals) [])))

-- goals that were asked passed
pub passed : {t goals : List ℕ} {needed lent area : ℕ} {x : List ℕ} {n : ℕ} → Reached (list_row goals) t goals needed lent area x n → Passed n goals
passed {goals = goals} p = record { most = (list_met goals p.admitted.list).1; below = p.below }

module _ (t goals w : List ℕ) (bytes : Bytes t) where
  clash-asked : {rs : List Node} → asked t goals 0 0 (length w) ≡ answer rs → clash t goals w ≡ argued (answered rs) goals
  unfolding clash
  clash-asked q = rw q

  -- an answer is the walk's, of goals that are impossible together
  of_walk : {is : List ℕ} → clash t goals w ≡ answer is → Clashing t goals is
  unfolding clash
  of_walk {is} q =
      let r = bound (asked t goals 0 0 (length w)) _ q in
      let a = asked-read t goals 0 0 (length w) r.1 in
      go r.0 a (is_impossible (answered r.0 goals)) refl r.2
    where
      go : (rs : List Node) → (decode t ≡ answer rs) × Admitted (list_row goals) (length rs) goals 0 0 (length w) → (b : Bool) → is_impossible (answered rs goals) ≡ b
          → (require b 63 0 >> answer (walk (clashes (answered rs) goals) (length goals) [])) ≡ answer is → Clashing t goals is
      go rs a true z q =
          let s : walk (clashes (answered rs) goals) (length goals) [] ≡ is = cc in
          rw s at (clashing t rs bytes a.0 goals a.1.below (list_met goals a.1.list).0 z)
      go rs a false z q = refused_no q

  kept_by : (o : Outcome (List ℕ)) → clash t goals w ≡ o → (k : Clashed) → clashed_of o ≡ Ok k → Clashing t goals (take k.count k.kept)
  kept_by (answer is) q k z =
      let y : counted_kept is ≡ k = cc in
      subst (λ (k : Clashed). Clashing t goals (take k.count k.kept)) y (rw (shown is) (of_walk q))
  kept_by (refused number place) q k z = absurd (let y : ◌≡◌ {A = ℕ} 0 1 = cc in omega arith)

  exact_by : (rs : List Node) → asked t goals 0 0 (length w) ≡ answer rs → IsErrAnd (clashed_of (argued (answered rs) goals)) (λ f. f.number ≡ 63) ⇔ ((v : List ℕ) × Satisfies t goals v)
  exact_by rs q =
      let a = asked-read t goals 0 0 (length w) q in
      go (is_impossible (answered rs goals)) refl (possible_exact t rs bytes a.0 goals a.1.below (list_met goals a.1.list).0)
    where
      go : (b : Bool) → is_impossible (answered rs goals) ≡ b → (is_impossible (answered rs goals) ≡ false) ⇔ ((v : List ℕ) × Satisfies t goals v)
          → IsErrAnd (clashed_of (require b 63 0 >> answer (walk (clashes (answered rs) goals) (length goals) []))) (λ f. f.number ≡ 63) ⇔ ((v : List ℕ) × Satisfies t goals v)
      go true z x = (λ e. absurd e, λ s. absurd (false≢true (sym (x.1 s) ∙ z)))
      go false z x = (λ e. x.0 z, λ s. refl)

  pub clashes-by : {w' : List ℕ} (r : Result Clashed Refusal) → r ≡ clashed_of (clash t goals w)
      → ((number place : ℕ) → asked t goals 0 0 (length w) ≡ refused number place → w' ≡ w) → Clashes t goals w w' r
  clashes-by r e kept = record {
    answered = e;
    work = kept;
    kept = rw e (kept_by (clash t goals w) refl);
    exact = λ rs q. rw (e ∙ ap clashed_of (clash-asked q)) (exact_by rs q);
  }

  -- ---- where clash ends

  pub refuses : (r : Result Clashed Refusal) (f : Refusal) → r ≡ clashed_of (refused f.number f.place) → asked t goals 0 0 (length w) ≡ refused f.number f.place
      → Clashes t goals w w r
  unfolding clash
  refuses r f e q = clashes-by r (e ∙ rw q) (λ number place z. refl)

  module _ {x : List ℕ} {n : ℕ} (p : Reached (list_row goals) t goals 0 0 (length w) x n) where
    -- what all goals have, goals that are picked have
    each : (P : ℕ → Type 0) → All P goals → (is : List ℕ) → All (λ i. i < length goals) is → All P (picked goals is)
    each P a is b = all_map P (λ i. get_or goals i 0) is (all_imply (λ i. i < length goals) (λ i. P (get_or goals i 0)) (λ i h. all_at P goals i 0 a h) is b)

    -- the questions over the index are those over the nodes
    same-answers : (is : List ℕ) → All (λ i. i < length goals) is → asks (index_node x) n (picked goals is) ≡ answered p.nodes (picked goals is)
    same-answers is b = ap answer_of (searches_within p (picked goals is) (each (λ l. l < 2 * n) p.below is b) (each (Alike (index_node x) (nodes_of p.nodes)) p.alike is b))

    same-clashes : (is : List ℕ) → All (λ i. i < length goals) is → clashes (asks (index_node x) n) goals is ≡ clashes (answered p.nodes) goals is
    same-clashes is b = clashes_same (asks (index_node x) n) goals (answered p.nodes) is (same-answers is b)

    -- so where goals clash over the index, more goals do
    pub grows : Grows (length goals) (clashes (asks (index_node x) n) goals)
    grows few all h b e =
        let a = asked-read t goals 0 0 (length w) p.answered in
        let P : ℕ → Type 0 = λ i. i < length goals in
        let Q : ℕ → Type 0 = λ i. ltb i (length goals) ≡ true in
        let c : All P few = all_imply Q P (λ i. ltb-true i (length goals)) few (h (λ i. ltb i (length goals)) (all_imply P Q (λ i. lt-ltb i (length goals)) all b)) in
        same-clashes all b
        ∙ answers-grow t p.nodes bytes a.0 goals a.1.below (list_met goals a.1.list).0 few all h (sym (same-clashes few c) ∙ e)

    same : argued (asks (index_node x) n) goals ≡ argued (answered p.nodes) goals
    same =
        ap₂ (λ (a : Answer) (is : List ℕ). require (is_impossible a) 63 0 >> answer is) (ap answer_of (searches_within p goals p.below p.alike))
        (walk_same (clashes (asks (index_node x) n) goals) (clashes (answered p.nodes) goals) (length goals)
        same-clashes (length goals) [] (omega arith) tt)

    pub ends : {w' : List ℕ} (r : Result Clashed Refusal) → r ≡ clashed_of (argued (asks (index_node x) n) goals) → Clashes t goals w w' r
    ends r e = clashes-by r (e ∙ ap clashed_of (same ∙ sym (clash-asked p.answered))) (λ number place z. refused_no (sym z ∙ p.answered))
