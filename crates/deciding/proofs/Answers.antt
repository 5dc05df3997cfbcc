-- Where decide ends: at the first row's refusal, or with what the search came to. Assumes nothing.
use mathlib.Core.Path.{◌≡◌, refl, sym, ap, ◌∙◌}
use mathlib.Core.List.{List, [], ◌++◌}
use Rattle.std.specs.Prelude.{Result, Ok, Err}
use Prim.Native.Nat.{ℕ}
use native.Mathlib.Omega.{arith}
use lib.ListN.{length, drop}
use Rattle.scope.specs.declared.Refusal.{Refusal}
use Rattle.scope.specs.declared.Truth.TheVariants.{Yes}
use Rattle.scope.specs.Outcome.{Outcome, answer, refused, ◌>>=◌}
use Rattle.scope.specs.Table.{list_from}
use Rattle.scope.specs.Calls.{evaluate}
use Rattle.scope.proofs.Tests.{refused_no, bound}
use Rattle.codec.specs.Valid.{Bytes}
use Rattle.calculus.specs.Expansion.{expand}
use Rattle.calculus.specs.Order.{Answer, possible, impossible, unfinished, tree, answer_of}
use Rattle.calculus.specs.Model.{All}
use Rattle.calculus.specs.Jump.{Jumped, jump, end_answer, stopped}
use Rattle.calculus.specs.Decide.{nodes_of, jump_of, Decided as Given, list_row, asked, settings_on, decided_by, decided, decide, settings_after, ◌⇔◌}
use Rattle.jumping.proofs.Same.{jump-same}
use Rattle.jumping.proofs.Answers.{same_answer}
use Rattle.index.specs.Index.{index_node}
use Rattle.asking.specs.Within.{Reached}
use Rattle.asking.proofs.Models.{all_filled}
use Rattle.asking.proofs.Nodes.{setting_within}
use Rattle.meaning.proofs.Decisions.{decide-plain, decide_exact, decide_evaluates}
use Rattle.deciding.specs.Decides.{can, cannot, word_of, Said, said_of, decided_of, Room, given_by, Solved, Decides}
use Rattle.deciding.specs.declared.Decision.{Decision}
use Rattle.deciding.specs.declared.Decision.TheVariants.{Possible}

-- ---- the contract, where its first three fields hold

word_impossible : (a : Answer) → (word_of a ≡ cannot) ⇔ (a ≡ impossible)
word_impossible (possible G) = (λ e. absurd (let z : ◌≡◌ {A = ℕ} 0 1 = cc in omega arith), λ e. absurd (let z : ◌≡◌ {A = ℕ} 0 1 = cc in omega arith))
word_impossible impossible = (λ e. refl, λ e. refl)
word_impossible unfinished = (λ e. absurd (let z : ◌≡◌ {A = ℕ} 0 1 = cc in omega arith), λ e. absurd (let z : ◌≡◌ {A = ℕ} 0 1 = cc in omega arith))

word_possible : {P : Type 0} (a : Answer) → word_of a ≡ can → ((G : List ℕ) → a ≡ possible G → P) → P
word_possible (possible G) e f = f G refl
word_possible impossible e f = absurd (let z : ◌≡◌ {A = ℕ} 0 1 = cc in omega arith)
word_possible unfinished e f = absurd (let z : ◌≡◌ {A = ℕ} 0 1 = cc in omega arith)

module _ (t goals s w : List ℕ) (all : Bytes t) (r : Result Decision Refusal) {s' : List ℕ}
    (answers : decided_of r ≡ (decide t goals s w >>= λ d. answer (said_of d))) (bytes : s' ≡ settings_after s (decide t goals s w)) where
  -- what was said is what the definition's answer says
  said-by : {said : Said} → decided_of r ≡ answer said → (d : Given) × (decide t goals s w ≡ answer d) × (answer (said_of d) ≡ answer said)
  said-by q = bound (decide t goals s w) (λ d. answer (said_of d)) (sym answers ∙ q)

  satisfies : (n : ℕ) → r ≡ Ok (Possible n) → All (λ g. evaluate t g s' ≡ answer Yes) goals
  satisfies n q =
      let b = said-by (ap decided_of q) in
      let z : answer (said_of b.0) ≡ answer (record { word = can; splits = n }) = b.2 in
      let y : said_of b.0 ≡ record { word = can; splits = n } = cc in
      let v : word_of b.0.verdict ≡ can = ap (λ (x : Said). x.word) y in
      word_possible b.0.verdict v
      (λ G g. rw (bytes ∙ ap (settings_after s) b.1) (decide_evaluates t goals s w all b.1 g))

  pub decides : {w' : List ℕ} → ((f : Refusal) → r ≡ Err f → w' ≡ w) → Decides t goals s w s' w' r
  decides kept = record {
    answered = answers;
    settings = bytes;
    work = kept;
    plain = λ d e. decide-plain t goals s w all e;
    exact = λ said q.
        let b = said-by q in
        let z : answer (said_of b.0) ≡ answer said = b.2 in
        let y : said_of b.0 ≡ said = cc in
        let v : word_of b.0.verdict ≡ said.word = ap (λ (x : Said). x.word) y in
        let i = word_impossible b.0.verdict in
        let x = decide_exact t goals s w all b.1 in
        (λ c. x.0 (i.0 (v ∙ c)), λ none. sym v ∙ i.1 (x.1 none));
    satisfied = satisfies;
    filled = λ n q rs e. all_filled t rs all e goals s' (satisfies n q);
  }

-- ---- where decide ends

module _ {row : Outcome (Unit {0})} {t goals : List ℕ} {needed lent area : ℕ} {x : List ℕ} {n : ℕ} (p : Reached row t goals needed lent area x n) (s : List ℕ) where
  -- the setting of what the search over the index ends on
  set_in : (a : Answer) → a ≡ answer_of (tree (expand (index_node x)) goals n []) → settings_on (list_from (index_node x) 0 n) s a ≡ settings_on p.nodes s a
  set_in (possible G) e = ap (◌++ drop 1024 s) (setting_within p (sym e))
  set_in impossible e = refl
  set_in unfinished e = refl

  -- the search over the index is that over the nodes
  given_in : given_by (index_node x) n goals s ≡ decided p.nodes goals s
  given_in =
      let j : Jumped = jump 128 (expand (index_node x)) goals n 0 [] in
      let e : j ≡ jump_of p.nodes goals =
      jump-same 128 n (index_node x) (nodes_of p.nodes) goals p.indexed.table p.below p.closed p.alike n (length p.nodes) 0 [] tt tt (omega arith) p.some in
      let b = set_in (end_answer j.end) (same_answer 128 n (index_node x) goals p.indexed.table p.below) in
      ap (λ (y : List ℕ). record { verdict = end_answer j.end; settings = y; splits = stopped j.splits }) b
      ∙ ap (λ (k : Jumped). decided_by p.nodes s (end_answer k.end) k.splits) e

module _ (t goals s w : List ℕ) (all : Bytes t) where
  refused_by : {number place : ℕ} → asked t goals 1024 (length s) (length w) ≡ refused number place → decide t goals s w ≡ refused number place
  unfolding decide
  refused_by q = rw q

  pub refuses : (f : Refusal) → asked t goals 1024 (length s) (length w) ≡ refused f.number f.place → Decides t goals s w s w (Err f)
  refuses f q =
      let d = refused_by q in
      decides t goals s w all (Err f) (rw d) (rw d) (λ g z. refl)

  module _ {x : List ℕ} {n : ℕ} (p : Reached (list_row goals) t goals 1024 (length s) (length w) x n) where
    pub roomy : Room x n s w
    roomy = record { points = p.points; settings = p.admitted.settings; work = p.admitted.work }

    ends_on : decide t goals s w ≡ answer (decided p.nodes goals s)
    unfolding decide
    ends_on = rw p.answered

    pub ends : {s' w' : List ℕ} (r : Decision) → Solved (index_node x) n goals s s' r → Decides t goals s w s' w' (Ok r)
    ends r h =
        let g = given_in p s in
        decides t goals s w all (Ok r)
        (h.verdict ∙ ap (λ (d : Given). answer (said_of d)) g ∙ ap (◌>>= λ d. answer (said_of d)) (sym ends_on))
        (h.settings ∙ ap (λ (d : Given). d.settings) g ∙ ap (settings_after s) (sym ends_on))
        (λ f q. refused_no (sym (ap decided_of q) ∙ h.verdict))
