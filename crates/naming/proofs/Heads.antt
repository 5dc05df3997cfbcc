-- The goals that a derivation names, a step at a time: how far they are the caller's, and whether they are. Assumes nothing.
use mathlib.Core.Path.{◌≡◌, refl, sym, ap, ap₂, ◌∙◌}
use mathlib.Core.Logic.{◌⊎◌, inl, inr}
use mathlib.Core.List.{List, [], ◌∷◌}
use mathlib.Core.Bool.{Bool, true, false, cond, ◌&&◌, ◌||◌, and-false, false≢true}
use Prim.Native.Nat.{ℕ, zero, suc, ◌+◌, ◌-◌, ◌<◌, ◌≤◌}
use native.Mathlib.Omega.{arith}
use native.Mathlib.Numerals.{add-one}
use lib.Dec.{eqb, ltb}
use lib.ListN.{length, get_or, drop, drop_of_length-le}
use lib.Seq.{drop-cons}
use borrow.Author.Tests.{lt-ltb, le-ltb, ltb-true, ltb-false, eq-eqb, ne_eqb, eqb-true, eqb-false}
use Rattle.scope.specs.Outcome.{answer, refused, require, ◌>>◌}
use Rattle.scope.specs.Table.{list_from}
use Rattle.scope.proofs.Tests.{by_test, and_left, and_right}
use Rattle.scope.proofs.Lists.{list_from_turn, list_from_done}
use Rattle.rules.specs.declared.Step.{Step}
use Rattle.rules.specs.declared.Version.{Version}
use Rattle.rules.specs.Rules.{is_g, names, body, is_empty, equal, agreed, may_be_unnamed, names_test}
use Rattle.naming.specs.Named.{head_of, missing_of}

-- ---- two lists of literals

agreed-none : (ls : List ℕ) → agreed ls [] ≡ 0
unfolding agreed
agreed-none [] = refl
agreed-none (l ∷ ls) = refl

agreed_within : (ls goals : List ℕ) → (agreed ls goals ≤ length ls) × (agreed ls goals ≤ length goals)
unfolding agreed
agreed_within [] goals = (omega arith, omega arith)
agreed_within (l ∷ ls) [] = (omega arith, omega arith)
agreed_within (l ∷ ls) (g ∷ goals) =
    let r = agreed_within ls goals in
    by_test (eqb l g) (λ e. rw e (omega arith, omega arith)) (λ e. rw e (omega arith, omega arith))

-- lists that agree to both ends are the same; others are not
equal-agreed : (ls goals : List ℕ) → agreed ls goals ≡ length ls → agreed ls goals ≡ length goals → equal ls goals ≡ true
unfolding agreed equal
equal-agreed [] [] e f = refl
equal-agreed [] (g ∷ goals) e f = absurd (omega arith)
equal-agreed (l ∷ ls) [] e f = absurd (omega arith)
equal-agreed (l ∷ ls) (g ∷ goals) e f =
    by_test (eqb l g)
    (λ q. rw q (equal-agreed ls goals (omega (arith, rw q at e)) (omega (arith, rw q at f))))
    (λ q. absurd (omega (arith, rw q at e)))

equal-length : (ls goals : List ℕ) → equal ls goals ≡ true → (agreed ls goals ≡ length ls) × (agreed ls goals ≡ length goals)
unfolding agreed equal
equal-length [] [] e = (refl, refl)
equal-length [] (g ∷ goals) e = absurd (false≢true e)
equal-length (l ∷ ls) [] e = absurd (false≢true e)
equal-length (l ∷ ls) (g ∷ goals) e =
    let r = equal-length ls goals (and_right (eqb l g) (equal ls goals) e) in
    rw (and_left (eqb l g) (equal ls goals) e) (ap suc r.0, ap suc r.1)

-- ---- row 64 of a head

module _ (v : Version) (goals ls : List ℕ) where
  wrong : ((may_be_unnamed v && is_empty ls) ≡ false) → (equal ls goals ≡ true → ⊥) → head_of v goals ls ≡ refused 64 (agreed ls goals)
  unfolding names_test
  wrong s n = by_test (equal ls goals) (λ e. absurd (n e)) (λ e. rw (s, e))

  some : (k : ℕ) → k < length ls → (may_be_unnamed v && is_empty ls) ≡ false
  some k h = rw (go ls h) (and-false (may_be_unnamed v))
    where
      go : (ls : List ℕ) → k < length ls → is_empty ls ≡ false
      go [] h = absurd (omega arith)
      go (l ∷ ls) h = refl

  -- more is named than agrees
  pub head_wrong : agreed ls goals < length ls → head_of v goals ls ≡ refused 64 (agreed ls goals)
  head_wrong h = wrong (some (agreed ls goals) h) (λ e. omega (arith, equal-length ls goals e))

  -- all that is named agrees, and a goal is missing
  pub head_missing : length ls ≤ agreed ls goals → (0 < agreed ls goals) ⊎ (may_be_unnamed v ≡ false) → agreed ls goals < length goals
      → head_of v goals ls ≡ refused 64 (agreed ls goals)
  head_missing h p q = wrong (go p) (λ e. omega (arith, equal-length ls goals e))
    where
      go : (0 < agreed ls goals) ⊎ (may_be_unnamed v ≡ false) → (may_be_unnamed v && is_empty ls) ≡ false
      go (inl z) = some 0 (omega (arith, agreed_within ls goals))
      go (inr z) = rw z

  -- nothing is named, and need not be
  pub head_none : length ls ≤ agreed ls goals → agreed ls goals ≡ 0 → may_be_unnamed v ≡ true → head_of v goals ls ≡ answer 0
  unfolding names_test
  head_none h z m = go ls (omega arith)
    where
      go : (ls : List ℕ) → length ls ≤ 0 → head_of v goals ls ≡ answer 0
      go [] h = rw m
      go (l ∷ ls) h = absurd (omega arith)

  -- all goals are named
  pub head_whole : length ls ≤ agreed ls goals → length goals ≤ agreed ls goals → head_of v goals ls ≡ answer (agreed ls goals)
  unfolding names_test
  head_whole h q =
      let w = agreed_within ls goals in
      let e : agreed ls goals ≡ length ls = omega arith in
      rw (equal-agreed ls goals e (omega arith)) (go (may_be_unnamed v && is_empty ls) ∙ ap answer (sym e))
    where
      go : (t : Bool) → (require (t || true) 64 (agreed ls goals) >> answer (length ls)) ≡ answer (length ls)
      go true = refl
      go false = refl

-- ---- the steps at the head

ltb-suc : (a b : ℕ) → ltb (suc a) (suc b) ≡ ltb a b
ltb-suc a b =
    by_test (ltb a b)
    (λ e. lt-ltb (suc a) (suc b) (omega (arith, ltb-true a b e)) ∙ sym e)
    (λ e. le-ltb (suc a) (suc b) (omega (arith, ltb-false a b e)) ∙ sym e)

module _ (f : ℕ → Step) where
  -- up to its last name, whether a step names a goal says whether there are more
  pub name_test : (n i k : ℕ) → k ≤ length (names (list_from f i n)) → (ltb k n && is_g (f (i + k))) ≡ ltb k (length (names (list_from f i n)))
  unfolding names list_from
  name_test zero i k h = rw (le-ltb k 0 (omega arith))
  name_test (suc n) i zero h =
      let z : i + 0 ≡ i = omega arith in
      rw (z, lt-ltb 0 (suc n) (omega arith))
      (by_test (is_g (f i))
      (λ e. rw e (sym (lt-ltb 0 (suc (length (names (list_from f (suc i) n)))) (omega arith))))
      (λ e. rw e))
  name_test (suc n) i (suc k) h =
      let z : i + suc k ≡ suc i + k = omega arith in
      by_test (is_g (f i))
      (λ e. rw (e, z, ltb-suc k n, ltb-suc k (length (names (list_from f (suc i) n)))) (name_test n (suc i) k (omega (arith, rw e at h))))
      (λ e. absurd (omega (arith, rw e at h)))

  -- the names come first, and the other steps after them
  pub names_most : (n i : ℕ) → length (names (list_from f i n)) ≤ n
  unfolding names list_from
  names_most zero i = omega arith
  names_most (suc n) i =
      let r = names_most n (suc i) in
      by_test (is_g (f i)) (λ e. rw e (omega arith)) (λ e. rw e (omega arith))

  pub body-from : (n i k : ℕ) → length (names (list_from f i n)) ≡ k → body (list_from f i n) ≡ list_from f (i + k) (n - k)
  unfolding names body list_from
  body-from zero i k q =
      let z : 0 - k ≡ 0 = omega arith in
      rw z
  body-from (suc n) i k q =
      by_test (is_g (f i))
      (λ e.
      let p : suc (length (names (list_from f (suc i) n))) ≡ k = rw e at q in
      let y : suc i + (k - 1) ≡ i + k = omega arith in
      let z : n - (k - 1) ≡ suc n - k = omega arith in
      rw e (body-from n (suc i) (k - 1) (omega arith) ∙ ap₂ (list_from f) y z))
      (λ e.
      let p : 0 ≡ k = rw e at q in
      let y : i ≡ i + k = omega arith in
      let z : suc n ≡ suc n - k = omega arith in
      rw e (ap₂ (list_from f) y z))

-- ---- how far the names agree with the goals, as a loop goes through them: what is left at i

module _ (f : ℕ → Step) (goals : List ℕ) (count i : ℕ) where
  abbrev left : ℕ
  left = agreed (names (list_from f i (count - i))) (drop i goals)

  -- no name is left
  pub agreed_unnamed : (ltb i count && is_g (f i)) ≡ false → left ≡ 0
  unfolding names agreed
  agreed_unnamed e =
      by_test (ltb i count)
      (λ q. rw (list_from_turn f i count (ltb-true i count q), and-right-false q))
      (λ q. rw (list_from_done f i count (ltb-false i count q)))
    where
      and-right-false : ltb i count ≡ true → is_g (f i) ≡ false
      and-right-false q = rw q at e

  module _ (h : i < length goals) (e : (ltb i count && is_g (f i)) ≡ true) where
    turn : left ≡ cond (eqb (f i).value (get_or goals i 0)) (suc (agreed (names (list_from f (i + 1) (count - (i + 1)))) (drop (i + 1) goals))) 0
    unfolding names agreed
    turn =
        rw (
          list_from_turn f i count (ltb-true i count (and_left (ltb i count) (is_g (f i)) e)),
          and_right (ltb i count) (is_g (f i)) e,
          drop-cons goals i 0 h,
          ← add-one i,
        )

    -- another literal is named
    pub agreed-stops : ((f i).value ≡ get_or goals i 0 → ⊥) → left ≡ 0
    agreed-stops n = turn ∙ rw (ne_eqb (f i).value (get_or goals i 0) n)

    -- the goal is named
    pub agreed-goes : (f i).value ≡ get_or goals i 0 → left ≡ suc (agreed (names (list_from f (i + 1) (count - (i + 1)))) (drop (i + 1) goals))
    agreed-goes n = turn ∙ rw (eq-eqb (f i).value (get_or goals i 0) n)

  -- no goal is left
  pub agreed_ends : length goals ≤ i → left ≡ 0
  agreed_ends h = rw (drop_of_length-le goals {i = i} h) (agreed-none (names (list_from f i (count - i))))

pub agreed_start : (f : ℕ → Step) (goals : List ℕ) (count : ℕ)
    → 0 + agreed (names (list_from f 0 (count - 0))) goals ≡ agreed (names (list_from f 0 count)) goals
agreed_start f goals count =
    let z : count - 0 ≡ count = omega arith in
    omega (arith, ap (λ (n : ℕ). agreed (names (list_from f 0 n)) goals) z)

-- ---- row 64 by what the loop found: where the names stop to agree, and whether that step names a goal

module _ (v : Version) (f : ℕ → Step) (goals : List ℕ) (count i : ℕ) (e : i ≡ agreed (names (list_from f 0 count)) goals) where
  abbrev ls : List ℕ
  ls = names (list_from f 0 count)

  more : (ltb i count && is_g (f i)) ≡ ltb i (length ls)
  more =
      let z : 0 + i ≡ i = omega arith in
      ap (λ (k : ℕ). ltb i count && is_g (f k)) (sym z) ∙ name_test f count 0 i (omega (arith, agreed_within ls goals))

  pub at_more : (ltb i count && is_g (f i)) ≡ true → refused 64 i ≡ head_of v goals ls
  at_more t = ap (refused 64) e ∙ sym (head_wrong v goals ls (omega (arith, ltb-true i (length ls) (sym more ∙ t))))

  module _ (t : (ltb i count && is_g (f i)) ≡ false) where
    whole : length ls ≤ agreed ls goals
    whole = omega (arith, ltb-false i (length ls) (sym more ∙ t))

    pub at-missing : i < length goals → missing_of v i ≡ head_of v goals ls
    at-missing h =
        by_test (may_be_unnamed v && eqb i 0)
        (λ q. rw q
        (sym (head_none v goals ls whole (sym e ∙ eqb-true i 0 (and_right (may_be_unnamed v) (eqb i 0) q)) (and_left (may_be_unnamed v) (eqb i 0) q))))
        (λ q. rw q (ap (refused 64) e ∙ sym (head_missing v goals ls whole (go (may_be_unnamed v) refl q) (omega arith))))
      where
        go : (t : Bool) → may_be_unnamed v ≡ t → (t && eqb i 0) ≡ false → (0 < agreed ls goals) ⊎ (may_be_unnamed v ≡ false)
        go true m q = inl (omega (arith, eqb-false i 0 q))
        go false m q = inr m

    pub at-whole : length goals ≤ i → answer i ≡ head_of v goals ls
    at-whole h = ap answer e ∙ sym (head_whole v goals ls whole (omega arith))
