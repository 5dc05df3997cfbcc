-- Every step that the checker answers is an instance of the published rule that its letter names. Assumes nothing.
use mathlib.Core.Path.{◌≡◌, refl, sym, ap, ◌∙◌, subst}
use mathlib.Core.Logic.{◌⊎◌, inl, inr}
use mathlib.Core.List.{List, [], ◌∷◌, ◌++◌, map}
use mathlib.Core.Bool.{Bool, true, false, cond, not, false≢true, true≢false}
use Prim.Native.Nat.{ℕ, ◌*◌, ◌<◌}
use native.Mathlib.Omega.{arith}
use lib.Dec.{eqb, ltb}
use lib.ListN.{length, get_or}
use borrow.Author.Tests.{ltb-true, eqb-true}
use Rattle.scope.specs.Outcome.{Outcome, answer}
use Rattle.scope.proofs.Tests.{by_test, and_left, and_right, refused_no}
use Rattle.calculus.specs.Expansion.{neg}
use Rattle.calculus.specs.Order.{Value, holds, fails, undecided, value_of, mem, clauses}
use Rattle.calculus.specs.Model.{All}
use Rattle.calculus.proofs.Lists.{all_imply}
use Rattle.calculus.proofs.Literals.{neg-neg, mem_other, mem-cases, holds-mem, fails_mem, undecided_mem, undecided_neg}
use Rattle.rules.specs.declared.Step.{Step}
use Rattle.rules.specs.Rules.{Branch, join, strike_clause, strike_literal, is_holds, is_fails, is_undecided, among, any_holds, Progress, turn}
use Rattle.rules.specs.Rules.{only, clause_at, stands, left, rule_u, rule_r, rule_e, rule_c, rule_s, apply}
use Rattle.rules.proofs.Laws.{place, still_in, After, after-given, after-only}
use Rattle.published.specs.Published.{With, here, there, Rule, UNIT, RED, ELIM, CONFLICT, SPLIT, Instance, unit-rule, red-rule}
use Rattle.published.specs.Published.{elim-rule, conflict-rule, split-rule}
use Rattle.published.specs.Reading.{standing, sequent_of, Within, open_of, rule_of}
use Rattle.published.proofs.Standing.{struck_literal, struck_clause, struck_beside, standing-join}

-- ---- what the checker's tests say

pub is-holds : (w : Value) → is_holds w ≡ true → w ≡ holds
is-holds holds e = refl
is-holds fails e = absurd (false≢true e)
is-holds undecided e = absurd (false≢true e)

pub is_fails_lem : (w : Value) → is_fails w ≡ true → w ≡ fails
is_fails_lem holds e = absurd (false≢true e)
is_fails_lem fails e = refl
is_fails_lem undecided e = absurd (false≢true e)

is_undecided_lem : (w : Value) → is_undecided w ≡ true → w ≡ undecided
is_undecided_lem holds e = absurd (false≢true e)
is_undecided_lem fails e = absurd (false≢true e)
is_undecided_lem undecided e = refl

not-true : (t : Bool) → not t ≡ true → t ≡ false
not-true true e = absurd (false≢true e)
not-true false e = refl

only_one : (ls : List ℕ) (l : ℕ) → only ls ≡ answer l → ls ≡ l ∷ []
only_one [] l e = refused_no e
only_one (m ∷ []) l e = cc
only_one (m ∷ n ∷ ls) l e = refused_no e

none_left : (ls : List ℕ) → eqb (length ls) 0 ≡ true → ls ≡ []
none_left [] e = refl
none_left (l ∷ ls) e = absurd (omega (arith, eqb-true (length (l ∷ ls)) 0 e))

-- a literal in G: G is 'Γ, l'
pub mem_with : (G : List ℕ) (l : ℕ) → mem l G ≡ true → (Γ : List ℕ) × With l Γ G
unfolding mem
mem_with [] l e = absurd (false≢true e)
mem_with (x ∷ G) l e =
    by_test (eqb l x)
    (λ t. (G, subst (λ (m : ℕ). With l G (m ∷ G)) (eqb-true l x t) here))
    (λ t.
    let r = mem_with G l (rw t at e) in
    (x ∷ r.0, there r.1))

-- a clause with a true literal is 'l ∨ C', with l in G
pub holds_with : (G D : List ℕ) → any_holds G D ≡ true → (l : ℕ) × (C : List ℕ) × With l C D × (mem l G ≡ true)
unfolding any_holds
holds_with G [] e = absurd (false≢true e)
holds_with G (l ∷ D) e =
    by_test (is_holds (value_of G l))
    (λ t. (l, D, here, holds-mem G l (is-holds (value_of G l) t)))
    (λ t.
    let r = holds_with G D (rw t at e) in
    (r.0, l ∷ r.1, there r.2, r.3))

-- an undecided literal joins, and G holds no literal with its negation still
apart-join : (G : List ℕ) (l : ℕ) → value_of G l ≡ undecided → ((m : ℕ) → mem m G ≡ true → mem (neg m) G ≡ false)
    → (m : ℕ) → mem m (l ∷ G) ≡ true → mem (neg m) (l ∷ G) ≡ false
apart-join G l u a m e = go (mem-cases G l m e)
  where
    go : (m ≡ l) ⊎ (mem m G ≡ true) → mem (neg m) (l ∷ G) ≡ false
    go (inl q) = mem_other G l (neg m) (λ z. omega arith) ∙ ap (λ (k : ℕ). mem (neg k) G) q ∙ (undecided_mem G l u).1
    go (inr q) =
        let differ : neg m ≡ l → ⊥ =
        λ z.
        let back : m ≡ neg l = omega arith in
        true≢false (sym q ∙ ap (λ (k : ℕ). mem k G) back ∙ (undecided_mem G l u).1) in
        mem_other G l (neg m) differ ∙ a m q

module _ (expand : ℕ → List (List ℕ)) (goals : List ℕ) where
  -- what is struck stays in the clause list, as an undecided literal joins
  within_join : (b : Branch) (l : ℕ) → value_of b.G l ≡ undecided → Within expand goals b → Within expand goals (join l b)
  within_join b l u w = (
    all_imply (λ k. k < length (clauses expand goals b.G)) (λ k. k < length (clauses expand goals (l ∷ b.G)))
        (λ k h. still_in expand goals b.G l k h) b.struck_clauses w.0,
    all_imply (λ x. x.clause < length (clauses expand goals b.G)) (λ x. x.clause < length (clauses expand goals (l ∷ b.G)))
        (λ x h. still_in expand goals b.G l x.clause h) b.struck_literals w.1,
    apart-join b.G l u w.2,
  )

  -- An instance of the rule r from the sequent of b to those of `news`, the branches that take its place: what is open afterwards is
  -- they and then those that waited
  pub record Fired (r : Rule) (b : Branch) (waiting : List Branch) (p : Progress) : Type 0 where
    pub news : List Branch
    pub after : open_of p ≡ news ++ waiting
    pub fires : Instance neg expand r (sequent_of expand goals b) (map (sequent_of expand goals) news)
    pub within : All (Within expand goals) news

  module _ (nodes : ℕ) (b : Branch) (waiting : List Branch) (w : Within expand goals b) where
    abbrev formula : List (List ℕ)
    formula = standing b 0 (clauses expand goals b.G)

    abbrev rest : ℕ → List ℕ
    rest k = left expand goals nodes b k

    in_list_lem : (k : ℕ) → stands expand goals nodes b k ≡ true → k < length (clauses expand goals b.G)
    in_list_lem k s =
        let t : Bool = ltb k (length (clauses expand goals b.G)) in
        ltb-true k (length (clauses expand goals b.G)) (and_left t (not (mem k b.struck_clauses)) s)

    unstruck-k : (k : ℕ) → stands expand goals nodes b k ≡ true → mem k b.struck_clauses ≡ false
    unstruck-k k s =
        let t : Bool = ltb k (length (clauses expand goals b.G)) in
        not-true (mem k b.struck_clauses) (and_right t (not (mem k b.struck_clauses)) s)

    -- a clause that stands: Δ is the others and it
    clause-with : (k : ℕ) → stands expand goals nodes b k ≡ true
        → With (rest k) (standing (strike_clause k b) 0 (clauses expand goals b.G)) formula
    clause-with k s = struck_clause b 0 k k (clauses expand goals b.G) (omega arith) (in_list_lem k s) (unstruck-k k s)

    fired-U : (k : ℕ) → After (Fired UNIT b waiting) (rule_u expand goals nodes k b waiting)
    unfolding rule_u
    fired-U k =
        after-given (Fired UNIT b waiting) (stands expand goals nodes b k) _
        (λ s. after-only (Fired UNIT b waiting) (rest k) _
        (λ l o. after-given (Fired UNIT b waiting) (is_undecided (value_of b.G l)) _
        (λ u.
        let v : Within expand goals (strike_clause k b) = ((in_list_lem k s, w.0), w.1, w.2) in
        record {
          news = strike_clause k (join l b) ∷ [];
          after = refl;
          fires = rw (standing-join expand goals (strike_clause k b) v l)
              (unit-rule (subst (λ (c : List ℕ). With c (standing (strike_clause k b) 0 (clauses expand goals b.G)) formula)
              (only_one (rest k) l o) (clause-with k s)));
          within = (within_join (strike_clause k b) l (is_undecided_lem (value_of b.G l) u) v, tt);
        })))

    fired-R : (p k : ℕ) → After (Fired RED b waiting) (rule_r expand goals nodes p k b waiting)
    unfolding rule_r
    fired-R p k =
        after-given (Fired RED b waiting) (stands expand goals nodes b k) _
        (λ s. after-given (Fired RED b waiting) (ltb p (length (clause_at expand goals nodes b k))) _
        (λ h. after-given (Fired RED b waiting) (not (among (place k p) b.struck_literals)) _
        (λ n. after-given (Fired RED b waiting) (is_fails (value_of b.G (get_or (clause_at expand goals nodes b k) p 0))) _
        (λ f.
        let c : List ℕ = clause_at expand goals nodes b k in
        let m : ℕ = get_or (clause_at expand goals nodes b k) p 0 in
        let g = mem_with b.G (neg m) (fails_mem b.G m (is_fails_lem (value_of b.G m) f)).1 in
        let d : Branch = strike_literal (place k p) b in
        let x = struck_literal b k 0 p p c (omega arith) (ltb-true p (length c) h) (not-true (among (place k p) b.struck_literals) n) in
        let y = struck_clause d 0 k k (clauses expand goals b.G) (omega arith) (in_list_lem k s) (unstruck-k k s) in
        record {
          news = d ∷ [];
          after = refl;
          fires = red-rule {l = neg m} g.1 (rw (neg-neg m) x) (rw (struck_beside b k p (clauses expand goals b.G)) at y) (clause-with k s);
          within = ((w.0, (in_list_lem k s, w.1), w.2), tt);
        }))))

    fired-E : (k : ℕ) → After (Fired ELIM b waiting) (rule_e expand goals nodes k b waiting)
    unfolding rule_e
    fired-E k =
        after-given (Fired ELIM b waiting) (stands expand goals nodes b k) _
        (λ s. after-given (Fired ELIM b waiting) (any_holds b.G (rest k)) _
        (λ h.
        let x = holds_with b.G (rest k) h in
        let g = mem_with b.G x.0 x.3 in
        record {
          news = strike_clause k b ∷ [];
          after = refl;
          fires = elim-rule g.1 x.2 (clause-with k s);
          within = (((in_list_lem k s, w.0), w.1, w.2), tt);
        }))

    fired-C : (k : ℕ) → After (Fired CONFLICT b waiting) (rule_c expand goals nodes k b waiting)
    unfolding rule_c
    fired-C k =
        after-given (Fired CONFLICT b waiting) (stands expand goals nodes b k) _
        (λ s. after-given (Fired CONFLICT b waiting) (eqb (length (rest k)) 0) _
        (λ e. record {
          news = [];
          after = turned waiting;
          fires = conflict-rule (subst (λ (c : List ℕ). With c (standing (strike_clause k b) 0 (clauses expand goals b.G)) formula)
              (none_left (rest k) e) (clause-with k s));
          within = tt;
        }))
      where
        turned : (ws : List Branch) → open_of (turn ws) ≡ ws
        turned [] = refl
        turned (d ∷ ws) = refl

    fired-S : (l : ℕ) → After (Fired SPLIT b waiting) (rule_s expand goals nodes l b waiting)
    unfolding rule_s
    fired-S l =
        after-given (Fired SPLIT b waiting) (ltb l (2 * nodes)) _
        (λ h. after-given (Fired SPLIT b waiting) (is_undecided (value_of b.G l)) _
        (λ u.
        let v : value_of b.G l ≡ undecided = is_undecided_lem (value_of b.G l) u in
        record {
          news = join l b ∷ join (neg l) b ∷ [];
          after = refl;
          fires = rw (standing-join expand goals b w l, standing-join expand goals b w (neg l)) split-rule;
          within = (within_join b l v w, (within_join b (neg l) (undecided_neg b.G l v) w, tt));
        }))

    fired-cond : (t : Bool) (q r : Rule) (x y : Outcome Progress) → After (Fired q b waiting) x → After (Fired r b waiting) y
        → After (Fired (cond t q r) b waiting) (cond t x y)
    fired-cond true q r x y f g = f
    fired-cond false q r x y f g = g

    fired-apply : (s : Step) → After (Fired (rule_of s) b waiting) (apply expand goals nodes s b waiting)
    unfolding apply rule_of
    fired-apply s =
        fired-cond (eqb s.rule 85) _ _ _ _ (fired-U s.value)
        (fired-cond (eqb s.rule 82) _ _ _ _ (fired-R s.position s.value)
        (fired-cond (eqb s.rule 69) _ _ _ _ (fired-E s.value)
        (fired-cond (eqb s.rule 67) _ _ _ _ (fired-C s.value)
        (fired-S s.value))))

    -- every step that the checker answers is an instance of the rule that its letter names
    pub step-fires : (s : Step) (p : Progress) → apply expand goals nodes s b waiting ≡ answer p → Fired (rule_of s) b waiting p
    step-fires s p e = subst (After (Fired (rule_of s) b waiting)) e (fired-apply s)
