-- The clauses of a body, word by word. Assumes nothing.
use mathlib.Core.Path.{◌≡◌, ◌∙◌, ap, sym, refl}
use mathlib.Core.List.{List, [], ◌∷◌, ◌++◌}
use mathlib.Core.Bool.{Bool, true, false, not}
use Prim.Native.Nat.{ℕ, ◌+◌}
use native.Mathlib.Nat.{add-zero}
use native.Mathlib.Omega.{arith}
use lib.ListN.{length, drop}
use Rattle.scope.specs.Outcome.{Outcome, answer, refused, ◌>>=◌}
use Rattle.cnf.specs.declared.Word.TheVariants.{Malformed, End, Literal}
use Rattle.cnf.specs.Text.{words, is_empty, clauses_from}
use Rattle.cnfwords.specs.Words.{Next}

-- nothing is left: the clause under way is empty, or not ended
module _ (vars : ℕ) (text : List ℕ) (at : ℕ) (c : List ℕ) (e : words (drop at text) ≡ []) where
  pub clauses_done : is_empty c ≡ true → clauses_from vars c (words (drop at text)) ≡ answer []
  unfolding clauses_from
  clauses_done q = rw (e, q)

  pub clauses_open : is_empty c ≡ false → clauses_from vars c (words (drop at text)) ≡ refused 61 0
  unfolding clauses_from
  clauses_open q = rw (e, q)

module _ {vars : ℕ} {text : List ℕ} {at : ℕ} (c : List ℕ) where
  -- a malformed word
  pub clauses_bad : {next : ℕ} → Next vars text at Malformed next → clauses_from vars c (words (drop at text)) ≡ refused 61 0
  unfolding clauses_from
  clauses_bad n = rw (n.first, n.says)

  -- a clause ends
  pub clauses_end : {next : ℕ} → Next vars text at End next
      → clauses_from vars c (words (drop at text)) ≡ (clauses_from vars [] (words (drop next text)) >>= λ cs. answer (c ∷ cs))
  unfolding clauses_from
  clauses_end n = rw (n.first, n.says)

  -- a literal joins the clause
  pub clauses_literal : {l next : ℕ} → Next vars text at (Literal l) next
      → clauses_from vars c (words (drop at text)) ≡ clauses_from vars (c ++ l ∷ []) (words (drop next text))
  unfolding clauses_from
  clauses_literal n = rw (n.first, n.says)

-- at a place of a body the clauses ended so far are counted, and c of the next has been read
pub record Counted (vars : ℕ) (text : List ℕ) (from at : ℕ) (inside : Bool) (n : ℕ) : Type 0 where
  pub c : List ℕ
  pub under : is_empty c ≡ not inside
  pub same : (clauses_from vars c (words (drop at text)) >>= λ cs. answer (n + length cs)) ≡ (clauses_from vars [] (words (drop from text)) >>= λ cs. answer (length cs))

-- one clause more is counted
count_more : (o : Outcome (List (List ℕ))) (c : List ℕ) (n : ℕ)
    → (o >>= (λ cs. answer (c ∷ cs)) >>= λ cs. answer (n + length cs)) ≡ (o >>= λ cs. answer (n + 1 + length cs))
count_more (answer cs) c n = ap answer (omega arith)
count_more (refused number place) c n = refl

joined : (c : List ℕ) (l : ℕ) → is_empty (c ++ l ∷ []) ≡ false
joined [] l = refl
joined (x ∷ c) l = refl

none-counted : (o : Outcome (List (List ℕ))) → (o >>= λ cs. answer (0 + length cs)) ≡ (o >>= λ cs. answer (length cs))
none-counted (answer cs) = ap answer (omega arith)
none-counted (refused number place) = refl

pub counted_none : (vars : ℕ) (text : List ℕ) (from : ℕ) → Counted vars text from from false 0
counted_none vars text from = record { c = []; under = refl; same = none-counted (clauses_from vars [] (words (drop from text))) }

module _ {vars : ℕ} {text : List ℕ} {from at : ℕ} {inside : Bool} {n : ℕ} (k : Counted vars text from at inside n) where
  pub counted-end : {next : ℕ} → Next vars text at End next → Counted vars text from next false (n + 1)
  counted-end {next} e = record {
    c = [];
    under = refl;
    same =
        sym (count_more (clauses_from vars [] (words (drop next text))) k.c n)
        ∙ ap (λ (o : Outcome (List (List ℕ))). o >>= λ cs. answer (n + length cs)) (sym (clauses_end k.c e))
        ∙ k.same;
  }

  pub counted_literal : {l next : ℕ} → Next vars text at (Literal l) next → Counted vars text from next true n
  counted_literal {l} {next} e = record {
    c = k.c ++ l ∷ [];
    under = joined k.c l;
    same = ap (λ (o : Outcome (List (List ℕ))). o >>= λ cs. answer (n + length cs)) (sym (clauses_literal k.c e)) ∙ k.same;
  }

  -- the answers
  whole : {o : Outcome (List (List ℕ))} → clauses_from vars k.c (words (drop at text)) ≡ o
      → (o >>= λ cs. answer (n + length cs)) ≡ (clauses_from vars [] (words (drop from text)) >>= λ cs. answer (length cs))
  whole e = ap (λ (o : Outcome (List (List ℕ))). o >>= λ cs. answer (n + length cs)) (sym e) ∙ k.same

  pub counted-done : words (drop at text) ≡ [] → inside ≡ false → answer n ≡ (clauses_from vars [] (words (drop from text)) >>= λ cs. answer (length cs))
  counted-done e q = ap answer (sym (add-zero n)) ∙ whole (clauses_done vars text at k.c e (k.under ∙ ap not q))

  pub counted_open : words (drop at text) ≡ [] → inside ≡ true → refused 61 0 ≡ (clauses_from vars [] (words (drop from text)) >>= λ cs. answer (length cs))
  counted_open e q = whole (clauses_open vars text at k.c e (k.under ∙ ap not q))

  pub counted_bad : {next : ℕ} → Next vars text at Malformed next → refused 61 0 ≡ (clauses_from vars [] (words (drop from text)) >>= λ cs. answer (length cs))
  counted_bad e = whole (clauses_bad k.c e)
