-- What a text that is answered fulfils, and how one is turned away. Assumes nothing.
use mathlib.Core.Path.{◌≡◌, ◌∙◌, sym, refl}
use mathlib.Core.List.{List, [], ◌∷◌, ◌++◌}
use mathlib.Core.Logic.{◌⊎◌, inl, inr, ⊎_elim}
use mathlib.Core.Bool.{true, false, ◌&&◌, false≢true}
use Prim.Native.Nat.{ℕ, ◌+◌, ◌-◌, ◌*◌, ◌<◌, ◌≤◌}
use native.Mathlib.Omega.{arith}
use lib.Dec.{eqb, leb, ltb}
use lib.ListN.{length, get_or, drop}
use borrow.Author.Tests.{eqb-true, eqb-false, leb-true, ltb-true}
use Rattle.scope.specs.Outcome.{Outcome, answer}
use Rattle.codec.proofs.Rows.{both, by_test}
use Rattle.cnf.specs.declared.Word.{Word}
use Rattle.cnf.specs.declared.Word.TheVariants.{Malformed, End, Literal}
use Rattle.cnf.specs.Text.{behind_comments, starts_with, behind, digits, few, value_from, counted, Heading, opening, space, feed, heading, words, all_digits, numeral, positive, negative, word_of, is_empty, by_word, clauses_from, File, file_of}
use Rattle.cnf.specs.Fold.{holds}
use Rattle.cnf.proofs.Outcomes.{Ends, ends_on, ends_row}
use Rattle.cnf.proofs.Clauses.{or_cases, holds_more}
use Rattle.cnf.proofs.Builds.{Below, AllBelow}

-- nothing is claimed
abbrev Any : {A : Type 0} → A → Type 0
Any a = Unit {0}

-- 60 and 61 have place 0
abbrev pub Turned : ℕ → ℕ → Type 0
Turned number place = ((number ≡ 60) ⊎ (number ≡ 61)) × (place ≡ 0)

sixty : Turned 60 0
sixty = (inl refl, refl)

-- what must come next in the heading, and a number of it
behind_ends : (xs t : List ℕ) → Ends Turned Any (behind xs t)
behind_ends xs t = ends_row Turned Any (starts_with xs t) 60 0 (answer (drop (length xs) t)) sixty (λ e. tt)

counted_ends : (xs t : List ℕ) → Ends Turned Any (counted xs t)
counted_ends xs t =
    ends_row Turned Any (few (digits t)) 60 0 _ sixty
    (λ e. ends_on Turned Any Any (behind xs (drop (length (digits t)) t)) _ (behind_ends xs (drop (length (digits t)) t)) (λ rest p. tt))

-- a heading that is answered: V is at most 1,024
abbrev Few : Heading → Type 0
Few h = h.variables ≤ 1024

heading_ends : (t : List ℕ) → Ends Turned Few (heading t)
unfolding heading
heading_ends t =
    ends_on Turned Any Few (behind opening t) _ (behind_ends opening t)
    (λ rest p. ends_on Turned Any Few (counted space rest) _ (counted_ends space rest)
    (λ v q. ends_on Turned Any Few (counted feed v.rest) _ (counted_ends feed v.rest)
    (λ c r. ends_row Turned Few (leb v.value 1024) 60 0 _ sixty (λ e. leb-true v.value 1024 e))))

-- a word that says a literal: of a variable up to V
abbrev LiteralBelow : ℕ → Word → Type 0
LiteralBelow vars Malformed = Unit {0}
LiteralBelow vars End = Unit {0}
LiteralBelow vars (Literal l) = l < 2 * vars

numeral_most : (vars : ℕ) (w : List ℕ) → numeral vars w ≡ true → value_from 0 w ≤ vars
numeral_most vars w e = leb-true (value_from 0 w) vars (both (all_digits w) _ (both (few w) _ e).1).1

positive_below : (vars : ℕ) (w : List ℕ) → LiteralBelow vars (positive vars w)
unfolding positive
positive_below vars w =
    by_test (numeral vars w)
    (λ e. by_test (eqb (value_from 0 w) 0)
    (λ z. rw (e, z) tt)
    (λ z. rw (e, z) (omega (arith, numeral_most vars w e, eqb-false (value_from 0 w) 0 z))))
    (λ e. rw e tt)

negative_below : (vars : ℕ) (w : List ℕ) → LiteralBelow vars (negative vars w)
unfolding negative
negative_below vars w =
    by_test (numeral vars w && ltb 0 (value_from 0 w))
    (λ e.
    let p = both (numeral vars w) (ltb 0 (value_from 0 w)) e in
    rw e (omega (arith, numeral_most vars w p.0, ltb-true 0 (value_from 0 w) p.1)))
    (λ e. rw e tt)

word_below : (vars : ℕ) (w : List ℕ) → LiteralBelow vars (word_of vars w)
unfolding word_of
word_below vars w =
    by_test (eqb (get_or w 0 0) 45)
    (λ e. rw e (negative_below vars (drop 1 w)))
    (λ e. rw e (positive_below vars w))

pub word_literal : (vars : ℕ) (w : List ℕ) {l : ℕ} → word_of vars w ≡ Literal l → l < 2 * vars
word_literal vars w e = rw e at (word_below vars w)

-- one literal more
below_more : (vars l : ℕ) (c : List ℕ) → Below vars c → l < 2 * vars → Below vars (c ++ l ∷ [])
below_more vars l c b h x e =
    ⊎_elim (λ q. b x q) (λ q. rw (← eqb-true l x q) h) (or_cases (holds x c) (eqb l x) (sym (holds_more x l c) ∙ e))

below_none : (vars : ℕ) → Below vars []
unfolding holds
below_none vars x e = absurd (false≢true e)

-- clauses that are answered: each literal of a variable up to V
sixty_one : Turned 61 0
sixty_one = (inr refl, refl)

by_word_ends : (vars : ℕ) (w : Word) (more : ℕ → Outcome (List (List ℕ))) (end : Outcome (List (List ℕ))) → LiteralBelow vars w
    → ((l : ℕ) → l < 2 * vars → Ends Turned (AllBelow vars) (more l)) → Ends Turned (AllBelow vars) end → Ends Turned (AllBelow vars) (by_word w more end)
by_word_ends vars Malformed more end b f e = sixty_one
by_word_ends vars End more end b f e = e
by_word_ends vars (Literal l) more end b f e = f l b

clauses_ends : (vars : ℕ) (ws : List (List ℕ)) (c : List ℕ) → Below vars c → Ends Turned (AllBelow vars) (clauses_from vars c ws)
unfolding clauses_from
clauses_ends vars [] c b = ends_row Turned (AllBelow vars) (is_empty c) 61 0 (answer []) sixty_one (λ e. tt)
clauses_ends vars (w ∷ ws) c b =
    by_word_ends vars (word_of vars w) _ _ (word_below vars w)
    (λ l h. clauses_ends vars ws (c ++ l ∷ []) (below_more vars l c b h))
    (ends_on Turned (AllBelow vars) (AllBelow vars) (clauses_from vars [] ws) (λ cs. answer (c ∷ cs)) (clauses_ends vars ws [] (below_none vars)) (λ cs p. (b, p)))

-- a file: at most 1,024 variables, and literals of these
pub record Proper (f : File) : Type 0 where
  pub few : f.variables ≤ 1024
  pub below : AllBelow f.variables f.clauses

pub file_ends : (text : List ℕ) → Ends Turned Proper (file_of text)
unfolding file_of
file_ends text =
    ends_on Turned Few Proper (heading (behind_comments false text)) _ (heading_ends (behind_comments false text))
    (λ h p. ends_on Turned (AllBelow h.variables) Proper (clauses_from h.variables [] (words h.body)) _ (clauses_ends h.variables (words h.body) [] (below_none h.variables))
    (λ cs q. ends_row Turned Proper (eqb (length cs) h.clauses) 61 0 _ sixty_one (λ e. record { few = p; below = q })))
