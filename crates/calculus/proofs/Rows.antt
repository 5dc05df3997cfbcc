-- Laws of the clause templates, by their rows: tests that are run at every row. No clause's length is looked at. Assumes nothing.
use mathlib.Core.Path.{◌≡◌, refl, ap, ◌∙◌}
use mathlib.Core.List.{List, [], ◌∷◌}
use mathlib.Core.Bool.{Bool, true, false, cond, not, ◌&&◌, ◌||◌, beq, false≢true}
use Prim.Native.Nat.{ℕ, zero, suc, ◌+◌, ◌*◌, ◌/◌, ◌%◌, ◌<◌}
use native.Mathlib.Omega.{arith}
use native.Mathlib.Decide.{ℕ_discrete}
use lib.Dec.{eqb, ltb}
use lib.ListN.{length, get_or}
use borrow.Author.Tests.{ne_eqb, ltb-true}
use Rattle.scope.specs.declared.Truth.{Truth}
use Rattle.scope.specs.declared.Truth.TheVariants.{Yes, No, Unknown}
use Rattle.scope.specs.Table.{arity}
use Rattle.scope.specs.Truth.{Logic, joined, classical}
use Rattle.scope.specs.Kleene.{kleene}
use Rattle.scope.proofs.Tests.{and_left, and_right}
use Rattle.calculus.specs.Expansion.{templates}
use Rattle.calculus.specs.Model.{All}
use Rattle.calculus.proofs.Lists.{any, every, every_all, all_imply}

-- ---- tests at every number below n, at every truth, and at every list of truths

abbrev every_below : (ℕ → Bool) → ℕ → Bool
every_below p zero = true
every_below p (suc n) = p n && every_below p n

below_at : (p : ℕ → Bool) (n : ℕ) → every_below p n ≡ true → (i : ℕ) → i < n → p i ≡ true
below_at p zero e i h = absurd (omega arith)
below_at p (suc n) e i h = go (ℕ_discrete i n) (below_at p n (and_right (p n) (every_below p n) e) i)
  where
    go : Dec (i ≡ n) → (i < n → p i ≡ true) → p i ≡ true
    go (yes q) r = ap p q ∙ and_left (p n) (every_below p n) e
    go (no q) r = r (omega arith)

abbrev both : (Bool → Bool) → Bool
both p = p true && p false

both_at : (p : Bool → Bool) → both p ≡ true → (b : Bool) → p b ≡ true
both_at p e true = and_left (p true) (p false) e
both_at p e false = and_right (p true) (p false) e

abbrev each : (Truth → Bool) → Bool
each p = p Yes && (p No && p Unknown)

each_at : (p : Truth → Bool) → each p ≡ true → (x : Truth) → p x ≡ true
each_at p e Yes = and_left (p Yes) (p No && p Unknown) e
each_at p e No = and_left (p No) (p Unknown) (and_right (p Yes) (p No && p Unknown) e)
each_at p e Unknown = and_right (p No) (p Unknown) (and_right (p Yes) (p No && p Unknown) e)

-- every list of a length, where `all` tests every element
abbrev lists : {A : Type 0} → ((A → Bool) → Bool) → (List A → Bool) → ℕ → Bool
lists all p zero = p []
lists all p (suc k) = all (λ x. lists all (λ xs. p (x ∷ xs)) k)

lists_at : {A : Type 0} (all : (A → Bool) → Bool) → ((p : A → Bool) → all p ≡ true → (x : A) → p x ≡ true)
    → (p : List A → Bool) (k : ℕ) → lists all p k ≡ true → (xs : List A) → length xs ≡ k → p xs ≡ true
lists_at all all_at p zero e [] h = e
lists_at all all_at p zero e (x ∷ xs) h = absurd (omega arith)
lists_at all all_at p (suc k) e [] h = absurd (omega arith)
lists_at all all_at p (suc k) e (x ∷ xs) h =
    lists_at all all_at (λ xs. p (x ∷ xs)) k (all_at (λ x. lists all (λ xs. p (x ∷ xs)) k) e x) xs (omega arith)

same : (a b : Bool) → beq a b ≡ true → a ≡ b
same true true e = refl
same true false e = absurd (false≢true e)
same false true e = absurd (false≢true e)
same false false e = refl

-- ---- rows

-- the clause templates of a kind and a sign
abbrev pub row_of : ℕ → ℕ → List (List ℕ)
row_of kind sign = get_or templates (2 * kind + sign) []

module _ {A : Type 0} (L : Logic A) where
  -- the truth of a literal of a sign, where its node's is x
  abbrev pub signed : ℕ → A → A
  signed sign x = cond (eqb sign 0) x (L.opposite x)

  -- an operand choice's truth, where xs are the operands'
  abbrev pub choice : List A → ℕ → A
  choice xs c = signed (c % 2) (get_or xs (c / 2) L.none)

  -- whether each clause of a row has a choice that passes a test
  abbrev pub row_has : (A → Bool) → ℕ → ℕ → List A → Bool
  row_has p kind sign xs = every (any (λ c. p (choice xs c))) (row_of kind sign)

  -- the truth of a node that is no ATOM
  abbrev pub demand : ℕ → List A → A
  demand kind xs = cond (eqb kind 1) L.yes (joined L kind xs)

-- a test of every kind and both signs. There is no kind 0, and an ATOM has no clauses
abbrev kinds_ok : (ℕ → ℕ → Bool) → Bool
kinds_ok p = every_below (λ kind. eqb kind 0 || (eqb kind 2 || every_below (p kind) 2)) 9

kinds_at : (p : ℕ → ℕ → Bool) → kinds_ok p ≡ true → (kind sign : ℕ) → (0 < kind) × (kind < 9) → (kind ≡ 2 → ⊥) → sign < 2 → p kind sign ≡ true
kinds_at p e kind sign h k s =
    let f : every_below (p kind) 2 ≡ true =
    rw (ne_eqb kind 0 (λ q. omega arith), ne_eqb kind 2 k) at (below_at (λ kind. eqb kind 0 || (eqb kind 2 || every_below (p kind) 2)) 9 e kind h.1) in
    below_at (p kind) 2 f sign s

-- ---- two values: the clauses of a literal are true exactly where it is

abbrev pub row_true : ℕ → ℕ → List Bool → Bool
row_true = row_has classical (λ b. b)

abbrev row_same : ℕ → ℕ → List Bool → Bool
row_same kind sign xs = beq (row_true kind sign xs) (signed classical sign (demand classical kind xs))

abbrev rows_same : ℕ → ℕ → Bool
rows_same kind sign = lists both (row_same kind sign) (arity kind)

rows_same_lem : kinds_ok rows_same ≡ true
unfolding templates joined arity
rows_same_lem = refl

pub row_true_lem : (kind sign : ℕ) → (0 < kind) × (kind < 9) → (kind ≡ 2 → ⊥) → sign < 2 → (xs : List Bool) → length xs ≡ arity kind
    → row_true kind sign xs ≡ signed classical sign (demand classical kind xs)
row_true_lem kind sign h k s xs e =
    same (row_true kind sign xs) (signed classical sign (demand classical kind xs))
    (lists_at both both_at (row_same kind sign) (arity kind) (kinds_at rows_same rows_same_lem kind sign h k s) xs e)

-- ---- Kleene's tables: where each clause of a literal has a literal that is yes, so is its own

abbrev pub is_yes : Truth → Bool
is_yes Yes = true
is_yes No = false
is_yes Unknown = false

is-yes : (x : Truth) → is_yes x ≡ true → x ≡ Yes
is-yes Yes e = refl
is-yes No e = absurd (false≢true e)
is-yes Unknown e = absurd (false≢true e)

abbrev row_says : ℕ → ℕ → List Truth → Bool
row_says kind sign xs = not (row_has kleene is_yes kind sign xs) || is_yes (signed kleene sign (demand kleene kind xs))

abbrev rows_say : ℕ → ℕ → Bool
rows_say kind sign = lists each (row_says kind sign) (arity kind)

rows_say_lem : kinds_ok rows_say ≡ true
unfolding templates joined arity
rows_say_lem = refl

then : (a b : Bool) → (not a || b) ≡ true → a ≡ true → b ≡ true
then true b e q = e
then false b e q = absurd (false≢true q)

pub row_yes : (kind sign : ℕ) → (0 < kind) × (kind < 9) → (kind ≡ 2 → ⊥) → sign < 2 → (xs : List Truth) → length xs ≡ arity kind
    → row_has kleene is_yes kind sign xs ≡ true → signed kleene sign (demand kleene kind xs) ≡ Yes
row_yes kind sign h k s xs z e =
    let y : Truth = signed kleene sign (demand kleene kind xs) in
    is-yes y (then (row_has kleene is_yes kind sign xs) (is_yes y)
    (lists_at each each_at (row_says kind sign) (arity kind) (kinds_at rows_say rows_say_lem kind sign h k s) xs z) e)

-- ---- choices

-- an ATOM's literals have no clauses
pub row_atom : (sign : ℕ) → sign < 2 → row_of 2 sign ≡ []
unfolding templates
row_atom zero h = refl
row_atom (suc zero) h = refl
row_atom (suc (suc sign)) h = absurd (omega arith)

-- each choice of a row is of an operand
abbrev pub Within : ℕ → ℕ → Type 0
Within kind c = c / 2 < arity kind

abbrev within : ℕ → ℕ → Bool
within kind c = ltb (c / 2) (arity kind)

abbrev row_within : ℕ → ℕ → Bool
row_within kind sign = every (every (within kind)) (row_of kind sign)

rows_within : every_below (λ kind. every_below (row_within kind) 2) 9 ≡ true
unfolding templates arity
rows_within = refl

pub row_within_lem : (kind sign : ℕ) → kind < 9 → sign < 2 → All (All (Within kind)) (row_of kind sign)
row_within_lem kind sign k s =
    all_imply (λ c. every (within kind) c ≡ true) (All (Within kind))
    (λ c e. all_imply (λ m. within kind m ≡ true) (Within kind) (λ m. ltb-true (m / 2) (arity kind)) c (every_all (within kind) c e)) (row_of kind sign)
    (every_all (every (within kind)) (row_of kind sign)
    (below_at (row_within kind) 2 (below_at (λ kind. every_below (row_within kind) 2) 9 rows_within kind k) sign s))
