-- What clauses of choices are, and what the clauses of literals are that the choices stand for: clauses of any length. Assumes nothing.
use mathlib.Core.Path.{◌≡◌, refl}
use mathlib.Core.Bool.{Bool, true, false, cond, ◌||◌, false≢true}
use mathlib.Core.List.{List, [], ◌∷◌, map}
use Prim.Native.Nat.{ℕ, suc, ◌≤◌}
use native.Mathlib.Omega.{arith}
use lib.ListN.{length}
use Rattle.calculus.specs.Order.{Value, holds, fails, undecided, value_of, State, met, empty, one, many, joined, state_of, literal_of, literal_at, is_empty, is_one, some, first_of}
use Rattle.calculus.specs.Model.{All}
use Rattle.index.specs.Codes.{state_by, is_open}

-- a state whose literal is the one that a choice stands for
abbrev pub renamed : (ℕ → ℕ) → State → State
renamed ch met = met
renamed ch empty = empty
renamed ch (one k) = one (ch k)
renamed ch (many k) = many (ch k)

joined_renamed : (ch : ℕ → ℕ) (v : Value) (k : ℕ) (s : State) → joined v (ch k) (renamed ch s) ≡ renamed ch (joined v k s)
joined_renamed ch holds k s = refl
joined_renamed ch fails k s = refl
joined_renamed ch undecided k met = refl
joined_renamed ch undecided k empty = refl
joined_renamed ch undecided k (one m) = refl
joined_renamed ch undecided k (many m) = refl

module _ (G : List ℕ) (f : ℕ → Value) (ch : ℕ → ℕ) where
  -- each choice has the value of its literal
  abbrev pub Right : ℕ → Type 0
  Right k = value_of G (ch k) ≡ f k

  state_renamed : (c : List ℕ) → All Right c → state_of G (map ch c) ≡ renamed ch (state_by f c)
  unfolding state_of state_by
  state_renamed [] a = refl
  state_renamed (k ∷ c) a = rw (a.0, state_renamed c a.1) (joined_renamed ch (f k) k (state_by f c))

  pub states_renamed : (cs : List (List ℕ)) → All (All Right) cs → map (state_of G) (map (map ch) cs) ≡ map (renamed ch) (map (state_by f) cs)
  states_renamed [] a = refl
  states_renamed (c ∷ cs) a = rw (state_renamed c a.0, states_renamed cs a.1)

-- ---- tests and firsts

pub one_kept : (ch : ℕ → ℕ) (s : State) → is_one (renamed ch s) ≡ is_one s
one_kept ch met = refl
one_kept ch empty = refl
one_kept ch (one k) = refl
one_kept ch (many k) = refl

pub empty-kept : (ch : ℕ → ℕ) (s : State) → is_empty (renamed ch s) ≡ is_empty s
empty-kept ch met = refl
empty-kept ch empty = refl
empty-kept ch (one k) = refl
empty-kept ch (many k) = refl

pub open_kept : (ch : ℕ → ℕ) (s : State) → is_open (renamed ch s) ≡ is_open s
open_kept ch met = refl
open_kept ch empty = refl
open_kept ch (one k) = refl
open_kept ch (many k) = refl

-- a unit is open, and an open clause names a literal
pub one_open : (s : State) → is_one s ≡ true → is_open s ≡ true
one_open s e = rw e

open_named : (ch : ℕ → ℕ) (s : State) → is_open s ≡ true → literal_of (renamed ch s) ≡ ch (literal_of s)
open_named ch met e = absurd (false≢true e)
open_named ch empty e = absurd (false≢true e)
open_named ch (one k) e = refl
open_named ch (many k) e = refl

-- the first that passes a test is at most as far as there are states
pub first_most : (p : State → Bool) (ss : List State) → first_of p ss ≤ length ss
unfolding first_of
first_most p [] = omega arith
first_most p (s ∷ ss) = go (p s) (first_most p ss)
  where
    go : (t : Bool) → first_of p ss ≤ length ss → cond t 0 (suc (first_of p ss)) ≤ suc (length ss)
    go true r = omega arith
    go false r = omega arith

module _ (p : State → Bool) (opens : (s : State) → p s ≡ true → is_open s ≡ true) where
  -- what the literals of the open states have, that of the first that passes has
  pub first_has : (P : ℕ → Type 0) (ss : List State) → All (λ s. is_open s ≡ true → P (literal_of s)) ss → some p ss ≡ true → P (literal_at ss (first_of p ss))
  unfolding some first_of
  first_has P [] a e = absurd (false≢true e)
  first_has P (s ∷ ss) a e = go (p s) refl e (first_has P ss a.1)
    where
      go : (t : Bool) → p s ≡ t → t || some p ss ≡ true → (some p ss ≡ true → P (literal_at ss (first_of p ss)))
          → P (literal_at (s ∷ ss) (cond t 0 (suc (first_of p ss))))
      go true q h r = a.0 (opens s q)
      go false q h r = r h

module _ (ch : ℕ → ℕ) (p : State → Bool) (kept : (s : State) → p (renamed ch s) ≡ p s) where
  pub some_renamed : (ss : List State) → some p (map (renamed ch) ss) ≡ some p ss
  unfolding some
  some_renamed [] = refl
  some_renamed (s ∷ ss) = rw (kept s, some_renamed ss)

  pub first_renamed : (ss : List State) → first_of p (map (renamed ch) ss) ≡ first_of p ss
  unfolding first_of
  first_renamed [] = refl
  first_renamed (s ∷ ss) = rw (kept s, first_renamed ss)

  -- the literal of the first that passes
  pub literal_renamed : ((s : State) → p s ≡ true → is_open s ≡ true) → (ss : List State) → some p ss ≡ true
      → literal_at (map (renamed ch) ss) (first_of p ss) ≡ ch (literal_at ss (first_of p ss))
  unfolding some first_of
  literal_renamed opens [] e = absurd (false≢true e)
  literal_renamed opens (s ∷ ss) e = go (p s) refl e (literal_renamed opens ss)
    where
      go : (t : Bool) → p s ≡ t → t || some p ss ≡ true
          → (some p ss ≡ true → literal_at (map (renamed ch) ss) (first_of p ss) ≡ ch (literal_at ss (first_of p ss)))
          → literal_at (renamed ch s ∷ map (renamed ch) ss) (cond t 0 (suc (first_of p ss))) ≡ ch (literal_at (s ∷ ss) (cond t 0 (suc (first_of p ss))))
      go true q h r = open_named ch s (opens s q)
      go false q h r = r h

-- the literal of an open clause is one of its choices
module _ (P : ℕ → Type 0) (f : ℕ → Value) where
  joined_has : (v : Value) (k : ℕ) (s : State) → P k → (is_open s ≡ true → P (literal_of s)) → is_open (joined v k s) ≡ true → P (literal_of (joined v k s))
  joined_has holds k s a r e = absurd (false≢true e)
  joined_has fails k s a r e = r e
  joined_has undecided k met a r e = absurd (false≢true e)
  joined_has undecided k empty a r e = a
  joined_has undecided k (one m) a r e = a
  joined_has undecided k (many m) a r e = a

  pub state_has : (c : List ℕ) → All P c → is_open (state_by f c) ≡ true → P (literal_of (state_by f c))
  unfolding state_by
  state_has [] a e = absurd (false≢true e)
  state_has (k ∷ c) a e = joined_has (f k) k (state_by f c) a.0 (state_has c a.1) e
