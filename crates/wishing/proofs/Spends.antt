-- An allowance spent on a list of subsets: what k, u and the questions are. Assumes nothing.
use mathlib.Core.Path.{◌≡◌, refl, ap, ◌∙◌}
use mathlib.Core.Logic.{◌⊎◌, inl, inr}
use mathlib.Core.List.{List, [], ◌∷◌, ◌++◌}
use Prim.Native.Nat.{ℕ, zero, suc, ◌^◌, ◌<◌, ◌≤◌}
use native.Mathlib.Omega.{arith}
use native.Mathlib.Decide.{dec_le}
use lib.ListN.{length, get_or, length-append}
use Rattle.calculus.specs.Order.{Answer, possible, impossible, unfinished}
use Rattle.calculus.specs.Model.{All}
use Rattle.calculus.proofs.Lists.{all_append, all_left, all_right, all_imply}
use Rattle.questions.specs.Indices.{Rising}
use Rattle.wishing.specs.Wish.{subsets, queries, Wished, after, spend}
use Rattle.wishing.proofs.Subsets.{subsets_rise, total, total_all}

-- ---- the subsets in order

-- sizes fall
abbrev pub Falling : List (List ℕ) → Type 0
Falling [] = Unit {0}
Falling (q ∷ qs) = All (λ x. length x ≤ length q) qs × Falling qs

falling_append : (b : ℕ) (xs ys : List (List ℕ)) → All (λ q. length q ≡ b) xs → All (λ q. length q ≤ b) ys → Falling ys → Falling (xs ++ ys)
falling_append b [] ys e l f = f
falling_append b (x ∷ xs) ys e l f = (
  all_append (λ q. length q ≤ length x) xs ys
      (all_imply (λ q. length q ≡ b) (λ q. length q ≤ length x) (λ q z. omega (arith, e.0)) xs e.1)
      (all_imply (λ q. length q ≤ b) (λ q. length q ≤ length x) (λ q z. omega (arith, e.0)) ys l),
  falling_append b xs ys e.1 l f,
)

-- a query of size s or less, not empty, of the wishes there are
pub record Query (w s : ℕ) (q : List ℕ) : Type 0 where
  pub rising : Rising 0 w q
  pub low : 0 < length q
  pub high : length q ≤ s

module _ (w : ℕ) where
  abbrev sized : (s : ℕ) → All (λ q. Rising 0 w q × (length q ≡ s)) (subsets 0 w s)
  sized s = subsets_rise 0 w s w (omega arith)

  pub queries_fit : (s : ℕ) → All (Query w s) (queries w s)
  unfolding queries
  queries_fit zero = tt
  queries_fit (suc s) =
      all_append (Query w (suc s)) (subsets 0 w (suc s)) (queries w s)
      (all_imply (λ q. Rising 0 w q × (length q ≡ suc s)) (Query w (suc s))
      (λ q r. record { rising = r.0; low = omega (arith, r.1); high = omega (arith, r.1) }) (subsets 0 w (suc s)) (sized (suc s)))
      (all_imply (Query w s) (Query w (suc s)) (λ q r. record { rising = r.rising; low = r.low; high = omega (arith, r.high) }) (queries w s) (queries_fit s))

  pub queries_fall : (s : ℕ) → Falling (queries w s)
  unfolding queries
  queries_fall zero = tt
  queries_fall (suc s) =
      falling_append (suc s) (subsets 0 w (suc s)) (queries w s)
      (all_imply (λ q. Rising 0 w q × (length q ≡ suc s)) (λ q. length q ≡ suc s) (λ q r. r.1) (subsets 0 w (suc s)) (sized (suc s)))
      (all_imply (Query w s) (λ q. length q ≤ suc s) (λ q r. omega (arith, r.high)) (queries w s) (queries_fit s))
      (queries_fall s)

  -- those of each size are among them
  pub queries_size : (P : List ℕ → Type 0) (t s : ℕ) → All P (queries w t) → 0 < s → s ≤ t → All P (subsets 0 w s)
  unfolding queries
  queries_size P zero s a l h = absurd (omega arith)
  queries_size P (suc t) s a l h = go (dec_le s t) (queries_size P t s (all_right P (subsets 0 w (suc t)) (queries w t) a) l)
    where
      go : Dec (s ≤ t) → (s ≤ t → All P (subsets 0 w s)) → All P (subsets 0 w s)
      go (yes z) f = f z
      go (no z) f =
          let e : suc t ≡ s = omega arith in
          rw e at (all_left P (subsets 0 w (suc t)) (queries w t) a)

  -- .. and how many they are
  queries-total : (s : ℕ) → suc (length (queries w s)) ≡ total 0 w s
  unfolding queries subsets
  queries-total zero = refl
  queries-total (suc s) = omega (arith, length-append (subsets 0 w (suc s)) (queries w s), queries-total s)

  pub queries-count : suc (length (queries w w)) ≡ 2 ^ w
  queries-count = queries-total w ∙ total_all 0 w w (omega arith)

-- ---- an allowance

module _ (ask : List ℕ → Answer) (first : List ℕ) where
  abbrev spent : ℕ → List (List ℕ) → Wished
  spent m qs = spend ask first m qs

  -- 'the questions put, which never exceed the allowance'
  pub questions_most : (m : ℕ) (qs : List (List ℕ)) → (spent m qs).questions ≤ m
  unfolding spend
  questions_most m [] = omega arith
  questions_most zero (q ∷ qs) = omega arith
  questions_most (suc m) (q ∷ qs) = go (ask q) (questions_most m qs)
    where
      go : (x : Answer) → (spent m qs).questions ≤ m → (after x (length q) (spent m qs)).questions ≤ suc m
      go (possible G) r = omega arith
      go impossible r = omega arith
      go unfinished r = omega arith

  -- 'Stop when k = u or the allowance is spent'
  pub stops : (m : ℕ) (qs : List (List ℕ)) → ((spent m qs).k ≡ (spent m qs).u) ⊎ ((spent m qs).questions ≡ m)
  unfolding spend
  stops m [] = inl refl
  stops zero (q ∷ qs) = inr refl
  stops (suc m) (q ∷ qs) = go (ask q) (stops m qs)
    where
      go : (x : Answer) → ((spent m qs).k ≡ (spent m qs).u) ⊎ ((spent m qs).questions ≡ m)
          → ((after x (length q) (spent m qs)).k ≡ (after x (length q) (spent m qs)).u) ⊎ ((after x (length q) (spent m qs)).questions ≡ suc m)
      go (possible G) r = inl refl
      go impossible (inl e) = inl e
      go impossible (inr e) = inr (ap suc e)
      go unfinished (inl e) = inl e
      go unfinished (inr e) = inr (ap suc e)

  -- '.. and not sooner': at every allowance below the questions put, it is spent and k < u
  pub not_sooner : (m l : ℕ) (qs : List (List ℕ)) → All (λ q. 0 < length q) qs → l < (spent m qs).questions
      → ((spent l qs).questions ≡ l) × ((spent l qs).k < (spent l qs).u)
  unfolding spend
  not_sooner m l [] a h = absurd (omega arith)
  not_sooner zero l (q ∷ qs) a h = absurd (omega arith)
  not_sooner (suc m) zero (q ∷ qs) a h = (refl, a.0)
  not_sooner (suc m) (suc l) (q ∷ qs) a h = go (ask q) h (not_sooner m l qs a.1)
    where
      go : (x : Answer) → suc l < (after x (length q) (spent m qs)).questions
          → (l < (spent m qs).questions → ((spent l qs).questions ≡ l) × ((spent l qs).k < (spent l qs).u))
          → ((after x (length q) (spent l qs)).questions ≡ suc l) × ((after x (length q) (spent l qs)).k < (after x (length q) (spent l qs)).u)
      go (possible G) h r = absurd (omega arith)
      go impossible h r = let s = r (omega arith) in (ap suc s.0, s.1)
      go unfinished h r = let s = r (omega arith) in (ap suc s.0, s.1)

  -- k = u: more allowance changes nothing
  pub stays : (m l : ℕ) (qs : List (List ℕ)) → All (λ q. 0 < length q) qs → m ≤ l → (spent m qs).k ≡ (spent m qs).u → spent l qs ≡ spent m qs
  unfolding spend
  stays m l [] a h e = refl
  stays zero l (q ∷ qs) a h e = absurd (omega (arith, a.0))
  stays (suc m) zero (q ∷ qs) a h e = absurd (omega arith)
  stays (suc m) (suc l) (q ∷ qs) a h e = go (ask q) e (stays m l qs a.1 (omega arith))
    where
      go : (x : Answer) → (after x (length q) (spent m qs)).k ≡ (after x (length q) (spent m qs)).u → ((spent m qs).k ≡ (spent m qs).u → spent l qs ≡ spent m qs)
          → after x (length q) (spent l qs) ≡ after x (length q) (spent m qs)
      go (possible G) e r = refl
      go impossible e r = ap (after impossible (length q)) (r e)
      go unfinished e r = ap (after unfinished (length q)) (r e)

  -- 'u is the largest size with a subset not yet refused': the next one has it
  pub u_next : (m : ℕ) (qs : List (List ℕ)) → (spent m qs).k < (spent m qs).u → (spent m qs).u ≡ length (get_or qs m [])
  unfolding spend
  u_next m [] h = absurd (omega arith)
  u_next zero (q ∷ qs) h = refl
  u_next (suc m) (q ∷ qs) h = go (ask q) h (u_next m qs)
    where
      go : (x : Answer) → (after x (length q) (spent m qs)).k < (after x (length q) (spent m qs)).u → ((spent m qs).k < (spent m qs).u → (spent m qs).u ≡ length (get_or qs m []))
          → (after x (length q) (spent m qs)).u ≡ length (get_or qs m [])
      go (possible G) h r = absurd (omega arith)
      go impossible h r = r h
      go unfinished h r = r h

  -- .. and every larger one is refused
  abbrev pub Refused : ℕ → List ℕ → Type 0
  Refused u q = u < length q → (G : List ℕ) → ask q ≡ possible G → ⊥

  pub u_refused : (m : ℕ) (qs : List (List ℕ)) → Falling qs → All (Refused (spent m qs).u) qs
  unfolding spend
  u_refused m [] f = tt
  u_refused zero (q ∷ qs) f = (λ h. absurd (omega arith), all_imply (λ x. length x ≤ length q) (Refused (length q)) (λ x l h. absurd (omega arith)) qs f.0)
  u_refused (suc m) (q ∷ qs) f = go (ask q) refl (u_refused m qs f.1)
    where
      go : (x : Answer) → ask q ≡ x → All (Refused (spent m qs).u) qs → All (Refused (after x (length q) (spent m qs)).u) (q ∷ qs)
      go (possible G) e r = (λ h. absurd (omega arith), all_imply (λ x. length x ≤ length q) (Refused (length q)) (λ x l h. absurd (omega arith)) qs f.0)
      go impossible e r = (λ h G p. let z : ◌≡◌ {A = ℕ} 0 1 = cc in omega arith, r)
      go unfinished e r = (λ h G p. let z : ◌≡◌ {A = ℕ} 0 1 = cc in omega arith, r)

  -- what stands is the first answer, or the answer to a question of size k
  pub stands : (P : List ℕ → ℕ → Type 0) → P first 0 → (qs : List (List ℕ)) → All (λ q. (G : List ℕ) → ask q ≡ possible G → P G (length q)) qs
      → (m : ℕ) → P (spent m qs).standing (spent m qs).k
  unfolding spend
  stands P b [] a m = b
  stands P b (q ∷ qs) a zero = b
  stands P b (q ∷ qs) a (suc m) = go (ask q) refl (stands P b qs a.1 m)
    where
      go : (x : Answer) → ask q ≡ x → P (spent m qs).standing (spent m qs).k → P (after x (length q) (spent m qs)).standing (after x (length q) (spent m qs)).k
      go (possible G) e r = a.0 G e
      go impossible e r = r
      go unfinished e r = r

  -- k and u are sizes of the list, or 0
  pub within : (b m : ℕ) (qs : List (List ℕ)) → All (λ q. length q ≤ b) qs → ((spent m qs).k ≤ (spent m qs).u) × ((spent m qs).u ≤ b)
  unfolding spend
  within b m [] a = (omega arith, omega arith)
  within b zero (q ∷ qs) a = (omega arith, a.0)
  within b (suc m) (q ∷ qs) a = go (ask q) (within b m qs a.1)
    where
      go : (x : Answer) → ((spent m qs).k ≤ (spent m qs).u) × ((spent m qs).u ≤ b)
          → ((after x (length q) (spent m qs)).k ≤ (after x (length q) (spent m qs)).u) × ((after x (length q) (spent m qs)).u ≤ b)
      go (possible G) r = (omega arith, a.0)
      go impossible r = r
      go unfinished r = r

  -- 'A larger allowance never lowers k or raises u.'
  pub larger : (m l : ℕ) (qs : List (List ℕ)) → Falling qs → m ≤ l → ((spent m qs).k ≤ (spent l qs).k) × ((spent l qs).u ≤ (spent m qs).u)
  unfolding spend
  larger m l [] f h = (omega arith, omega arith)
  larger zero zero (q ∷ qs) f h = (omega arith, omega arith)
  larger zero (suc l) (q ∷ qs) f h = (omega arith, go (ask q) (within (length q) l qs f.0).1)
    where
      go : (x : Answer) → (spent l qs).u ≤ length q → (after x (length q) (spent l qs)).u ≤ length q
      go (possible G) r = omega arith
      go impossible r = r
      go unfinished r = r
  larger (suc m) zero (q ∷ qs) f h = absurd (omega arith)
  larger (suc m) (suc l) (q ∷ qs) f h = go (ask q) (larger m l qs f.1 (omega arith))
    where
      go : (x : Answer) → ((spent m qs).k ≤ (spent l qs).k) × ((spent l qs).u ≤ (spent m qs).u)
          → ((after x (length q) (spent m qs)).k ≤ (after x (length q) (spent l qs)).k) × ((after x (length q) (spent l qs)).u ≤ (after x (length q) (spent m qs)).u)
      go (possible G) r = (omega arith, omega arith)
      go impossible r = r
      go unfinished r = r

  -- an allowance for all questions
  pub enough : (m : ℕ) (qs : List (List ℕ)) → length qs ≤ m → (spent m qs).k ≡ (spent m qs).u
  unfolding spend
  enough m [] h = refl
  enough zero (q ∷ qs) h = absurd (omega arith)
  enough (suc m) (q ∷ qs) h = go (ask q) (enough m qs (omega arith))
    where
      go : (x : Answer) → (spent m qs).k ≡ (spent m qs).u → (after x (length q) (spent m qs)).k ≡ (after x (length q) (spent m qs)).u
      go (possible G) r = refl
      go impossible r = r
      go unfinished r = r

-- questions that are answered alike come to the same
pub spend_same : (ask other : List ℕ → Answer) (first : List ℕ) (m : ℕ) (qs : List (List ℕ)) → All (λ q. ask q ≡ other q) qs
    → spend ask first m qs ≡ spend other first m qs
unfolding spend
spend_same ask other first m [] same = refl
spend_same ask other first zero (q ∷ qs) same = refl
spend_same ask other first (suc m) (q ∷ qs) same = rw (same.0, spend_same ask other first m qs same.1)
