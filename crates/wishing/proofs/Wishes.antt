-- Wishes: what stands meets the goals and k wishes, and no truths that meet the goals meet more than u. Assumes nothing.
use mathlib.Core.Path.{◌≡◌, refl, ap}
use mathlib.Core.Logic.{◌⊎◌}
use mathlib.Core.List.{List, ◌++◌}
use mathlib.Core.Bool.{Bool, true}
use Prim.Native.Nat.{ℕ, suc, ◌^◌, ◌<◌, ◌≤◌}
use native.Mathlib.Nat.{zero-add, pow-le-pow_right}
use native.Mathlib.Omega.{arith}
use native.Mathlib.Decide.{dec_le}
use lib.ListN.{length, get_or}
use Rattle.calculus.specs.Order.{Answer, possible}
use Rattle.calculus.specs.Model.{All}
use Rattle.calculus.proofs.Lists.{all_append, all_left, all_right, all_imply, all_map, map_all}
use Rattle.questions.specs.Indices.{picked}
use Rattle.questions.specs.Asking.{Decides}
use Rattle.questions.proofs.Answers.{picked_fit, is-possible}
use Rattle.wishing.specs.Wish.{queries, Wished, question, granted, count}
use Rattle.wishing.specs.Walk.{asking, visits, finish}
use Rattle.wishing.proofs.Subsets.{visited, hits, hits_rise, hits_pass, hits_few, hits_most, hits_count}
use Rattle.wishing.proofs.Spends.{Query, queries_fit, queries_fall, queries_size, queries-count, questions_most, stops, not_sooner, larger, enough, Refused, u_refused, stands}
use Rattle.wishing.proofs.Walks.{walks}

-- what is granted by the questions put: for any decision
module _ (ask : List ℕ → Answer) (goals wishes first : List ℕ) where
  abbrev grants : ℕ → Wished
  grants m = granted ask goals wishes m first

  abbrev asks : List ℕ → Answer
  asks = question ask goals wishes

  abbrev all : List (List ℕ)
  all = queries (length wishes) (length wishes)

  not-empty : All (λ q. 0 < length q) all
  not-empty = all_imply (Query (length wishes) (length wishes)) (λ q. 0 < length q) (λ q r. r.low) all (queries_fit (length wishes) (length wishes))

  -- 'the questions put, which never exceed the allowance'
  pub granted_most : (m : ℕ) → (grants m).questions ≤ m
  granted_most m = questions_most asks first m all

  -- 'Stop when k = u or the allowance is spent, and not sooner.'
  pub granted_stops : (m : ℕ) → ((grants m).k ≡ (grants m).u) ⊎ ((grants m).questions ≡ m)
  granted_stops m = stops asks first m all

  pub granted-not_sooner : (m l : ℕ) → l < (grants m).questions → ((grants l).questions ≡ l) × ((grants l).k < (grants l).u)
  granted-not_sooner m l h = not_sooner asks first m l all not-empty h

  -- 'A larger allowance never lowers k or raises u.'
  pub granted_larger : (m l : ℕ) → m ≤ l → ((grants m).k ≤ (grants l).k) × ((grants l).u ≤ (grants m).u)
  granted_larger m l h = larger asks first m l all (queries_fall (length wishes) (length wishes)) h

  -- k = u at last: with 2 ^ w - 1 questions; with 65,535 for any 16 wishes
  pub granted_enough : (m : ℕ) → 2 ^ length wishes ≤ suc m → (grants m).k ≡ (grants m).u
  granted_enough m h = enough asks first m all (omega (arith, queries-count (length wishes)))

  pub granted_sixteen : (m : ℕ) → length wishes ≤ 16 → 65535 ≤ m → (grants m).k ≡ (grants m).u
  granted_sixteen m s h = granted_enough m (omega (arith, pow-le-pow_right {n = 2} (omega arith) s))

  -- code's walk comes to it
  pub granted_walks : (m : ℕ) → finish first (visits ask first (length goals) wishes goals (length wishes) (asking 0 m)) ≡ grants m
  granted_walks m = walks ask first goals wishes m (length wishes)

module _ (Truth : Type 0) (holds : Truth → ℕ → Bool) (By : List ℕ → Truth → Type 0) (Fit : ℕ → Type 0) (ask : List ℕ → Answer)
    (D : Decides Truth holds By Fit ask) (goals wishes : List ℕ) (g : All Fit goals) (h : All Fit wishes) where
  abbrev w : ℕ
  w = length wishes

  -- truths make a list true; how many wishes they meet, one that stands twice counting twice
  abbrev Make : Truth → List ℕ → Type 0
  Make v ls = All (λ l. holds v l ≡ true) ls

  abbrev meet : Truth → ℕ
  meet v = count (holds v) wishes

  abbrev met : Truth → ℕ → Bool
  met v i = holds v (get_or wishes i 0)

  meet_hits : (v : Truth) → length (hits (met v) 0 w) ≡ meet v
  meet_hits v = hits_count (met v) (holds v) 0 wishes (λ i b. ap (met v) (zero-add i))

  fits : (q : List ℕ) → All Fit (goals ++ picked wishes q)
  fits q = all_append Fit goals (picked wishes q) g (picked_fit Truth holds By Fit ask D wishes h q)

  module _ (first : List ℕ) (m : ℕ) where
    abbrev result : Wished
    result = granted ask goals wishes m first

    -- 'No setting that meets the goals meets more than u wishes.'
    pub no_more : (v : Truth) → Make v goals → meet v ≤ result.u
    no_more v t = go (dec_le (meet v) result.u)
      where
        best : List ℕ
        best = hits (met v) 0 w

        asked : result.u < length best → Refused (question ask goals wishes) first result.u best
        asked l =
            visited (Refused (question ask goals wishes) first result.u) 0 w (length best) w (omega arith)
            (queries_size w (Refused (question ask goals wishes) first result.u) w (length best)
            (u_refused (question ask goals wishes) first m (queries w w) (queries_fall w w)) (omega arith) (hits_few (met v) 0 w))
            best (hits_rise (met v) 0 w w (omega arith)) refl

        made : (G : List ℕ) × (question ask goals wishes best ≡ possible G)
        made =
            is-possible Truth holds By Fit ask D (goals ++ picked wishes best) (fits best) v
            (all_append (λ l. holds v l ≡ true) goals (picked wishes best) t
            (all_map (λ l. holds v l ≡ true) (λ i. get_or wishes i 0) best (hits_pass (met v) 0 w)))

        go : Dec (meet v ≤ result.u) → meet v ≤ result.u
        go (yes z) = z
        go (no z) =
            let l : result.u < length best = omega (arith, meet_hits v) in
            absurd (asked l l made.0 made.1)

    -- what a list G with so many wishes has: truths go by it, and all that do make the goals and as many wishes true
    abbrev Meets : List ℕ → ℕ → Type 0
    Meets G size = ((v : Truth) × By G v) × ((v : Truth) → By G v → Make v goals × (size ≤ meet v))

    -- 'the setting, k wishes met for certain'
    pub standing-meets : ask goals ≡ possible first → Meets result.standing result.k
    standing-meets e =
        stands (question ask goals wishes) first Meets (D.some goals first g e, λ v b. (D.makes goals first g e v b, omega arith)) (queries w w)
        (all_imply (Query w w) (λ q. (G : List ℕ) → question ask goals wishes q ≡ possible G → Meets G (length q)) answered (queries w w) (queries_fit w w)) m
      where
        answered : (q : List ℕ) → Query w w q → (G : List ℕ) → question ask goals wishes q ≡ possible G → Meets G (length q)
        answered q r G e = (
          D.some (goals ++ picked wishes q) G (fits q) e,
          λ v b.
              let a = D.makes (goals ++ picked wishes q) G (fits q) e v b in (
                all_left (λ l. holds v l ≡ true) goals (picked wishes q) a,
                omega (
                  arith,
                  meet_hits v,
                  hits_most (met v) 0 w w (omega arith) q r.rising
                      (map_all (λ l. holds v l ≡ true) (λ i. get_or wishes i 0) q (all_right (λ l. holds v l ≡ true) goals (picked wishes q) a)),
                ),
              ),
        )
