-- The searches are put down, or set up: what their areas hold then. Assumes nothing.
use mathlib.Core.Path.{◌≡◌, refl, sym, ap, ◌∙◌}
use mathlib.Core.List.{List, []}
use Prim.Native.Nat.{ℕ, ◌+◌, ◌*◌, ◌<◌, ◌≤◌}
use native.Mathlib.Omega.{arith}
use native.Mathlib.Decide.{ℕ_discrete}
use lib.ListN.{length, get_or, set, length-set}
use lib.Seq.{get_or-set_same, get_or-set_other}
use borrow.Author.Tests.{ne_eqb}
use Rattle.trail.specs.Trail.{trail}
use Rattle.trail.proofs.Trails.{trail_same}
use Rattle.state.specs.Work.{tail, g_of}
use Rattle.turns.specs.Turn.{running, number_of}
use Rattle.replaying.specs.Standing.{search_by}
use Rattle.roomareas.specs.Areas.{area_size, part_of, verdict_at, stored, next_at}
use Rattle.roomareas.specs.Changes.{search_at, PutDown, Opened, Looked, NextPut}
use Rattle.roomareas.proofs.Parts.{part_length, part_at, part-set, part-set_other}

-- a number before the trail is no literal
pub held_before : (a : List ℕ) (c v : ℕ) → c < 4 → g_of (set a c v) ≡ g_of a
held_before a c v h =
    ap (λ (k : ℕ). trail k (tail (set a c v))) (same 0) ∙ trail_same (tail a 0) (tail (set a c v)) (tail a) (λ q l. same (1 + q))
  where
    same : (i : ℕ) → tail (set a c v) i ≡ tail a i
    same i = get_or-set_other a c (4 + i) v 0 (λ e. omega arith)

-- whose turn is next says nothing of a search
stored_next : (a : List ℕ) (v : ℕ) → stored (set a next_at v) ≡ stored a
stored_next a v = rw (held_before a 1 v (omega arith), get_or-set_other a 1 0 v 0 (λ e. omega arith))

-- a verdict, and nothing held
pub stored_verdict : (a : List ℕ) (v : ℕ) → 0 < length a → stored (set a verdict_at v) ≡ search_by v (g_of a)
stored_verdict a v h = rw (held_before a 0 v (omega arith), get_or-set_same a 0 v 0 h)

held_none : (a : List ℕ) → 4 < length a → g_of (set a 4 0) ≡ []
unfolding trail
held_none a h = ap (λ (k : ℕ). trail k (tail (set a 4 0))) (get_or-set_same a 4 0 0 h)

-- in the last store, of whose turn is next, each search stays
next_stays : (w : List ℕ) (v j : ℕ) → stored (part_of area_size j (set w next_at v)) ≡ stored (part_of area_size j w)
next_stays w v j = on (ℕ_discrete j 0)
  where
    on : Dec (j ≡ 0) → stored (part_of area_size j (set w next_at v)) ≡ stored (part_of area_size j w)
    on (yes e) = rw e (ap stored (part-set area_size 0 1 v w (omega arith)) ∙ stored_next (part_of area_size 0 w) v)
    on (no e) = ap stored (part-set_other area_size 0 1 v w (omega arith) j e)

pub next_put : (w : List ℕ) (up : ℕ) → area_size ≤ length w → NextPut up w (set w next_at up)
next_put w up h = record { searches = next_stays w up; next = get_or-set_same w 1 up 0 (omega arith) }

part-some : (w : List ℕ) (i q : ℕ) → i < q → area_size * q ≤ length w → length (part_of area_size i w) ≡ area_size
part-some w i q h f = part_length area_size i w (omega arith)

-- ---- put down

-- the first i have been put down
pub record Putting (w₀ v w : List ℕ) (i : ℕ) : Type 0 where
  pub done : (j : ℕ) → j < i → stored (part_of area_size j w) ≡ search_at w₀ v j
  pub rest : (j : ℕ) → i ≤ j → part_of area_size j w ≡ part_of area_size j w₀
  pub size : length w ≡ length w₀

pub putting_none : (w v : List ℕ) → Putting w v w 0
putting_none w v = record { done = λ j h. absurd (omega arith); rest = λ j h. refl; size = refl }

module _ {w₀ v w : List ℕ} {i : ℕ} (k : Putting w₀ v w i) (q : ℕ) (f : area_size * q ≤ length w₀) where
  pub putting_more : i < q → Putting w₀ v (set w (area_size * i + verdict_at) (get_or v i 0)) (i + 1)
  putting_more h = record {
    done = λ j b. on j b (ℕ_discrete j i);
    rest = λ j b. part-set_other area_size i 0 (get_or v i 0) w (omega arith) j (λ e. omega arith) ∙ k.rest j (omega arith);
    size = length-set w (area_size * i + verdict_at) (get_or v i 0) ∙ k.size;
  }
    where
      on : (j : ℕ) → j < i + 1 → Dec (j ≡ i) → stored (part_of area_size j (set w (area_size * i + verdict_at) (get_or v i 0))) ≡ search_at w₀ v j
      on j b (yes e) =
          rw e
          (ap stored (part-set area_size i 0 (get_or v i 0) w (omega arith))
          ∙ stored_verdict (part_of area_size i w) (get_or v i 0) (omega (arith, part-some w i q h (omega (arith, k.size))))
          ∙ ap (λ (a : List ℕ). search_by (get_or v i 0) (g_of a)) (k.rest i (omega arith)))
      on j b (no e) = ap stored (part-set_other area_size i 0 (get_or v i 0) w (omega arith) j e) ∙ k.done j (omega arith)

  pub putting_all : i ≡ q → 0 < q → (up : ℕ) → PutDown q up w₀ v (set w next_at up)
  putting_all e h up = record {
    searches = λ j b. next_stays w up j ∙ k.done j (omega arith);
    next = get_or-set_same w 1 up 0 (omega (arith, k.size));
  }

-- ---- set up

-- the first i have been set up
pub record Opening (w₀ v₀ w v : List ℕ) (i : ℕ) : Type 0 where
  pub done : (j : ℕ) → j < i → stored (part_of area_size j w) ≡ running []
  pub verdicts : (j : ℕ) → j < i → get_or v j 0 ≡ 2
  pub beyond : (j : ℕ) → i ≤ j → get_or v j 0 ≡ get_or v₀ j 0
  pub size : length w ≡ length w₀
  pub sizes : length v ≡ length v₀

pub opening-none : (w v : List ℕ) → Opening w v w v 0
opening-none w v = record { done = λ j h. absurd (omega arith); verdicts = λ j h. absurd (omega arith); beyond = λ j h. refl; size = refl; sizes = refl }

module _ {w₀ v₀ w v : List ℕ} {i : ℕ} (k : Opening w₀ v₀ w v i) (q : ℕ) (f : area_size * q ≤ length w₀) where
  abbrev emptied : List ℕ
  emptied = set w (area_size * i + 4) 0

  abbrev opened : List ℕ
  opened = set emptied (area_size * i + verdict_at) 2

  pub opening_more : i < q → i < length v₀ → Opening w₀ v₀ opened (set v i 2) (i + 1)
  unfolding search_by
  opening_more h l = record {
    done = λ j b. on j b (ℕ_discrete j i);
    verdicts = λ j b. told j b (ℕ_discrete j i);
    beyond = λ j b. get_or-set_other v i j 2 0 (λ e. omega arith) ∙ k.beyond j (omega arith);
    size = length-set emptied (area_size * i + verdict_at) 2 ∙ length-set w (area_size * i + 4) 0 ∙ k.size;
    sizes = length-set v i 2 ∙ k.sizes;
  }
    where
      here : stored (part_of area_size i opened) ≡ running []
      here =
          let a : List ℕ = part_of area_size i w in
          let z : length a ≡ area_size = part-some w i q h (omega (arith, k.size)) in
          ap stored (part-set area_size i 0 2 emptied (omega arith) ∙ ap (λ (b : List ℕ). set b 0 2) (part-set area_size i 4 0 w (omega arith)))
          ∙ stored_verdict (set a 4 0) 2 (omega (arith, length-set a 4 0, z))
          ∙ ap (search_by 2) (held_none a (omega (arith, z)))

      on : (j : ℕ) → j < i + 1 → Dec (j ≡ i) → stored (part_of area_size j opened) ≡ running []
      on j b (yes e) = rw e here
      on j b (no e) =
          ap stored (part-set_other area_size i 0 2 emptied (omega arith) j e ∙ part-set_other area_size i 4 0 w (omega arith) j e) ∙ k.done j (omega arith)

      told : (j : ℕ) → j < i + 1 → Dec (j ≡ i) → get_or (set v i 2) j 0 ≡ 2
      told j b (yes e) = rw e (get_or-set_same v i 2 0 (omega (arith, k.sizes)))
      told j b (no e) = get_or-set_other v i j 2 0 e ∙ k.verdicts j (omega arith)

  pub opening_all : i ≡ q → 0 < q → Opened q (set w next_at 0) v₀ v
  opening_all e h = record {
    searches = λ j b. next_stays w 0 j ∙ k.done j (omega arith);
    next = get_or-set_same w 1 0 0 (omega (arith, k.size));
    verdicts = λ j b. k.verdicts j (omega arith);
    beyond = λ j b. k.beyond j (omega arith);
  }

-- ---- looked at

module _ (v : ℕ) (G : List ℕ) where
  pub number_closed : v ≡ 0 → 0 ≡ number_of (search_by v G)
  unfolding search_by
  number_closed e = rw e

  pub number_found : v ≡ 1 → 1 ≡ number_of (search_by v G)
  unfolding search_by
  number_found e = rw e

  pub number_running : (v ≡ 0 → ⊥) → (v ≡ 1 → ⊥) → 2 ≡ number_of (search_by v G)
  unfolding search_by
  number_running a b = rw (ne_eqb v 0 a, ne_eqb v 1 b)

-- the first i have been looked at
pub record Looking (w v₀ v : List ℕ) (i : ℕ) : Type 0 where
  pub done : (j : ℕ) → j < i → get_or v j 0 ≡ number_of (stored (part_of area_size j w))
  pub rest : (j : ℕ) → i ≤ j → get_or v j 0 ≡ get_or v₀ j 0
  pub size : length v ≡ length v₀

pub looking_none : (w v : List ℕ) → Looking w v v 0
looking_none w v = record { done = λ j h. absurd (omega arith); rest = λ j h. refl; size = refl }

module _ {w v₀ v : List ℕ} {i : ℕ} (k : Looking w v₀ v i) where
  pub looking_more : {r : ℕ} → i < length v₀ → ((G : List ℕ) → r ≡ number_of (search_by (get_or w (area_size * i + verdict_at) 0) G)) → Looking w v₀ (set v i r) (i + 1)
  looking_more {r} l e = record {
    done = λ j b. on j b (ℕ_discrete j i);
    rest = λ j b. get_or-set_other v i j r 0 (λ z. omega arith) ∙ k.rest j (omega arith);
    size = length-set v i r ∙ k.size;
  }
    where
      here : r ≡ number_of (stored (part_of area_size i w))
      here = e (g_of (part_of area_size i w)) ∙ ap (λ (x : ℕ). number_of (search_by x (g_of (part_of area_size i w)))) (sym (part_at area_size i w 0 (omega arith)))

      on : (j : ℕ) → j < i + 1 → Dec (j ≡ i) → get_or (set v i r) j 0 ≡ number_of (stored (part_of area_size j w))
      on j b (yes z) = rw z (get_or-set_same v i r 0 (omega (arith, k.size)) ∙ here)
      on j b (no z) = get_or-set_other v i j r 0 z ∙ k.done j (omega arith)

  pub looking_all : {q : ℕ} → i ≡ q → Looked q w v₀ v
  looking_all e = record { numbers = λ j b. k.done j (omega arith); beyond = λ j b. k.rest j (omega arith) }
