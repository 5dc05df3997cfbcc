-- The goals join: the search from there is that from the start, or that closes. Assumes nothing.
use mathlib.Core.Path.{◌≡◌, refl, sym, ap, ◌∙◌, subst}
use mathlib.Core.Logic.{◌⊎◌, inl, inr, ⊎_elim}
use mathlib.Core.Bool.{Bool, true, false, false≢true}
use mathlib.Core.List.{List, [], ◌∷◌}
use Prim.Native.Nat.{ℕ, zero, suc, ◌+◌, ◌*◌, ◌<◌, ◌≤◌}
use native.Mathlib.Omega.{arith}
use native.Mathlib.Decide.{dec_lt, ℕ_discrete}
use lib.ListN.{length, get_or}
use Rattle.scope.specs.declared.Node.{Node}
use Rattle.calculus.specs.Expansion.{expand}
use Rattle.calculus.specs.Order.{Value, holds, fails, undecided, value_of, mem, move}
use Rattle.calculus.specs.Model.{Goals, Fresh}
use Rattle.calculus.specs.Jump.{Rests, closed, stop, clause_rest}
use Rattle.calculus.specs.declared.Move.TheVariants.{Unit as Single}
use Rattle.calculus.proofs.Literals.{value_joined}
use Rattle.calculus.proofs.Lists.{all_at}
use Rattle.calculus.proofs.Count.{room}
use Rattle.index.specs.Index.{most_nodes}
use Rattle.state.specs.Work.{g_of, value_code, conflict_of, waiting_of}
use Rattle.state.specs.Holds.{Holds, NoneDenied}
use Rattle.moves.proofs.Moves.{goal-next, position-free, step}
use Rattle.rests.specs.Words.{held_of}
use Rattle.solver.specs.Changes.{Stands, Shuts, Enlisted}
use Rattle.calculus.proofs.Stays.{holds_fails, holds_undecided, fails_undecided, value_stays}
use Rattle.solver.proofs.Settles.{waiting_over}
use Rattle.trail.proofs.Codes.{code_fails}
use Rattle.solver.proofs.Goals.{free_first, as_many, shuts_goal}
use Rattle.searching.specs.Jumps.{jumped_from, blank, Begun}
use Rattle.searching.proofs.Jumps.{from_conflict, from-unit, put-blank, held_most}

-- ---- a goal is false, or none is

abbrev Denied : List ℕ → List ℕ → Type 0
Denied goals G = (j : ℕ) × (j < length goals) × (value_of G (get_or goals j 0) ≡ fails)

none_more : (g : ℕ) (goals G : List ℕ) → (value_of G g ≡ fails → ⊥) → NoneDenied goals G → NoneDenied (g ∷ goals) G
none_more g goals G a f zero i y = a y
none_more g goals G a f (suc k) i y = f k (omega arith) y

denied_or : (goals G : List ℕ) → Denied goals G ⊎ NoneDenied goals G
denied_or [] G = inr (λ k i. absurd (omega arith))
denied_or (g ∷ goals) G = go (value_of G g) refl (denied_or goals G)
  where
    more : (value_of G g ≡ fails → ⊥) → Denied goals G ⊎ NoneDenied goals G → Denied (g ∷ goals) G ⊎ NoneDenied (g ∷ goals) G
    more a (inl (j, i, y)) = inl (suc j, omega arith, y)
    more a (inr f) = inr (none_more g goals G a f)

    go : (v : Value) → value_of G g ≡ v → Denied goals G ⊎ NoneDenied goals G → Denied (g ∷ goals) G ⊎ NoneDenied (g ∷ goals) G
    go fails e r = inl (0, omega arith, e)
    go holds e r = more (λ y. holds_fails (sym e ∙ y)) r
    go undecided e r = more (λ y. fails_undecided (sym y ∙ e)) r

-- ---- the way

-- the search from the start closes, with no split
abbrev Closes : (ℕ → Node) → ℕ → List ℕ → Type 0
Closes t n goals = (s : Rests) × (jumped_from t n goals 0 blank [] ≡ stop (closed s))

-- the search from G is that from the start; or that closed on the way to G, where a goal was false
abbrev Way : (ℕ → Node) → ℕ → List ℕ → List ℕ → Type 0
Way t n goals G = (jumped_from t n goals 0 blank G ≡ jumped_from t n goals 0 blank []) ⊎ (Closes t n goals × Denied goals G)

way_shuts : (t : ℕ → Node) (n : ℕ) (goals G : List ℕ) → Way t n goals G → Shuts (expand t) goals G → Closes t n goals
way_shuts t n goals G (inl e) (k, m) = (clause_rest (expand t) goals (held_of blank G) k, sym e ∙ from_conflict t n goals 0 blank G m)
way_shuts t n goals G (inr (c, d)) s = c

-- what holds before each turn: the first k goals are true, and no clause is all false
pub record Begins (t : ℕ → Node) (n : ℕ) (goals w₀ m₀ w m : List ℕ) (k : ℕ) : Type 0 where
  pub turns : k ≤ length goals
  pub stands : Stands t n goals w m
  pub free : most_nodes ≤ conflict_of w
  pub passed : (j : ℕ) → j < k → value_of (g_of w) (get_or goals j 0) ≡ holds
  pub way : Way t n goals (g_of w)
  pub size : length w ≡ length w₀
  pub sets : length m ≡ length m₀

pub begins_starts : {t : ℕ → Node} {n : ℕ} {goals w m : List ℕ} → Goals n goals → Holds t n goals w m → g_of w ≡ [] → Begins t n goals w m w m 0
begins_starts {t} {n} {goals} {w} {m} gs H e = record {
  turns = omega arith;
  stands = record { others = goals; many = refl; below = gs; holds_them = H; idle = inr e };
  free = free_first H e;
  passed = λ j i. absurd (omega (arith, i));
  way = inl (ap (jumped_from t n goals 0 blank) e);
  size = refl;
  sets = refl;
}

module _ {t : ℕ → Node} {n k : ℕ} {goals w₀ m₀ w m : List ℕ} (few : n ≤ most_nodes) (gs : Goals n goals) (B : Begins t n goals w₀ m₀ w m k) (i : k < length goals) where
  abbrev l : ℕ
  l = get_or goals k 0

  H : Holds t n B.stands.others w m
  H = B.stands.holds_them

  -- goal k is undecided: it is the next unit, or some goal is false
  module _ (v : value_of (g_of w) l ≡ undecided) where
    next : NoneDenied goals (g_of w) → move (expand t) goals (g_of w) ≡ Single k l
    next f = goal-next t goals w (position-free few B.stands.below H B.free) (λ j b y. f j b (code_fails (value_of (g_of w) (get_or goals j 0)) y)) (record {
      low = omega arith;
      before = λ j b y. let z = ap value_code (B.passed j b) in omega (arith, y, z);
      here = λ b. ap value_code v;
    }) i

    fresh : Fresh n (g_of w) l
    fresh = (all_at (λ (g : ℕ). g < 2 * n) goals k 0 gs.below i, v)

    stays : Denied goals (g_of w) → Denied goals (l ∷ g_of w)
    stays (j, b, y) = (j, b, value_stays (g_of w) l v (get_or goals j 0) fails fails_undecided y)

    way_on : Way t n goals (l ∷ g_of w)
    way_on = go B.way (denied_or goals (g_of w))
      where
        go : Way t n goals (g_of w) → Denied goals (g_of w) ⊎ NoneDenied goals (g_of w) → Way t n goals (l ∷ g_of w)
        go (inr (c, d)) o = inr (c, stays d)
        go (inl e) (inl d) = inr (way_shuts t n goals (g_of w) (inl e) (shuts_goal t goals w d.0 d.1 d.2), stays d)
        go (inl e) (inr f) =
            let put = put-blank (expand t) goals (g_of w) (omega (arith, held_most H, few)) k (suc (length (g_of w))) (omega (arith, held_most H, few)) in
            inl (sym (from-unit t n goals 0 blank (g_of w) (room n (g_of w) l H.ready.trail.good fresh) (next f) put) ∙ e)

  -- a turn is done
  module _ {w' m' : List ℕ} {r : Bool} (E : Enlisted t n goals l w w' m' r) where
    pub begins-on : r ≡ true → length w' ≡ length w → length m' ≡ length m → Begins t n goals w₀ m₀ w' m' (k + 1)
    begins-on q y z = ⊎_elim same more (E.list q)
      where
        by : {G : List ℕ} → g_of w' ≡ G → value_of G l ≡ holds → ((j : ℕ) → j < k → value_of G (get_or goals j 0) ≡ holds) → Way t n goals G → Begins t n goals w₀ m₀ w' m' (k + 1)
        by {G} g v f W = record {
          turns = omega arith;
          stands = (E.on q).0;
          free = (E.on q).1;
          passed = λ j b. ap (λ (F : List ℕ). value_of F (get_or goals j 0)) g ∙ step {P = λ (a : ℕ). value_of G (get_or goals a 0) ≡ holds} j b (ℕ_discrete j k) v f;
          way = subst (Way t n goals) (sym g) W;
          size = y ∙ B.size;
          sets = z ∙ B.sets;
        }

        same : (value_of (g_of w) l ≡ holds) × (g_of w' ≡ g_of w) → Begins t n goals w₀ m₀ w' m' (k + 1)
        same (v, g) = by g v B.passed B.way

        more : (value_of (g_of w) l ≡ undecided) × (g_of w' ≡ l ∷ g_of w) → Begins t n goals w₀ m₀ w' m' (k + 1)
        more (v, g) = by g (value_joined (g_of w) l) (λ j b. value_stays (g_of w) l v (get_or goals j 0) holds holds_undecided (B.passed j b)) (way_on v)

    pub begins-shut : r ≡ false → Begun t n goals w' m' false
    begins-shut q = record {
      ready = E.ready;
      holds = λ e. absurd (false≢true e);
      same = λ e. absurd (false≢true e);
      shut = λ _. ⊎_elim (λ y. way_shuts t n goals (g_of w) B.way (shuts_goal t goals w k i y)) (λ (v, s). way_shuts t n goals (l ∷ g_of w) (way_on v) s) (E.shut q);
    }

-- every goal is true
module _ {t : ℕ → Node} {n k : ℕ} {goals w₀ m₀ w m : List ℕ} (B : Begins t n goals w₀ m₀ w m k) (i : length goals ≤ k) where
  all : (j : ℕ) → j < length goals → value_of (g_of w) (get_or goals j 0) ≡ holds
  all j b = B.passed j (omega (arith, b))

  quiet : waiting_of w ≡ 0
  unfolding value_of mem
  quiet = ⊎_elim (λ z. z) (λ e. go e (dec_lt 0 (length goals))) B.stands.idle
    where
      go : g_of w ≡ [] → Dec (0 < length goals) → waiting_of w ≡ 0
      go e (yes b) = absurd (holds_undecided (sym (all 0 b) ∙ ap (λ (G : List ℕ). value_of G (get_or goals 0 0)) e))
      go e (no b) = omega (arith, b, B.stands.holds_them.waiting.few, B.stands.many)

  pub begins_open : Begun t n goals w m true
  begins_open = record {
    ready = B.stands.holds_them.ready;
    holds = λ _. as_many B.stands.holds_them (sym B.stands.many) (rw quiet (waiting_over {k = length goals} (omega arith) all)) (λ _ j b y. holds_fails (sym (all j b) ∙ y));
    same = λ _. ⊎_elim (λ e. e) (λ (c, d). absurd (holds_fails (sym (all d.0 d.1) ∙ d.2))) B.way;
    shut = λ e. absurd (false≢true (sym e));
  }
