-- The trail of the work area: a literal joins, and the newest leaves. Assumes nothing.
use mathlib.Core.Path.{refl}
use mathlib.Core.Logic.{inl}
use mathlib.Core.List.{List}
use Prim.Native.Nat.{ℕ, ◌-◌, ◌*◌, ◌<◌, ◌≤◌}
use native.Mathlib.Omega.{arith}
use lib.ListN.{length}
use Rattle.calculus.specs.Model.{Fresh}
use Rattle.trail.proofs.Trails.{count_most, room_left as room-held}
use Rattle.trail.proofs.Joins.{entered, joins}
use Rattle.trail.proofs.Leaves.{newest_from, dropped, leaves, top_below as newest-below}
use Rattle.area.specs.Area.{area_size, most_nodes, trail_from, trail_at, g_of, Trail, Entered, Shrunk}

pub room_left : (n : ℕ) (w : List ℕ) (l : ℕ) → Trail n (trail_at w) → Fresh n (g_of w) l → trail_at w 0 < n
room_left n w l h f = room-held n (trail_at w) h l f

pub is-entered : (n : ℕ) (w : List ℕ) (l : ℕ) → area_size ≤ length w → n ≤ most_nodes → Trail n (trail_at w) → Fresh n (g_of w) l
    → Entered n l w (entered trail_from w w l)
is-entered n w l size few h f =
    let j = joins n trail_from l w w (omega (arith, size)) few (λ i k. refl) h f in
    record {
      size = j.size;
      trail = j.trail;
      list = j.list;
      count = j.count;
      lits = j.lits;
      top = j.top;
      under = λ i a k. j.else i (inl k);
    }

-- what is read of the newest literal lies within the work area
pub record Poppable (n : ℕ) (w : List ℕ) : Type 0 where
  pub size : area_size ≤ length w
  pub few : n ≤ most_nodes
  pub some : 0 < trail_at w 0
  pub most : trail_at w 0 ≤ n
  pub top : newest_from trail_from w < 2 * n

module _ (n : ℕ) (w : List ℕ) (size : area_size ≤ length w) (few : n ≤ most_nodes) (h : Trail n (trail_at w)) (p : 0 < trail_at w 0) where
  pub poppable : Poppable n w
  poppable = record { size = size; few = few; some = p; most = count_most n (trail_at w) h; top = newest-below n trail_from w (omega (arith, size)) few h p }

  pub popped : Shrunk n (trail_at w 0 - 1) w (dropped trail_from w (newest_from trail_from w))
  popped =
      let v = leaves n trail_from w (omega (arith, size)) few h p in
      record {
        size = v.size;
        trail = v.trail;
        count = omega (arith, v.count);
        lits = λ q i. v.lits q (omega (arith, i, v.count));
        under = λ i a k. v.else i (inl k);
      }
