-- `replay::check_run` meets its contract. The loop's invariant: the work area holds some history, and the rest of the run from there is
-- the answer. Assumes nothing.
use mathlib.Core.Path.{◌≡◌, refl, ◌∙◌}
use Prim.Native.Nat.{ℕ, zero, suc, ◌+◌, ◌/◌, ◌%◌, ◌<◌, ◌≤◌}
use native.Mathlib.Decide.{dec_lt}
use native.Mathlib.Omega.{arith}
use Rattle.index.specs.Index.{index_node}
use Rattle.rules.specs.Steps.{step_at}
use Rattle.steps.specs.Opened.{place_of}
use Rattle.replay.proofs.Runs.{going_starts, going-late, going-fails, going-completes, going-goes, going-ends, step-told, is_name, no_name}
use Rattle.replay.proofs.check_run.Goals as goal

-- a place behind one that lies within the bytes is little behind them
place-next : (k : ℕ) → place_of (suc k) ≤ place_of k + 12
place-next k = go (dec_lt (k % 126) 125)
  where
    go : Dec (k % 126 < 125) → place_of (suc k) ≤ place_of k + 12
    go (yes h) =
        let d : suc k / 126 ≡ k / 126 = omega (arith, h) in
        let m : suc k % 126 ≡ k % 126 + 1 = omega (arith, h) in
        omega (arith, d, m)
    go (no h) =
        let e : k % 126 ≡ 125 = omega (arith, h) in
        let d : suc k / 126 ≡ k / 126 + 1 = omega (arith, e) in
        let m : suc k % 126 ≡ 0 = omega (arith, e) in
        omega (arith, e, d, m)

place_low : (from count len : ℕ) → from ≤ count → ((k : ℕ) → k < count → place_of k + 4 ≤ len) → place_of from ≤ len + 8
place_low zero count len h p = omega arith
place_low (suc k) count len h p = omega (arith, place-next k, p k (omega (arith, h)))

pub loop-i-init : goal.loop-i-init
loop-i-init c = (
  refl,
  going_starts c.args.version (index_node c.args.x.now) c.args.n c.args.goals.now
      (step_at c.args.d.now) c.args.count c.args.from c.requires.from_le_count c.begin.new.work c.begin.ensures.holds c.begin.ensures.work_after,
  c.place-at.ensures,
)

pub returns-then-s-eq71 : goal.returns-then-s-eq71
returns-then-s-eq71 c = let g = c.loop-i.invariant.1 in
    c.refusal.ensures
    ∙ going-late c.args.version (index_node c.args.x.now) c.args.n c.args.goals.now (step_at c.args.d.now) c.args.count g c.loop-i-test.true
    (is_name c.step_by-s.ensures c.if-s-eq71.true)

pub returns-in-Failed : goal.returns-in-Failed
returns-in-Failed c = let t = index_node c.args.x.now in
    let n = c.args.n in
    let goals = c.args.goals.now in
    let f = step_at c.args.d.now in
    let g = c.loop-i.invariant.1 in
    let r = step-told c.args.version c.apply_in.new.work g.history c.apply_in.ensures c.step_by-s.ensures c.in-Failed.is g.holds in
    c.refusal-in-Failed.ensures ∙ going-fails c.args.version t n goals f c.args.count g c.loop-i-test.true (no_name c.step_by-s.ensures c.if-s-eq71.false) r

pub returns-in-Complete : goal.returns-in-Complete
returns-in-Complete c = let t = index_node c.args.x.now in
    let n = c.args.n in
    let goals = c.args.goals.now in
    let f = step_at c.args.d.now in
    let g = c.loop-i.invariant.1 in
    let r = step-told c.args.version c.apply_in.new.work g.history c.apply_in.ensures c.step_by-s.ensures c.in-Complete.is g.holds in
    c.completed.ensures ∙ going-completes c.args.version t n goals f c.args.count g c.loop-i-test.true (no_name c.step_by-s.ensures c.if-s-eq71.false) r

pub loop-i-preserved : goal.loop-i-preserved
loop-i-preserved c = let t = index_node c.args.x.now in
    let n = c.args.n in
    let goals = c.args.goals.now in
    let f = step_at c.args.d.now in
    let g = c.loop-i.invariant.1 in
    let r = step-told c.args.version c.apply_in.new.work g.history c.apply_in.ensures c.step_by-s.ensures c.in-Running.is g.holds in
    let kept = c.apply_in.auto.work ∙ c.loop-i.invariant.0 in
    let below = c.loop-i-test.true in
    let other = no_name c.step_by-s.ensures c.if-s-eq71.false in
    (kept, going-goes c.args.version t n goals f c.args.count g below other r, c.place_after-at.ensures)

pub returns : goal.returns
returns c = let t = index_node c.args.x.now in
    let n = c.args.n in
    let goals = c.args.goals.now in
    let f = step_at c.args.d.now in
    let g = c.loop-i.invariant.1 in
    c.refusal-2.ensures ∙ going-ends c.args.version t n goals f c.args.count g c.loop-i-test.false
