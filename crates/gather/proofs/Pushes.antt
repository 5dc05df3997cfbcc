-- What a step pushed, and the last block written, do to the steps that a writer keeps. Assumes nothing.
use mathlib.Core.Path.{◌≡◌, ◌∙◌, ap, sym, refl}
use mathlib.Core.List.{List, [], ◌∷◌, ◌++◌, append_assoc, append-nil, flat_map}
use Prim.Native.Nat.{ℕ, ◌+◌, ◌*◌, ◌/◌, ◌%◌, ◌<◌, ◌≤◌}
use native.Mathlib.Omega.{arith}
use lib.ListN.{length, get_or, take, drop, length-append, length-take, length-drop, get_or-append}
use lib.Seq.{get_or-take}
use Rattle.scope.specs.Block.{block_of, blocks_of}
use Rattle.codec.specs.Valid.{front, rest}
use Rattle.rules.specs.declared.Step.{Step}
use Rattle.rules.specs.declared.Version.{Version}
use Rattle.rules.specs.Steps.{letter_of, step_bytes, encode_steps}
use Rattle.rules.proofs.Steps.{length-step}
use Rattle.gather.specs.Kept.{body_of, gathered, Gathers, Space, Kept, Pushed, Closed}
use Rattle.gather.specs.declared.Writer.{Writer}
use Rattle.gather.proofs.Keeps.{fulls, others, file, body_more, one_more, fulls-same, others-more, fulls-more, others-none, behind, encode_partial, encode_full}

-- a step more in a block
abbrev pub stored : List ℕ → ℕ → Step → List ℕ
stored block k s = take (4 + 4 * k) block ++ step_bytes s ++ drop (4 + 4 * k + 4) block

pub length-stored : (block : List ℕ) (k : ℕ) (s : Step) → length block ≡ 512 → k < 126 → length (stored block k s) ≡ 512
length-stored block k s l h = simp (length-append, length-take, length-drop) (omega (arith, length-step s))

-- the letter stays
pub letter_stored : (block : List ℕ) (k : ℕ) (s : Step) → length block ≡ 512 → get_or (stored block k s) 0 0 ≡ get_or block 0 0
letter_stored block k s l =
    let m : 0 < length (take (4 + 4 * k) block) = simp length-take (omega arith) in
    let n : 0 < 4 + 4 * k = omega arith in
    rw append_assoc (get_or-append (take (4 + 4 * k) block) (step_bytes s ++ drop (4 + 4 * k + 4) block) 0 0 m ∙ rw get_or-take)

module _ (out : List ℕ) (w : Writer) (s : Step) (r : Space 1 out w) where
  abbrev letter : ℕ
  letter = get_or w.block 0 0

  same_letter : (block : List ℕ) → block ≡ stored w.block w.count s → get_or block 0 0 ≡ letter
  same_letter block e = ap (λ (b : List ℕ). get_or b 0 0) e ∙ letter_stored w.block w.count s r.gathers.whole

  -- the block has room left
  pub push_more : (block : List ℕ) → block ≡ stored w.block w.count s → w.count < 125
      → Pushed (s ∷ []) out w out (gathered block (w.count + 1) w.blocks)
  push_more block e h = record {
    gathers = record { few = omega arith; whole = ap length e ∙ length-stored w.block w.count s r.gathers.whole r.gathers.few };
    steps = omega arith;
    size = refl;
    letter = same_letter block e;
    kept = λ ss d k.
        let few : length ss % 126 < 125 = omega (arith, k.count) in
        record {
          count = omega (arith, k.count, one_more ss s);
          blocks = omega (arith, k.blocks, one_more ss s);
          body =
              ap (λ (b : List ℕ). body_of b (w.count + 1)) e
              ∙ body_more w.block (step_bytes s) w.count r.gathers.whole r.gathers.few (length-step s)
              ∙ ap (◌++ step_bytes s) k.body
              ∙ sym (ap (λ (l : ℕ). others l (ss ++ s ∷ [])) (same_letter block e) ∙ others-more letter ss s few);
          bytes =
              k.bytes ∙ ap (◌++ drop (512 * w.blocks) d)
              (sym (ap (λ (l : ℕ). fulls l (ss ++ s ∷ [])) (same_letter block e) ∙ fulls-same letter ss s few));
        };
  }

  -- it is full, and written
  module _ (block out' : List ℕ) (e : block ≡ stored w.block w.count s) (h : 125 ≤ w.count)
      (f : out' ≡ take (512 * w.blocks) out ++ (block_of (get_or block 0 0) 126 w.blocks (body_of block 126) ++ drop (512 * (w.blocks + 1)) out))
      (z : length out' ≡ length out) where
    last : w.count ≡ 125
    last = omega (arith, r.gathers.few)

    pub push-full : Pushed (s ∷ []) out w out' (gathered block 0 (w.blocks + 1))
    push-full = record {
      gathers = record { few = omega arith; whole = ap length e ∙ length-stored w.block w.count s r.gathers.whole r.gathers.few };
      steps = omega (arith, last);
      size = z;
      letter = same_letter block e;
      kept = λ ss d k.
          let c : length ss % 126 ≡ 125 = omega (arith, k.count, last) in
          let n : w.count + 1 ≡ 126 = omega (arith, last) in
          let body : body_of block 126 ≡ others letter ss ++ step_bytes s =
          ap (body_of block) (sym n)
          ∙ ap (λ (b : List ℕ). body_of b (w.count + 1)) e
          ∙ body_more w.block (step_bytes s) w.count r.gathers.whole r.gathers.few (length-step s)
          ∙ ap (◌++ step_bytes s) k.body in
          record {
            count = omega (arith, one_more ss s);
            blocks = omega (arith, k.blocks, one_more ss s);
            body = sym (others-none (get_or block 0 0) ss s c);
            bytes =
                f
                ∙ behind letter ss d (block_of (get_or block 0 0) 126 w.blocks (body_of block 126)) k.bytes k.blocks
                ∙ rw (same_letter block e, body, k.blocks, fulls-more letter ss s c);
          };
    }

-- ---- the end

module _ (out : List ℕ) (w : Writer) where
  pub close_none : (0 < w.count → ⊥) → Closed out w out
  close_none h ss d k =
      let n : length ss % 126 ≡ 0 = omega (arith, k.count, h) in
      let f = encode_full (get_or w.block 0 0) ss n in
      k.bytes ∙ rw (f.1, ← k.blocks) (ap (◌++ drop (512 * w.blocks) d) (sym f.0))

  pub close_some : (out' : List ℕ) → 0 < w.count
      → out' ≡ take (512 * w.blocks) out ++ (block_of (get_or w.block 0 0) w.count w.blocks (body_of w.block w.count) ++ drop (512 * (w.blocks + 1)) out)
      → Closed out w out'
  close_some out' h e ss d k =
      let f = encode_partial (get_or w.block 0 0) ss (omega (arith, k.count)) in
      e
      ∙ behind (get_or w.block 0 0) ss d (block_of (get_or w.block 0 0) w.count w.blocks (body_of w.block w.count)) k.bytes k.blocks
      ∙ rw (f.1, f.0, k.body, k.count, k.blocks)

-- ---- steps more fit

-- the block that gathers has its place
pub place_for : {m : ℕ} {out : List ℕ} {w : Writer} → Space m out w → 0 < w.count + m → (w.blocks < 65536) × (512 * (w.blocks + 1) ≤ length out)
place_for {m} {out} {w} s h = (omega (arith, s.most), omega (arith, s.lent))

-- fewer do
pub space-less : {m k : ℕ} {out : List ℕ} {w : Writer} → k ≤ m → Space m out w → Space k out w
space-less h s = record { gathers = s.gathers; lent = omega (arith, s.lent); most = omega (arith, s.most) }

-- .. and so do those that are left after some
pub space-left : (m : ℕ) {ss : List Step} {out : List ℕ} {w : Writer} {out' : List ℕ} {w' : Writer} → Space (length ss + m) out w → Pushed ss out w out' w'
    → Space m out' w'
space-left m {ss} {out} {w} {out'} {w'} s p =
    let n : length out' / 512 ≡ length out / 512 = ap (◌/ 512) p.size in
    record { gathers = p.gathers; lent = omega (arith, s.lent, p.steps, n); most = omega (arith, s.most, p.steps) }

-- ---- the start, and pushes one after another

pub kept-none : (block d : List ℕ) → Kept [] d d (gathered block 0 0)
unfolding front rest blocks_of flat_map
kept-none block d = record { count = refl; blocks = refl; body = refl; bytes = refl }

pub pushed_none : (out : List ℕ) (w : Writer) → Gathers w → Pushed [] out w out w
pushed_none out w g = record {
  gathers = g;
  steps = omega arith;
  size = refl;
  letter = refl;
  kept = λ rs d k. rw append-nil k;
}

pub pushed_on : {ss ts : List Step} {out : List ℕ} {w : Writer} {out₁ : List ℕ} {w₁ : Writer} {out₂ : List ℕ} {w₂ : Writer}
    → Pushed ss out w out₁ w₁ → Pushed ts out₁ w₁ out₂ w₂ → Pushed (ss ++ ts) out w out₂ w₂
pushed_on {ss} {ts} a b = record {
  gathers = b.gathers;
  steps = omega (arith, a.steps, b.steps, length-append ss ts);
  size = b.size ∙ a.size;
  letter = b.letter ∙ a.letter;
  kept = λ rs d k. rw (← append_assoc rs ss ts) (b.kept (rs ++ ss) d (a.kept rs d k));
}

-- all steps pushed, and the last block written: the derivation's bytes, in front of what stood behind them
pub written : (v : Version) {ss : List Step} {d block out : List ℕ} {w : Writer} {out' : List ℕ} → get_or block 0 0 ≡ letter_of v
    → Pushed ss d (gathered block 0 0) out w → Closed out w out' → out' ≡ encode_steps v ss ++ drop (length (encode_steps v ss)) d
written v {ss} {d} {block} e p c =
    c ss d (p.kept [] d (kept-none block d)) ∙ ap (λ (l : ℕ). file l ss ++ drop (length (file l ss)) d) (p.letter ∙ e)
