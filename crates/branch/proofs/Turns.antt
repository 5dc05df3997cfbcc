-- What the work area holds when a literal joins, when it is split on, and when the newest split turns right. Assumes nothing.
use mathlib.Core.Path.{◌≡◌, refl, sym, ap, ◌∙◌, subst, fun_ext}
use mathlib.Core.Logic.{◌⊎◌, inl, inr}
use mathlib.Core.List.{List, [], ◌∷◌, ◌++◌, map}
use Prim.Native.Nat.{ℕ, suc, ◌+◌, ◌-◌, ◌*◌, ◌%◌, ◌<◌, ◌≤◌}
use native.Mathlib.Omega.{arith}
use native.Mathlib.Decide.{dec_lt}
use lib.ListN.{length, get_or, set, length-set}
use lib.Seq.{get_or-set_same, get_or-set_other}
use Rattle.scope.specs.declared.Node.{Node}
use Rattle.calculus.specs.Expansion.{neg, expand}
use Rattle.calculus.specs.Order.{clauses}
use Rattle.calculus.specs.Model.{All, Table, Fresh, Good}
use Rattle.calculus.proofs.Lists.{all_imply, all_get_d}
use Rattle.rules.specs.Rules.{Branch, join}
use Rattle.trail.proofs.Trails.{good_first, trail_same, trail-suc}
use Rattle.area.specs.Area.{area_size, most_nodes, most_clauses, most_slots, bases_from, slots_from, strikes_from, counts_from, sizes_from, heads_from, trail_from, notes, clause_count, depth, base_at, packed_at, flag_of, strike_at, split_count, split_size, split_head, trail_at, trail, held, g_of, Trail, Entered, Shrunk, Saved}
use Rattle.area.proofs.Packed.{bare_flag}
use Rattle.area.specs.Strikes.{head_of, Strikes, Reaches, Unwound}
use Rattle.branch.specs.Clauses.{flat, Listed, Appended}
use Rattle.branch.specs.Holds.{Strike, slot_of, Valid, Marked, Frame, History, history, branch, branch_of, waits, waiting_of, clauses_to, clauses_of, Split, Base, Holds, Held, Joined, Restored, Restores}
use Rattle.branch.proofs.Offsets.{map_append}
use Rattle.branch.proofs.Appends.{all_flat, expand_below, listed_more}
use Rattle.branch.proofs.Marks.{slots_low, marked_more, marked-less, marked_back}
use Rattle.branch.proofs.Branches.{branch_by, clauses_first, clauses_same, literals_most, slots_fit, top-is, joined-base, joined-clauses, shorter_base, Kept, kept_same, depth_most, splits_same, waits_same}

-- ---- a literal joins

module _ (t : ℕ → Node) (l : ℕ) {w w₁ : List ℕ} (a : Appended (expand t l) w w₁) where
  pub appended_trail : trail_at w₁ ≡ trail_at w
  appended_trail = fun_ext (λ i. a.later (trail_from + i) (omega arith))

  pub enter_ready : {n : ℕ} → area_size ≤ length w → n ≤ most_nodes → Trail n (trail_at w) → Fresh n (g_of w) l
      → ((area_size ≤ length w₁) × (n ≤ most_nodes)) × (Trail n (trail_at w₁) × Fresh n (g_of w₁) l)
  enter_ready {n} size few r f =
      ((omega (arith, size, a.size), few), subst (λ (g : ℕ → ℕ). Trail n g × Fresh n (held g) l) (sym appended_trail) (r, f))

  -- the literals that it brings are the table's, and without a strike
  brought : {n : ℕ} → Table n t → n ≤ most_nodes → l < 2 * n → (i : ℕ) → get_or (flat (expand t l)) i 0 < notes
  brought {n} T few b i =
      omega (
        arith,
        few,
        all_get_d (λ m. m < 2 * n) (flat (expand t l)) i 0 (omega (arith, b))
            (all_flat (λ m. m < 2 * n) (expand t l) (expand_below n t T l b)),
      )

  stays_clean : ((i : ℕ) → get_or (flat (expand t l)) i 0 < notes) → (m : ℕ) → strike_at w m ≡ 0 → strike_at w₁ m ≡ 0
  stays_clean low m z = go (dec_lt m (base_at w (clause_count w))) (dec_lt m (base_at w (clause_count w) + length (flat (expand t l))))
    where
      go : Dec (m < base_at w (clause_count w)) → Dec (m < base_at w (clause_count w) + length (flat (expand t l))) → strike_at w₁ m ≡ 0
      go (yes b) c = ap flag_of (a.old_slots m b) ∙ z
      go (no b) (yes c) =
          let i : ℕ = m - base_at w (clause_count w) in
          let y : base_at w (clause_count w) + i ≡ m = omega (arith, b) in
          ap (strike_at w₁) (sym y) ∙ ap flag_of (a.slots i (omega (arith, b, c))) ∙ bare_flag (get_or (flat (expand t l)) i 0) (low i)
      go (no b) (no c) = ap flag_of (a.beyond m (omega (arith, c))) ∙ z

  pub joined_is : {n : ℕ} {w₂ : List ℕ} → Table n t → n ≤ most_nodes → l < 2 * n → Entered n l w₁ w₂ → Joined t n l w w₂
  joined_is {n} {w₂} T few b e = record {
    size = e.size ∙ a.size;
    trail = e.trail;
    list = e.list ∙ ap (λ (g : ℕ → ℕ). l ∷ held g) appended_trail;
    count = e.count ∙ ap (λ (g : ℕ → ℕ). suc (g 0)) appended_trail;
    lits = λ q i.
        e.lits q (omega (arith, i, ap (λ (g : ℕ → ℕ). g 0) appended_trail)) ∙ ap (λ (g : ℕ → ℕ). g (1 + q)) appended_trail;
    top = ap (λ (g : ℕ → ℕ). trail_at w₂ (1 + g 0)) (sym appended_trail) ∙ e.top;
    listed = λ cs m f p. listed_kept cs m f (listed_more p a (λ i h. brought T few b i));
    strikes = λ m i h. ap flag_of (e.under (slots_from + m) (omega arith) (omega (arith, i)) ∙ a.old_slots m h);
    clean = λ m i z. ap flag_of (e.under (slots_from + m) (omega arith) (omega (arith, i))) ∙ stays_clean (brought T few b) m z;
    depths = e.under 1 (omega arith) (omega arith) ∙ a.depths;
    heads = e.under 2 (omega arith) (omega arith) ∙ a.heads;
    rest = λ i x y. e.under i (omega arith) y ∙ a.later i x;
  }
    where
      listed_kept : (cs : List (List ℕ)) → length (cs ++ expand t l) ≤ most_clauses → length (flat (cs ++ expand t l)) ≤ most_slots
          → Listed (cs ++ expand t l) w₁ → Listed (cs ++ expand t l) w₂
      listed_kept cs m f p = record {
        count = e.under 0 (omega arith) (omega arith) ∙ p.count;
        bases = λ k h. e.under (bases_from + k) (omega arith) (omega (arith, h, m)) ∙ p.bases k h;
        slots = λ i h. ap (◌% notes) (e.under (slots_from + i) (omega arith) (omega (arith, h, f))) ∙ p.slots i h;
      }

-- ---- a split is saved

module _ (t : ℕ → Node) (n : ℕ) (goals w : List ℕ) (few : n ≤ most_nodes) (s : History) (h : Holds t n goals w s) where
  -- the split as it is saved
  abbrev pub frame : Frame
  frame = record { count = trail_at w 0; strikes = s.strikes }

  depth_is : depth w ≡ length s.frames
  depth_is = h.depths

  module _ (w₁ : List ℕ) (p : Saved w w₁) where
    saved-away : (i : ℕ) → (i < counts_from) ⊎ (trail_from ≤ i) → (i ≡ 1 → ⊥) → depth w < most_nodes → get_or w₁ i 0 ≡ get_or w i 0
    saved-away i (inl a) n d = p.else i n (λ q. omega (arith, q, a)) (λ q. omega (arith, q, a)) (λ q. omega (arith, q, a))
    saved-away i (inr a) n d = p.else i n (λ q. omega (arith, q, a, d)) (λ q. omega (arith, q, a, d)) (λ q. omega (arith, q, a, d))

    module _ (d : depth w < most_nodes) where
      pub saved-trail : trail_at w₁ ≡ trail_at w
      saved-trail = fun_ext (λ i. saved-away (trail_from + i) (inr (omega arith)) (λ q. omega (arith, q)) d)

      saved-clauses : clauses_of t goals w₁ ≡ clauses_of t goals w
      saved-clauses = ap (λ (r : ℕ → ℕ). clauses_to t goals r (r 0)) saved-trail

      saved-slot : (m : ℕ) → m < most_slots → packed_at w₁ m ≡ packed_at w m
      saved-slot m b = saved-away (slots_from + m) (inl (omega (arith, b))) (λ q. omega (arith, q)) d

      pub saved-base : Base t n goals w₁
      saved-base =
          shorter_base t n goals w few h.base (trail_at w 0) w₁ (omega arith) (omega (arith, h.base.size, p.size))
          (subst (Trail n) (sym saved-trail) h.base.trail) (ap held saved-trail)
          (saved-away 0 (inl (omega arith)) (λ q. omega (arith, q)) d ∙ h.base.listed.count)
          (λ i a b. saved-away i (inl (omega (arith, b))) (λ q. omega (arith, q, a)) d)
          (λ m b. ap (◌% notes) (saved-slot m b))

      -- and the literal has joined
      module _ (l : ℕ) (w₂ : List ℕ) (j : Joined t n l w₁ w₂) where
        back : (r : ℕ → ℕ) → r ≡ trail_at w → (q : ℕ) → q < trail_at w 0 → q < r 0
        back r e q i = omega (arith, i, ap (λ (g : ℕ → ℕ). g 0) e)

        lits : (q : ℕ) → q < trail_at w 0 → trail_at w₂ (1 + q) ≡ trail_at w (1 + q)
        lits q i = j.lits q (back (trail_at w₁) saved-trail q i) ∙ ap (λ (g : ℕ → ℕ). g (1 + q)) saved-trail

        count₂ : trail_at w₂ 0 ≡ suc (trail_at w 0)
        count₂ = j.count ∙ ap (λ (g : ℕ → ℕ). suc (g 0)) saved-trail

        top₂ : trail_at w₂ (1 + trail_at w 0) ≡ l
        top₂ = ap (λ (g : ℕ → ℕ). trail_at w₂ (1 + g 0)) (sym saved-trail) ∙ j.top

        list₂ : g_of w₂ ≡ l ∷ g_of w
        list₂ = j.list ∙ ap (λ (g : ℕ → ℕ). l ∷ held g) saved-trail

        -- the clauses before the split, and all of them
        old : clauses_to t goals (trail_at w₂) (trail_at w 0) ≡ clauses_of t goals w
        old = clauses_same t goals (trail_at w) (trail_at w₂) (trail_at w 0) lits

        all : clauses_of t goals w₂ ≡ clauses_of t goals w ++ expand t l
        all = joined-clauses t n goals w₁ few saved-base l w₂ j ∙ ap (◌++ expand t l) saved-clauses

        top₁ : base_at w₁ (clause_count w₁) ≡ length (flat (clauses_of t goals w))
        top₁ = top-is t n goals w₁ few saved-base ∙ ap (λ (c : List (List ℕ)). length (flat c)) saved-clauses

        -- a number that is saved is still there
        saved : (i : ℕ) → counts_from ≤ i → i < trail_from → get_or w₂ i 0 ≡ get_or w₁ i 0
        saved i a b = j.rest i (omega (arith, a)) b

        kept : Kept (length s.frames) w w₂
        kept = record {
          counts = λ i b. saved (counts_from + i) (omega arith) (omega (arith, b, d, depth_is))
              ∙ p.else (counts_from + i) (λ q. omega (arith, q)) (λ q. omega (arith, q, b, depth_is)) (λ q. omega (arith, q, b, d, depth_is))
              (λ q. omega (arith, q, b, d, depth_is));
          clauses = λ i b. saved (sizes_from + i) (omega arith) (omega (arith, b, d, depth_is))
              ∙ p.else (sizes_from + i) (λ q. omega (arith, q)) (λ q. omega (arith, q, b, d, depth_is)) (λ q. omega (arith, q, b, depth_is))
              (λ q. omega (arith, q, b, d, depth_is));
          heads = λ i b. saved (heads_from + i) (omega arith) (omega (arith, b, d, depth_is))
              ∙ p.else (heads_from + i) (λ q. omega (arith, q)) (λ q. omega (arith, q, b, d, depth_is)) (λ q. omega (arith, q, b, d, depth_is))
              (λ q. omega (arith, q, b, depth_is));
        }

        -- what is saved at the new split
        at-depth : (f : List ℕ → ℕ → ℕ) (v : ℕ) → f w₂ (depth w) ≡ f w₁ (depth w) → f w₁ (depth w) ≡ v → f w₂ (length s.frames) ≡ v
        at-depth f v a b = ap (f w₂) (sym depth_is) ∙ a ∙ b

        newest-split : Split t goals w₂ (length s.frames) (trail_at w₂ 0) s.strikes frame
        newest-split = record {
          count = at-depth split_count (trail_at w 0) (saved (counts_from + depth w) (omega arith) (omega (arith, d))) p.count;
          clauses = at-depth split_size (length (clauses_to t goals (trail_at w₂) (trail_at w 0)))
              (saved (sizes_from + depth w) (omega arith) (omega (arith, d)))
              (p.clauses ∙ h.base.listed.count ∙ ap length (sym old));
          head = at-depth split_head (head_of (map (slot_of (clauses_to t goals (trail_at w₂) (trail_at w 0))) s.strikes))
              (saved (heads_from + depth w) (omega arith) (omega (arith, d)))
              (p.head ∙ h.marked.chained.head ∙ ap (λ (c : List (List ℕ)). head_of (map (slot_of c) s.strikes)) (sym old));
          before = omega (arith, count₂);
          older = ([], refl);
          within = subst (λ (c : List (List ℕ)). All (λ x. x.clause < length c) s.strikes) (sym old)
              (all_imply (Valid (clauses_of t goals w) w) (λ x. x.clause < length (clauses_of t goals w)) (λ x v. v.clause) s.strikes h.marked.valid);
        }

        pub split-holds : Holds t n goals w₂ (history s.strikes (frame ∷ s.frames))
        split-holds = record {
          base = joined-base t n goals w₁ few saved-base l w₂ j;
          marked = subst (λ (c : List (List ℕ)). Marked c w₂ s.strikes) (sym all)
              (marked_more (clauses_of t goals w) (expand t l) w w₂ s.strikes (j.heads ∙ saved-away 2 (inl (omega arith)) (λ q. omega (arith, q)) d)
              (λ m i. j.rest (strikes_from + m) (omega arith) (omega (arith, i))
              ∙ saved-away (strikes_from + m) (inl (omega (arith, i))) (λ q. omega (arith, q)) d)
              (slots_fit t n goals w few h.base) (λ m i b. j.strikes m i (omega (arith, b, top₁)) ∙ ap flag_of (saved-slot m i))
              (λ m i z. j.clean m i (ap flag_of (saved-slot m i) ∙ z)) h.marked);
          depths = j.depths ∙ p.depths ∙ ap suc depth_is;
          splits = (
            newest-split,
            splits_same t goals w w₂ (trail_at w 0) (trail_at w 0) s.strikes s.strikes s.frames kept (omega arith) lits
                ([], refl) h.splits,
          );
        }

        pub split-branch : branch_of w₂ (history s.strikes (frame ∷ s.frames)) ≡ join l (branch_of w s)
        split-branch = ap (λ (G : List ℕ). branch_by G s.strikes) list₂

        pub split-waiting : waiting_of w₂ (history s.strikes (frame ∷ s.frames)) ≡ join (neg l) (branch_of w s) ∷ waiting_of w s
        unfolding waits
        split-waiting =
            ap (λ (bs : List Branch). join (neg (trail_at w₂ (1 + trail_at w 0))) (branch (trail_at w₂) (trail_at w 0) s.strikes) ∷ bs)
            (waits_same t goals w (trail_at w₂) (trail_at w 0) s.strikes s.frames lits h.splits)
            ∙ ap (λ (x : ℕ). join (neg x) (branch (trail_at w₂) (trail_at w 0) s.strikes) ∷ waits (trail_at w) s.frames) top₂
            ∙ ap (λ (G : List ℕ). join (neg l) (branch_by G s.strikes) ∷ waits (trail_at w) s.frames)
            (trail_same (trail_at w 0) (trail_at w₂) (trail_at w) lits)

-- ---- the newest split has its old state again

module _ (t : ℕ → Node) (n : ℕ) (goals w : List ℕ) (few : n ≤ most_nodes) (S : List Strike) (f : Frame) (fs : List Frame)
    (h : Holds t n goals w (history S (f ∷ fs))) where
  depth-some : depth w ≡ suc (length fs)
  depth-some = h.depths

  pub depth_past : depth w ≤ most_nodes
  depth_past = omega (arith, h.depths, depth_most t goals w (trail_at w 0) S (f ∷ fs) h.splits, literals_most t n goals w few h.base, few)

  pub split-is : (d : ℕ) → d ≡ depth w - 1 → Split t goals w d (trail_at w 0) S f
  split-is d e =
      let z : length fs ≡ d = omega (arith, e, depth-some) in
      subst (λ (x : ℕ). Split t goals w x (trail_at w 0) S f) z h.splits.0

  -- the clauses of the split come first
  module _ (d : ℕ) (e : d ≡ depth w - 1) where
    sp : Split t goals w d (trail_at w 0) S f
    sp = split-is d e

    rest : (ds : List (List ℕ)) × (clauses_of t goals w ≡ clauses_to t goals (trail_at w) f.count ++ ds)
    rest = clauses_first t goals (trail_at w) (trail_at w 0) f.count (omega (arith, sp.before))

    -- the strikes as those of the clauses of the split and the rest
    marked₀ : Marked (clauses_to t goals (trail_at w) f.count ++ rest.0) w (sp.older.0 ++ f.strikes)
    marked₀ =
        subst (λ (c : List (List ℕ)). Marked c w (sp.older.0 ++ f.strikes)) rest.1 (subst (Marked (clauses_of t goals w) w) sp.older.1 h.marked)

    head₀ : split_head w d ≡ head_of (map (slot_of (clauses_to t goals (trail_at w) f.count ++ rest.0)) f.strikes)
    head₀ = sp.head ∙ sym (ap head_of (slots_low (clauses_to t goals (trail_at w) f.count) rest.0 f.strikes sp.within))

    pub split-reaches : Reaches (split_head w d) w
    split-reaches = (
      map (slot_of (clauses_to t goals (trail_at w) f.count ++ rest.0)) sp.older.0,
      map (slot_of (clauses_to t goals (trail_at w) f.count ++ rest.0)) f.strikes,
      (subst (Strikes w) (map_append (slot_of (clauses_to t goals (trail_at w) f.count ++ rest.0)) sp.older.0 f.strikes) marked₀.chained, head₀),
    )

    module _ (w₁ w₂ : List ℕ) (u : Unwound (split_head w d) w w₁) (k : Shrunk n (split_count w d) w₁ w₂) where
      w₃ : List ℕ
      w₃ = set w₂ 0 (split_size w₂ d)

      w₄ : List ℕ
      w₄ = set w₃ 1 d

      d-low : d < most_nodes
      d-low = omega (arith, e, depth_past, depth-some)

      z₂ : length w₂ ≡ length w
      z₂ = k.size ∙ u.size

      z₃ : length w₃ ≡ length w
      unfolding w₃
      z₃ = length-set w₂ 0 (split_size w₂ d) ∙ z₂

      z₄ : length w₄ ≡ length w
      unfolding w₄
      z₄ = length-set w₃ 1 d ∙ z₃

      away : (i : ℕ) → (i ≡ 0 → ⊥) → (i ≡ 1 → ⊥) → get_or w₄ i 0 ≡ get_or w₂ i 0
      unfolding w₄ w₃
      away i a b = get_or-set_other w₃ 1 i d 0 b ∙ get_or-set_other w₂ 0 i (split_size w₂ d) 0 a

      -- clauses and what is saved are as they were
      below : (i : ℕ) → (i ≡ 0 → ⊥) → (i ≡ 1 → ⊥) → (i ≡ 2 → ⊥) → (i < slots_from) ⊎ (counts_from ≤ i) → i < trail_from → get_or w₄ i 0 ≡ get_or w i 0
      below i a b c o m = away i a b ∙ k.under i (omega arith) m ∙ u.else i c o

      packed₄ : (m : ℕ) → m < most_slots → packed_at w₄ m ≡ packed_at w₁ m
      packed₄ m b = away (slots_from + m) (λ y. omega (arith, y)) (λ y. omega (arith, y)) ∙ k.under (slots_from + m) (omega arith) (omega (arith, b))

      -- the literals that stay
      lits₄ : (q : ℕ) → q < f.count → trail_at w₄ (1 + q) ≡ trail_at w (1 + q)
      lits₄ q i =
          away (trail_from + (1 + q)) (λ y. omega (arith, y)) (λ y. omega (arith, y)) ∙ k.lits q (omega (arith, i, sp.count))
          ∙ u.else (trail_from + (1 + q)) (λ y. omega (arith, y)) (inr (omega arith))

      trail₄ : trail_at w₄ ≡ trail_at w₂
      trail₄ = fun_ext (λ i. away (trail_from + i) (λ y. omega (arith, y)) (λ y. omega (arith, y)))

      count₄ : trail_at w₄ 0 ≡ f.count
      count₄ = ap (λ (r : ℕ → ℕ). r 0) trail₄ ∙ k.count ∙ sp.count

      list₄ : g_of w₄ ≡ trail f.count (trail_at w)
      list₄ = ap (λ (c : ℕ). trail c (trail_at w₄)) count₄ ∙ trail_same f.count (trail_at w₄) (trail_at w) lits₄

      clauses₄ : clause_count w₄ ≡ length (clauses_to t goals (trail_at w) f.count)
      unfolding w₄ w₃
      clauses₄ =
          get_or-set_other w₃ 1 0 d 0 (λ y. omega (arith, y)) ∙ get_or-set_same w₂ 0 (split_size w₂ d) 0 (omega (arith, z₂, h.base.size))
          ∙ k.under (sizes_from + d) (omega arith) (omega (arith, d-low)) ∙ u.else (sizes_from + d) (λ y. omega (arith, y)) (inr (omega arith)) ∙ sp.clauses

      depth₄ : depth w₄ ≡ length fs
      unfolding w₄
      depth₄ = get_or-set_same w₃ 1 d 0 (omega (arith, z₃, h.base.size)) ∙ omega (arith, e, depth-some)

      base₄ : Base t n goals w₄
      base₄ =
          shorter_base t n goals w few h.base f.count w₄ (omega (arith, sp.before)) (omega (arith, z₄, h.base.size))
          (subst (Trail n) (sym trail₄) k.trail) list₄ clauses₄
          (λ i a b. below i (λ y. omega (arith, y, a)) (λ y. omega (arith, y, a)) (λ y. omega (arith, y, a)) (inl b) (omega (arith, b)))
          (λ m b. ap (◌% notes) (packed₄ m b) ∙ u.slots m)

      same₄ : clauses_of t goals w₄ ≡ clauses_to t goals (trail_at w) f.count
      same₄ = ap (clauses (expand t) goals) list₄

      marked₄ : Marked (clauses_of t goals w₄) w₄ f.strikes
      marked₄ =
          subst (λ (c : List (List ℕ)). Marked c w₄ f.strikes) (sym same₄)
          (marked-less (clauses_to t goals (trail_at w) f.count) rest.0 w₁ w₄ f.strikes
          (away 2 (λ y. omega (arith, y)) (λ y. omega (arith, y)) ∙ k.under 2 (omega arith) (omega arith))
          (λ m i. away (strikes_from + m) (λ y. omega (arith, y)) (λ y. omega (arith, y)) ∙ k.under (strikes_from + m) (omega arith) (omega (arith, i)))
          (omega (arith, ap (λ (c : List (List ℕ)). length (flat c)) rest.1, slots_fit t n goals w few h.base)) (λ m i. ap flag_of (packed₄ m i)) sp.within
          (marked_back (clauses_to t goals (trail_at w) f.count ++ rest.0) (split_head w d) w w₁ sp.older.0 f.strikes marked₀ u head₀))

      kept₄ : Kept (length fs) w w₄
      kept₄ =
          kept_same (length fs) w w₄ (omega (arith, depth_past, depth-some))
          (λ i a b. below i (λ y. omega (arith, y, a)) (λ y. omega (arith, y, a)) (λ y. omega (arith, y, a)) (inr a) b)

      -- the literal that was split on was free when it joined
      good-split : Good n (trail_at w (1 + f.count) ∷ trail f.count (trail_at w))
      good-split = subst (Good n) (trail-suc f.count (trail_at w)) (good_first n (trail_at w 0) (trail_at w) (suc f.count) h.base.trail.good sp.before)

      restored₄ : Restored t n goals w f fs w₄ (trail_at w (1 + f.count))
      restored₄ = record {
        holds = record {
          base = base₄;
          marked = marked₄;
          depths = depth₄;
          splits = splits_same t goals w w₄ f.count (trail_at w₄ 0) f.strikes f.strikes fs kept₄ (omega (arith, count₄)) lits₄ ([], refl) h.splits.1;
        };
        list = list₄;
        waiting = waits_same t goals w (trail_at w₄) f.count f.strikes fs lits₄ h.splits.1;
        literal = refl;
        free = subst (λ (G : List ℕ). Fresh n G (trail_at w (1 + f.count))) (sym list₄) good-split.0;
      }

      pub restored : Restored t n goals w f fs (set (set w₂ 0 (split_size w₂ d)) 1 d) (trail_at w (1 + split_count w d))
      unfolding w₄ w₃
      restored = subst (λ (c : ℕ). Restored t n goals w f fs w₄ (trail_at w (1 + c))) (sym sp.count) restored₄

-- ---- what the way back needs

-- some split is open
pub record Opened (t : ℕ → Node) (n : ℕ) (w : List ℕ) : Type 0 where
  pub goals : List ℕ
  pub strikes : List Strike
  pub frame : Frame
  pub frames : List Frame
  pub holds : Holds t n goals w (history strikes (frame ∷ frames))

-- what is read of the newest split lies within the work area
pub record Restorable (n : ℕ) (w : List ℕ) : Type 0 where
  pub size : area_size ≤ length w
  pub few : n ≤ most_nodes
  pub some : 0 < depth w
  pub most : depth w ≤ most_nodes
  pub count : split_count w (depth w - 1) < trail_at w 0
  pub literals : trail_at w 0 ≤ n

module _ (t : ℕ → Node) (n : ℕ) (w : List ℕ) (few : n ≤ most_nodes) where
  pub opened : Held t n w → 0 < depth w → Opened t n w
  opened H b = go H.1.strikes H.1.frames H.2
    where
      go : (S : List Strike) (fs : List Frame) → Holds t n H.0 w (history S fs) → Opened t n w
      go S [] h = absurd (omega (arith, b, h.depths))
      go S (f ∷ fs) h = record { goals = H.0; strikes = S; frame = f; frames = fs; holds = h }

  module _ (o : Opened t n w) where
    pub restorable : Restorable n w
    restorable =
        let s = split-is t n o.goals w few o.strikes o.frame o.frames o.holds (depth w - 1) refl in
        record {
          size = o.holds.base.size;
          few = few;
          some = omega (arith, o.holds.depths);
          most = depth_past t n o.goals w few o.strikes o.frame o.frames o.holds;
          count = omega (arith, s.count, s.before);
          literals = literals_most t n o.goals w few o.holds.base;
        }

    pub open-reaches : (d : ℕ) → d ≡ depth w - 1 → Reaches (split_head w d) w
    open-reaches d e = split-reaches t n o.goals w few o.strikes o.frame o.frames o.holds d e

    -- after the strikes are undone, literals may go
    pub shrink-ready : {head d : ℕ} {w₁ : List ℕ} → d ≡ depth w - 1 → Unwound head w w₁
        → ((area_size ≤ length w₁) × (n ≤ most_nodes) × (split_count w d ≤ trail_at w₁ 0)) × Trail n (trail_at w₁)
    shrink-ready {head} {d} {w₁} e u =
        let r : trail_at w₁ ≡ trail_at w = fun_ext (λ j. u.else (trail_from + j) (λ q. omega (arith, q)) (inr (omega arith))) in (
          (omega (arith, restorable, u.size), few, omega (arith, restorable, ap (λ (k : ℕ). split_count w k) e, ap (λ (g : ℕ → ℕ). g 0) r)),
          subst (Trail n)
              (sym r) o.holds.base.trail,
        )

pub held_restorable : (t : ℕ → Node) (n : ℕ) (w : List ℕ) → n ≤ most_nodes → Held t n w → 0 < depth w → Restorable n w
held_restorable t n w few H b = restorable t n w few (opened t n w few H b)

-- the splits' old state, whatever they were
pub restores : {t : ℕ → Node} {n : ℕ} {w w₁ w₂ : List ℕ} {d : ℕ} → n ≤ most_nodes → d ≡ depth w - 1 → Unwound (split_head w d) w w₁
    → Shrunk n (split_count w d) w₁ w₂
    → Restores t n w (set (set w₂ 0 (split_size w₂ d)) 1 d) (trail_at w (1 + split_count w d))
restores {t} {n} {w} {w₁} {w₂} {d} few e u k goals S f fs h = restored t n goals w few S f fs h d e w₁ w₂ u k
