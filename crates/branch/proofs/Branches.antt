-- What the work area holds after a literal has joined, and after a strike. Assumes nothing.
use mathlib.Core.Path.{◌≡◌, refl, sym, ap, ◌∙◌, subst, fun_ext}
use mathlib.Core.Bool.{true, false}
use mathlib.Core.Logic.{inl, inr}
use mathlib.Core.List.{List, [], ◌∷◌, ◌++◌, map, append_assoc, append-nil}
use Prim.Native.Nat.{ℕ, zero, suc, ◌+◌, ◌*◌, ◌<◌, ◌≤◌}
use native.Mathlib.Omega.{arith}
use native.Mathlib.Decide.{ℕ_discrete}
use lib.ListN.{length, get_or}
use Rattle.scope.specs.declared.Node.{Node}
use Rattle.calculus.specs.Expansion.{neg, expand}
use Rattle.calculus.specs.Order.{clauses}
use Rattle.calculus.specs.Model.{All, question_size, Fresh}
use Rattle.calculus.proofs.Sizes.{clauses-few}
use Rattle.rules.specs.Rules.{Branch, join, strike_clause, strike_literal}
use Rattle.trail.proofs.Trails.{trail-length, trail_same, trail-suc, count_most, room_left}
use Rattle.area.specs.Area.{area_size, most_nodes, most_clauses, most_slots, clause_room, literal_room, bases_from, slots_from, strikes_from, counts_from, sizes_from, heads_from, trail_from, clause_count, base_at, slot_at, strike_at, length_at, split_count, split_size, split_head, trail_at, trail, held, g_of, Trail, Same, Struck, Ranged}
use Rattle.area.specs.Strikes.{head_of}
use Rattle.branch.specs.Clauses.{flat, offset, Listed}
use Rattle.branch.specs.Holds.{Strike, strike, clauses_in, literals_in, slot_of, Marked, Frame, History, history, branch, branch_of, waits, waiting_of, End, clauses_to, clauses_of, Splits, Base, Holds, Joined}
use Rattle.branch.proofs.Offsets.{offset_next, offset_most, offset_all}
use Rattle.branch.proofs.Appends.{listed-first, literals-few}
use Rattle.branch.proofs.Marks.{kind_of, marked_more, marked-strike}

abbrev pub branch_by : List ℕ → List Strike → Branch
branch_by G S = record { G = G; struck_clauses = clauses_in S; struck_literals = literals_in S }

-- the newest strike's slot + 1, of strikes of clauses
abbrev heads : List (List ℕ) → List Strike → ℕ
heads cs S = head_of (map (slot_of cs) S)

-- ---- the clause list of a trail's first literals

module _ (t : ℕ → Node) (goals : List ℕ) where
  pub clauses_cons : (l : ℕ) (G : List ℕ) → clauses (expand t) goals (l ∷ G) ≡ clauses (expand t) goals G ++ expand t l
  unfolding clauses
  clauses_cons l G = refl

  -- the clauses of the first literals come first
  pub clauses_first : (r : ℕ → ℕ) (c q : ℕ) → q ≤ c → (ds : List (List ℕ)) × (clauses_to t goals r c ≡ clauses_to t goals r q ++ ds)
  clauses_first r zero q h =
      let z : 0 ≡ q = omega (arith, h) in
      ([], ap (clauses_to t goals r) z ∙ sym (append-nil (clauses_to t goals r q)))
  clauses_first r (suc c) q h = go (ℕ_discrete q (suc c)) (clauses_first r c q)
    where
      go : Dec (q ≡ suc c) → (q ≤ c → (ds : List (List ℕ)) × (clauses_to t goals r c ≡ clauses_to t goals r q ++ ds))
          → (ds : List (List ℕ)) × (clauses_to t goals r (suc c) ≡ clauses_to t goals r q ++ ds)
      go (yes z) f = ([], ap (clauses_to t goals r) (sym z) ∙ sym (append-nil (clauses_to t goals r q)))
      go (no z) f =
          let p = f (omega (arith, z, h)) in (
            p.0 ++ expand t (r (1 + c)),
            ap (clauses (expand t) goals) (trail-suc c r) ∙ clauses_cons (r (1 + c)) (trail c r) ∙ ap (◌++ expand t (r (1 + c))) p.1
                ∙ append_assoc (clauses_to t goals r q) p.0 (expand t (r (1 + c))),
          )

  -- trails that agree
  pub clauses_same : (r r' : ℕ → ℕ) (c : ℕ) → ((q : ℕ) → q < c → r' (1 + q) ≡ r (1 + q)) → clauses_to t goals r' c ≡ clauses_to t goals r c
  clauses_same r r' c e = ap (clauses (expand t) goals) (trail_same c r' r e)

module _ (t : ℕ → Node) (n : ℕ) (goals w : List ℕ) (few : n ≤ most_nodes) (h : Base t n goals w) where
  abbrev cs : List (List ℕ)
  cs = clauses_of t goals w

  pub literals_most : trail_at w 0 ≤ n
  literals_most = count_most n (trail_at w) h.trail

  pub clauses_most : length cs ≤ question_size + clause_room * trail_at w 0
  clauses_most = omega (arith, clauses-few t goals (g_of w), trail-length (trail_at w 0) (trail_at w), h.aims.most)

  pub slots_most : length (flat cs) ≤ question_size + literal_room * trail_at w 0
  slots_most = omega (arith, literals-few t goals (g_of w), trail-length (trail_at w 0) (trail_at w), h.aims.most)

  pub clauses_fit : length cs ≤ most_clauses
  clauses_fit = omega (arith, clauses_most, literals_most, few)

  pub slots_fit : length (flat cs) ≤ most_slots
  slots_fit = omega (arith, slots_most, literals_most, few)

  -- a clause begins and ends within the slots
  module _ (k : ℕ) (b : k < length cs) where
    pub base_is : base_at w k ≡ offset cs k
    base_is = h.listed.bases k (omega (arith, b))

    pub end_is : base_at w (k + 1) ≡ offset cs k + length (get_or cs k [])
    end_is =
        let z : k + 1 ≡ suc k = omega arith in
        h.listed.bases (k + 1) (omega (arith, b)) ∙ ap (offset cs) z ∙ offset_next cs k b

    pub length-is : length_at w k ≡ length (get_or cs k [])
    length-is = omega (arith, base_is, end_is)

  pub ranged : Ranged w
  ranged = record {
    size = h.size;
    count = omega (arith, h.listed.count, clauses_fit);
    ends = λ k b.
        let i : k < length cs = omega (arith, b, h.listed.count) in
        let z : k + 1 ≡ suc k = omega arith in
        (omega (arith, base_is k i, end_is k i), omega (arith, h.listed.bases (k + 1) (omega (arith, i)), ap (offset cs) z, offset_most cs (suc k), slots_fit));
  }

  pub top-is : base_at w (clause_count w) ≡ length (flat cs)
  top-is = h.listed.bases (clause_count w) (omega (arith, h.listed.count)) ∙ ap (offset cs) h.listed.count ∙ offset_all cs

  -- where a literal may join, its clauses have room
  pub push_room : {l : ℕ} → Fresh n (g_of w) l → (clause_count w + clause_room ≤ most_clauses) × (base_at w (clause_count w) + literal_room ≤ most_slots)
  push_room {l} f =
      let r : trail_at w 0 < n = room_left n (trail_at w) h.trail l f in
      (omega (arith, h.listed.count, clauses_most, r, few), omega (arith, top-is, slots_most, r, few))

  -- one literal more
  module _ (l : ℕ) (w' : List ℕ) (j : Joined t n l w w') where
    pub joined-clauses : clauses_of t goals w' ≡ cs ++ expand t l
    joined-clauses = ap (clauses (expand t) goals) j.list ∙ clauses_cons t goals l (g_of w)

    pub joined-base : Base t n goals w'
    joined-base = record {
      size = omega (arith, h.size, j.size);
      aims = h.aims;
      trail = j.trail;
      listed = subst (λ (c : List (List ℕ)). Listed c w') (sym joined-clauses) (j.listed cs fit.0 fit.1 h.listed);
    }
      where
        fit : (length (cs ++ expand t l) ≤ most_clauses) × (length (flat (cs ++ expand t l)) ≤ most_slots)
        fit =
            let few' : trail_at w' 0 ≤ n = count_most n (trail_at w') j.trail in
            let a = clauses-few t goals (g_of w') in
            let b = literals-few t goals (g_of w') in
            let g = trail-length (trail_at w' 0) (trail_at w') in
            let e = ap length joined-clauses in
            let d = ap (λ (c : List (List ℕ)). length (flat c)) joined-clauses in
            (omega (arith, a, g, e, few', few, h.aims.most), omega (arith, b, g, d, few', few, h.aims.most))

  -- the first q literals alone
  pub shorter_base : (q : ℕ) (w' : List ℕ) → q ≤ trail_at w 0 → area_size ≤ length w' → Trail n (trail_at w') → g_of w' ≡ trail q (trail_at w)
      → clause_count w' ≡ length (clauses_to t goals (trail_at w) q) → Same bases_from slots_from w w'
      → ((i : ℕ) → i < most_slots → slot_at w' i ≡ slot_at w i) → Base t n goals w'
  shorter_base q w' b z r g e s v =
      let p = clauses_first t goals (trail_at w) (trail_at w 0) q b in
      record {
        size = z;
        aims = h.aims;
        trail = r;
        listed = subst (λ (G : List ℕ). Listed (clauses (expand t) goals G) w') (sym g)
            (listed-first cs (clauses_to t goals (trail_at w) q) p.0 w w' p.1 clauses_fit slots_fit h.listed e s v);
      }

-- ---- the open splits

-- what is saved of the first splits is as it was
pub record Kept (d : ℕ) (w w' : List ℕ) : Type 0 where
  pub counts : (i : ℕ) → i < d → split_count w' i ≡ split_count w i
  pub clauses : (i : ℕ) → i < d → split_size w' i ≡ split_size w i
  pub heads : (i : ℕ) → i < d → split_head w' i ≡ split_head w i

kept_less : (d e : ℕ) (w w' : List ℕ) → e ≤ d → Kept d w w' → Kept e w w'
kept_less d e w w' h k = record {
  counts = λ i b. k.counts i (omega (arith, b, h));
  clauses = λ i b. k.clauses i (omega (arith, b, h));
  heads = λ i b. k.heads i (omega (arith, b, h));
}

-- where the saved numbers are as they were
pub kept_same : (d : ℕ) (w w' : List ℕ) → d ≤ most_nodes → Same counts_from trail_from w w' → Kept d w w'
kept_same d w w' h s = record {
  counts = λ i b. s (counts_from + i) (omega arith) (omega (arith, b, h));
  clauses = λ i b. s (sizes_from + i) (omega arith) (omega (arith, b, h));
  heads = λ i b. s (heads_from + i) (omega arith) (omega (arith, b, h));
}

module _ (t : ℕ → Node) (goals : List ℕ) where
  -- each split has a literal of its own
  pub depth_most : (w : List ℕ) (c : ℕ) (S : List Strike) (fs : List Frame) → Splits t goals w c S fs → length fs ≤ c
  depth_most w c S [] s = omega arith
  depth_most w c S (f ∷ fs) s = omega (arith, s.0.before, depth_most w f.count f.strikes fs s.1)

  end-end : (J K L : List Strike) → End J K → End K L → End J L
  end-end J K L a b = (b.0 ++ a.0, b.1 ∙ ap (b.0 ++◌) a.1 ∙ sym (append_assoc b.0 a.0 J))

  -- the splits are right still where more literals and strikes have come
  pub splits_same : (w w' : List ℕ) (c c' : ℕ) (S S' : List Strike) (fs : List Frame) → Kept (length fs) w w' → c ≤ c'
      → ((q : ℕ) → q < c → trail_at w' (1 + q) ≡ trail_at w (1 + q)) → End S S' → Splits t goals w c S fs → Splits t goals w' c' S' fs
  splits_same w w' c c' S S' [] k b e o s = tt
  splits_same w w' c c' S S' (f ∷ fs) k b e o s =
      let same : clauses_to t goals (trail_at w) f.count ≡ clauses_to t goals (trail_at w') f.count =
      sym (clauses_same t goals (trail_at w) (trail_at w') f.count (λ q i. e q (omega (arith, i, s.0.before)))) in (
        record {
          count = k.counts (length fs) (omega arith) ∙ s.0.count;
          clauses = k.clauses (length fs) (omega arith) ∙ s.0.clauses ∙ ap length same;
          head = k.heads (length fs) (omega arith) ∙ s.0.head ∙ ap (λ (a : List (List ℕ)). heads a f.strikes) same;
          before = omega (arith, s.0.before, b);
          older = end-end f.strikes S S' s.0.older o;
          within = subst (λ (a : List (List ℕ)). All (λ x. x.clause < length a) f.strikes) same s.0.within;
        },
        splits_same w w' f.count f.count f.strikes f.strikes fs (kept_less (suc (length fs)) (length fs) w w' (omega arith) k) (omega arith)
            (λ q i. e q (omega (arith, i, s.0.before))) ([], refl) s.1,
      )

  pub waits_same : (w : List ℕ) (r : ℕ → ℕ) (c : ℕ) (S : List Strike) (fs : List Frame) → ((q : ℕ) → q < c → r (1 + q) ≡ trail_at w (1 + q))
      → Splits t goals w c S fs → waits r fs ≡ waits (trail_at w) fs
  unfolding waits
  waits_same w r c S [] e s = refl
  waits_same w r c S (f ∷ fs) e s =
      let a : r (1 + f.count) ≡ trail_at w (1 + f.count) = e f.count s.0.before in
      let b : trail f.count r ≡ trail f.count (trail_at w) = trail_same f.count r (trail_at w) (λ q i. e q (omega (arith, i, s.0.before))) in
      let d = waits_same w r f.count f.strikes fs (λ q i. e q (omega (arith, i, s.0.before))) s.1 in
      ap (λ (bs : List Branch). join (neg (r (1 + f.count))) (branch r f.count f.strikes) ∷ bs) d
      ∙ ap (λ (x : ℕ). join (neg x) (branch r f.count f.strikes) ∷ waits (trail_at w) fs) a
      ∙ ap (λ (G : List ℕ). join (neg (trail_at w (1 + f.count))) (branch_by G f.strikes) ∷ waits (trail_at w) fs) b

-- ---- what is held

module _ (t : ℕ → Node) (n : ℕ) (goals w : List ℕ) (few : n ≤ most_nodes) (s : History) (h : Holds t n goals w s) where
  pub depth_low : length s.frames ≤ trail_at w 0
  depth_low = depth_most t goals w (trail_at w 0) s.strikes s.frames h.splits

  most : length s.frames ≤ most_nodes
  most = omega (arith, depth_low, literals_most t n goals w few h.base, few)

  -- a literal has joined
  module _ (l : ℕ) (w' : List ℕ) (j : Joined t n l w w') where
    pub joined-holds : Holds t n goals w' s
    joined-holds = record {
      base = joined-base t n goals w few h.base l w' j;
      marked = subst (λ (c : List (List ℕ)). Marked c w' s.strikes) (sym (joined-clauses t n goals w few h.base l w' j))
          (marked_more (clauses_of t goals w) (expand t l) w w' s.strikes j.heads (λ m i. j.rest (strikes_from + m) (omega arith) (omega (arith, i)))
          (slots_fit t n goals w few h.base) (λ m i b. j.strikes m i (omega (arith, b, top-is t n goals w few h.base))) j.clean h.marked);
      depths = j.depths ∙ h.depths;
      splits = splits_same t goals w w' (trail_at w 0) (trail_at w' 0) s.strikes s.strikes s.frames
          (kept_same (length s.frames) w w' most (λ i a b. j.rest i (omega (arith, a)) b)) (omega (arith, j.count)) j.lits ([], refl) h.splits;
    }

    pub joined-branch : branch_of w' s ≡ join l (branch_of w s)
    joined-branch = ap (λ (G : List ℕ). branch_by G s.strikes) j.list

    pub joined-waiting : waiting_of w' s ≡ waiting_of w s
    joined-waiting = waits_same t goals w (trail_at w') (trail_at w 0) s.strikes s.frames j.lits h.splits

  -- a strike was made
  module _ (x : Strike) (w' : List ℕ) (a : x.clause < length (clauses_of t goals w)) (b : x.position < length (get_or (clauses_of t goals w) x.clause []))
      (z : strike_at w (slot_of (clauses_of t goals w) x) ≡ 0) (p : Struck (kind_of x.whole) (slot_of (clauses_of t goals w) x) w w') where
    trail-kept : trail_at w' ≡ trail_at w
    trail-kept = fun_ext (λ i. p.else (trail_from + i) (λ q. omega (arith, q)) (inr (omega arith)))

    clauses-kept : clauses_of t goals w' ≡ clauses_of t goals w
    clauses-kept = ap (λ (r : ℕ → ℕ). clauses_to t goals r (r 0)) trail-kept

    pub struck-holds : Holds t n goals w' (history (x ∷ s.strikes) s.frames)
    struck-holds = record {
      base = shorter_base t n goals w few h.base (trail_at w 0) w' (omega arith) (omega (arith, h.base.size, p.size))
          (subst (Trail n) (sym trail-kept) h.base.trail)
          (ap held trail-kept) (p.else 0 (λ q. omega (arith, q)) (inl (omega arith)) ∙ h.base.listed.count)
          (λ i c d. p.else i (λ q. omega (arith, q, c)) (inl d)) p.slots;
      marked = subst (λ (c : List (List ℕ)). Marked c w' (x ∷ s.strikes)) (sym clauses-kept)
          (marked-strike (clauses_of t goals w) w w' s.strikes (slots_fit t n goals w few h.base) h.marked x a b z p);
      depths = p.else 1 (λ q. omega (arith, q)) (inl (omega arith)) ∙ h.depths;
      splits = splits_same t goals w w' (trail_at w 0) (trail_at w' 0) s.strikes (x ∷ s.strikes) s.frames
          (kept_same (length s.frames) w w' most (λ i c d. p.else i (λ q. omega (arith, q, c)) (inr c)))
          (omega (arith, ap (λ (r : ℕ → ℕ). r 0) trail-kept)) (λ q i. ap (λ (r : ℕ → ℕ). r (1 + q)) trail-kept) (x ∷ [], refl) h.splits;
    }

    pub struck-branch : branch_of w' (history (x ∷ s.strikes) s.frames) ≡ branch_by (g_of w) (x ∷ s.strikes)
    struck-branch = ap (λ (r : ℕ → ℕ). branch_by (held r) (x ∷ s.strikes)) trail-kept

    pub struck-waiting : waiting_of w' (history (x ∷ s.strikes) s.frames) ≡ waiting_of w s
    struck-waiting = ap (λ (r : ℕ → ℕ). waits r s.frames) trail-kept

-- a strike of a clause, and of a literal
pub whole-strike : (k p : ℕ) (G : List ℕ) (S : List Strike) → branch_by G (strike k p true ∷ S) ≡ strike_clause k (branch_by G S)
unfolding clauses_in literals_in
whole-strike k p G S = refl

pub part-strike : (k p : ℕ) (G : List ℕ) (S : List Strike) → branch_by G (strike k p false ∷ S) ≡ strike_literal (record { clause = k; position = p })
    (branch_by G S)
unfolding clauses_in literals_in
part-strike k p G S = refl
