-- From the search to the truth of goals: a readable table's nodes are a Table, the truths under a setting are a Model, and so the
-- calculus' theorems speak of settings, as evaluate takes them. Assumes nothing.
use mathlib.Core.Path.{◌≡◌, refl, sym, ap, ◌∙◌, fun_ext}
use mathlib.Core.List.{List, [], ◌∷◌, ◌++◌, map, append-nil}
use mathlib.Core.Bool.{Bool, true, cond, ◌&&◌, false≢true}
use Prim.Native.Nat.{ℕ, ◌-◌, ◌*◌, ◌/◌, ◌%◌, ◌<◌, ◌≤◌}
use native.Mathlib.Omega.{arith}
use native.Mathlib.Decide.{dec_lt, ℕ_discrete}
use lib.Dec.{eqb, ltb}
use lib.ListN.{length, get_or, length-append, length-map, get_or-append, get_or-map}
use borrow.Author.Tests.{eq-eqb, eqb-true, lt-ltb, ltb-true, le-leb}
use Rattle.scope.specs.declared.Node.{Node}
use Rattle.scope.specs.declared.Truth.TheVariants.{Yes}
use Rattle.scope.specs.Outcome.{answer, fine, require}
use Rattle.scope.specs.Table.{node_bytes, operands, form_ok, same_node, decode}
use Rattle.scope.specs.Truth.{Logic, lit_truth, joined, truth_in, classical, truth}
use Rattle.scope.specs.Kleene.{opposite, point_truth, kleene, truth₃, sure, NoTwo, Fills}
use Rattle.scope.specs.Calls.{settings_test, evaluate}
use Rattle.scope.proofs.Tests.{and_left, and_right, met, then_next}
use Rattle.scope.proofs.First.{all_fine}
use Rattle.codec.specs.Valid.{Bytes, Valid}
use Rattle.codec.proofs.Records.{reads, Small, small}
use Rattle.codec.proofs.Tables.{read_valid}
use Rattle.truth.specs.Evaluated.{Low}
use Rattle.truth.proofs.Low.{readable_low}
use Rattle.truth.proofs.Truths.{lit_even, true-yes, atom-truth, truths-join}
use Rattle.truth.proofs.Says.{Points, two_valued, sure_filled}
use Rattle.calculus.specs.Order.{setting_of, Answer, possible, impossible, unfinished, answer_of}
use Rattle.calculus.specs.Model.{All, Table, lit_in, lit_true, Model, HeldAtoms, Below, Good}
use Rattle.calculus.specs.Decide.{nodes_of, search_of, Satisfies, Unsatisfiable, ◌⇔◌}
use Rattle.calculus.proofs.Lists.{all_imply, every_all}
use Rattle.calculus.proofs.Literals.{all_member, good_below}
use Rattle.calculus.proofs.Search.{never_cut}
use Rattle.calculus.proofs.Sound.{sound}
use Rattle.calculus.proofs.Complete.{complete}
use Rattle.calculus.proofs.Setting.{setting-held, setting_length, setting_small}
use Rattle.index.specs.Index.{most_literals}

-- ---- a readable table's nodes

-- the other fields of an ATOM are zero
abbrev Bare : Node → Type 0
Bare x = (x.b ≡ 0) × (x.c ≡ 0)

atom_bare : (x : Node) (one : ℕ) → form_ok x one ≡ true → x.kind ≡ 2 → Bare x
unfolding form_ok
atom_bare x one e k =
    let f : (eqb x.b 0 && eqb x.c 0) ≡ true = and_right (eqb one 0) _ (simp k at e) in
    (eqb-true x.b 0 (and_left (eqb x.b 0) (eqb x.c 0) f), eqb-true x.c 0 (and_right (eqb x.b 0) (eqb x.c 0) f))

-- so ATOMs of one point are the same record
same_atom : (x y : Node) → x.kind ≡ 2 → y.kind ≡ 2 → x.a ≡ y.a → Bare x → Bare y → same_node x y ≡ true
same_atom x y k l a b c =
    simp (
      eq-eqb x.kind y.kind (k ∙ sym l),
      eq-eqb x.a y.a a,
      eq-eqb x.b y.b (b.0 ∙ sym c.0),
      eq-eqb x.c y.c (b.1 ∙ sym c.1),
    )

module _ (t : List ℕ) (rs : List Node) (all : Bytes t) (e : decode t ≡ answer rs) where
  valid : Valid rs
  valid = read_valid t rs all e

  pub low : (i : ℕ) → i < length rs → Low (nodes_of rs i) i
  low i h = readable_low t rs i all e h

  none : (i : ℕ) → i < length rs → (nodes_of rs i).kind ≡ 2 → Bare (nodes_of rs i)
  none i h k = atom_bare (nodes_of rs i) _ (reads (node_bytes (nodes_of rs i)) i (valid.each i h)).form k

  once : (i j : ℕ) → i < j → j < length rs → (nodes_of rs i).kind ≡ 2 → (nodes_of rs j).kind ≡ 2 → (nodes_of rs i).a ≡ (nodes_of rs j).a → ⊥
  once i j h b k l a =
      false≢true (sym (valid.once i j h b)
      ∙ same_atom (nodes_of rs i) (nodes_of rs j) k l a (none i (omega arith) k) (none j b l))

  small_of : (i : ℕ) → i < length rs → Small (nodes_of rs i)
  small_of i h = small (node_bytes (nodes_of rs i)) i (omega (arith, valid.few)) (reads (node_bytes (nodes_of rs i)) i (valid.each i h))

  pub table_of : Table (length rs) (nodes_of rs)
  table_of = record {
    kinds = λ i h. ((low i h).kinds, (low i h).known);
    earlier = λ i h.
        all_imply (λ l. ltb (l / 2) i ≡ true) (λ l. l / 2 < i) (λ l. ltb-true (l / 2) i) (operands (nodes_of rs i))
        (every_all (λ l. ltb (l / 2) i) (operands (nodes_of rs i)) (low i h).below);
    atoms = λ i j h b k l a. go i j h b k l a (dec_lt i j) (dec_lt j i);
  }
    where
      go : (i j : ℕ) → i < length rs → j < length rs → (nodes_of rs i).kind ≡ 2 → (nodes_of rs j).kind ≡ 2 → (nodes_of rs i).a ≡ (nodes_of rs j).a
          → Dec (i < j) → Dec (j < i) → i ≡ j
      go i j h b k l a (yes p) q = absurd (once i j p b k l a)
      go i j h b k l a (no p) (yes q) = absurd (once j i q h l k (sym a))
      go i j h b k l a (no p) (no q) = omega arith

  -- every cell holds the number of a literal
  pub cells_of : (i : ℕ) → i < length rs → ((nodes_of rs i).a < most_literals) × ((nodes_of rs i).b < most_literals)
  cells_of i h = ((small_of i h).a, (small_of i h).b)

-- ---- the truths under a setting, in any logic

-- the nodes' truths give the literals'
literal_in : {A : Type 0} (L : Logic A) (s : List ℕ) (rs : List Node) (l : ℕ) → lit_in L (λ i. truth_in L s rs (2 * i)) l ≡ truth_in L s rs l
unfolding lit_in truth_in lit_truth
literal_in L s rs l = simp (lit_even L)

pub literal_truth : (s : List ℕ) (rs : List Node) (l : ℕ) → lit_true (λ i. truth s rs (2 * i)) l ≡ truth s rs l
literal_truth = literal_in classical

module _ (t : List ℕ) (rs : List Node) (all : Bytes t) (e : decode t ≡ answer rs) where
  -- they agree with the nodes
  model_in : {A : Type 0} (L : Logic A) (s : List ℕ) → Model L (length rs) (nodes_of rs) (λ i. truth_in L s rs (2 * i))
  model_in L s = record {
    top = λ i h k. true-yes L s rs i (nodes_of rs i) h refl k;
    join = λ i h k.
        truths-join L s rs i (nodes_of rs i) h refl (low t rs all e i h).below k
        ∙ ap (λ (f : ℕ → _). joined L (nodes_of rs i).kind (map f (operands (nodes_of rs i)))) (fun_ext (λ l. sym (literal_in L s rs l)));
  }

  pub model_of : (s : List ℕ) → Model classical (length rs) (nodes_of rs) (λ i. truth s rs (2 * i))
  model_of = model_in classical

  pub points_of : Points rs
  points_of i h k = (low t rs all e i h).point k

  -- under a final list's setting each literal of an ATOM that it holds is yes
  held_atoms : (G rest : List ℕ) → Good (length rs) G → HeldAtoms (nodes_of rs) G (λ i. truth₃ (setting_of rs G ++ rest) rs (2 * i))
  unfolding lit_in
  held_atoms G rest g l m k =
      let below : l < 2 * length rs = all_member (λ m. m < 2 * length rs) G l (good_below (length rs) G g) m in
      let h : l / 2 < length rs = omega arith in
      let b : (nodes_of rs (l / 2)).a < 1024 = points_of (l / 2) h k in
      let byte : get_or (setting_of rs G ++ rest) (nodes_of rs (l / 2)).a 0 ≡ 1 - l % 2 =
      get_or-append (setting_of rs G) rest 0 (nodes_of rs (l / 2)).a (omega (arith, setting_length rs G))
      ∙ setting-held rs G (table_of t rs all e) (l / 2) h k b g l refl m in
      rw (atom-truth kleene (setting_of rs G ++ rest) rs (l / 2) (nodes_of rs (l / 2)) h refl k, byte) (go (ℕ_discrete (l % 2) 0))
    where
      go : Dec (l % 2 ≡ 0) → cond (eqb (l % 2) 0) (point_truth (1 - l % 2)) (opposite (point_truth (1 - l % 2))) ≡ Yes
      go (yes z) = rw z
      go (no z) =
          let one : l % 2 ≡ 1 = omega arith in
          rw one

  module _ (goals : List ℕ) (B : Below (length rs) goals) where
    -- impossible: no setting makes all goals true
    pub never_true : answer_of (search_of rs goals) ≡ impossible → (s : List ℕ) → All (λ g. truth s rs g ≡ true) goals → ⊥
    never_true q s h =
        sound (length rs) (nodes_of rs) goals (table_of t rs all e) B q (λ i. truth s rs (2 * i)) (model_of s)
        (all_imply (λ g. truth s rs g ≡ true) _ (λ g z. literal_truth s rs g ∙ z) goals h)

    module _ {G : List ℕ} (q : answer_of (search_of rs goals) ≡ possible G) (rest : List ℕ) where
      -- possible: under the final list's setting all goals are yes
      pub made-yes : All (λ g. truth₃ (setting_of rs G ++ rest) rs g ≡ Yes) goals
      made-yes =
          let s : List ℕ = setting_of rs G ++ rest in
          let c = complete (length rs) (nodes_of rs) goals (table_of t rs all e) B G q in
          all_imply _ (λ g. truth₃ s rs g ≡ Yes) (λ g z. sym (literal_in kleene s rs g) ∙ z) goals
          (c.1 (λ i. truth₃ s rs (2 * i)) (model_in kleene s) (held_atoms G rest c.0)).1

      -- so they are true for every way of filling its 2s
      pub filled-true : (f : List ℕ) → Fills (setting_of rs G ++ rest) f → All (λ g. truth f rs g ≡ true) goals
      filled-true f fills =
          all_imply (λ g. truth₃ (setting_of rs G ++ rest) rs g ≡ Yes) (λ g. truth f rs g ≡ true)
          (λ g z. sure_filled (setting_of rs G ++ rest) f rs g true fills points_of z) goals made-yes

-- ---- evaluate

-- the bytes of a setting that evaluate takes
taken : (s : List ℕ) → 1024 ≤ length s → ((p : ℕ) → p < 1024 → get_or s p 0 < 3) → settings_test s ≡ fine
unfolding settings_test
taken s long small =
    rw (le-leb 1024 (length s) long)
    (all_fine _ 1024 0 (λ p a h. met _ 22 p (lt-ltb (get_or s p 0) 3 (small p (omega arith)))))

setting_taken : (rs : List Node) (G rest : List ℕ) → settings_test (setting_of rs G ++ rest) ≡ fine
setting_taken rs G rest =
    taken (setting_of rs G ++ rest) (omega (arith, length-append (setting_of rs G) rest, setting_length rs G))
    (λ p h. rw (get_or-append (setting_of rs G) rest 0 p (omega (arith, setting_length rs G))) (setting_small rs G p))

-- a way of filling the 2s: all no
module _ (rs : List Node) (G : List ℕ) where
  abbrev pub all_no : List ℕ
  all_no = map (◌% 2) (setting_of rs G)

  no_byte : (p : ℕ) → get_or all_no p 0 ≡ get_or (setting_of rs G) p 0 % 2
  no_byte p = get_or-map (◌% 2) (setting_of rs G) p 0

  pub no_fills : Fills (setting_of rs G) all_no
  no_fills p h k = omega (arith, no_byte p, setting_small rs G p, k)

  pub no-two : NoTwo all_no
  no-two p h k = omega (arith, no_byte p)

  pub no_taken : settings_test all_no ≡ fine
  no_taken = taken all_no (omega (arith, length-map (setting_of rs G) (◌% 2), setting_length rs G)) (λ p h. omega (arith, no_byte p))

module _ (t : List ℕ) (rs : List Node) (all : Bytes t) (e : decode t ≡ answer rs) where
  -- a yes or no of evaluate is the truth for every way of filling the 2s
  pub evaluated_filled : (goal : ℕ) (v : List ℕ) (b : Bool) → evaluate t goal v ≡ answer (sure b) → (f : List ℕ) → Fills v f → truth f rs goal ≡ b
  unfolding evaluate
  evaluated_filled goal v b q f fills =
      let a = then_next (require (ltb goal (2 * length rs)) 20 0) _ (rw e at q) in
      let z : answer (truth₃ v rs goal) ≡ answer (sure b) = then_next (settings_test v) _ a in
      sure_filled v f rs goal b fills (points_of t rs all e) cc

  -- so where it says yes of all goals, they are true for every way of filling the 2s
  pub all_filled : (goals v : List ℕ) → All (λ g. evaluate t g v ≡ answer Yes) goals → (f : List ℕ) → Fills v f → All (λ g. truth f rs g ≡ true) goals
  all_filled goals v h f fills = all_imply (λ g. evaluate t g v ≡ answer Yes) (λ g. truth f rs g ≡ true) (λ g z. evaluated_filled g v true z f fills) goals h

  -- a setting that makes all goals true, as evaluate says, does
  pub satisfied_true : (goals v : List ℕ) → Satisfies t goals v → All (λ g. truth v rs g ≡ true) goals
  satisfied_true goals v h = all_filled goals v h.1 v (λ p k z. refl)

  module _ (goals : List ℕ) (B : Below (length rs) goals) where
    evaluates : (v : List ℕ) → settings_test v ≡ fine → All (λ g. truth₃ v rs g ≡ Yes) goals → All (λ g. evaluate t g v ≡ answer Yes) goals
    unfolding evaluate
    evaluates v ok = go goals B
      where
        go : (gs : List ℕ) → Below (length rs) gs → All (λ g. truth₃ v rs g ≡ Yes) gs → All (λ g. evaluate t g v ≡ answer Yes) gs
        go [] b y = tt
        go (g ∷ gs) b y = (rw (e, lt-ltb g (2 * length rs) b.0, ok) (ap answer y.0), go gs b.1 y.1)

    pub none-satisfies : answer_of (search_of rs goals) ≡ impossible → Unsatisfiable t goals
    none-satisfies q v h = never_true t rs all e goals B q v (satisfied_true goals v h)

    module _ {G : List ℕ} (q : answer_of (search_of rs goals) ≡ possible G) where
      -- evaluate of the final list's setting answers yes of each goal
      pub setting-yes : (rest : List ℕ) → All (λ g. evaluate t g (setting_of rs G ++ rest) ≡ answer Yes) goals
      setting-yes rest = evaluates (setting_of rs G ++ rest) (setting_taken rs G rest) (made-yes t rs all e goals B q rest)

      -- every way of filling its 2s makes all goals true
      pub filling-satisfies : (f : List ℕ) → Fills (setting_of rs G) f → NoTwo f → settings_test f ≡ fine → Satisfies t goals f
      filling-satisfies f fills two ok = (
        two,
        evaluates f ok
            (all_imply (λ g. truth f rs g ≡ true) (λ g. truth₃ f rs g ≡ Yes) (λ g z. two_valued f rs g two (points_of t rs all e) ∙ ap sure z) goals
            (filled-true t rs all e goals B q [] f (rw (append-nil (setting_of rs G)) fills))),
      )

      pub setting-satisfies : Satisfies t goals (all_no rs G)
      setting-satisfies = filling-satisfies (all_no rs G) (no_fills rs G) (no-two rs G) (no_taken rs G)

    -- impossible exactly when no setting makes all goals true
    pub search-exact : (answer_of (search_of rs goals) ≡ impossible) ⇔ Unsatisfiable t goals
    search-exact = (none-satisfies, λ none. go none (answer_of (search_of rs goals)) refl)
      where
        go : Unsatisfiable t goals → (a : Answer) → answer_of (search_of rs goals) ≡ a → a ≡ impossible
        go none (possible G) q = absurd (none (all_no rs G) (setting-satisfies q))
        go none impossible q = refl
        go none unfinished q = absurd (never_cut (length rs) (nodes_of rs) goals (table_of t rs all e) B q)
