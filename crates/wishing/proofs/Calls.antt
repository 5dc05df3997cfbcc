-- What the call's answer means: the setting meets the goals and k wishes, no setting meets more than u, and what more questions change.
-- Assumes nothing.
use mathlib.Core.Path.{◌≡◌, refl, sym, ◌∙◌}
use mathlib.Core.Logic.{◌⊎◌}
use mathlib.Core.List.{List, ◌++◌}
use mathlib.Core.Bool.{true}
use Prim.Native.Nat.{ℕ, suc, ◌*◌, ◌^◌, ◌<◌, ◌≤◌}
use native.Mathlib.Omega.{arith}
use lib.ListN.{length, get_or, drop, get_or-append}
use borrow.Author.Tests.{leb-true}
use Rattle.scope.specs.declared.Node.{Node}
use Rattle.scope.specs.Outcome.{Outcome, answer, refused, ◌>>=◌}
use Rattle.scope.specs.Table.{decode}
use Rattle.scope.specs.Truth.{truth}
use Rattle.scope.specs.Kleene.{Fills}
use Rattle.scope.proofs.Tests.{required, refused_no, then_first, then_next, bound}
use Rattle.codec.specs.Valid.{Bytes}
use Rattle.calculus.specs.Order.{Answer, possible, impossible, unfinished, setting_of}
use Rattle.calculus.specs.Model.{All, Below}
use Rattle.calculus.specs.Decide.{nodes_of, list_row, Unsatisfiable, ◌⇔◌}
use Rattle.calculus.proofs.Lists.{all_left, all_right}
use Rattle.calculus.proofs.Asked.{list_met, by_read}
use Rattle.calculus.proofs.Search.{never_cut}
use Rattle.calculus.proofs.Setting.{setting_length}
use Rattle.asking.proofs.Models.{table_of, search-exact}
use Rattle.questions.specs.Asking.{answered}
use Rattle.questions.proofs.Settings.{some-node}
use Rattle.wishing.specs.Wish.{Wished, granted, wished, count}
use Rattle.wishing.specs.Call.{most_wishes, lists_row, wishes_asked, Granted, grant}
use Rattle.wishing.proofs.Wishes.{no_more, standing-meets, granted_most, granted_stops, granted-not_sooner, granted_larger, granted_enough}
use Rattle.wishing.proofs.Truths.{holds, FillsOf, decides}

-- what fills the 2s of a setting with bytes behind it fills those of the setting
fills_front : (rs : List Node) (G rest f : List ℕ) → Fills (setting_of rs G ++ rest) f → FillsOf rs G f
fills_front rs G rest f h p b k =
    let e : get_or (setting_of rs G ++ rest) p 0 ≡ get_or (setting_of rs G) p 0 = get_or-append (setting_of rs G) rest 0 p (omega (arith, setting_length rs G)) in
    h p b (λ z. k (sym e ∙ z)) ∙ e

-- ---- the lists that were asked

pub record Put (t goals wishes : List ℕ) (rs : List Node) : Type 0 where
  pub reads : decode t ≡ answer rs
  pub some : 0 < length goals
  pub goals_fit : Below (length rs) goals
  pub wishes_fit : Below (length rs) wishes
  pub few : length wishes ≤ most_wishes

module _ (t goals wishes : List ℕ) (points area : ℕ) where
  pub put : {rs : List Node} → wishes_asked t goals wishes points area ≡ answer rs → Put t goals wishes rs
  put {rs} e =
      let a = by_read (lists_row goals wishes) t (goals ++ wishes) 1024 points area e in
      let l = list_met goals (then_first (list_row goals) _ a.1.list) in
      record {
        reads = a.0;
        some = l.0;
        goals_fit = all_left (λ l. l < 2 * length rs) goals wishes a.1.below;
        wishes_fit = all_right (λ l. l < 2 * length rs) goals wishes a.1.below;
        few = leb-true (length wishes) most_wishes (required _ 66 0 (then_next (list_row goals) _ a.1.list));
      }

module _ (t goals wishes : List ℕ) (all : Bytes t) {rs : List Node} (p : Put t goals wishes rs) where
  some_nodes : 0 < length rs
  some_nodes = some-node (length rs) goals p.goals_fit p.some

  module _ (first : List ℕ) (m : ℕ) where
    abbrev result : Wished
    result = granted (answered rs) goals wishes m first

    -- 'k wishes met for certain': for every way of filling the 2s of what stands
    pub met : answered rs goals ≡ possible first → (rest f : List ℕ) → Fills (setting_of rs result.standing ++ rest) f
        → All (λ g. truth f rs g ≡ true) goals × (result.k ≤ count (truth f rs) wishes)
    met e rest f h =
        (standing-meets (List ℕ) (holds rs) (FillsOf rs) (λ l. l < 2 * length rs) (answered rs) (decides t rs all p.reads some_nodes) goals wishes
        p.goals_fit p.wishes_fit first m e).1 f (fills_front rs result.standing rest f h)

    -- 'No setting that meets the goals meets more than u wishes.'
    pub most : (v : List ℕ) → All (λ g. truth v rs g ≡ true) goals → count (truth v rs) wishes ≤ result.u
    most v h =
        no_more (List ℕ) (holds rs) (FillsOf rs) (λ l. l < 2 * length rs) (answered rs) (decides t rs all p.reads some_nodes) goals wishes
        p.goals_fit p.wishes_fit first m v h

-- ---- the call

module _ (t goals wishes s w : List ℕ) where
  -- an answer: of the nodes of a table that was asked, whose search of the goals alone found a first list
  pub record Answers (m : ℕ) (g : Granted) : Type 0 where
    pub nodes : List Node
    pub asked : wishes_asked t goals wishes (length s) (length w) ≡ answer nodes
    pub first : List ℕ
    pub alone : answered nodes goals ≡ possible first
    pub wished : g.wished ≡ granted (answered nodes) goals wishes m first
    pub settings : g.settings ≡ setting_of nodes g.wished.standing ++ drop 1024 s

  module _ (rs : List Node) (a : wishes_asked t goals wishes (length s) (length w) ≡ answer rs) where
    -- goals alone possible, and impossible
    pub grants : {first : List ℕ} → answered rs goals ≡ possible first → (m : ℕ)
        → grant t goals wishes m s w
        ≡ answer (record {
          wished = granted (answered rs) goals wishes m first;
          settings = setting_of rs (granted (answered rs) goals wishes m first).standing ++ drop 1024 s;
        })
    unfolding grant
    grants e m = rw (a, e)

    pub turned_away : answered rs goals ≡ impossible → (m : ℕ) → grant t goals wishes m s w ≡ refused 67 0
    unfolding grant
    turned_away e m = rw (a, e)

    alone-read : {m : ℕ} (g : Granted) (x : Answer) → answered rs goals ≡ x
        → (wished (answered rs) goals wishes m x >>= λ r. answer (record { wished = r; settings = setting_of rs r.standing ++ drop 1024 s })) ≡ answer g → Answers m g
    alone-read g (possible G) q e = record { nodes = rs; asked = a; first = G; alone = q; wished = cc; settings = cc }
    alone-read g impossible q e = refused_no e
    alone-read g unfinished q e = refused_no e

  pub answers : {m : ℕ} {g : Granted} → grant t goals wishes m s w ≡ answer g → Answers m g
  unfolding grant
  answers {m} {g} e =
      let b = bound (wishes_asked t goals wishes (length s) (length w)) _ e in
      alone-read b.0 b.1 g (answered b.0 goals) refl b.2

  -- the answer that the definition makes of what stands
  abbrev pub made : List Node → Wished → Outcome Granted
  made rs r = answer (record { wished = r; settings = setting_of rs r.standing ++ drop 1024 s })

  -- behind the rows before, 67 is the only refusal
  pub only_alone : (m : ℕ) (rs : List Node) → wishes_asked t goals wishes (length s) (length w) ≡ answer rs → {number place : ℕ}
      → grant t goals wishes m s w ≡ refused number place → (number ≡ 67) × (place ≡ 0)
  unfolding grant
  only_alone m rs a {number} {place} e = go (answered rs goals) (rw a at e)
    where
      go : (x : Answer) → (wished (answered rs) goals wishes m x >>= made rs) ≡ refused number place → (number ≡ 67) × (place ≡ 0)
      go (possible G) z = refused_no (sym z)
      go impossible z = (cc, cc)
      go unfinished z = (cc, cc)

  -- '67 goals alone impossible': exactly where no setting makes all goals true
  pub none-granted : Bytes t → (rs : List Node) → wishes_asked t goals wishes (length s) (length w) ≡ answer rs → (m : ℕ)
      → (grant t goals wishes m s w ≡ refused 67 0) ⇔ Unsatisfiable t goals
  none-granted all rs a m =
      let p = put t goals wishes (length s) (length w) a in
      let x = search-exact t rs all p.reads goals p.goals_fit in
      (λ e. x.0 (go p e (answered rs goals) refl), λ none. turned_away rs a (x.1 none) m)
    where
      go : Put t goals wishes rs → grant t goals wishes m s w ≡ refused 67 0 → (y : Answer) → answered rs goals ≡ y → y ≡ impossible
      go p e (possible G) q = refused_no (sym e ∙ grants rs a q m)
      go p e impossible q = refl
      go p e unfinished q = absurd (never_cut (length rs) (nodes_of rs) goals (table_of t rs all p.reads) p.goals_fit q)

  module _ {m : ℕ} {g : Granted} (x : Answers m g) where
    abbrev ask : List ℕ → Answer
    ask = answered x.nodes

    -- 'the questions put, which never exceed the allowance'
    pub within : g.wished.questions ≤ m
    within = rw x.wished (granted_most ask goals wishes x.first m)

    -- 'Stop when k = u or the allowance is spent'
    pub stopped : (g.wished.k ≡ g.wished.u) ⊎ (g.wished.questions ≡ m)
    stopped = rw x.wished (granted_stops ask goals wishes x.first m)

    -- '.. and not sooner': with any allowance below the questions put, it is spent and k < u
    pub not_sooner : (l : ℕ) → l < g.wished.questions
        → (h : Granted) × (grant t goals wishes l s w ≡ answer h) × ((h.wished.questions ≡ l) × (h.wished.k < h.wished.u))
    not_sooner l b = (_, grants x.nodes x.asked x.alone l, granted-not_sooner ask goals wishes x.first m l (rw x.wished at b))

    -- 'A larger allowance never lowers k or raises u.'
    pub larger : (l : ℕ) → m ≤ l → (h : Granted) × (grant t goals wishes l s w ≡ answer h) × ((g.wished.k ≤ h.wished.k) × (h.wished.u ≤ g.wished.u))
    larger l b = (_, grants x.nodes x.asked x.alone l, rw x.wished (granted_larger ask goals wishes x.first m l b))

    -- an allowance of as many questions as there are: k = u
    pub enough : 2 ^ length wishes ≤ suc m → g.wished.k ≡ g.wished.u
    enough b = rw x.wished (granted_enough ask goals wishes x.first m b)

    module _ (all : Bytes t) (rs : List Node) (d : decode t ≡ answer rs) where
      same_nodes : x.nodes ≡ rs
      same_nodes =
          let z : answer x.nodes ≡ answer rs = sym (put t goals wishes (length s) (length w) x.asked).reads ∙ d in
          cc

      -- 'k wishes met for certain': for every way of filling the 2s
      pub wishes-met : (f : List ℕ) → Fills g.settings f → All (λ g. truth f rs g ≡ true) goals × (g.wished.k ≤ count (truth f rs) wishes)
      wishes-met f h =
          let p = put t goals wishes (length s) (length w) x.asked in
          rw (← same_nodes, x.wished) (met t goals wishes all p x.first m x.alone (drop 1024 s) f (rw (x.settings, x.wished) at h))

      -- 'No setting that meets the goals meets more than u wishes.'
      pub wishes-most : (v : List ℕ) → All (λ g. truth v rs g ≡ true) goals → count (truth v rs) wishes ≤ g.wished.u
      wishes-most v h =
          let p = put t goals wishes (length s) (length w) x.asked in
          rw (← same_nodes, x.wished) (most t goals wishes all p x.first m v (rw (← same_nodes) at h))
