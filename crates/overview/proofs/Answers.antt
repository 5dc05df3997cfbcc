-- Where overview ends: at the first row's refusal, or with a byte for each goal; and what a byte means. Assumes nothing.
use mathlib.Core.Path.{◌≡◌, refl, sym, ap, ap₂, ◌∙◌}
use mathlib.Core.List.{List, [], ◌∷◌, ◌++◌}
use mathlib.Core.Bool.{Bool, ◌&&◌}
use Rattle.std.specs.Prelude.{Result, Ok, Err}
use Prim.Native.Nat.{ℕ, ◌*◌, ◌<◌, ◌≤◌}
use native.Mathlib.Omega.{arith}
use lib.Dec.{leb, ltb}
use lib.ListN.{length, get_or, drop, length-map, get_or-append}
use borrow.Author.Tests.{leb-true}
use Rattle.scope.specs.declared.Node.{Node}
use Rattle.scope.specs.declared.Refusal.{Refusal}
use Rattle.scope.specs.Outcome.{Outcome, answer, refused, verdict_of, ◌>>=◌}
use Rattle.scope.specs.Table.{decode}
use Rattle.scope.proofs.Tests.{and_right, refused_no, required, bound}
use Rattle.codec.specs.Valid.{Bytes}
use Rattle.calculus.specs.Order.{Answer, possible, impossible, unfinished, answer_of}
use Rattle.calculus.specs.Model.{All, Below}
use Rattle.calculus.specs.Agree.{Alike}
use Rattle.calculus.specs.Decide.{nodes_of, list_row, Admitted, asked_by, decided, decide, ◌⇔◌}
use Rattle.calculus.proofs.Asked.{by_read, asked-fine}
use Rattle.calculus.proofs.Lists.{all_at, get_d_map}
use Rattle.calculus.proofs.Search.{never_cut}
use Rattle.jumping.proofs.Answers.{decided-plain}
use Rattle.index.specs.Index.{index_node}
use Rattle.asking.specs.Within.{Reached, Within}
use Rattle.asking.proofs.Models.{table_of, search-exact}
use Rattle.asking.proofs.Nodes.{searches_within}
use Rattle.meaning.proofs.Numbers.{Numbered, gives, then, row, by-numbered}
use Rattle.questions.specs.Asking.{asks, answered}
use Rattle.overview.specs.Overview.{most_asked, overview_row, byte_of, bytes_of, overview, answers_after}
use Rattle.overview.specs.Overviews.{Told, Overviews}

-- ---- what a byte means

-- 0 is that of impossible alone
byte_impossible : (a : Answer) → (a ≡ unfinished → ⊥) → (byte_of a ≡ 0) ⇔ (a ≡ impossible)
byte_impossible (possible G) n = (λ e. absurd (omega arith), λ e. absurd (let z : ◌≡◌ {A = ℕ} 0 1 = cc in omega arith))
byte_impossible impossible n = (λ e. refl, λ e. refl)
byte_impossible unfinished n = absurd (n refl)

module _ (t : List ℕ) (rs : List Node) (all : Bytes t) (e : decode t ≡ answer rs) (g : ℕ) (below : g < 2 * length rs) where
  alone : (s w : List ℕ) → 1024 ≤ length s → 32768 ≤ length w → decide t (g ∷ []) s w ≡ answer (decided rs (g ∷ []) s)
  unfolding decide
  alone s w h k =
      let a : Admitted (list_row (g ∷ [])) (length rs) (g ∷ []) 1024 (length s) (length w) = record { list = refl; below = (below, tt); settings = h; work = k } in
      rw (asked-fine t (g ∷ []) 1024 (length s) (length w) e a)

  pub tells : (w : List ℕ) → 32768 ≤ length w → {byte : ℕ} → byte ≡ byte_of (answered rs (g ∷ [])) → Told t w g byte
  tells w k q =
      let i = byte_impossible (answered rs (g ∷ [])) (λ z. never_cut (length rs) (nodes_of rs) (g ∷ []) (table_of t rs all e) (below, tt) z) in
      let x = search-exact t rs all e (g ∷ []) (below, tt) in
      record {
        decided = λ s h. (decided rs (g ∷ []) s, alone s w h k, q ∙ ap byte_of (sym (decided-plain rs (g ∷ []) s (table_of t rs all e) (below, tt)).verdict));
        exact = (λ z. x.0 (i.0 (sym q ∙ z)), λ none. q ∙ i.1 (x.1 none));
      }

-- ---- the contract, where its first three fields hold

-- no refusal has the number 0
pub overview-numbered : (t goals b w : List ℕ) → Numbered (overview t goals b w)
unfolding overview
overview-numbered t goals b w =
    let ok : Bool = ltb 0 (length goals) && (leb (length goals) most_asked && leb (length goals) (length b)) in
    then (asked_by (overview_row goals (length b)) t goals 0 0 (length w)) _
    (by-numbered (overview_row goals (length b)) (row ok 68 0 (omega arith)) t goals 0 0 (length w)) (λ rs. gives _)

module _ (t goals b w : List ℕ) (all : Bytes t) where
  overview-asked : {rs : List Node} → asked_by (overview_row goals (length b)) t goals 0 0 (length w) ≡ answer rs
      → overview t goals b w ≡ answer (bytes_of (answered rs) goals ++ drop (length goals) b)
  unfolding overview
  overview-asked q = rw q

  -- the byte of a goal among the others
  byte_at : (rs : List Node) (i : ℕ) → i < length goals → get_or (bytes_of (answered rs) goals ++ drop (length goals) b) i 0 ≡ byte_of (answered rs (get_or goals i 0 ∷ []))
  byte_at rs i h =
      get_or-append (bytes_of (answered rs) goals) (drop (length goals) b) 0 i (omega (arith, length-map goals (λ g. byte_of (answered rs (g ∷ [])))))
      ∙ get_d_map (λ g. byte_of (answered rs (g ∷ []))) goals i 0 0 h

  told_each : {after : List ℕ} → overview t goals b w ≡ answer after → (i : ℕ) → i < length goals → Told t w (get_or goals i 0) (get_or after i 0)
  unfolding overview
  told_each {after} q i h =
      let r = bound (asked_by (overview_row goals (length b)) t goals 0 0 (length w)) _ q in
      let a = by_read (overview_row goals (length b)) t goals 0 0 (length w) r.1 in
      let z : answer (bytes_of (answered r.0) goals ++ drop (length goals) b) ≡ answer after = r.2 in
      let y : bytes_of (answered r.0) goals ++ drop (length goals) b ≡ after = cc in
      tells t r.0 all a.0 (get_or goals i 0) (all_at (λ l. l < 2 * length r.0) goals i 0 a.1.below h) w a.1.work
      (ap (λ (l : List ℕ). get_or l i 0) (sym y) ∙ byte_at r.0 i h)

  each_by : (r : Result (Unit {0}) Refusal) {b' : List ℕ} → verdict_of r ≡ (overview t goals b w >>= λ after. answer tt) → b' ≡ answers_after b (overview t goals b w)
      → r ≡ Ok tt → (i : ℕ) → i < length goals → Told t w (get_or goals i 0) (get_or b' i 0)
  each_by r {b'} a c e i h =
      let x = bound (overview t goals b w) (λ after. answer tt) (sym a ∙ ap verdict_of e) in
      rw (c ∙ ap (answers_after b) x.1) (told_each x.1 i h)

  overviews : (r : Result (Unit {0}) Refusal) {b' w' : List ℕ} → verdict_of r ≡ (overview t goals b w >>= λ after. answer tt) → b' ≡ answers_after b (overview t goals b w)
      → ((f : Refusal) → r ≡ Err f → w' ≡ w) → Overviews t goals b w b' w' r
  overviews r a c kept = record { answered = a; bytes = c; work = kept; each = each_by r a c }

  -- ---- where overview ends

  -- what was asked, by the list's own row
  pub by_row : {listed : Outcome (Unit {0})} {x : List ℕ} {r : Result ℕ Refusal} → listed ≡ overview_row goals (length b) → Within listed t goals 0 0 (length w) x r
      → Within (overview_row goals (length b)) t goals 0 0 (length w) x r
  by_row e a = rw e at a

  refused_by : {number place : ℕ} → asked_by (overview_row goals (length b)) t goals 0 0 (length w) ≡ refused number place → overview t goals b w ≡ refused number place
  unfolding overview
  refused_by q = rw q

  pub refuses : (f : Refusal) → asked_by (overview_row goals (length b)) t goals 0 0 (length w) ≡ refused f.number f.place → Overviews t goals b w b w (Err f)
  refuses f q =
      let d = refused_by q in
      overviews (Err f) (rw d) (rw d) (λ g z. refl)

  module _ {x : List ℕ} {n : ℕ} (p : Reached (overview_row goals (length b)) t goals 0 0 (length w) x n) where
    pub room : length goals ≤ length b
    room =
        leb-true (length goals) (length b)
        (and_right (leb (length goals) most_asked) _ (and_right (ltb 0 (length goals)) _ (required _ 68 0 p.admitted.list)))

    -- the questions over the index are those over the nodes
    same_bytes : (ls : List ℕ) → Below n ls → All (Alike (index_node x) (nodes_of p.nodes)) ls → bytes_of (asks (index_node x) n) ls ≡ bytes_of (answered p.nodes) ls
    same_bytes [] h a = refl
    same_bytes (l ∷ ls) h a =
        ap₂ ◌∷◌ (ap (λ (o : Answer). byte_of o) (ap answer_of (searches_within p (l ∷ []) (h.0, tt) (a.0, tt)))) (same_bytes ls h.1 a.1)

    pub ends : {b' w' : List ℕ} → b' ≡ bytes_of (asks (index_node x) n) goals ++ drop (length goals) b → Overviews t goals b w b' w' (Ok tt)
    ends q =
        let d = overview-asked p.answered in
        overviews (Ok tt) (rw d) (q ∙ ap (◌++ drop (length goals) b) (same_bytes goals p.below p.alike) ∙ rw d) (λ f z. refused_no (sym (ap verdict_of z)))
