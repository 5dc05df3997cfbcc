-- The heading, number by number, and the whole text. Assumes nothing.
use mathlib.Core.Path.{◌≡◌, ◌∙◌, ap, sym, subst}
use mathlib.Core.List.{List, [], ◌∷◌}
use mathlib.Core.Bool.{true, false, false≢true}
use Prim.Native.Nat.{ℕ, ◌+◌, ◌-◌, ◌<◌, ◌≤◌}
use native.Mathlib.Numerals.{add-one}
use native.Mathlib.Omega.{arith}
use lib.Dec.{eqb, leb}
use lib.ListN.{length, get_or, drop, length-take, length-drop, drop_of_length-le}
use lib.Seq.{drop-cons, drop-drop}
use borrow.Author.Tests.{eq-eqb, ne_eqb, le-leb, lt-leb}
use Rattle.scope.specs.declared.Refusal.{Refusal}
use Rattle.scope.specs.Outcome.{Outcome, answer, refused, require, ◌>>◌, ◌>>=◌}
use Rattle.scope.proofs.Tests.{and_right, bound, passed_on}
use Rattle.cnf.specs.Text.{starts_with, behind, all_digits, Counted, counted, Heading as Head, opening, space, feed, heading, words, clauses_from, File, file_of}
use Rattle.std.specs.Prelude.{Option, Some, None, Ok}
use Rattle.cnfwords.specs.Words.{number_of, part}
use Rattle.cnfwords.proofs.Numbers.{value_said, no_value}
use Rattle.cnftext.specs.declared.Heading.{Heading}
use Rattle.cnftext.specs.Scanned.{Passed, Digits, count_of, Counts, head_of, Heads, tally_of, Tallies, list_of, clauses_in, turned_away, Body, Scans}
use Rattle.cnftext.proofs.Parts.{digits_all}

-- a number and the byte behind it
module _ {text : List ℕ} {at end : ℕ} (x : ℕ) (d : Digits text at end) where
  left : drop (length (part text at end)) (drop at text) ≡ drop end text
  left =
      let size : length (part text at end) ≡ end - at = simp (length-take, length-drop) (omega (arith, d.within)) in
      let place : at + (end - at) ≡ end = omega (arith, d.later) in
      rw (size, drop-drop, place)

  none-counts : refused 60 0 ≡ counted (x ∷ []) (drop at text) → Counts text at x None
  none-counts e = record { answered = e; within = λ v next q. absurd (let z : ◌≡◌ {A = ℕ} 0 1 = cc in omega arith) }

  pub no_number : number_of (part text at end) ≡ None → Counts text at x None
  no_number e =
      let all : all_digits (part text at end) ≡ true = rw d.run at (digits_all (drop at text)) in
      none-counts (rw (d.run, no_value (part text at end) all e))

  module _ {v : ℕ} (e : number_of (part text at end) ≡ Some v) where
    -- what is left to ask
    then : counted (x ∷ []) (drop at text) ≡ (behind (x ∷ []) (drop end text) >>= λ rest. answer (record { value = v; rest = rest }))
    then =
        let p = value_said (part text at end) v e in
        rw (d.run, p.0, p.1, left)

    pub nothing-follows : length text ≤ end → Counts text at x None
    unfolding starts_with
    nothing-follows h = none-counts (sym (then ∙ rw (drop_of_length-le text {i = end} h)))

    module _ (h : end < length text) where
      pub other-follows : (get_or text end 0 ≡ x → ⊥) → Counts text at x None
      unfolding starts_with
      other-follows q = none-counts (sym (then ∙ rw (drop-cons text end 0 h, ne_eqb (get_or text end 0) x q)))

      pub this-follows : get_or text end 0 ≡ x → Counts text at x (Some (v, end + 1))
      unfolding starts_with
      this-follows q = record {
        answered = sym (then ∙ rw (drop-cons text end 0 h, eq-eqb (get_or text end 0) x q, add-one));
        within = λ w next r.
            let same : ◌≡◌ {A = ℕ × ℕ} (v, end + 1) (w, next) = cc in
            omega (arith, ap (λ (p : ℕ × ℕ). p.1) same);
      }

-- a text that starts with bytes is as long
starts_length : (xs t : List ℕ) → starts_with xs t ≡ true → length xs ≤ length t
unfolding starts_with
starts_length [] t e = omega arith
starts_length (x ∷ xs) [] e = absurd (false≢true e)
starts_length (x ∷ xs) (b ∷ t) e = omega (arith, starts_length xs t (and_right (eqb b x) (starts_with xs t) e))

-- what the heading asks behind V, and behind C
abbrev last : ℕ → Counted → Outcome Head
last v c = require (leb v 1024) 60 0 >> answer (record { variables = v; clauses = c.value; body = c.rest })

abbrev next : Counted → Outcome Head
next v = counted feed v.rest >>= λ c. last v.value c

-- the heading
module _ (text : List ℕ) (at : ℕ) (inside : at ≤ length text) where
  none_heads : heading (drop at text) ≡ refused 60 0 → Heads text at None
  none_heads e = record {
    answered = sym e;
    within = λ h q. absurd (let z : ◌≡◌ {A = ℕ} 0 1 = cc in omega arith);
    few = λ h q. absurd (let z : ◌≡◌ {A = ℕ} 0 1 = cc in omega arith);
  }

  pub no-opening : starts_with opening (drop at text) ≡ false → Heads text at None
  unfolding heading
  no-opening e = none_heads (rw e)

  module _ (e : starts_with opening (drop at text) ≡ true) where
    pub behind-opening : at + 6 ≤ length text
    behind-opening = omega (arith, starts_length opening (drop at text) e, length-drop at text)

    opened : heading (drop at text) ≡ (counted space (drop (at + 6) text) >>= next)
    unfolding heading
    opened = rw (e, drop-drop 6 at text)

    pub no-variables : {r : Option (ℕ × ℕ)} → Counts text (at + 6) 32 r → r ≡ None → Heads text at None
    no-variables k q =
        none_heads (opened ∙ ap (λ (o : Outcome Counted). o >>= next) (sym k.answered ∙ ap (count_of text) q))

    module _ {r : Option (ℕ × ℕ)} (k : Counts text (at + 6) 32 r) {v from : ℕ} (q : r ≡ Some (v, from)) where
      numbered : heading (drop at text) ≡ next (record { value = v; rest = drop from text })
      numbered = opened ∙ ap (λ (o : Outcome Counted). o >>= next) (sym k.answered ∙ ap (count_of text) q)

      pub no-clauses : {p : Option (ℕ × ℕ)} → Counts text from 10 p → p ≡ None → Heads text at None
      no-clauses j s =
          none_heads (numbered ∙ ap (λ (o : Outcome Counted). o >>= last v) (sym j.answered ∙ ap (count_of text) s))

      module _ {p : Option (ℕ × ℕ)} (j : Counts text from 10 p) {n body : ℕ} (s : p ≡ Some (n, body)) where
        complete : heading (drop at text) ≡ last v (record { value = n; rest = drop body text })
        complete = numbered ∙ ap (λ (o : Outcome Counted). o >>= last v) (sym j.answered ∙ ap (count_of text) s)

        pub too_many : 1024 < v → Heads text at None
        too_many h = none_heads (complete ∙ rw (lt-leb v 1024 h))

        pub headed : v ≤ 1024 → Heads text at (Some (record { variables = v; clauses = n; body = body }))
        headed h = record {
          answered = sym (complete ∙ rw (le-leb v 1024 h));
          within = λ x y.
              let same : ◌≡◌ {A = Heading} (record { variables = v; clauses = n; body = body }) x = cc in
              omega (arith, j.within n body s, ap (λ (z : Heading). z.body) same);
          few = λ x y.
              let same : ◌≡◌ {A = Heading} (record { variables = v; clauses = n; body = body }) x = cc in
              omega (arith, ap (λ (z : Heading). z.variables) same);
        }

-- the whole text: what the file asks behind the heading
abbrev counts : Head → List (List ℕ) → Outcome File
counts h cs = require (eqb (length cs) h.clauses) 61 0 >> answer (record { variables = h.variables; clauses = cs })

abbrev clauses_of : Head → Outcome File
clauses_of h = clauses_from h.variables [] (words h.body) >>= λ cs. counts h cs

refused_scans : (text : List ℕ) (number : ℕ) → file_of text ≡ refused number 0 → Scans text (turned_away number)
refused_scans text number e = record {
  fine = λ h q. absurd (let z : ◌≡◌ {A = ℕ} 0 1 = cc in omega arith);
  turned = λ f q.
      let same : ◌≡◌ {A = Refusal} (record { number = number; place = 0 }) f = cc in
      e ∙ ap (λ (z : Refusal). refused z.number z.place) same;
}

module _ {text : List ℕ} {at : ℕ} (c : Passed text at) {r : Option Heading} (k : Heads text at r) where
  file_is : file_of text ≡ (head_of text r >>= clauses_of)
  unfolding file_of
  file_is = rw (c.behind, ← k.answered)

  pub no-heading : r ≡ None → Scans text (turned_away 60)
  no-heading q = refused_scans text 60 (file_is ∙ ap (λ (x : Option Heading). head_of text x >>= clauses_of) q)

  module _ {h : Heading} (q : r ≡ Some h) where
    abbrev head : Head
    head = record { variables = h.variables; clauses = h.clauses; body = drop h.body text }

    behind-head : file_of text ≡ clauses_of head
    behind-head = file_is ∙ ap (λ (x : Option Heading). head_of text x >>= clauses_of) q

    module _ {n : Option ℕ} (t : Tallies text h.body h.variables n) where
      pub no_body : n ≡ None → Scans text (turned_away 61)
      no_body s =
          refused_scans text 61
          (behind-head ∙ passed_on (clauses_from h.variables [] (words (drop h.body text))) length (counts head) (sym t ∙ ap tally_of s))

      module _ {m : ℕ} (s : n ≡ Some m) where
        -- the clauses, which are m
        found : (cs : List (List ℕ)) × (clauses_from h.variables [] (words (drop h.body text)) ≡ answer cs) × (◌≡◌ {A = Outcome ℕ} (answer (length cs)) (answer m))
        found = bound (clauses_from h.variables [] (words (drop h.body text))) (λ cs. answer (length cs)) (sym t ∙ ap tally_of s)

        many : length found.0 ≡ m
        many = cc found.2

        asks : file_of text ≡ counts head found.0
        asks = behind-head ∙ ap (λ (o : Outcome (List (List ℕ))). o >>= λ cs. counts head cs) found.1

        pub other-count : (m ≡ h.clauses → ⊥) → Scans text (turned_away 61)
        other-count u = refused_scans text 61 (asks ∙ rw (ne_eqb (length found.0) h.clauses (λ z. u (sym many ∙ z))))

        pub right-count : m ≡ h.clauses → Scans text (Ok h)
        right-count u =
            let size : length found.0 ≡ h.clauses = many ∙ u in
            let all : clauses_in h.variables (drop h.body text) ≡ found.0 = ap list_of found.1 in
            let body : Body text h = record {
              within = k.within h q;
              few = k.few h q;
              clauses = found.1 ∙ ap answer (sym all);
              count = ap length all ∙ size;
              file = asks ∙ rw (eq-eqb (length found.0) h.clauses size, all);
            } in
            record {
              fine = λ x y. let same : h ≡ x = cc in subst (λ (z : Heading). Body text z) same body;
              turned = λ f y. absurd (let z : ◌≡◌ {A = ℕ} 0 1 = cc in omega arith);
            }
