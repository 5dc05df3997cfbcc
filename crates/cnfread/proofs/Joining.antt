-- The clauses of a body, added and joined one after another as they are read. Assumes nothing.
use mathlib.Core.Path.{◌≡◌, ◌∙◌, ap, sym, refl, subst}
use mathlib.Core.List.{List, [], ◌∷◌, ◌++◌, append_assoc, append-nil}
use mathlib.Core.Bool.{Bool, true, false, cond}
use Prim.Native.Nat.{ℕ, ◌+◌, ◌<◌, ◌≤◌}
use native.Mathlib.Omega.{arith}
use lib.Dec.{eqb}
use lib.ListN.{length, take, length-append}
use borrow.Author.Tests.{eq-eqb, ne_eqb}
use Rattle.std.specs.Prelude.{Result, Ok, Err}
use Rattle.std.specs.Result.{IsErrAnd}
use Rattle.scope.specs.declared.Refusal.{Refusal}
use Rattle.scope.specs.Outcome.{Outcome, answer, refused, require, ◌>>◌, ◌>>=◌}
use Rattle.scope.specs.Calls.{Added}
use Rattle.scope.proofs.Tests.{bound, refused_no}
use Rattle.codec.proofs.Rows.{row}
use Rattle.growing.specs.Growing.{Table, state, Grows, FromAdd}
use Rattle.cnf.specs.Fold.{put, yes_literal, no_literal, distinct_from, both_signs, or_clause, clause, and_all, goal_of, points, empty, build}
use Rattle.cnftext.specs.declared.Heading.{Heading}
use Rattle.growing.proofs.Nodes.{no_answer}
use Rattle.cnffold.proofs.Built.{Over, same_refusal, grows_as, grows_in, grows_refused, grows_next, grows_turned}
use Rattle.cnfread.specs.declared.Gathered.{Gathered}
use Rattle.cnfread.specs.Clauses.{body_at, ReadsClause, folded, joined, joined_clause, remaining, filed, Folds, Refuses}
use Rattle.cnfread.specs.Reads.{file_with}

bind_assoc : {A B C : Type 0} (o : Outcome A) (f : A → Outcome B) (g : B → Outcome C) → (o >>= f >>= g) ≡ (o >>= λ a. f a >>= g)
bind_assoc (answer a) f g = refl
bind_assoc (refused number place) f g = refl

bind_same : {A : Type 0} (o : Outcome A) → o ≡ (o >>= λ a. answer a)
bind_same (answer a) = refl
bind_same (refused number place) = refl

-- the literal of the table before does not matter to a clause
or_any : (t : Table) (buf : List ℕ) (l : ℕ) (d : List ℕ) → or_clause (state l t buf) d ≡ or_clause (state 0 t buf) d
unfolding or_clause no_literal
or_any t buf l [] = refl
or_any t buf l (x ∷ d) = refl

clause_folds : (t : Table) (buf : List ℕ) (l : ℕ) (c : List ℕ) → clause (state l t buf) c ≡ folded (both_signs c) (state 0 t buf) (distinct_from [] c)
unfolding clause yes_literal
clause_folds t buf l c = ap (cond (both_signs c) (yes_literal (state 0 t buf))) (or_any t buf l (distinct_from [] c))

-- TRUE, or an OR
module _ {both : Bool} (t : Added) (d : List ℕ) where
  pub folded-true : both ≡ true → folded both t d ≡ put t 1 0 0
  unfolding yes_literal
  folded-true e = rw e

-- nothing is left
pub ended-none : {none : Bool} (t : Added) → none ≡ true → remaining none t [] ≡ put t 1 0 0
unfolding goal_of yes_literal
ended-none t e = rw e

pub ended_some : {none : Bool} (t : Added) → none ≡ false → remaining none t [] ≡ answer t
unfolding and_all
ended_some t e = rw e

-- a clause is joined, then those behind it
remaining-step : (first : Bool) (t : Added) (c : List ℕ) (cs : List (List ℕ))
    → remaining first t (c ∷ cs) ≡ (clause t c >>= joined first t.literal >>= λ w. remaining false w cs)
unfolding goal_of and_all
remaining-step true t c cs = sym (bind_assoc (clause t c) (joined true t.literal) (λ w. and_all w cs))
remaining-step false t c cs = sym (bind_assoc (clause t c) (joined false t.literal) (λ w. and_all w cs))

-- what a `?` hands on
pub handed : {w : Result ℕ Refusal} {r : Refusal} → IsErrAnd w (λ x. x ≡ r) → w ≡ Err r
handed h = same_refusal h

-- what a body folded is: it is malformed
pub folds_unread : {body : Outcome (List (List ℕ))} {out : List (List ℕ) → List ℕ → Outcome Added} {room : ℕ} {g : Result ℕ Refusal} {r : Refusal} {t : Table}
    → g ≡ Err r → t.room ≡ room → body ≡ refused 61 0
    → Folds body out room g t
folds_unread q k e = record {
  table = λ cs p. refused_no (sym e ∙ p);
  there = λ l p. absurd (no_answer q p);
  room_is = k;
}

-- a refusal
pub folds_refused : {body : Outcome (List (List ℕ))} {out : List (List ℕ) → List ℕ → Outcome Added} {room : ℕ} {g : Result ℕ Refusal} {r : Refusal} {t : Table}
    → g ≡ Err r → t.room ≡ room
    → ((cs : List (List ℕ)) → body ≡ answer cs → Over room (λ buf. out cs buf ≡ refused r.number r.place)) → Folds body out room g t
folds_refused e k f = record {
  table = λ cs q. grows_refused e k (f cs q);
  there = λ l p. absurd (no_answer e p);
  room_is = k;
}

-- what refuses it: anything, where it is malformed
pub unread_refuses : {body : Outcome (List (List ℕ))} {g : Result ℕ Refusal} → body ≡ refused 61 0 → Refuses body g
unread_refuses e = record { adds = λ cs p. refused_no (sym e ∙ p); unread = λ x p z. e }

-- .. or one of add's, whatever it is
pub adds_refuses : {body : Outcome (List (List ℕ))} {g : Result ℕ Refusal} → FromAdd g → Refuses body g
adds_refuses a = record { adds = λ cs p. a; unread = λ x p z. absurd (omega (arith, z, a x p)) }

-- the same outcomes, said otherwise
folds_as : {body : Outcome (List (List ℕ))} {out out' : List (List ℕ) → List ℕ → Outcome Added} {room : ℕ} {g : Result ℕ Refusal} {t : Table}
    → ((cs : List (List ℕ)) → Over room (λ buf. out' cs buf ≡ out cs buf))
    → Folds body out room g t → Folds body out' room g t
folds_as e f = record { table = λ cs p. grows_as (e cs) (f.table cs p); there = f.there; room_is = f.room_is }

-- .. and over as much room
folds_in : {body : Outcome (List (List ℕ))} {out : List (List ℕ) → List ℕ → Outcome Added} {room room' : ℕ} {g : Result ℕ Refusal} {t : Table} → room' ≡ room
    → Folds body out room' g t → Folds body out room g t
folds_in {body} {out} {g = g} {t = t} e f = subst (λ (n : ℕ). Folds body out n g t) e f

-- the points, then the clauses
build-is : (buf : List ℕ) (h : Heading) (cs : List (List ℕ)) → build buf (file_with h cs) ≡ (points (empty buf) 0 h.variables >>= λ t. goal_of t cs)
unfolding build
build-is buf h cs = refl

module _ (h : Heading) {room : ℕ} {g : Result ℕ Refusal} {t : Table} (p : Grows (λ buf. points (empty buf) 0 h.variables) room g t) where
  pub points_refused : {body : Outcome (List (List ℕ))} {r : Refusal} {w : Result ℕ Refusal} → g ≡ Err r → IsErrAnd w (λ x. x ≡ r)
      → Folds body (λ cs buf. build buf (file_with h cs)) room w t
  points_refused e q =
      folds_refused (handed q) p.room_is (λ cs q buf w. build-is buf h cs ∙ ap (λ (o : Outcome Added). o >>= λ t. goal_of t cs) (grows_turned p e buf w))

  pub points-folded : {body : Outcome (List (List ℕ))} {l : ℕ} {w : Result ℕ Refusal} {t' : Table} → g ≡ Ok l
      → Folds body (λ cs buf. goal_of (state l t buf) cs) t.room w t' → Folds body (λ cs buf. build buf (file_with h cs)) room w t'
  points-folded e f = folds_as (λ cs buf w. build-is buf h cs ∙ grows_next p (λ t. goal_of t cs) e buf w) (folds_in p.room_is f)

-- at a place, k clauses have been joined
pub record Folding (vars : ℕ) (text : List ℕ) (at : ℕ) (start : List ℕ → Added) (room place k goal : ℕ) (t : Table) : Type 0 where
  pub done : List (List ℕ)
  pub count : length done ≡ k
  pub slow : k ≤ place
  pub within : place ≤ length text
  pub same : body_at vars text at ≡ (body_at vars text place >>= λ cs. answer (done ++ cs))
  pub room_is : t.room ≡ room
  pub low : goal < 4032
  pub so_far : (cs : List (List ℕ)) → Over room (λ buf. goal_of (start buf) (done ++ cs) ≡ remaining (eqb k 0) (state goal t buf) cs)

pub folding_none : {vars : ℕ} {text : List ℕ} {at goal : ℕ} {t : Table} → at ≤ length text → goal < 4032
    → Folding vars text at (λ buf. state goal t buf) t.room at 0 goal t
folding_none {vars} {text} {at} h l = record {
  done = [];
  count = refl;
  slow = omega arith;
  within = h;
  same = bind_same (body_at vars text at);
  room_is = refl;
  low = l;
  so_far = λ cs buf q. refl;
}

module _ {vars : ℕ} {text : List ℕ} {at : ℕ} {start : List ℕ → Added} {room place k goal : ℕ} {t : Table} (f : Folding vars text at start room place k goal t) where
  -- the whole body, from what is left of it
  whole : {o : Outcome (List (List ℕ))} → body_at vars text place ≡ o → body_at vars text at ≡ (o >>= λ cs. answer (f.done ++ cs))
  whole e = f.same ∙ ap (λ (o : Outcome (List (List ℕ))). o >>= λ cs. answer (f.done ++ cs)) e

  -- it is malformed
  pub folding_bad : (n : ℕ) → body_at vars text place ≡ refused 61 0 → filed vars text at n ≡ refused 61 0
  folding_bad n e = ap (λ (o : Outcome (List (List ℕ))). o >>= λ cs. require (eqb (length cs) n) 61 0 >> answer cs) (whole e)

  -- it has ended
  module _ (n : ℕ) (e : body_at vars text place ≡ answer []) where
    counted : length (f.done ++ []) ≡ k
    counted = ap length (append-nil f.done) ∙ f.count

    ended : filed vars text at n ≡ (require (eqb k n) 61 0 >> answer (f.done ++ []))
    ended =
        ap (λ (o : Outcome (List (List ℕ))). o >>= λ cs. require (eqb (length cs) n) 61 0 >> answer cs) (whole e)
        ∙ ap (λ (i : ℕ). require (eqb i n) 61 0 >> answer (f.done ++ [])) counted

    pub folding-other : (k ≡ n → ⊥) → filed vars text at n ≡ refused 61 0
    folding-other d = ended ∙ rw (ne_eqb k n d)

    pub folding-all : {g : Result ℕ Refusal} {t' : Table} → k ≡ n → Grows (λ buf. remaining (eqb k 0) (state goal t buf) []) t.room g t'
        → Folds (filed vars text at n) (λ cs buf. goal_of (start buf) cs) room g t'
    folding-all d g' =
        let g = grows_in f.room_is g' in
        let fine : filed vars text at n ≡ answer (f.done ++ []) = ended ∙ rw (eq-eqb k n d) in
        record {
          table = λ cs q.
              let same : f.done ++ [] ≡ cs = (let p : answer (f.done ++ []) ≡ answer cs = sym fine ∙ q in cc) in
              grows_as (λ buf w. ap (goal_of (start buf)) (sym same) ∙ f.so_far [] buf w) g;
          there = λ s q. (f.done ++ [], fine);
          room_is = g.room_is;
        }

  -- a clause was read, and joined
  module _ {marks held : List ℕ} {c : Gathered} (r : ReadsClause vars text place marks held c) {g : Result ℕ Refusal} {t' : Table}
      (i : Grows (λ buf. joined_clause (eqb k 0) goal c.both (state 0 t buf) (take c.count held)) t.room g t') where
    j : Grows (λ buf. joined_clause (eqb k 0) goal c.both (state 0 t buf) (take c.count held)) room g t'
    j = grows_in f.room_is i

    goes : (cs : List (List ℕ)) → Over room
        (λ buf. goal_of (start buf) (f.done ++ (r.c ∷ cs)) ≡ (joined_clause (eqb k 0) goal c.both (state 0 t buf) (take c.count held) >>= λ w. remaining false w cs))
    goes cs buf q =
        let same : clause (state goal t buf) r.c ≡ folded c.both (state 0 t buf) (take c.count held) = clause_folds t buf goal r.c ∙ rw (r.both_is, r.list) in
        f.so_far (r.c ∷ cs) buf q
        ∙ remaining-step (eqb k 0) (state goal t buf) r.c cs
        ∙ ap (λ (o : Outcome Added). o >>= joined (eqb k 0) goal >>= λ w. remaining false w cs) same

    -- it was refused
    pub folding-refused : (n : ℕ) {x : Refusal} {w : Result ℕ Refusal} → g ≡ Err x → IsErrAnd w (λ y. y ≡ x)
        → Folds (filed vars text at n) (λ cs buf. goal_of (start buf) cs) room w t'
    folding-refused n {x} e h =
        folds_refused (handed h) j.room_is
        (λ cs q buf w.
        let (ds, first, rest) = bound (body_at vars text at) (λ cs. require (eqb (length cs) n) 61 0 >> answer cs) q in
        let same : ◌≡◌ {A = List (List ℕ)} ds cs =
        (let p : ◌≡◌ {A = Outcome (List (List ℕ))} (answer ds) (answer cs) = (row (eqb (length ds) n) 61 0 (answer ds) rest).1 in cc) in
        let (es, second, more) = bound (body_at vars text place) (λ cs. answer (f.done ++ cs)) (sym f.same ∙ first) in
        let (fs, third, last) = bound (body_at vars text c.next) (λ cs. answer (r.c ∷ cs)) (sym r.rest ∙ second) in
        let inner : r.c ∷ fs ≡ es = cc in
        let outer : f.done ++ es ≡ ds = cc in
        ap (goal_of (start buf)) (sym (ap (f.done ++◌) inner ∙ outer ∙ same))
        ∙ goes fs buf w
        ∙ ap (λ (o : Outcome Added). o >>= λ w. remaining false w fs) (grows_turned j e buf w))

    -- it was answered
    pub folding-next : {l : ℕ} → g ≡ Ok l → Folding vars text at start room c.next (k + 1) l t'
    folding-next {l} e = record {
      done = f.done ++ r.c ∷ [];
      count = length-append f.done (r.c ∷ []) ∙ omega (arith, f.count);
      slow = omega (arith, f.slow, r.later);
      within = r.within;
      same = whole r.rest ∙ bind_assoc (body_at vars text c.next) (λ cs. answer (r.c ∷ cs)) (λ cs. answer (f.done ++ cs)) ∙ behind (body_at vars text c.next);
      room_is = j.room_is;
      low = j.low l e;
      so_far = λ cs buf q.
          ap (goal_of (start buf)) (append_assoc f.done (r.c ∷ []) cs)
          ∙ goes cs buf q
          ∙ grows_next j (λ w. remaining false w cs) e buf q
          ∙ rw (ne_eqb (k + 1) 0 (λ z. omega arith));
    }
      where
        behind : (o : Outcome (List (List ℕ))) → (o >>= λ cs. answer (f.done ++ (r.c ∷ cs))) ≡ (o >>= λ cs. answer ((f.done ++ r.c ∷ []) ++ cs))
        behind (answer cs) = ap answer (sym (append_assoc f.done (r.c ∷ []) cs))
        behind (refused number place) = refl
