-- The reader: a text turned away, and one whose table is built. Assumes nothing.
use mathlib.Core.Path.{◌≡◌, ◌∙◌, ap, sym, refl, subst}
use mathlib.Core.List.{List}
use Prim.Native.Nat.{ℕ}
use native.Mathlib.Omega.{arith}
use lib.Dec.{eqb}
use lib.ListN.{length}
use Rattle.std.specs.Prelude.{Option, Some, None, Result, Ok, Err}
use Rattle.scope.specs.declared.Refusal.{Refusal}
use Rattle.scope.specs.Outcome.{Outcome, answer, refused, require, ◌>>◌, ◌>>=◌}
use Rattle.scope.specs.Calls.{Added as Written}
use Rattle.scope.proofs.Tests.{refused_no}
use Rattle.codec.specs.Valid.{Bytes}
use Rattle.adding.specs.declared.Mark.{Mark}
use Rattle.adding.specs.Added.{marked}
use Rattle.growing.specs.Growing.{Table, state, outcome_of, Writes}
use Rattle.cnf.specs.Text.{File, file_of}
use Rattle.cnf.specs.Fold.{build}
use Rattle.cnf.specs.Reader.{dimacs, Turns}
use Rattle.cnf.proofs.Reader.{dimacs-builds, dimacs_refuses}
use Rattle.cnftext.specs.declared.Heading.{Heading}
use Rattle.cnftext.specs.Scanned.{Headed}
use Rattle.cnfread.specs.Clauses.{body_at}
use Rattle.cnfread.specs.Reads.{file_with, Starts, Told, FirstRefusal, Reads}

-- the heading was found, or not
module _ {text : List ℕ} {r : Option Heading} (d : Headed text r) where
  pub no-heading : r ≡ None → file_of text ≡ refused 60 0
  unfolding file_of
  no-heading e = rw (← d.answered, e)

  filed_file : (h : Heading) (o : Outcome (List (List ℕ)))
      → (o >>= λ cs. require (eqb (length cs) h.clauses) 61 0 >> answer (file_with h cs)) ≡ (o >>= (λ cs. require (eqb (length cs) h.clauses) 61 0 >> answer cs) >>= λ cs. answer (file_with h cs))
  filed_file h (refused number place) = refl
  filed_file h (answer cs) = passes (require (eqb (length cs) h.clauses) 61 0)
    where
      passes : (o : Outcome (Unit {0})) → (o >> answer (file_with h cs)) ≡ (o >> answer cs >>= λ cs. answer (file_with h cs))
      passes (answer u) = refl
      passes (refused number place) = refl

  pub heading_starts : (h : Heading) → r ≡ Some h → Starts text h
  unfolding file_of
  heading_starts h e = record {
    within = d.within h e;
    few = d.few h e;
    file = rw (← d.answered, e) (filed_file h (body_at h.variables text h.body));
  }

pub first-given : {text : List ℕ} (r : Refusal) {x : File} → file_of text ≡ answer x → FirstRefusal text r r
first-given r e = record { fine = λ y q. refl; turned = λ number place q. refused_no (sym q ∙ e) }

module _ (text buf : List ℕ) (all : Bytes buf) where
  -- 60 or 61
  pub turned_away : (r : Refusal) → file_of text ≡ refused r.number r.place → Reads text buf (Err r) buf
  unfolding dimacs
  turned_away r e =
      let stops : dimacs text buf ≡ refused r.number r.place = rw e in
      record {
        answered = sym (ap marked stops);
        bytes = λ x q. refused_no (sym stops ∙ q);
        kept = λ number place q. refl;
        means = λ m q. absurd (let z : ◌≡◌ {A = ℕ} 0 1 = cc in omega arith);
        turns = λ s q. let same : r ≡ s = cc in subst (λ (z : Refusal). Turns z.number) same (dimacs_refuses text buf all r.number r.place stops);
      }

  module _ (f : File) (e : file_of text ≡ answer f) where
    built : dimacs text buf ≡ build buf f
    unfolding dimacs
    built = rw e

    -- 51 or 52
    table_refused : (r : Refusal) → build buf f ≡ refused r.number r.place → Reads text buf (Err r) buf
    table_refused r b =
        let stops : dimacs text buf ≡ refused r.number r.place = built ∙ b in
        record {
          answered = sym (ap marked stops);
          bytes = λ x q. refused_no (sym stops ∙ q);
          kept = λ number place q. refl;
          means = λ m q. absurd (let z : ◌≡◌ {A = ℕ} 0 1 = cc in omega arith);
          turns = λ s q. let same : r ≡ s = cc in subst (λ (z : Refusal). Turns z.number) same (dimacs_refuses text buf all r.number r.place stops);
        }

    -- the table is built
    table-built : (x : Written) → build buf f ≡ answer x → Reads text buf (Ok (record { literal = x.literal; used = x.used })) x.bytes
    table-built x b =
        let goes : dimacs text buf ≡ answer x = built ∙ b in
        record {
          answered = sym (ap marked goes);
          bytes = λ y q. let same : x ≡ y = (let p : answer x ≡ answer y = sym goes ∙ q in cc) in ap (λ (z : Written). z.bytes) same;
          kept = λ number place q. refused_no (sym q ∙ e);
          means = λ m q.
              let same : ◌≡◌ {A = Mark} (record { literal = x.literal; used = x.used }) m = cc in
              let lit : x.literal ≡ m.literal = ap (λ (z : Mark). z.literal) same in
              let used : x.used ≡ m.used = ap (λ (z : Mark). z.used) same in
              (f, e, rw (← lit, ← used) (dimacs-builds text buf all x f e goes));
          turns = λ r q. absurd (let z : ◌≡◌ {A = ℕ} 0 1 = cc in omega arith);
        }

  -- the answer of a table under way
  module _ {d : Table} {g : Result ℕ Refusal} (t : Told text buf d g) where
    pub settled_at : {l : ℕ} {after : List ℕ} {used : ℕ} → g ≡ Ok l → Writes d buf after used → Reads text buf (Ok (record { literal = l; used = used })) after
    settled_at {l} {after} {used} e w =
        let (f, ok) = t.there l e in
        let goes : build buf f ≡ answer (state l d buf) = t.table f ok ∙ ap (outcome_of d buf) e in
        rw (w.used_is, w.bytes) (table-built f ok (state l d buf) goes)

    pub settled-refused : {r x : Refusal} → g ≡ Err r → FirstRefusal text r x → Reads text buf (Err x) buf
    settled-refused {r} {x} e first = by_file (file_of text) refl
      where
        by_file : (o : Outcome File) → file_of text ≡ o → Reads text buf (Err x) buf
        by_file (answer f) q =
            let same : x ≡ r = first.fine f q in
            rw same (table_refused f q r (t.table f q ∙ ap (outcome_of d buf) e))
        by_file (refused number place) q =
            turned_away x (q ∙ ap₂-refused (sym (first.turned number place q).0) (sym (first.turned number place q).1))
          where
            ap₂-refused : {a b c d : ℕ} → a ≡ b → c ≡ d → ◌≡◌ {A = Outcome File} (refused a c) (refused b d)
            ap₂-refused p s = cc
