-- The reader: a table that it answers reads, and its goal is true exactly where the file is (`dimacs-builds`); nothing but 60, 61,
-- 51 and 52 refuses (`dimacs_refuses`). Assumes nothing.
use mathlib.Core.Path.{◌≡◌, ap}
use mathlib.Core.List.{List, []}
use mathlib.Core.Logic.{inl, inr}
use Prim.Native.Nat.{ℕ, ◌<◌}
use native.Mathlib.Omega.{arith}
use lib.Dec.{eqb}
use lib.ListN.{length, take}
use Rattle.scope.specs.declared.Node.{Node}
use Rattle.scope.specs.Outcome.{Outcome, answer, refused, ◌>>=◌}
use Rattle.scope.specs.Table.{decode}
use Rattle.scope.specs.Calls.{Added, decode_used}
use Rattle.codec.specs.Valid.{Bytes}
use Rattle.codec.proofs.Rows.{by_test}
use Rattle.cnf.specs.Text.{File, file_of}
use Rattle.cnf.specs.Fold.{build}
use Rattle.cnf.specs.Meaning.{clauses_true}
use Rattle.cnf.specs.Reader.{dimacs, Turns, Means}
use Rattle.cnf.proofs.Outcomes.{Ends, ends_answer, ends_refused}
use Rattle.cnf.proofs.Puts.{Full}
use Rattle.cnf.proofs.Means.{Gives}
use Rattle.cnf.proofs.Builds.{build_runs}
use Rattle.cnf.proofs.Texts.{Turned, Proper, file_ends}

-- a used part that reads as some nodes is a table
table_reads : (t : List ℕ) (rs : List Node) → decode_used t ≡ answer rs → 0 < length rs → decode t ≡ answer rs
unfolding decode_used
table_reads t rs e some =
    by_test (eqb (length t) 0)
    (λ q.
    let none : ◌≡◌ {A = Outcome (List Node)} (answer []) (answer rs) = rw q at e in
    let nil : [] ≡ rs = cc in
    absurd (omega (arith, ap length nil)))
    (λ q. rw q at e)

module _ (text buf : List ℕ) (all : Bytes buf) where
  -- what a file's table means
  built : (f : File) → Proper f → Ends Full (Gives f.variables [] (λ s. clauses_true s f.clauses)) (build buf f)
  built f p = build_runs buf f all p.few p.below

  pub dimacs-builds : (out : Added) (f : File) → file_of text ≡ answer f → dimacs text buf ≡ answer out → Means f out.literal out.used out.bytes
  unfolding dimacs
  dimacs-builds out f q e =
      let p = ends_answer Turned Proper (file_of text) (file_ends text) q in
      let g = ends_answer Full (Gives f.variables [] (λ s. clauses_true s f.clauses)) (build buf f) (built f p) (rw q at e) in
      record {
        nodes = g.rs';
        readable = table_reads (take out.used out.bytes) g.rs' g.holds.nodes (omega (arith, g.inside));
        inside = omega (arith, g.inside);
        truths = g.means;
      }

  by_file : (o : Outcome File) {number place : ℕ} → Ends Turned Proper o → (o >>= λ f. build buf f) ≡ refused number place → Turns number
  by_file (answer f) r e = inr (ends_refused Full (Gives f.variables [] (λ s. clauses_true s f.clauses)) (build buf f) (built f r) e)
  by_file (refused n p) {number} r e = let same : n ≡ number = cc in inl (rw same at r.0)

  pub dimacs_refuses : (number place : ℕ) → dimacs text buf ≡ refused number place → Turns number
  unfolding dimacs
  dimacs_refuses number place e = by_file (file_of text) (file_ends text) e
