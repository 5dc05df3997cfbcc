-- The rows as the functions meet them, and what asking answers. Assumes nothing.
use mathlib.Core.Path.{◌≡◌, sym, ap, ◌∙◌}
use mathlib.Core.List.{List}
use Rattle.std.specs.Prelude.{Result, Ok, Err}
use Rattle.std.specs.Result.{IsErrAnd}
use Rattle.std.proofs.lemmas.Result.{err_from_is_err_and}
use Prim.Native.Nat.{ℕ}
use native.Mathlib.Omega.{arith}
use lib.ListN.{length}
use Rattle.scope.specs.declared.Refusal.{Refusal}
use Rattle.scope.specs.Outcome.{Outcome, answer, refused, fine, ◌>>◌, ◌>>=◌}
use Rattle.scope.specs.Table.{decode}
use Rattle.scope.specs.Calls.{table_count}
use Rattle.scope.proofs.Tests.{refused_no, passed_on, handed_on}
use Rattle.calculus.specs.Decide.{goals_test, lent_test, rows_test, Admitted, asked_by}
use Rattle.calculus.proofs.Asked.{by_rows}
use Rattle.asking.specs.Asks.{Prepared, Asks}
use Rattle.asking.specs.Within.{Admits, Reached, Within}
use Rattle.asking.proofs.Nodes.{nodes_in, size_in, nodes_read}

-- ---- the row on the list, then 20, then 21 and 23

module _ (listed : Outcome (Unit {0})) (nodes : ℕ) (goals : List ℕ) (needed points area : ℕ) where
  pub row_list : {number place : ℕ} → listed ≡ refused number place → rows_test listed nodes goals needed points area ≡ refused number place
  unfolding rows_test
  row_list e = rw e

  module _ (l : listed ≡ fine) where
    pub row-goals : {number place : ℕ} → goals_test nodes goals ≡ refused number place → rows_test listed nodes goals needed points area ≡ refused number place
    unfolding rows_test
    row-goals e = rw (l, e)

    pub row-lent : goals_test nodes goals ≡ fine → rows_test listed nodes goals needed points area ≡ lent_test needed points area
    unfolding rows_test
    row-lent g = rw (l, g)

-- ---- what asking answers

module _ (listed : Outcome (Unit {0})) (t goals : List ℕ) (needed points area : ℕ) where
  -- the number of nodes, which is all that a refusal leaves out
  abbrev counts : Outcome ℕ
  counts = asked_by listed t goals needed points area >>= λ rs. answer (length rs)

  pub table_refuses : {number place : ℕ} → table_count t ≡ refused number place → asked_by listed t goals needed points area ≡ refused number place
  unfolding table_count asked_by
  table_refuses e = passed_on (decode t) length _ e

  asked_in : {nodes : ℕ} → table_count t ≡ answer nodes
      → asked_by listed t goals needed points area ≡ (rows_test listed nodes goals needed points area >> answer (nodes_in t nodes))
  asked_in {nodes} e =
      by_rows listed t goals needed points area (nodes_read t e)
      ∙ ap (λ (k : ℕ). rows_test listed k goals needed points area >> answer (nodes_in t nodes)) (size_in t nodes)

  pub rows_refuse : {number place nodes : ℕ} → table_count t ≡ answer nodes → rows_test listed nodes goals needed points area ≡ refused number place
      → asked_by listed t goals needed points area ≡ refused number place
  rows_refuse e q = asked_in e ∙ rw q

  -- what a `?` hands on
  module _ (f : Refusal) (e : asked_by listed t goals needed points area ≡ refused f.number f.place) (r : Result ℕ Refusal) (h : IsErrAnd r (λ x. x ≡ f)) where
    handed : r ≡ Err f
    handed = let p = err_from_is_err_and r h in p.1 ∙ ap Err p.2

    refused_as : (g : Refusal) → r ≡ Err g → asked_by listed t goals needed points area ≡ refused g.number g.place
    refused_as g q =
        let z : ◌≡◌ {A = Result ℕ Refusal} (Err f) (Err g) = sym handed ∙ q in
        let y : f ≡ g = cc in
        e ∙ ap (λ (h : Refusal). refused h.number h.place) y

    no-nodes : {P : Type 0} (n : ℕ) → r ≡ Ok n → P
    no-nodes n q =
        let z : ◌≡◌ {A = Result ℕ Refusal} (Err f) (Ok n) = sym handed ∙ q in
        absurd (let y : ◌≡◌ {A = ℕ} 0 1 = cc in omega arith)

    pub admits-none : Admits listed t goals needed points area r
    admits-none = record { refuses = refused_as; counted = λ n q. no-nodes n q; admitted = λ n q. no-nodes n q }

    pub asks_none : (x : List ℕ) → Asks listed t goals needed points area x r
    asks_none x = record { answered = handed_on (λ n. n) r h ∙ rw e; prepared = λ n q. no-nodes n q }

    pub within_none : (x : List ℕ) → Within listed t goals needed points area x r
    within_none x = record { refuses = refused_as; reached = λ n q. no-nodes n q }

  pub admits_some : (n : ℕ) → table_count t ≡ answer n → Admitted listed n goals needed points area → Admits listed t goals needed points area (Ok n)
  admits_some n e a = record {
    refuses = λ f q. absurd (let z : ◌≡◌ {A = ℕ} 0 1 = cc in omega arith);
    counted = λ m q.
        let z : n ≡ m = cc in
        rw z at e;
    admitted = λ m q.
        let z : n ≡ m = cc in
        rw z at a;
  }

  pub within_some : (x : List ℕ) (n : ℕ) → Reached listed t goals needed points area x n → Within listed t goals needed points area x (Ok n)
  within_some x n p = record {
    refuses = λ f q. absurd (let z : ◌≡◌ {A = ℕ} 0 1 = cc in omega arith);
    reached = λ m q.
        let z : n ≡ m = cc in
        rw z at p;
  }

  pub asks-some : (x : List ℕ) (n : ℕ) → Prepared listed t goals needed points area x n → Asks listed t goals needed points area x (Ok n)
  asks-some x n p = record {
    answered = rw p.answered (ap answer (sym p.count));
    prepared = λ m q.
        let z : n ≡ m = cc in
        rw z at p;
  }

-- where the row on the list refuses, it is the same whatever the list is
pub within_other : (listed : Outcome (Unit {0})) (t goals other : List ℕ) (needed points area : ℕ) {x : List ℕ} {r : Result ℕ Refusal} {number place : ℕ}
    → listed ≡ refused number place → Within listed t goals needed points area x r → Within listed t other needed points area x r
unfolding asked_by rows_test
within_other listed t goals other needed points area e a = record {
  refuses = λ f q.
      let z : asked_by listed t other needed points area ≡ asked_by listed t goals needed points area = rw e in
      z ∙ a.refuses f q;
  reached = λ m q. refused_no (sym e ∙ (a.reached m q).admitted.list);
}
