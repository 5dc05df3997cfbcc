-- `adding::add_record` meets its contract: each return is the row that its tests led to. Assumes nothing.
use mathlib.Core.Path.{◌≡◌, ◌∙◌, ap, sym}
use mathlib.Core.List.{List}
use lib.ListN.{length, get_or, take}
use mir.Val.{Fits}
use mir.Syntax.{w8}
use Rattle.scope.specs.Table.{read_record}
use Rattle.scope.specs.Calls.{normalized}
use Rattle.scope.proofs.Tests.{handed_on}
use Rattle.scope.specs.declared.Node.{Node}
use Rattle.scope.specs.Outcome.{Outcome, answer}
use Rattle.codec.specs.Valid.{Bytes}
use Rattle.codec.proofs.Bytes.{bytes_take}
use Rattle.codec.proofs.Records.{reads, record_bytes}
use Rattle.adding.specs.Added.{used_count, used_nodes}
use Rattle.adding.proofs.Rows.{refuses, record-rows, add_is, used_nodes_lem, used_count_lem, ready}
use Prim.Native.Nat.{ℕ}
use borrow.Author.Rules.{rules}
use Rattle.adding.proofs.add_record.Goals as goal

-- what the record's rows say, after the nodes of the used part
given : (buf r : List ℕ) (used nodes : ℕ) {y : List ℕ} {o : Outcome Node} → used_count (take used buf) ≡ answer nodes → y ≡ normalized r
    → o ≡ read_record y nodes → read_record (normalized r) (length (used_nodes buf used nodes)) ≡ o
given buf r used nodes e n q =
    ap (read_record (normalized r)) (used_count_lem buf used nodes e) ∙ ap (λ (l : List ℕ). read_record l nodes) (sym n) ∙ sym q

pub returns-in_err-x : goal.returns-in_err-x
returns-in_err-x c =
    let buf = c.args.buf.now in
    let done = refuses buf c.args.used c.args.r c.from_residual.result (handed_on (λ m. m) _ c.from_residual.ensures.1)
    (record-rows buf c.args.used c.args.r c.requires.0 _ (used_nodes_lem buf c.args.used c.args.nodes c.requires.1)
    (given buf c.args.r c.args.used c.args.nodes c.requires.1 c.normalize-y.ensures c.in_err-x.ensures)) in
    record { answered = done.0; bytes = done.1 }

pub add_node-requires : goal.add_node-requires
add_node-requires c = let y : List ℕ = c.normalize-y.result in
    let all : Bytes c.args.buf.now = λ i. let f : Fits w8 (get_or c.args.buf.now i 0) = search rules in f.fits in
    let bytes : Bytes y = λ i. let f : Fits w8 (get_or y i 0) = search rules in f.fits in
    let x = reads y c.args.nodes (sym c.in_ok-x.ensures) in (
      ready c.args.buf.now c.args.used c.args.nodes c.requires.1 c.requires.0 (bytes_take c.args.used c.args.buf.now all),
      record_bytes y c.args.nodes (search rules) bytes x,
      x.range,
    )

pub returns : goal.returns
returns c =
    let buf = c.args.buf.now in
    let e = add_is buf c.args.used c.args.r c.requires.0 _ (used_nodes_lem buf c.args.used c.args.nodes c.requires.1)
    (given buf c.args.r c.args.used c.args.nodes c.requires.1 c.normalize-y.ensures c.in_ok-x.ensures) in
    let done = c.add_node.ensures in
    record { answered = rw e done.answered; bytes = rw e done.bytes }
