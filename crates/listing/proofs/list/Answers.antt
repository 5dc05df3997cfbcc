-- `listing::list` meets its contract: a refused table's one line, or the heading and the lines behind it. Assumes nothing.
use mathlib.Core.Path.{◌∙◌, ap, sym, subst}
use mathlib.Core.List.{List}
use Prim.Native.Nat.{ℕ}
use native.Mathlib.Omega.{arith}
use borrow.Author.Rules.{rules}
use Rattle.asking.proofs.Lends.{new_index}
use Rattle.table.specs.Counted.{counted_of}
use Rattle.text.specs.Text.{ascii, Put}
use Rattle.text.specs.Listing.{heading}
use Rattle.text.proofs.Text.{behind, within}
use Rattle.listing.proofs.Words.{asked-count, same_over, refused_listing, read-listed}
use Rattle.listing.proofs.list.Goals as goal

pub ask_by-requires : goal.ask_by-requires
ask_by-requires g c = new_index

pub say-requires : goal.say-requires
say-requires g c = let put = c.refused-end.ensures in
    (omega arith, omega (arith, within (omega arith) put, put.size))

pub lines-requires : goal.lines-requires
lines-requires g c = let p = c.ask_by.ensures.prepared _ c.in-Ok.is in
    let put = c.put-first.ensures in
    record {
      indexed = p.indexed;
      nodes_in_bounds = (omega (arith, p.indexed.few, put.ends, put.size, c.requires), search rules);
    }

pub returns-in-Err : goal.returns-in-Err
returns-in-Err g c = let no = refused_listing c.args.t.now (sym (asked-count c.args.t.now) ∙ sym c.ask_by.ensures.answered ∙ ap counted_of c.in-Err.is) in
    subst (λ (s : List ℕ). Put c.args.out.now 0 s c.refused-end.new.out c.refused-end.result) no c.refused-end.ensures

pub returns-in-Ok : goal.returns-in-Ok
unfolding ascii heading
returns-in-Ok g c = let p = c.ask_by.ensures.prepared _ c.in-Ok.is in
    subst (λ (s : List ℕ). Put c.args.out.now 0 s c.lines.new.out c.lines.result) (read-listed _ p.nodes _ p.reads p.count)
    (behind (omega arith) c.put-first.ensures (c.lines.ensures.text p.nodes (same_over p)))
