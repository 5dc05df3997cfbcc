-- `adding::used_nodes` meets its contract. Assumes nothing.
use mathlib.Core.Path.{◌∙◌, sym}
use lib.Seq.{length-take-le}
use Rattle.adding.proofs.Buffers.{none_used, some_used}
use Rattle.adding.proofs.used_nodes.Goals as goal

pub returns-then-used-eq0 : goal.returns-then-used-eq0
returns-then-used-eq0 c = sym (none_used _ _ c.if-used-eq0.true)

pub slice_bounds-count-end : goal.slice_bounds-count-end
slice_bounds-count-end c = sym (length-take-le _ _ c.requires)

pub returns : goal.returns
returns c = c.count.ensures ∙ sym (some_used c.args.buf.now _ c.requires c.if-used-eq0.false)
