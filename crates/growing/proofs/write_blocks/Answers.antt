-- `growing::write_blocks` meets its contract: a block more with each turn. Assumes nothing.
use mathlib.Core.Path.{◌≡◌}
use Prim.Native.Nat.{◌*◌}
use lib.ListN.{length, length-take, length-drop}
use Rattle.scope.specs.Block.{block_of}
use Rattle.writer.proofs.Parts.{part_back}
use Rattle.growing.specs.Growing.{records_in}
use Rattle.growing.proofs.Nodes.{room_fits}
use Rattle.growing.proofs.Blocks.{front-none, front-more, front_all, count_low}
use native.Mathlib.Omega.{arith}
use Rattle.growing.proofs.write_blocks.Goals as goal

pub loop-j-init : goal.loop-j-init
loop-j-init c = front-none c.args.keys.now c.args.nodes c.requires.2 c.requires.1 c.args.buf.now

pub slice_bounds-put_block-count : goal.slice_bounds-put_block-count
slice_bounds-put_block-count c = omega (arith, room_fits (length c.args.buf.now) c.args.nodes c.requires.0)

pub slice_bounds-put_block-start : goal.slice_bounds-put_block-start
slice_bounds-put_block-start c = omega (arith, room_fits (length c.args.buf.now) c.args.nodes c.requires.0)

pub put_block-requires : goal.put_block-requires
put_block-requires c =
    let room = room_fits (length c.args.buf.now) c.args.nodes c.requires.0 in
    let h = c.held-count.ensures in
    let low = count_low c.args.keys.now c.args.nodes c.requires.2 c.requires.1 c.loop-j.j _ (omega arith) h in
    (simp (length-take, length-drop) (omega (arith, room)), omega (arith, c.requires.1), h.most, omega (arith, low, c.requires.2))

pub loop-j-preserved : goal.loop-j-preserved
loop-j-preserved c =
    let room = room_fits (length c.args.buf.now) c.args.nodes c.requires.0 in
    let block = block_of 70 c.held-count.result c.loop-j.j (records_in c.args.keys.now (63 * c.loop-j.j) c.held-count.result) in
    front-more c.args.keys.now c.args.nodes c.requires.2 c.requires.1 c.loop-j.j _ (omega arith) c.held-count.ensures c.loop-j.invariant
    (part_back c.loop-j.buf block (512 * c.loop-j.j) 512 (omega (arith, room)) c.put_block.ensures)

pub returns : goal.returns
returns c =
    let same : c.loop-j.j ≡ c.div_ceil-blocks.result = omega arith in
    rw (← same) (front_all c.args.keys.now c.args.nodes c.requires.2 c.requires.1 c.loop-j.j c.loop-j.invariant (omega arith))
