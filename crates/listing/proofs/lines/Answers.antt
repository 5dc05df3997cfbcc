-- `listing::lines` meets its contract: the lines so far stand behind one another. Assumes nothing.
use mathlib.Core.Path.{◌≡◌, ◌∙◌, refl}
use native.Mathlib.Numerals.{add-one}
use native.Mathlib.Omega.{arith}
use borrow.Author.Rules.{rules}
use Rattle.text.specs.Listing.{node_lines}
use Rattle.text.proofs.Text.{nothing, behind}
use Rattle.listing.proofs.lines.Goals as goal

pub loop-m-init : goal.loop-m-init
unfolding node_lines
loop-m-init g c = (omega arith, omega arith, omega arith, refl, refl, λ rs same. nothing c.args.out.now c.args.start)

pub line-next-requires : goal.line-next-requires
line-next-requires g c = let inv = c.loop-m.invariant in
    let test = c.loop-m-test.true in
    record {
      indexed = c.requires.indexed;
      m_lt_n = (test, omega (arith, inv.2, inv.3, c.requires.nodes_in_bounds.0, test), omega (arith, inv.4, c.requires.nodes_in_bounds.1));
    }

pub say-written-requires : goal.say-written-requires
say-written-requires g c = let now = c.line-next.ensures in
    let inv = c.loop-m.invariant in
    (now.least, omega (arith, now.most, now.size, inv.2, inv.3, c.requires.nodes_in_bounds.0, c.loop-m-test.true))

pub loop-m-preserved : goal.loop-m-preserved
unfolding node_lines
loop-m-preserved g c = let now = c.line-next.ensures in (
  omega (arith, c.loop-m-test.true),
  omega (arith, now.least, c.loop-m.invariant.1),
  omega (arith, now.most, c.loop-m.invariant.2),
  now.size ∙ c.loop-m.invariant.3,
  search rules,
  λ rs same. rw (add-one c.loop-m.m) (behind (omega arith) (c.loop-m.invariant.5 rs same) (now.text rs same)),
)

pub returns : goal.returns
returns g c = let inv = c.loop-m.invariant in
    let all : c.loop-m.m ≡ c.args.nodes = omega (arith, inv.0, c.loop-m-test.false) in
    record { text = λ rs same. rw all at (inv.5 rs same); size = inv.3 }
