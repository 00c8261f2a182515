-- `returns::close_four` meets its contract: page by page, as the definition has it.
use mathlib.Core.Path.{◌≡◌}
use native.Mathlib.Omega.{arith}
use Rattle.returns.specs.Left.{from_none, from_more}
use borrow.Author.Rules.{rules}
use Rattle.returns.proofs.close_four.Goals as goal

pub loop-i-init : goal.loop-i-init
loop-i-init c = (c.requires.0, from_none c.args.a.now c.args.p c.args.s.now, c.requires.2)

pub close_page-requires : goal.close_page-requires
close_page-requires c = (c.loop-i.invariant.0, omega arith, c.loop-i.invariant.2)

pub loop-i-preserved : goal.loop-i-preserved
loop-i-preserved c = (search rules, from_more c.args.a.now c.args.s.now _ _ c.args.p c.loop-i.i c.loop-i.invariant.1 c.close_page.ensures.0, c.close_page.ensures.1)

pub returns : goal.returns
returns c = let e : c.loop-i.i ≡ 4 = omega arith in (rw e at c.loop-i.invariant.1, c.loop-i.invariant.2)
