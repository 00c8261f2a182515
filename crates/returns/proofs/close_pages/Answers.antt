-- `returns::close_pages` meets its contract: four pages after four, as the definition has them.
use mathlib.Core.Path.{◌≡◌}
use Prim.Native.Nat.{◌+◌, ◌*◌}
use native.Mathlib.Omega.{arith}
use Rattle.returns.specs.Left.{owned_in, closing_start, from_closing}
use borrow.Author.Rules.{rules}
use Rattle.returns.proofs.close_pages.Goals as goal

pub loop-i-init : goal.loop-i-init
loop-i-init c = (c.requires.0, closing_start (owned_in c.args.a.now c.args.s.now) c.args.s.now, c.requires.2)

pub close_owned-requires : goal.close_owned-requires
close_owned-requires c = (c.loop-i.invariant.0, omega arith, c.requires.1, c.loop-i.invariant.2)

pub loop-i-preserved : goal.loop-i-preserved
loop-i-preserved c = let e : 4 * (c.loop-i.i + 1) ≡ 4 * c.loop-i.i + 4 = omega arith in
    (search rules, rw e (from_closing c.args.a.now c.args.s.now _ _ (4 * c.loop-i.i) 4 c.loop-i.invariant.1 c.close_owned.ensures.0), c.close_owned.ensures.1)

pub returns : goal.returns
returns c = let e : 4 * c.loop-i.i ≡ 64 = omega arith in (rw e at c.loop-i.invariant.1, c.loop-i.invariant.2)
