-- `frames::put_arguments` meets its contract: one after the other; the frame that is read lies below the one that is written.
use mathlib.Core.Path.{◌≡◌}
use native.Mathlib.Omega.{arith}
use Rattle.frames.specs.Packed.{shifted_none, shifted_more}
use Rattle.state.specs.Filling.{registers_none}
use Rattle.frames.specs.Entered.{arguments_more}
use borrow.Author.Rules.{rules}
use Rattle.frames.proofs.put_arguments.Goals as goal

pub loop-i-init : goal.loop-i-init
loop-i-init c = (c.requires.0, shifted_none _, registers_none _ _ _)

pub register-v-requires : goal.register-v-requires
register-v-requires c = (c.loop-i.invariant.0, (omega arith, rw c.loop-i.invariant.1 (c.requires.4 c.loop-i.i c.loop-i-test.true)))

pub loop-i-preserved : goal.loop-i-preserved
loop-i-preserved c = (search rules, shifted_more _ _ _ c.loop-i.invariant.1, arguments_more _ _ _ _ _ _ _ _ _ c.requires.1 c.loop-i.invariant.1 c.loop-i.invariant.2 c.register-v.ensures c.put_register.ensures)

pub returns : goal.returns
returns c = let e : c.loop-i.i ≡ c.args.n = omega arith in rw e at c.loop-i.invariant.2
