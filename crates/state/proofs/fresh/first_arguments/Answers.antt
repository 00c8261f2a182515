-- `state::fresh::first_arguments` meets its contract: one after the other.
use mathlib.Core.Path.{◌≡◌}
use native.Mathlib.Omega.{arith}
use Rattle.state.specs.Filling.{registers_none}
use Rattle.state.specs.Fresh.{arguments_more}
use borrow.Author.Rules.{rules}
use Rattle.state.proofs.fresh.first_arguments.Goals as goal

pub loop-i-init : goal.loop-i-init
loop-i-init c = (c.requires.0, registers_none _ _ _)

pub loop-i-preserved : goal.loop-i-preserved
loop-i-preserved c = (search rules, arguments_more _ _ _ _ _ _ c.loop-i.invariant.1 c.word_at.ensures c.put_register.ensures)

pub returns : goal.returns
returns c = let e : c.loop-i.i ≡ c.args.n = omega arith in rw e at c.loop-i.invariant.1
