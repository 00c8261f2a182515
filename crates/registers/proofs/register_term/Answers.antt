-- `registers::register_term` meets its contract: the entry of record 9. Assumes nothing.
use native.Mathlib.Omega.{arith}
use mathlib.Core.Path.{◌∙◌}
use Rattle.stack.specs.Facts.{start_few}
use Rattle.walk.specs.Code.{registers_far}
use Rattle.registers.specs.Registers.{term_is}
use Rattle.registers.proofs.register_term.Goals as goal

pub registers_at-at-requires : goal.registers_at-at-requires
registers_at-at-requires c = omega (arith, c.start_of-h.ensures, start_few c.args.state.now.file.now c.from-g.result c.args.state.now.known.short)

pub overflow_add-at : goal.overflow_add-at
overflow_add-at c = omega (arith, c.registers_at-at.ensures, registers_far c.args.state.now.file.now c.start_of-h.result, c.start_of-h.ensures, start_few c.args.state.now.file.now c.from-g.result c.args.state.now.known.short)

pub returns : goal.returns
returns c = term_is _ _ _ _ (c.from-g.ensures ∙ c.function.ensures) c.start_of-h.ensures c.registers_at-at.ensures c.record_at-x.ensures c.entry_of.ensures.0
