-- `register_ok` meets its contract: its term and its number. Assumes nothing.
use Rattle.registers.specs.Registers.{register_by}
use Rattle.registers.proofs.mapped.MappedState.register_ok.Goals as goal

pub returns : goal.returns
returns c = register_by c.register_term-t.ensures c.register-x.ensures c.value_ok.ensures
