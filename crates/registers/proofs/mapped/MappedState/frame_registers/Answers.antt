-- `frame_registers` meets its contract: every register is right. Assumes nothing.
use Rattle.std.proofs.Common.{arith, refl, rules}
use Rattle.std.proofs.lemmas.Iterator.{YieldsList-from_range}
use Rattle.stack.proofs.Scan.{tells_below}
use Rattle.registers.specs.Registers.{registers_by}
use Rattle.registers.proofs.mapped.MappedState.frame_registers.Goals as goal

pub returns : goal.returns
returns c = registers_by c.head-h.ensures c.from.ensures (tells_below (YieldsList-from_range 0 _ _ refl (omega arith)) c.all.ensures.ran (λ x b q k. search rules))
