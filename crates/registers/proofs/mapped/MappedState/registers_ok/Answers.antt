-- `registers_ok` meets its contract: every frame. Assumes nothing.
use Rattle.std.proofs.Common.{arith, refl, rules}
use Rattle.std.proofs.lemmas.Iterator.{YieldsList-from_range}
use Rattle.stack.proofs.Scan.{tells_below}
use Rattle.registers.specs.Registers.{all_by}
use Rattle.registers.proofs.mapped.MappedState.registers_ok.Goals as goal

pub returns : goal.returns
returns c = all_by c.args.self.now.typed.state.counted (tells_below (YieldsList-from_range 0 _ _ refl (omega arith)) c.all.ensures.ran (λ x b q k. search rules))
