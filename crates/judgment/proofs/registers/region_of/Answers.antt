-- `judgment::registers::region_of` meets its contract: by the callees' contracts.
use mathlib.Core.Path.{ap, ◌∙◌}
use Rattle.rules.specs.Types.{variable, Tree, region_of}
use Rattle.judgment.specs.Registers.{register_is}
use Rattle.judgment.proofs.registers.region_of.Goals as goal

pub returns : goal.returns
returns c = let a = c.args in c.target_region-v.ensures ∙ ap (λ (T : Tree variable). (region_of T).number) (register_is a.f.now a.h a.a c.register_term-t.ensures)
