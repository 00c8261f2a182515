-- `judgment::types::is_register` meets its contract: by the callees' contracts.
use mathlib.Core.Path.{sym, ap, ◌∙◌}
use lib.Dec.{ltb}
use Rattle.functions.specs.Functions.{registers_at_law}
use Rattle.judgment.specs.Registers.{is_register}
use Rattle.judgment.proofs.types.is_register.Goals as goal

pub returns : goal.returns
unfolding is_register
returns c = let a = c.args in ap (ltb a.a) c.from.ensures ∙ ap (ltb a.a) c.byte_at-c.ensures ∙ ap (ltb a.a) (sym (registers_at_law a.f.now a.h))
