-- `judgment::control::is_target` meets its contract: by the callees' contracts.
use mathlib.Core.Path.{sym, ap, ◌∙◌}
use Rattle.rules.specs.declared.Record.{Record}
use lib.Dec.{ltb}
use Rattle.functions.specs.Functions.{length_at}
use Rattle.rules.specs.File.{instructions_of}
use Rattle.judgment.proofs.control.is_target.Goals as goal

pub returns : goal.returns
returns c = let a = c.args in ap (ltb a.d) (c.instructions_of.ensures.0 ∙ ap (λ (x : Record). instructions_of x) c.record_at-x.ensures ∙ sym (length_at a.f.now a.h))
