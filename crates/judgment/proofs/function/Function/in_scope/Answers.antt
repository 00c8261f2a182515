-- `judgment::function::Function::in_scope` meets its contract: by the callees' contracts.
use mathlib.Core.Path.{sym, ap, ◌∙◌}
use Rattle.rules.specs.declared.Record.{Record}
use lib.Dec.{ltb}
use Rattle.functions.specs.Functions.{regions_at}
use Rattle.rules.specs.File.{regions_of}
use Rattle.judgment.proofs.function.Function.in_scope.Goals as goal

pub returns : goal.returns
returns c = let a = c.args in ap (ltb a.v) (c.regions_of.ensures ∙ ap (λ (x : Record). regions_of x) c.record_at-x.ensures ∙ sym (regions_at a.self.now.file.now a.self.now.head))
