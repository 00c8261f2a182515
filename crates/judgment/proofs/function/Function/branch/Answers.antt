-- `judgment::function::Function::branch` meets its contract: by the callees' contracts.
use mathlib.Core.Path.{ap₂, ◌∙◌}
use mathlib.Core.Bool.{◌&&◌}
use Rattle.rules.specs.Decode.{module_of}
use Rattle.functions.specs.Functions.{function_at}
use Rattle.judgment.specs.Rules.{branch_test}
use Rattle.judgment.proofs.function.Function.branch.Goals as goal

pub returns : goal.returns
returns c = let a = c.args in let m = module_of a.self.now.file.now in let F = function_at a.self.now.file.now a.self.now.head in ap₂ ◌&&◌ c.is_integer.ensures c.is_target.ensures ∙ branch_test m F a.a a.d
