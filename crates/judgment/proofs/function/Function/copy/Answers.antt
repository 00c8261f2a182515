-- `judgment::function::Function::copy` meets its contract: by the callees' contracts.
use mathlib.Core.Path.{◌∙◌}
use Rattle.rules.specs.Decode.{module_of}
use Rattle.functions.specs.Functions.{function_at}
use Rattle.judgment.specs.Rules.{copy_test}
use Rattle.judgment.proofs.function.Function.copy.Goals as goal

pub returns : goal.returns
returns c = let a = c.args in let m = module_of a.self.now.file.now in let F = function_at a.self.now.file.now a.self.now.head in c.same_types.ensures ∙ copy_test m F a.a a.b
