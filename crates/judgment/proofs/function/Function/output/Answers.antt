-- `judgment::function::Function::output` meets its contract: by the callees' contracts.
use mathlib.Core.Path.{◌∙◌}
use Rattle.rules.specs.Decode.{module_of}
use Rattle.functions.specs.Functions.{function_at}
use Rattle.judgment.specs.Rules.{output_test}
use Rattle.judgment.proofs.function.Function.output.Goals as goal

pub returns : goal.returns
returns c = let a = c.args in let m = module_of a.self.now.file.now in let F = function_at a.self.now.file.now a.self.now.head in c.has_width.ensures ∙ output_test m F a.b
