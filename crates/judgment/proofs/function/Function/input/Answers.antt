-- `judgment::function::Function::input` meets its contract: by the callees' contracts.
use mathlib.Core.Path.{ap₂, ◌∙◌}
use mathlib.Core.Bool.{◌&&◌}
use Rattle.rules.specs.Decode.{module_of}
use Rattle.functions.specs.Functions.{function_at}
use Rattle.judgment.specs.Rules.{input_test}
use Rattle.judgment.proofs.function.Function.input.Goals as goal

pub returns : goal.returns
returns c = let a = c.args in let m = module_of a.self.now.file.now in let F = function_at a.self.now.file.now a.self.now.head in ap₂ ◌&&◌ c.has_width.ensures c.has_width-2.ensures ∙ input_test m F a.a a.c
