-- `judgment::function::Function::operate` meets its contract: by the callees' contracts.
use mathlib.Core.Path.{ap₂, ◌∙◌}
use mathlib.Core.Bool.{◌&&◌}
use Rattle.rules.specs.Decode.{module_of}
use Rattle.functions.specs.Functions.{function_at}
use Rattle.judgment.specs.Rules.{operate_test}
use Rattle.judgment.proofs.function.Function.operate.Goals as goal

pub returns : goal.returns
returns c =
    let a = c.args in
    ap₂ ◌&&◌ (ap₂ ◌&&◌ c.is_integer.ensures c.same_types.ensures) c.operated.ensures
    ∙ operate_test (module_of a.self.now.file.now) (function_at a.self.now.file.now a.self.now.head) a.o a.a a.b a.c
