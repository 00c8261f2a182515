-- `judgment::function::Function::extend` meets its contract: by the callees' contracts.
use mathlib.Core.Path.{ap₂, ◌∙◌}
use mathlib.Core.Bool.{◌&&◌}
use Rattle.rules.specs.Decode.{module_of}
use Rattle.judgment.specs.Function.{in_file}
use Rattle.judgment.specs.Rules.{zero_test, sign_test}
use Rattle.judgment.proofs.function.Function.extend.Goals as goal

pub returns-clause-zero : goal.returns-clause-zero
returns-clause-zero c = let a = c.args in let s = a.self.now in ap₂ ◌&&◌ c.is_integer.ensures c.is_integer-2.ensures ∙ zero_test (module_of s.file.now) (in_file s) a.a a.b

pub returns-clause-sign : goal.returns-clause-sign
returns-clause-sign c = let a = c.args in let s = a.self.now in ap₂ ◌&&◌ c.is_integer.ensures c.is_integer-2.ensures ∙ sign_test (module_of s.file.now) (in_file s) a.a a.b
