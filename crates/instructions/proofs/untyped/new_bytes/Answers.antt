-- `instructions::untyped::new_bytes` meets its contract: by the callees' contracts.
use mathlib.Core.Path.{◌∙◌}
use Rattle.rules.specs.Decode.{module_of}
use Rattle.functions.specs.Functions.{function_at}
use Rattle.judgment.specs.Rules.{new_bytes_test}
use Rattle.instructions.proofs.untyped.new_bytes.Goals as goal

pub returns : goal.returns
returns c = let a = c.args in let f = a.function.now.file.now in c.into_bytes.ensures ∙ new_bytes_test (module_of f) (function_at f a.function.now.head) a.a
