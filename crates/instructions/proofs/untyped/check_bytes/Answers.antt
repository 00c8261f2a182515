-- `instructions::untyped::check_bytes` meets its contract: by the callees' contracts.
use mathlib.Core.Path.{ap₂, ◌∙◌}
use mathlib.Core.Bool.{◌&&◌, ◌||◌}
use Rattle.rules.specs.Decode.{module_of}
use Rattle.functions.specs.Functions.{function_at}
use Rattle.judgment.specs.Rules.{check_bytes_test}
use Rattle.instructions.proofs.untyped.check_bytes.Goals as goal

pub returns : goal.returns
returns c =
    let a = c.args in
    let f = a.function.now.file.now in
    ap₂ ◌&&◌ c.into_bytes.ensures (ap₂ ◌||◌ c.has_width.ensures (ap₂ ◌||◌ c.is_pointer.ensures c.is_untyped.ensures))
    ∙ check_bytes_test (module_of f) (function_at f a.function.now.head) a.a a.b
