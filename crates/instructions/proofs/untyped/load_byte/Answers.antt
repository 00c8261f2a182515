-- `instructions::untyped::load_byte` meets its contract: by the callees' contracts.
use mathlib.Core.Path.{ap₂, ◌∙◌}
use mathlib.Core.Bool.{◌&&◌}
use Rattle.rules.specs.Decode.{module_of}
use Rattle.functions.specs.Functions.{function_at}
use Rattle.judgment.specs.Rules.{load_byte_test}
use Rattle.instructions.proofs.untyped.load_byte.Goals as goal

pub returns : goal.returns
returns c =
    let a = c.args in
    let f = a.function.now.file.now in
    ap₂ ◌&&◌ c.into_bytes.ensures (ap₂ ◌&&◌ c.has_width.ensures c.has_width-2.ensures) ∙ load_byte_test (module_of f) (function_at f a.function.now.head) a.a a.b a.c
