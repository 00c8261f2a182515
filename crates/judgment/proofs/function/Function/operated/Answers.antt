-- `judgment::function::Function::operated` meets its contract: by the operation.
use mathlib.Core.Path.{ap, ap₂, ◌∙◌}
use mathlib.Core.Bool.{Bool, ◌&&◌}
use lib.Dec.{leb}
use native.Mathlib.Omega.{arith}
use Rattle.functions.specs.Functions.{function_at}
use Rattle.judgment.specs.Rules.{operated_plain, operated_quotient, operated_compare}
use Rattle.judgment.proofs.function.Function.operated.Goals as goal

pub returns-then-o-lt10 : goal.returns-then-o-lt10
returns-then-o-lt10 c =
    let a = c.args in
    c.same_types.ensures ∙ operated_plain (function_at a.self.now.file.now a.self.now.head) a.o a.a a.b c.if-o-lt10.true

pub returns-then-o-eq10 : goal.returns-then-o-eq10
returns-then-o-eq10 c =
    let a = c.args in
    ap₂ ◌&&◌ c.has_width.ensures c.has_width-then-o-eq10.ensures
    ∙ operated_quotient (function_at a.self.now.file.now a.self.now.head) a.o a.a a.b c.if-o-eq10.true

pub returns-else-o-eq10 : goal.returns-else-o-eq10
returns-else-o-eq10 c =
    let a = c.args in
    ap (λ (b : Bool). leb a.o 13 && b) c.has_width-else-o-eq10.ensures
    ∙ operated_compare (function_at a.self.now.file.now a.self.now.head) a.o a.a a.b (omega (arith, c.if-o-lt10.false, c.if-o-eq10.false))
