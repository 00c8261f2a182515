-- `judgment::control::jump` meets its contract: by the callees' contracts.
use mathlib.Core.Path.{◌∙◌}
use Rattle.rules.specs.Decode.{module_of}
use Rattle.functions.specs.Functions.{function_at}
use Rattle.judgment.specs.Rules.{jump_test}
use Rattle.judgment.proofs.control.jump.Goals as goal

pub returns : goal.returns
returns c = let a = c.args in let m = module_of a.f.now in let F = function_at a.f.now a.h in c.is_target.ensures ∙ jump_test m F a.d
