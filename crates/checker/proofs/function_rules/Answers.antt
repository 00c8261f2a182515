-- `checker::function_rules` meets its contract: one stage.
use mathlib.Core.Path.{ap, ◌∙◌}
use Rattle.rules.specs.Limits.{bad_function}
use Rattle.rules.specs.Decode.{module_of}
use Rattle.rules.specs.Verdict.{function_stage, function_test}
use Rattle.framing.specs.Outcome.{Refused, first_passes, first_refuses}
use Rattle.checker.specs.Rules.{found, ended}
use Rattle.checker.proofs.function_rules.Goals as goal

pub returns-then-g-c : goal.returns-then-g-c
returns-then-g-c c =
    let f = c.args.f.now in
    ap (Refused bad_function) c.start_of.ensures
    ∙ first_refuses (function_stage f (module_of f)) (found (function_test (module_of f)) c.requires.functions c.first_function-g.ensures c.if-g-c.true)

pub returns-else-g-c : goal.returns-else-g-c
returns-else-g-c c = let f = c.args.f.now in first_passes (function_stage f (module_of f)) (ended (function_test (module_of f)) c.requires.functions c.first_function-g.ensures c.if-g-c.false)
