-- `judgment::function::Function::call_arguments` meets its contract: every argument keeps the rule.
use Rattle.std.proofs.Common.{ap, sym, ◌∙◌, rules, tests}
use Rattle.rules.specs.File.{parameters_of}
use Rattle.rules.specs.declared.Record.{Record}
use Rattle.functions.specs.Ranges.{all_of_range}
use Rattle.functions.specs.Functions.{params_at}
use Rattle.judgment.specs.Calls.{call_argument, call_arguments}
use Rattle.judgment.proofs.function.Function.call_arguments.Goals as goal

pub returns : goal.returns
unfolding call_arguments
returns c =
    let a = c.args in
    let f = a.self.now.file.now in
    all_of_range (call_argument f a.self.now.head a.e a.to.now a.y) (c.parameters_of.ensures ∙ ap (λ (x : Record). parameters_of x) c.record_at-z.ensures ∙ sym (params_at f a.e)) c.all.ensures.ran (λ x b q k. search (rules, tests))
