-- `judgment::function::Function::call_regions` meets its contract: every region keeps the rule.
use Rattle.std.proofs.Common.{ap, sym, ◌∙◌, rules, tests}
use Rattle.rules.specs.declared.Record.{Record}
use Rattle.functions.specs.Ranges.{all_of_range}
use Rattle.functions.specs.Functions.{region_params_at}
use Rattle.judgment.specs.Calls.{call_region, call_regions}
use Rattle.judgment.proofs.function.Function.call_regions.Goals as goal

pub returns : goal.returns
unfolding call_regions
returns c =
    let a = c.args in
    let f = a.self.now.file.now in
    all_of_range (call_region f a.self.now.head a.e a.to.now a.x) (c.from.ensures ∙ ap (λ (x : Record). x.a) c.record_at-z.ensures ∙ sym (region_params_at f a.e)) c.all.ensures.ran (λ x b q k. search (rules, tests))
