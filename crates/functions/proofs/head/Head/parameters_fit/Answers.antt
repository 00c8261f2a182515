-- `functions::head::Head::parameters_fit` meets its contract: every parameter fits.
use Rattle.std.proofs.Common.{ap, sym, ◌∙◌, rules, tests}
use Rattle.rules.specs.declared.Record.{Record}
use Rattle.rules.specs.File.{parameters_of}
use Rattle.functions.specs.Ranges.{all_of_range}
use Rattle.functions.specs.Functions.{function_at, params_at}
use Rattle.functions.specs.Declares.{parameter_fits, parameters_fit}
use Rattle.functions.proofs.head.Head.parameters_fit.Goals as goal

pub returns : goal.returns
unfolding parameters_fit
returns c = let a = c.args in all_of_range (parameter_fits (function_at a.self.now.file.now a.self.now.place)) (c.parameters_of-count.ensures ∙ ap (λ (x : Record). parameters_of x) c.record_at-x.ensures ∙ sym (params_at a.self.now.file.now a.self.now.place)) c.all.ensures.ran (λ x b q k. search (rules, tests))
