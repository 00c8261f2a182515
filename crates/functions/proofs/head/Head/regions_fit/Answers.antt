-- `functions::head::Head::regions_fit` meets its contract: every region fits.
use Rattle.std.proofs.Common.{ap, sym, ◌∙◌, rules, tests}
use Rattle.rules.specs.declared.Record.{Record}
use Rattle.rules.specs.File.{regions_of}
use Rattle.functions.specs.Ranges.{all_of_range}
use Rattle.functions.specs.Functions.{function_at, regions_at}
use Rattle.functions.specs.Declares.{region_fits, regions_fit}
use Rattle.functions.proofs.head.Head.regions_fit.Goals as goal

pub returns : goal.returns
unfolding regions_fit
returns c = let a = c.args in all_of_range (region_fits (function_at a.self.now.file.now a.self.now.place)) (c.regions_of-count.ensures ∙ ap (λ (x : Record). regions_of x) c.record_at-x.ensures ∙ sym (regions_at a.self.now.file.now a.self.now.place)) c.all.ensures.ran (λ x b q k. search (rules, tests))
