-- `sizes::fields_fit` meets its contract: every field fits.
use Rattle.std.proofs.Common.{ap, ◌∙◌, rules, tests}
use Rattle.rules.specs.declared.Record.{Record}
use Rattle.functions.specs.Ranges.{all_of_range}
use Rattle.sizes.specs.Sizes.{field_fits, fields_fit}
use Rattle.sizes.proofs.fields_fit.Goals as goal

pub returns : goal.returns
unfolding fields_fit
returns c = let a = c.args in all_of_range (field_fits a.f.now a.n a.number) (c.from.ensures ∙ ap (λ (x : Record). x.b) c.record_at-x.ensures) c.all.ensures.ran (λ x b q k. search (rules, tests))
