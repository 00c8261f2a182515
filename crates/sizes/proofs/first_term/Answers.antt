-- `sizes::first_term` meets its contract: the first term that does not fit.
use Rattle.std.proofs.Common.{◌∙◌, rules, tests}
use Rattle.functions.specs.Ranges.{find_of_range}
use Rattle.rules.specs.Decode.{module_of}
use Rattle.rules.specs.Verdict.{term_test}
use Rattle.sizes.proofs.first_term.Goals as goal

pub returns : goal.returns
returns c = c.unwrap_or.ensures ∙ find_of_range (term_test (module_of c.args.f.now)) _ c.find.result c.find.ensures.ran (λ x b q k. search (rules, tests))
