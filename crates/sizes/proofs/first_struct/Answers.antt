-- `sizes::first_struct` meets its contract: the first struct that does not fit.
use Rattle.std.proofs.Common.{◌∙◌, rules, tests}
use Rattle.std.proofs.lemmas.Iterator.{serves_from_Range}
use Rattle.functions.specs.Ranges.{find_of_range}
use Rattle.rules.specs.Decode.{module_of}
use Rattle.rules.specs.Verdict.{struct_test}
use Rattle.sizes.proofs.first_struct.Goals as goal

pub returns : goal.returns
returns c = c.unwrap_or.ensures ∙ find_of_range (struct_test (module_of c.args.f.now)) _ c.find.result c.find.ensures.ran (λ x b q k. search (rules, tests))

pub find-requires-clause-callable : goal.find-requires-clause-callable
find-requires-clause-callable c = serves_from_Range (λ x q k. search (rules, tests)) (λ x l m. search (rules, tests))
