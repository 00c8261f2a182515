-- `functions::declared::first_function` meets its contract: the first function that does not fit.
use Rattle.std.proofs.Common.{◌∙◌, rules, tests}
use Rattle.std.proofs.lemmas.Iterator.{serves_from_Range}
use Rattle.rules.specs.Decode.{module_of}
use Rattle.rules.specs.Verdict.{function_test}
use Rattle.functions.specs.Ranges.{find_of_range}
use Rattle.functions.proofs.declared.first_function.Goals as goal

pub find-requires-clause-callable : goal.find-requires-clause-callable
find-requires-clause-callable c = serves_from_Range (λ x q k. search (rules, tests)) (λ x l m. search (rules, tests))

pub returns : goal.returns
returns c = c.unwrap_or.ensures ∙ find_of_range (function_test (module_of c.args.f.now)) _ c.find.result c.find.ensures.ran (λ x b q k. search (rules, tests))
