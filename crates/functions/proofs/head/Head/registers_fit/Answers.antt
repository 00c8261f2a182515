-- `functions::head::Head::registers_fit` meets its contract: every register fits.
use Rattle.std.proofs.Common.{ap, sym, ◌∙◌, rules, tests}
use Rattle.rules.specs.declared.Record.{Record}
use Rattle.functions.specs.Ranges.{all_of_range}
use Rattle.functions.specs.Functions.{function_at, registers_at_law}
use Rattle.functions.specs.Declares.{register_fits, registers_fit}
use Rattle.functions.proofs.head.Head.registers_fit.Goals as goal

pub returns : goal.returns
unfolding registers_fit
returns c = let a = c.args in all_of_range (register_fits (function_at a.self.now.file.now a.self.now.place)) (c.from.ensures ∙ ap (λ (x : Record). x.c) c.record_at-x.ensures ∙ sym (registers_at_law a.self.now.file.now a.self.now.place)) c.all.ensures.ran (λ x b q k. search (rules, tests))
