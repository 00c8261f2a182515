-- `functions::readers::region_term` meets its contract: the entry of record 8.
use mathlib.Core.Path.{ap, ◌∙◌}
use Rattle.functions.specs.Functions.{region_term}
use Rattle.rules.specs.File.{entry_of}
use Rattle.rules.specs.declared.Record.{Record}
use Rattle.functions.proofs.readers.region_term.Goals as goal

pub returns : goal.returns
unfolding region_term
returns c = let a = c.args in c.entry_of.ensures.0 ∙ ap (λ (x : Record). entry_of x a.i) c.record_at-x.ensures
