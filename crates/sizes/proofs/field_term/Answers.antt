-- `sizes::field_term` meets its contract: the entry of the struct's record 6.
use mathlib.Core.Path.{ap, ◌∙◌}
use Rattle.rules.specs.declared.Record.{Record}
use Rattle.rules.specs.File.{entry_of}
use Rattle.sizes.specs.Sizes.{field_term}
use Rattle.sizes.proofs.field_term.Goals as goal

pub returns : goal.returns
unfolding field_term
returns c = c.entry_of.ensures.0 ∙ ap (λ (x : Record). entry_of x c.args.i) c.record_at-x.ensures
