-- `sizes::arity` meets its contract: a of the struct's record 5.
use mathlib.Core.Path.{ap, ◌∙◌}
use Rattle.rules.specs.declared.Record.{Record}
use Rattle.sizes.specs.Sizes.{arity_of}
use Rattle.sizes.proofs.arity.Goals as goal

pub returns : goal.returns
unfolding arity_of
returns c = c.from.ensures ∙ ap (λ (x : Record). x.a) c.record_at-x.ensures
