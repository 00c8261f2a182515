-- `terms::arguments` meets its contract: by the term's head.
use Rattle.terms.specs.Readers.{args_reads}
use mathlib.Core.Path.{◌∙◌}
use Rattle.terms.proofs.arguments.Goals as goal

pub returns : goal.returns
returns c = c.args_no.ensures ∙ args_reads c.args.f.now c.args.n _ _ c.head_term.ensures
