-- `terms::target_region` meets its contract: by the term's head.
use Rattle.terms.specs.Readers.{region_reads}
use mathlib.Core.Path.{◌∙◌}
use Rattle.terms.proofs.target_region.Goals as goal

pub returns : goal.returns
returns c = c.region_no.ensures ∙ region_reads c.args.f.now c.args.n _ _ c.head_term.ensures
