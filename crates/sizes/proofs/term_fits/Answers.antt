-- `sizes::term_fits` meets its contract: by the callees' contracts.
use mathlib.Core.Path.{ap, ap₂, ◌∙◌}
use mathlib.Core.Bool.{◌&&◌}
use lib.Dec.{leb}
use Rattle.rules.specs.Limits.{size_limit}
use Rattle.terms.specs.declared.Extent.{Extent}
use Rattle.sizes.specs.Sizes.{term_test_law}
use Rattle.sizes.proofs.term_fits.Goals as goal

pub returns : goal.returns
returns c = let a = c.args in ap₂ ◌&&◌ (ap (λ (e : Extent). leb e.size size_limit) c.extent_of_term-e.ensures.0) c.counts.ensures ∙ term_test_law a.f.now a.n c.requires.terms a.t
