-- `terms::extent_of_term` meets its contract: all structs are known.
use Rattle.terms.specs.ExtentLaws.{extent_term}
use Rattle.terms.specs.Extents.{term_extent}
use mathlib.Core.Path.{ap, ◌∙◌}
use Rattle.terms.proofs.extent_of_term.Goals as goal

pub returns : goal.returns
returns c = let a = c.args in
    (c.term_extent.ensures.0 ∙ ap (term_extent a.f.now a.k) c.place_of.ensures.0 ∙ extent_term a.f.now a.n a.k c.requires a.t, c.term_extent.ensures.1)
