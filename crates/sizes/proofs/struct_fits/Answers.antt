-- `sizes::struct_fits` meets its contract: by the callees' contracts.
use mathlib.Core.Path.{ap, ap₂, ◌∙◌}
use mathlib.Core.Bool.{◌&&◌}
use lib.Dec.{leb}
use Rattle.rules.specs.Limits.{size_limit}
use Rattle.terms.specs.declared.Extent.{Extent}
use Rattle.sizes.specs.Sizes.{struct_test_law}
use native.Mathlib.Omega.{arith}
use Rattle.sizes.proofs.struct_fits.Goals as goal

pub fields_fit-requires : goal.fields_fit-requires
fields_fit-requires c = record { fact_1 = c.requires.fact_1.terms; fact_2 = omega (arith, c.requires.fact_2, c.requires.fact_1.few) }

pub returns : goal.returns
returns c = let a = c.args in ap₂ ◌&&◌ (ap (λ (e : Extent). leb e.size size_limit) c.extent_of_struct-e.ensures.0) c.fields_fit.ensures ∙ struct_test_law a.f.now a.n c.requires.fact_1.terms a.number
