-- `regions::add_region` meets its contract, by the definition.
use mathlib.Core.Path.{refl}
use native.Mathlib.Numerals.{add-one}
use Rattle.regions.proofs.add_region.Goals as goal

pub returns : goal.returns
returns c = rw (c.from.ensures, add-one c.args.r.0) refl
