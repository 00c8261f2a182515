-- `pages::places_in_page` meets its contract, by the definition.
use mathlib.Core.Path.{refl}
use native.Mathlib.Nat.{div-le_self}
use Rattle.pages.proofs.places_in_page.Goals as goal

pub returns : goal.returns
returns c = (refl, div-le_self 256 c.args.size)
