-- `pages::remember` meets its contract, by the definition.
use native.Mathlib.Numerals.{add-one}
use Rattle.pages.specs.Known.{remembered}
use Rattle.pages.proofs.remember.Goals as goal

pub returns : goal.returns
unfolding remembered
returns c = rw (c.from.ensures, add-one)
