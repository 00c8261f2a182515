-- `pages::take_place` meets its contract: the zeros leave the marks.
use mathlib.Core.Path.{refl, ◌∙◌}
use Rattle.pages.specs.Places.{take_written}
use Rattle.pages.proofs.take_place.Goals as goal

pub returns : goal.returns
returns c = (refl, (rw c.clear_memory.ensures at c.set_mark.ensures) ∙ take_written c.args.s.now c.args.p c.args.j c.args.n c.requires.1 c.requires.2)
