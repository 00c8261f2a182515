-- `arithmetic::subtract` meets its contract, since every range divides 256 ^ 4.
use mathlib.Core.Path.{◌∙◌}
use Rattle.arithmetic.specs.Laws.{mask_taken, cut_wrapped}
use Rattle.arithmetic.specs.Meaning.{width_in}
use Rattle.arithmetic.proofs.subtract.Goals as goal

pub returns : goal.returns
returns c = let p = c.requires in let a = c.args in
    c.cut_by.ensures _ p.0.width (mask_taken p.0 c.mask_in.ensures)
    ∙ rw (c.from.ensures, c.from-2.ensures) (cut_wrapped a.x a.y (width_in a.v) p.0.width p.1)
