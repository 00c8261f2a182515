-- `pages::grant_page` meets its contract: the first two writes leave the marks.
use mathlib.Core.Path.{◌∙◌}
use native.Mathlib.Numerals.{add-one}
use native.Mathlib.Omega.{arith}
use Rattle.rules.specs.State.{written, put_marks}
use Rattle.pages.specs.Places.{grant_written}
use Rattle.pages.proofs.grant_page.Goals as goal

pub returns : goal.returns
unfolding written put_marks
returns c =
    let start = c in
    (rw (c.put_owner.ensures, add-one start.args.r.0, c.clear_memory.ensures) at c.set_mark.ensures)
    ∙ grant_written start.args.s.now start.args.p start.args.r.0 1 start.requires.1 (omega arith)
