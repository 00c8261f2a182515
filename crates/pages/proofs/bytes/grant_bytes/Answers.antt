-- `pages::bytes::grant_bytes` meets its contract: the first two writes leave the marks.
use mathlib.Core.Path.{◌∙◌}
use native.Mathlib.Numerals.{add-one}
use Rattle.pages.specs.Places.{grant_written}
use Rattle.pages.proofs.bytes.grant_bytes.Goals as goal

pub returns : goal.returns
returns c =
    let start = c in
    (rw (c.put_owner.ensures, add-one start.args.r.0, c.clear_memory.ensures) at c.set_marks.ensures)
    ∙ grant_written start.args.s.now start.args.p start.args.r.0 start.args.c start.requires.1 start.requires.3
