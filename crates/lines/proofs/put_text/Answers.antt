-- `put_text` meets its contract: the bytes of the text stand in their place. Assumes nothing.
use native.Mathlib.Omega.{arith}
use Rattle.lines.specs.Writing.{text_put}
use Rattle.lines.proofs.put_text.Goals as goal

pub returns : goal.returns
returns c = text_put c.args.out.now c.args.text.now c.args.at _ (omega arith) c.copy_from_slice.ensures.after c.requires
