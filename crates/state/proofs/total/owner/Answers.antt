-- `state::total::owner` meets its contract: in range the byte at its place, else 0. Assumes nothing.
use Rattle.state.specs.Reads.{owner_is, owner_past}
use Rattle.words.specs.Bytes.{byte_at}
use mathlib.Core.Path.{sym, ap, ◌∙◌}
use Rattle.state.proofs.total.owner.Goals as goal

pub returns-then-p-lt-PAGES : goal.returns-then-p-lt-PAGES
returns-then-p-lt-PAGES c = c.byte.ensures ∙ ap (byte_at c.args.s.now) c.owner_place.ensures ∙ sym (owner_is _ c.if-p-lt-PAGES.true)

pub returns-else-p-lt-PAGES : goal.returns-else-p-lt-PAGES
returns-else-p-lt-PAGES c = sym (owner_past _ c.if-p-lt-PAGES.false)
