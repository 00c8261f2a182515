-- `state::total::mark` meets its contract: in range the bit at its place, else 0. Assumes nothing.
use Rattle.state.specs.Fields.{mark_read}
use Rattle.state.specs.Reads.{mark_past}
use mathlib.Core.Logic.{inl, inr}
use mathlib.Core.Path.{sym, ◌∙◌}
use Rattle.state.proofs.total.mark.Goals as goal
use Rattle.state.proofs.total.mark.Goals.{else-p-lt-PAGES-via-then-p-lt-PAGES+else-j-lt-PAGE_BYTES, else-p-lt-PAGES-via-else-p-lt-PAGES}

pub returns-then-j-lt-PAGE_BYTES : goal.returns-then-j-lt-PAGE_BYTES
returns-then-j-lt-PAGE_BYTES c = c.bit_of.ensures.0 ∙ mark_read _ _ _ _ _ c.byte.ensures c.mark_place.ensures c.if-p-lt-PAGES.true c.if-j-lt-PAGE_BYTES.true

pub returns-else-p-lt-PAGES : goal.returns-else-p-lt-PAGES
returns-else-p-lt-PAGES c = elim c.else-p-lt-PAGES.branch [
  | else-p-lt-PAGES-via-then-p-lt-PAGES+else-j-lt-PAGE_BYTES w ↦ sym (mark_past _ (inr w.if-j-lt-PAGE_BYTES.false))
  | else-p-lt-PAGES-via-else-p-lt-PAGES w ↦ sym (mark_past _ (inl w.if-p-lt-PAGES.false))
]
