-- `state::total::register` meets its contract: in range the bytes at its place, else 0. Assumes nothing.
use Rattle.state.specs.Reads.{register_is, register_past}
use Rattle.words.specs.Bytes.{number}
use mathlib.Core.Logic.{inl, inr}
use mathlib.Core.Path.{sym, ap, ◌∙◌}
use Rattle.state.proofs.total.register.Goals as goal
use Rattle.state.proofs.total.register.Goals.{else-k-lt-MOST_FRAMES-via-then-k-lt-MOST_FRAMES+else-a-lt-MOST_REGISTERS, else-k-lt-MOST_FRAMES-via-else-k-lt-MOST_FRAMES}

pub returns-then-a-lt-MOST_REGISTERS : goal.returns-then-a-lt-MOST_REGISTERS
returns-then-a-lt-MOST_REGISTERS c = c.word.ensures ∙ ap (number 4 _) c.register_place.ensures ∙ sym (register_is _ c.if-k-lt-MOST_FRAMES.true c.if-a-lt-MOST_REGISTERS.true)

pub returns-else-k-lt-MOST_FRAMES : goal.returns-else-k-lt-MOST_FRAMES
returns-else-k-lt-MOST_FRAMES c = elim c.else-k-lt-MOST_FRAMES.branch [
  | else-k-lt-MOST_FRAMES-via-then-k-lt-MOST_FRAMES+else-a-lt-MOST_REGISTERS w ↦ sym (register_past _ (inr w.if-a-lt-MOST_REGISTERS.false))
  | else-k-lt-MOST_FRAMES-via-else-k-lt-MOST_FRAMES w ↦ sym (register_past _ (inl w.if-k-lt-MOST_FRAMES.false))
]
