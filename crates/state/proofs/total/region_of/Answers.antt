-- `state::total::region_of` meets its contract: in range the byte at its place, else 0. Assumes nothing.
use Rattle.state.specs.Reads.{map_is, map_past}
use Rattle.words.specs.Bytes.{byte_at}
use mathlib.Core.Logic.{inl, inr}
use mathlib.Core.Path.{sym, ap, ◌∙◌}
use Rattle.state.proofs.total.region_of.Goals as goal
use Rattle.state.proofs.total.region_of.Goals.{else-k-lt-MOST_FRAMES-via-then-k-lt-MOST_FRAMES+else-i-lt-MOST_REGIONS, else-k-lt-MOST_FRAMES-via-else-k-lt-MOST_FRAMES}

pub returns-then-i-lt-MOST_REGIONS : goal.returns-then-i-lt-MOST_REGIONS
returns-then-i-lt-MOST_REGIONS c = c.byte.ensures ∙ ap (byte_at c.args.s.now) c.map_place.ensures ∙ sym (map_is _ c.if-k-lt-MOST_FRAMES.true c.if-i-lt-MOST_REGIONS.true)

pub returns-else-k-lt-MOST_FRAMES : goal.returns-else-k-lt-MOST_FRAMES
returns-else-k-lt-MOST_FRAMES c = elim c.else-k-lt-MOST_FRAMES.branch [
  | else-k-lt-MOST_FRAMES-via-then-k-lt-MOST_FRAMES+else-i-lt-MOST_REGIONS w ↦ sym (map_past _ (inr w.if-i-lt-MOST_REGIONS.false))
  | else-k-lt-MOST_FRAMES-via-else-k-lt-MOST_FRAMES w ↦ sym (map_past _ (inl w.if-k-lt-MOST_FRAMES.false))
]
