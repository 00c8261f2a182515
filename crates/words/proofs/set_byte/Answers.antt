-- `words::set_byte` meets its contract: a byte put is a byte set; past the end nothing is stored. Assumes nothing.
use mathlib.Core.Path.{sym}
use Rattle.words.specs.ByteLaws.{put_byte, put_past}
use Rattle.words.proofs.set_byte.Goals as goal

pub returns-then-i-s : goal.returns-then-i-s
returns-then-i-s c = sym (put_byte _ _ _ c.ranges.v.fits)

pub returns-else-i-s : goal.returns-else-i-s
returns-else-i-s c = sym (put_past 1 _ _ _ c.if-i-s.false)
