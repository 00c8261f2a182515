-- `words::put_byte` meets its contract: a byte put is a byte set. Assumes nothing.
use mathlib.Core.Path.{sym}
use Rattle.words.specs.ByteLaws.{put_byte}
use Rattle.words.proofs.put_byte.Goals as goal

pub returns : goal.returns
returns c = sym (put_byte _ _ _ c.ranges.v.fits)
