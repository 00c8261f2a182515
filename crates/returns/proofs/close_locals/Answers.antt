-- `returns::close_locals` meets its contract: the set of the frame's local regions, or none.
use mathlib.Core.Path.{ap, ◌∙◌}
use native.Mathlib.Omega.{arith}
use Rattle.words.specs.Bytes.{Bytes, byte_at}
use Rattle.regions.specs.Regions.{no_regions, marked_zero}
use Rattle.returns.specs.Left.{closing_plain}
use Rattle.returns.proofs.close_locals.Goals as goal

pub close_pages-requires : goal.close_pages-requires
unfolding no_regions
close_pages-requires c = (c.requires.0, ap (λ (b : Bytes). byte_at b 0) c.add_locals.ensures ∙ marked_zero _, c.requires.3)

pub returns-then-m-gt0 : goal.returns-then-m-gt0
unfolding no_regions
returns-then-m-gt0 c = (rw c.add_locals.ensures at c.close_pages.ensures.0, c.close_pages.ensures.1)

pub returns-else-m-gt0 : goal.returns-else-m-gt0
returns-else-m-gt0 c = (closing_plain c.args.s.now c.args.k c.args.n c.args.m (omega arith), c.requires.3)
